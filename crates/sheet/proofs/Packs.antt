-- From what the passes over the cells find to what pack makes of the words.
use Rattle.std.proofs.Common.{◌≡◌, ℕ, ◌<◌, ◌≤◌, min, List, [], map, length, get_or, take, is_some, Some, Ok, Err, vec_items, vec_len, Result, unwrap_or, sym, ap, ◌∙◌, ap₂, arith}
use Rattle.std.proofs.lemmas.Bool.{lt-ltb, le-ltb, cond-true, cond-false}
use Rattle.runs.specs.declared.run.Run.{Run}
use Rattle.runs.specs.Runs.{Packing}
use Rattle.runs.specs.Marks.{mark_of}
use Rattle.runs.specs.Memory.{Packed, runs_of}
use Rattle.runs.specs.declared.memory.RunMemory.{RunMemory}
use Rattle.runs.proofs.Laws.{packing_same, packing_exists, front_runs}
use Rattle.formats.specs.Kinds.{same_kind, same_kind_decides}
use Rattle.formats.specs.declared.CellFormat.{CellFormat}
use Rattle.cells.specs.declared.cell.Cell.{Cell}
use Rattle.cells.specs.Area.{Area, size, row_at, column_at}
use Rattle.cells.specs.Words.{words_of, Least}
use Rattle.cells.proofs.Words.{cell_word}
use Rattle.sheet.specs.declared.answers.RunCounts.{RunCounts}
use Rattle.sheet.specs.declared.answers.PackRefusal.{PackRefusal}
use Rattle.sheet.specs.declared.answers.PackRefusal.TheVariants.{IdRuns, KindRuns}
use Rattle.sheet.specs.Contents.{room}
use Rattle.sheet.specs.Placing.{placed}
use Rattle.sheet.specs.declared.xf.Xf.{Xf}
use Rattle.sheet.specs.Palette.{kind_at}
use Rattle.sheet.specs.Packs.{spot, pack_answer, Holds, PackOf}
use Rattle.sheet.proofs.Placing.{Held, mark_of_word}

-- the least box around the words of a list holds its cells
pub least_held : (a : Area) (xs ys : List Cell) → xs ≡ ys → Least (words_of ys) a → Held a xs
least_held a xs ys e least k d h =
    let r = (get_or xs k d).at.row in
    let c = (get_or xs k d).at.column in
    least.holds r c (ap (λ zs. is_some (words_of zs r c)) (sym e) ∙ cell_word xs k d h)

-- what spells the marks of the cells spells those of their words
pub packed_words : {M : Type 0} (a : Area) (mark : ℕ → M) (xs ys : List Cell) (runs : List (Run M)) → xs ≡ ys → Held a xs
    → Packing (mark_of (mark 0) (map (placed a mark) xs)) (size a) runs → Packing (spot mark (words_of ys) a) (size a) runs
packed_words a mark xs ys runs e held =
    packing_same (mark_of (mark 0) (map (placed a mark) xs)) (spot mark (words_of ys) a) (size a) runs
    (λ p h. mark_of_word a mark xs p held ∙ ap (λ zs. mark (unwrap_or (words_of zs (row_at a p) (column_at a p)) 0)) e)

-- a memory with room for packing's list holds it
pub holds_packed : {M : Type 0} (spot : ℕ → M) (n needed : ℕ) (m m' : RunMemory M)
    → (p : Packed spot n (vec_items m.marks) (vec_items m'.marks) (vec_items m.ends) (vec_items m'.ends) needed)
    → m'.used ≡ min needed (room m) → vec_len m'.marks ≡ vec_len m.marks → vec_len m'.ends ≡ vec_len m.ends → needed ≤ room m → Holds p.runs m m'
holds_packed spot n needed m m' p used_by marks_len ends_len fits =
    record {
      marks_are = p.marks_after;
      ends_are = p.ends_after;
      marks_same = marks_len;
      ends_same = ends_len;
      used_is = used_is;
      held_is =
          ap (λ k. runs_of (take k (vec_items m'.marks)) (take k (vec_items m'.ends))) used_is
          ∙ ap₂ (λ ms es. runs_of (take (length p.runs) ms) (take (length p.runs) es)) p.marks_after p.ends_after
          ∙ front_runs p.runs (vec_items m.marks) (vec_items m.ends) (omega arith) (omega arith);
    }
  where
    marks_long : vec_len m.marks ≡ length (vec_items m.marks)
    marks_long = m.marks.ok.0

    ends_long : vec_len m.ends ≡ length (vec_items m.ends)
    ends_long = m.ends.ok.0

    is : needed ≡ length p.runs
    is = p.length_is

    used_is : m'.used ≡ length p.runs
    used_is = omega arith

-- date kinds can be compared, so that packing's list exists
pub kinds_exist : (spot : ℕ → CellFormat) (n : ℕ) → (runs : List (Run CellFormat)) × Packing spot n runs
kinds_exist = packing_exists same_kind same_kind_decides

-- what pack makes of the words of a list whose least box is `a`, with packing's lists of the marks of its cells
abbrev pub made_of : {S : Type 0} (palette : List (Xf S)) (a : Area) (xs ys : List Cell) (ids : List (Run ℕ)) (kinds : List (Run CellFormat)) → xs ≡ ys → Least (words_of ys) a
    → Packing (mark_of 0 (map (placed a (λ id. id)) xs)) (size a) ids → Packing (mark_of (kind_at palette 0) (map (placed a (kind_at palette)) xs)) (size a) kinds → PackOf palette (words_of ys)
made_of palette a xs ys ids kinds same least ids_packed kinds_packed =
    let held = least_held a xs ys same least in
    record {
      box = Some a;
      bounds = least;
      ids = ids;
      ids_packed = packed_words a (λ id. id) xs ys ids same held ids_packed;
      kinds = kinds;
      kinds_packed = packed_words a (kind_at palette) xs ys kinds same held kinds_packed;
    }

-- a memory whose runs are forgotten holds none
pub holds_none : {M : Type 0} (m m' : RunMemory M) → m'.marks ≡ m.marks → m'.ends ≡ m.ends → m'.used ≡ 0 → Holds [] m m'
holds_none m m' marks ends used =
    record {
      marks_are = ap vec_items marks;
      ends_are = ap vec_items ends;
      marks_same = ap vec_len marks;
      ends_same = ap vec_len ends;
      used_is = used;
      held_is = ap (λ k. runs_of (take k (vec_items m'.marks)) (take k (vec_items m'.ends))) used;
    }

abbrev counts_of : ℕ → ℕ → Result RunCounts PackRefusal
counts_of i k = Ok (record { ids = i; kinds = k })

module _ (R ids kinds n m : ℕ) where
  -- the three answers of pack
  pub too_many_ids : n ≡ ids → R < n → Err (IdRuns n) ≡ pack_answer R ids kinds
  too_many_ids e h = ap (λ k. Err (IdRuns k)) e ∙ sym (cond-true _ _ _ (lt-ltb R ids (omega arith)))

  pub too_many_kinds : n ≡ ids → m ≡ kinds → n ≤ R → R < m → Err (KindRuns m) ≡ pack_answer R ids kinds
  too_many_kinds e f h l =
      ap (λ k. Err (KindRuns k)) f ∙ sym (cond-true _ _ _ (lt-ltb R kinds (omega arith))) ∙ sym (cond-false _ _ _ (le-ltb R ids (omega arith)))

  pub room_enough : n ≡ ids → m ≡ kinds → n ≤ R → m ≤ R → Ok (record { ids = n; kinds = m }) ≡ pack_answer R ids kinds
  room_enough e f h l =
      ap₂ counts_of e f
      ∙ sym (cond-false _ _ _ (le-ltb R kinds (omega arith))) ∙ sym (cond-false _ _ _ (le-ltb R ids (omega arith)))
