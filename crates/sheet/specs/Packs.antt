-- What pack makes of the words of a sheet: the box around them, and its runs of style ids and of date kinds.
use Rattle.std.specs.Prelude.{◌≡◌, ℕ, true, false, cond, List, [], map, length, is_ok, Some, None, Ok, Err, vec_items, vec_len, Option, Result, nat_lt}
use Rattle.std.specs.Option.{unwrap_or}
use Rattle.runs.specs.declared.run.Run.{Run}
use Rattle.runs.specs.Runs.{Packing}
use Rattle.runs.specs.Memory.{overlay}
use Rattle.runs.specs.declared.memory.RunMemory.{RunMemory}
use Rattle.formats.specs.declared.CellFormat.{CellFormat}
use Rattle.cells.specs.Area.{Area, size, row_at, column_at}
use Rattle.cells.specs.Words.{Words, Bounds}
use Rattle.sheet.specs.declared.xf.Xf.{Xf}
use Rattle.sheet.specs.declared.memory.Sheet.{Sheet}
use Rattle.sheet.specs.declared.answers.RunCounts.{RunCounts}
use Rattle.sheet.specs.declared.answers.PackRefusal.{PackRefusal}
use Rattle.sheet.specs.declared.answers.PackRefusal.TheVariants.{IdRuns, KindRuns}
use Rattle.sheet.specs.Palette.{kind_at}
use Rattle.sheet.specs.Contents.{words, area, run_room, held}

-- The mark at each place of an area, where `mark` gives each id its mark: that of the word there, or of id 0 for none.
abbrev pub spot : {M : Type 0} → (ℕ → M) → Words → Area → ℕ → M
spot mark words a p = mark (unwrap_or (words (row_at a p) (column_at a p)) 0)

-- packing's list for a box, and no runs where there is no box
abbrev pub Packs : {M : Type 0} → (ℕ → M) → Words → Option Area → List (Run M) → Type 0
Packs mark words None runs = runs ≡ []
Packs mark words (Some a) runs = Packing (spot mark words a) (size a) runs

-- the box around the words, and packing's lists for it
pub record PackOf {S : Type 0} (palette : List (Xf S)) (words : Words) : Type 0 where
  pub box : Option Area
  pub bounds : Bounds words box
  pub ids : List (Run ℕ)
  pub ids_packed : Packs (λ id. id) words box ids
  pub kinds : List (Run CellFormat)
  pub kinds_packed : Packs (kind_at palette) words box kinds

-- Pack is refused where a list has more than R runs, with its length: the list of ids first.
abbrev pub pack_answer : ℕ → ℕ → ℕ → Result RunCounts PackRefusal
pack_answer R ids kinds = cond (nat_lt R ids) (Err (IdRuns ids)) (cond (nat_lt R kinds) (Err (KindRuns kinds)) (Ok (record { ids = ids; kinds = kinds })))

-- A memory holds the list now: the list over its front, the entries past it as they were.
pub record Holds {M : Type 0} (runs : List (Run M)) (m m' : RunMemory M) : Type 0 where
  pub marks_are : vec_items m'.marks ≡ overlay (map (λ r. r.mark) runs) (vec_items m.marks)
  pub ends_are : vec_items m'.ends ≡ overlay (map (λ r. r.end) runs) (vec_items m.ends)
  pub marks_same : vec_len m'.marks ≡ vec_len m.marks
  pub ends_same : vec_len m'.ends ≡ vec_len m.ends
  pub used_is : m'.used ≡ length runs
  pub held_is : held m' ≡ runs

module _ {S : Type 0} (palette : List (Xf S)) (s : Sheet) where
  pub record Accepted (made : PackOf palette (words s)) (s' : Sheet) : Type 0 where
    pub cells_same : s'.cells ≡ s.cells
    pub box_is : area s' ≡ made.box
    pub ids_held : Holds made.ids s.ids s'.ids
    pub kinds_held : Holds made.kinds s.kinds s'.kinds

  -- An accepted pack writes its lists; a refused one changes nothing.
  pub record PackDone (answer : Result RunCounts PackRefusal) (s' : Sheet) : Type 0 where
    pub made : PackOf palette (words s)
    pub is : answer ≡ pack_answer (run_room s) (length made.ids) (length made.kinds)
    pub accepted : is_ok answer ≡ true → Accepted made s'
    pub refused : is_ok answer ≡ false → s' ≡ s
