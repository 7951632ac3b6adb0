-- The promise about two replicas, from what their sheets stand for.
use Rattle.std.proofs.Common.{◌≡◌, ℕ, ◌<◌, ◌≤◌, Bool, true, false, ◌⊎◌, List, [], ◌∷◌, reverse, length, is_some, is_err, Some, None, vec_items, Decides, Option, unwrap_or, sym, refl, ap, ◌∙◌, subst, ap₂, inl, inr, ⊎_elim, arith}
use mathlib.Core.Path.{fun_ext}
use Rattle.std.proofs.lemmas.Bool.{cases_Bool, cases_lt, cond-true, cond-false, lt-ltb, le-ltb, true≢false}
use Rattle.runs.specs.declared.run.Run.{Run}
use Rattle.runs.specs.Runs.{Packing, Shortest}
use Rattle.runs.proofs.Laws.{shortest, one_packing, packing_exists}
use Rattle.cells.specs.declared.cell.Cell.{Cell}
use Rattle.cells.specs.Area.{Area, inside}
use Rattle.cells.specs.Words.{Words, Bounds, Ordered, words_of}
use Rattle.cells.proofs.Places.{inside_true, true_inside}
use Rattle.sheet.specs.declared.xf.Xf.{Xf}
use Rattle.sheet.specs.declared.memory.Sheet.{Sheet}
use Rattle.sheet.specs.Contents.{words, kept, area, id_runs, kind_runs}
use Rattle.sheet.specs.Palette.{kind_at}
use Rattle.sheet.specs.Packs.{Packs, pack_answer}
use Rattle.sheet.specs.Reads.{mark_there, styled, walked_from}
use Rattle.replicas.specs.declared.call.Call.{Call}
use Rattle.replicas.specs.History.{last_words, kept_after, Counts}
use Rattle.replicas.specs.Latest.{Latest, words_at}
use Rattle.replicas.specs.Stands.{Stands}
use Rattle.replicas.specs.Promise.{In, Replica, SameRuns, Alike, SameWords}
use Rattle.replicas.proofs.Words.{word_listed, counts_cells, counts_none}
use Rattle.replicas.proofs.Boxes.{one_box}
use Rattle.replicas.proofs.Reading.{mark_inside, mark_outside, word_outside, walk_steps}

-- a position lies in a box or outside it
in_or_out : (box : Option Area) (r c : ℕ) → In box r c ⊎ (In box r c → ⊥)
in_or_out None r c = inr (λ i. i)
in_or_out (Some a) r c = ⊎_elim
    (λ (t : inside a r c ≡ true). inl (inside_true a r c t))
    (λ (f : inside a r c ≡ false). inr (λ i. true≢false (sym (true_inside a r c i) ∙ f)))
    (cases_Bool (inside a r c))

counts_memory : (cells : List Cell) → Ordered cells → Counts (words_of cells) (length cells)
counts_memory [] o = counts_none
counts_memory (x ∷ xs) o = counts_cells (x ∷ xs) x o

-- packing's lists for the same words and the same box are the same
pub one_list : {M : Type 0} (mark : ℕ → M) (words : Words) (box : Option Area) (a b : List (Run M)) → Packs mark words box a → Packs mark words box b → a ≡ b
one_list mark words None a b pa pb = pa ∙ sym pb
one_list mark words (Some x) a b pa pb = one_packing _ _ a b pa pb

module _ {S : Type 0} (palette : List (Xf S)) where
  -- a word at the latest accepted pack is an id above 0 and below P
  pub latest_listed : (C : ℕ) (latest : Option (List Call)) (r c n : ℕ) → words_at palette C latest r c ≡ Some n → (0 < n) × (n < length palette)
  latest_listed C None r c n e = absurd (let z : ◌≡◌ {A = ℕ} 0 1 = cc in omega arith)
  latest_listed C (Some h) r c n e = word_listed (length palette) C h r c n e

  -- the id at a position of the box is below P: where it is that of a gap, since some cell has one
  word_below : (words : Words) → ((r c n : ℕ) → words r c ≡ Some n → (0 < n) × (n < length palette)) → (r c : ℕ) → is_some (words r c) ≡ true → 0 < length palette
  word_below words listed r c e = from (words r c) refl e
    where
      from : (o : Option ℕ) → words r c ≡ o → is_some o ≡ true → 0 < length palette
      from None same e = absurd (true≢false (sym e))
      from (Some n) same e = let l = listed r c n same in omega (arith, l.0, l.1)

  id_below : (words : Words) (box : Option Area) → Bounds words box → ((r c n : ℕ) → words r c ≡ Some n → (0 < n) × (n < length palette)) → (r c : ℕ) → In box r c → unwrap_or (words r c) 0 < length palette
  id_below words None bounds listed r c i = absurd i
  id_below words (Some a) bounds listed r c i = from (words r c) refl
    where
      from : (o : Option ℕ) → words r c ≡ o → unwrap_or o 0 < length palette
      from None same = word_below words listed a.top bounds.on_top.0 bounds.on_top.1
      from (Some n) same = (listed r c n same).1

  pub replica : (C R : ℕ) (calls h : List Call) (s : Sheet) → h ≡ reverse calls → Stands palette C R h s → Replica palette C R calls s
  replica C R calls h s e st =
      let w = words_at palette C st.latest in
      let listed = latest_listed C st.latest in
      let long = s.cells.cells.ok.0 in
      let count : Counts (words s) (kept s) = subst (λ n. Counts (words s) n) (sym long) (counts_memory (vec_items s.cells.cells) s.cells.ordered) in
      let count_h : Counts (last_words (length palette) C h) (kept_after (length palette) C h) =
      subst (λ n. Counts (last_words (length palette) C h) n) st.kept_is (subst (λ v. Counts v (kept s)) st.words_are count) in
      record {
        latest = st.latest;
        is_latest = subst (λ g. Latest palette C R g st.latest) e st.is_latest;
        counted = subst (λ g. Counts (last_words (length palette) C g) (kept_after (length palette) C g)) e count_h;
        bounds = st.bounds;
        ids = st.ids;
        kinds = st.kinds;
        inside = λ r c i.
            record {
              listed = id_below w (area s) st.bounds listed r c i;
              style = ap (styled palette) (mark_inside (λ id. id) w (area s) (id_runs s) st.ids r c i);
              kind = mark_inside (kind_at palette) w (area s) (kind_runs s) st.kinds r c i;
            };
        outside = λ r c o. (ap (styled palette) (mark_outside (area s) (id_runs s) r c o), mark_outside (area s) (kind_runs s) r c o);
        walks = λ k. walk_steps palette w (area s) (id_runs s) st.bounds k;
      }

  pub same_answers : (s t : Sheet) → SameRuns s t → Alike palette s t
  same_answers s t same =
      record {
        held = same;
        gets = λ r c. ap₂ (λ b rs. styled palette (mark_there b rs r c)) same.box same.ids;
        kind_answers = λ r c. ap₂ (λ b rs. mark_there b rs r c) same.box same.kinds;
        walks = λ k. ap₂ (λ b rs. walked_from palette b rs k) same.box same.ids;
      }

  module _ (C R : ℕ) (calls : List Call) (s : Sheet) (C' R' : ℕ) (calls' : List Call) (t : Sheet) (one : Replica palette C R calls s) (other : Replica palette C' R' calls' t) where
    pub alike_from_words : SameWords palette C C' one.latest other.latest → Alike palette s t
    alike_from_words same =
        let v = words_at palette C one.latest in
        let w = words_at palette C' other.latest in
        let e : w ≡ v = fun_ext (λ r. fun_ext (λ c. sym (same r c))) in
        let box : area s ≡ area t = one_box v (area s) (area t) one.bounds (subst (λ u. Bounds u (area t)) e other.bounds) in
        same_answers s t
        (record {
          box = box;
          ids = one_list (λ id. id) v (area t) (id_runs s) (id_runs t)
              (subst (λ b. Packs (λ id. id) v b (id_runs s)) box one.ids) (subst (λ u. Packs (λ id. id) u (area t) (id_runs t)) e other.ids);
          kinds = one_list (kind_at palette) v (area t) (kind_runs s) (kind_runs t)
              (subst (λ b. Packs (kind_at palette) v b (kind_runs s)) box one.kinds) (subst (λ u. Packs (kind_at palette) u (area t) (kind_runs t)) e other.kinds);
        })

    -- ids above 0 that are the same, or both absent
    same_word : (x y : Option ℕ) → ((n : ℕ) → x ≡ Some n → 0 < n) → ((n : ℕ) → y ≡ Some n → 0 < n) → unwrap_or x 0 ≡ unwrap_or y 0 → x ≡ y
    same_word None None px py e = refl
    same_word None (Some n) px py e = let h = py n refl in absurd (omega arith)
    same_word (Some m) None px py e = let h = px m refl in absurd (omega arith)
    same_word (Some m) (Some n) px py e = ap Some e

    some_inj : (m n : ℕ) → Some m ≡ Some n → m ≡ n
    some_inj m n e = cc

    pub words_from_runs : SameRuns s t → SameWords palette C C' one.latest other.latest
    words_from_runs same r c =
        let v = words_at palette C one.latest in
        let w = words_at palette C' other.latest in
        let pv = λ (n : ℕ) (e : v r c ≡ Some n). (latest_listed C one.latest r c n e).0 in
        let pw = λ (n : ℕ) (e : w r c ≡ Some n). (latest_listed C' other.latest r c n e).0 in
        ⊎_elim
        (λ (i : In (area s) r c).
        let j : In (area t) r c = subst (λ b. In b r c) same.box i in
        let marks = sym (mark_inside (λ id. id) v (area s) (id_runs s) one.ids r c i)
        ∙ ap₂ (λ b rs. mark_there b rs r c) same.box same.ids
        ∙ mark_inside (λ id. id) w (area t) (id_runs t) other.ids r c j in
        same_word (v r c) (w r c) pv pw (some_inj _ _ marks))
        (λ (o : In (area s) r c → ⊥).
        let o' : In (area t) r c → ⊥ = λ j. o (subst (λ b. In b r c) (sym same.box) j) in
        word_outside v (area s) one.bounds r c o ∙ sym (word_outside w (area t) other.bounds r c o'))
        (in_or_out (area s) r c)

-- for every kind of mark with a lawful comparison there is packing's list, and it is the shortest
pub shortest_exists : {M : Type 0} (same : M → M → Bool) → ((a b : M) → Decides (same a b) (a ≡ b)) → (spot : ℕ → M) (n : ℕ) → (runs : List (Run M)) × (Packing spot n runs × Shortest spot n runs)
shortest_exists same law spot n = let p = packing_exists same law spot n in (p.0, (p.1, shortest spot n p.0 p.1))

-- pack is refused exactly where a list is longer than its room
pub refused_exactly : (room ids kinds : ℕ) → Decides (is_err (pack_answer room ids kinds)) ((room < ids) ⊎ (room < kinds))
refused_exactly room ids kinds = ⊎_elim
    (λ (h : room < ids). (λ _. inl h, λ _. ap is_err (cond-true _ _ _ (lt-ltb room ids h))))
    (λ (h : ids ≤ room). ⊎_elim
    (λ (l : room < kinds). (λ _. inr l, λ _. ap is_err (cond-false _ _ _ (le-ltb room ids h) ∙ cond-true _ _ _ (lt-ltb room kinds l))))
    (λ (l : kinds ≤ room).
    let fine = ap is_err (cond-false _ _ _ (le-ltb room ids h) ∙ cond-false _ _ _ (le-ltb room kinds l)) in
    (λ e. absurd (true≢false (sym e ∙ fine)), λ o. ⊎_elim (λ (x : room < ids). absurd (omega arith)) (λ (x : room < kinds). absurd (omega arith)) o))
    (cases_lt room kinds))
    (cases_lt room ids)
