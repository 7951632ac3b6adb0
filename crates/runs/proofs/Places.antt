-- Reading runs: the run that holds a place is the one before which all ends have passed.
use Rattle.std.proofs.Common.{◌≡◌, ℕ, zero, suc, ◌+◌, ◌-◌, ◌<◌, ◌≤◌, ltb, leb, List, [], ◌∷◌, map, length, get_or, Some, sym, refl, ap, ap₂, ◌∙◌, subst, arith, ◌⊎◌, ⊎_elim, true, false, Bool, MatchBool, Decides}
use Rattle.std.specs.List.{slice_get, range_with_len, AllWithin, HoldsAt}
use Rattle.std.specs.List.Sorted.{IsPartitionedBy, IsPartitionPoint}
use Rattle.std.specs.Option.{option_map}
use Rattle.std.proofs.lemmas.Bool.{lt-ltb, le-ltb, le-leb, leb-true, leb-false, true≢false, cond-true, cond-false, cases_eq}
use Rattle.std.proofs.lemmas.List.{length-map, get_or_default}
use Rattle.std.proofs.lemmas.List.FromFn.{length-range_with_len, get_or-range_with_len}
use Rattle.std.proofs.lemmas.Option.{slice_get-map, slice_get_within, get_or_from_slice_get}
use Rattle.runs.specs.declared.run.Run.{Run}
use Rattle.runs.specs.Runs.{mark_at}
use Rattle.runs.specs.Memory.{Rises, FirstAboveZero, Ascending, IsTable, runs_of, ends_of, last_end}

-- marks and ends that are as many are those of their runs
pub marks_of-runs_of : {M : Type 0} (marks : List M) (ends : List ℕ) → length marks ≡ length ends → map (λ r. r.mark) (runs_of marks ends) ≡ marks
marks_of-runs_of [] ends level = refl
marks_of-runs_of (m ∷ marks) [] level = absurd (omega arith)
marks_of-runs_of (m ∷ marks) (e ∷ ends) level = ap (λ l. m ∷ l) (marks_of-runs_of marks ends (omega arith))

pub ends_of-runs_of : {M : Type 0} (marks : List M) (ends : List ℕ) → length marks ≡ length ends → ends_of (runs_of marks ends) ≡ ends
ends_of-runs_of [] [] level = refl
ends_of-runs_of [] (e ∷ ends) level = absurd (omega arith)
ends_of-runs_of (m ∷ marks) [] level = refl
ends_of-runs_of (m ∷ marks) (e ∷ ends) level = ap (λ l. e ∷ l) (ends_of-runs_of marks ends (omega arith))

pub length-runs_of : {M : Type 0} (marks : List M) (ends : List ℕ) → length marks ≡ length ends → length (runs_of marks ends) ≡ length ends
length-runs_of marks ends level =
    sym (length-map (runs_of marks ends) (λ r. r.end)) ∙ ap length (ends_of-runs_of marks ends level)

-- the ends of the runs of a table rise from above 0
pub table_rises : {M : Type 0} (marks : List M) (ends : List ℕ) → IsTable marks ends → Ascending (runs_of marks ends)
table_rises marks ends table =
    subst (λ es. Rises es × FirstAboveZero es) (sym (ends_of-runs_of marks ends table.level)) (table.rising, table.first)

-- the run of that index is the first that ends past the place
abbrev pub Holds : {M : Type 0} → List (Run M) → ℕ → ℕ → Type 0
Holds runs k place =
    ((j : ℕ) → j < k → get_or (ends_of runs) j 0 ≤ place) × (k < length runs → place < get_or (ends_of runs) k 0)

-- its mark is the place's, and past all ends there is none
pub mark_at_held : {M : Type 0} (runs : List (Run M)) (k place : ℕ) → Holds runs k place → mark_at runs place ≡ option_map (λ r. r.mark) (slice_get runs k)
mark_at_held [] k place held = refl
mark_at_held (x ∷ xs) zero place held =
    cond-true (ltb place x.end) (Some x.mark) (mark_at xs place) (lt-ltb place x.end (held.1 (omega arith)))
mark_at_held (x ∷ xs) (suc k) place held =
    cond-false (ltb place x.end) (Some x.mark) (mark_at xs place) (le-ltb place x.end (held.0 0 (omega arith)))
    ∙ mark_at_held xs k place ((λ j below. held.0 (suc j) (omega arith)), (λ within. held.1 (omega arith)))

-- the run of an index
pub slice_get-runs_of : {M : Type 0} (marks : List M) (ends : List ℕ) (k : ℕ) (d : M) → length marks ≡ length ends → k < length ends → slice_get (runs_of marks ends) k ≡ Some (record { mark = get_or marks k d; end = get_or ends k 0 })
slice_get-runs_of [] [] k d e h = absurd (omega arith)
slice_get-runs_of [] (x ∷ es) k d e h = absurd (omega arith)
slice_get-runs_of (m ∷ ms) [] k d e h = absurd (omega arith)
slice_get-runs_of (m ∷ ms) (x ∷ es) zero d e h = refl
slice_get-runs_of (m ∷ ms) (x ∷ es) (suc k) d e h = slice_get-runs_of ms es k d (omega arith) (omega arith)

-- lists with the same members are the same
pub same_nth : {X : Type 0} (xs ys : List X) → length xs ≡ length ys → ((k : ℕ) → k < length xs → slice_get xs k ≡ slice_get ys k) → xs ≡ ys
same_nth [] [] e f = refl
same_nth [] (y ∷ ys) e f = absurd (omega arith)
same_nth (x ∷ xs) [] e f = absurd (omega arith)
same_nth (x ∷ xs) (y ∷ ys) e f =
    let first : Some x ≡ Some y = f 0 (omega arith) in
    let heads : x ≡ y = cc in
    ap₂ ◌∷◌ heads (same_nth xs ys (omega arith) (λ k h. f (suc k) (omega arith)))

-- what a test of all indices of two lists tells of them
pub same_from_indices : {X : Type 0} (xs ys : List X) (r : Bool) → length xs ≡ length ys
    → MatchBool r (AllWithin (λ k. slice_get xs k ≡ slice_get ys k) (range_with_len 0 (length xs)) 0 (length (range_with_len 0 (length xs)))) ((k : ℕ) × (k < length (range_with_len 0 (length xs))) × HoldsAt (λ k. slice_get xs k ≡ slice_get ys k → ⊥) (range_with_len 0 (length xs)) k)
    → Decides r (xs ≡ ys)
same_from_indices xs ys true level all = (
  (λ _. same_nth xs ys level (λ k below.
      let counted = length-range_with_len 0 (length xs) in
      let index : get_or (range_with_len 0 (length xs)) k 0 ≡ k = omega (arith, get_or-range_with_len 0 (length xs) k 0 below) in
      subst (λ i. slice_get xs i ≡ slice_get ys i) index (all k 0 (omega arith) (omega (arith, counted))))),
  (λ _. refl),
)
same_from_indices xs ys false level differs =
    ((λ no. absurd (true≢false (sym no))), (λ same. absurd (differs.2 0 (ap (λ l. slice_get l (get_or (range_with_len 0 (length xs)) differs.0 0)) same))))

-- ends that rise lie below a place and then above it
pub rises_parted : (ends : List ℕ) (place : ℕ) → Rises ends → IsPartitionedBy (λ e. leb e place) ends
rises_parted ends place rises i j d order within passed =
    let below : get_or ends j d ≤ place = leb-true (get_or ends j d) place passed in
    let at_i = get_or_default ends i d 0 (omega arith) in
    let at_j = get_or_default ends j d 0 within in
    le-leb (get_or ends i d) place (⊎_elim
    (λ same. subst (λ k. get_or ends k d ≤ place) (sym same) below)
    (λ less. omega (arith, at_i, at_j, rises i j (omega (arith, less)) within))
    (cases_eq i j))

-- where they part is the run that holds the place
pub holds_parted : {M : Type 0} (marks : List M) (ends : List ℕ) (k place : ℕ) → length marks ≡ length ends → IsPartitionPoint (λ e. leb e place ≡ true) (λ e. leb e place ≡ false) ends k → Holds (runs_of marks ends) k place
holds_parted marks ends k place level point =
    let Held : List ℕ → Type 0 = λ es. ((j : ℕ) → j < k → get_or es j 0 ≤ place) × (k < length (runs_of marks ends) → place < get_or es k 0) in
    subst Held (sym (ends_of-runs_of marks ends level)) (
      (λ j below. leb-true (get_or ends j 0) place (point.0 j 0 (omega arith) below)),
      (λ within. leb-false (get_or ends k 0) place (point.1 k 0 (omega arith) (omega (arith, length-runs_of marks ends level)))),
    )

-- a place before an end is before the last end
pub before_last : {M : Type 0} (runs : List (Run M)) (k place : ℕ) → Rises (ends_of runs) → k < length runs → place < get_or (ends_of runs) k 0 → place < last_end runs
before_last runs k place rises within before =
    let mapped = length-map runs (λ r. r.end) in
    ⊎_elim
    (λ same. subst (λ i. place < get_or (ends_of runs) i 0) same before)
    (λ less. omega (arith, rises k (length runs - 1) (omega (arith, less)) (omega arith)))
    (cases_eq k (length runs - 1))

-- One place further the same run holds it, or, where its end has passed, the next one.
module _ {M : Type 0} (runs : List (Run M)) (k place : ℕ) (r : Run M) (held : Holds runs k place) (is : slice_get runs k ≡ Some r) where
  pub held_within : k < length runs
  held_within = slice_get_within runs k r is

  held_end : get_or (ends_of runs) k 0 ≡ r.end
  held_end =
      get_or_from_slice_get (ends_of runs) k r.end 0 (slice_get-map (λ r. r.end) runs k ∙ ap (option_map (λ r. r.end)) is)

  held_on : place + 1 < r.end → Holds runs k (place + 1)
  held_on before = ((λ j below. omega (arith, held.0 j below)), (λ within. omega (arith, held_end)))

  held_next : Rises (ends_of runs) → r.end ≤ place + 1 → Holds runs (k + 1) (place + 1)
  held_next rises passed = (
    (λ j below. ⊎_elim (λ same. omega (arith, held_end, ap (λ i. get_or (ends_of runs) i 0) same)) (λ less. omega (arith, held.0 j (omega (arith, less)))) (cases_eq j k)),
    (λ within.
        let mapped = length-map runs (λ r. r.end) in
        omega (arith, held_end, held.1 held_within, rises k (k + 1) (omega arith) (omega arith))),
  )

  -- whichever is chosen
  pub held_after : (next : ℕ) → Rises (ends_of runs) → ((r.end ≤ place + 1) × (next ≡ k + 1)) ⊎ ((place + 1 < r.end) × (next ≡ k)) → Holds runs next (place + 1)
  held_after next rises chosen =
      ⊎_elim
      (λ passed. subst (λ i. Holds runs i (place + 1)) (sym passed.1) (held_next rises passed.0))
      (λ on. subst (λ i. Holds runs i (place + 1)) (sym on.1) (held_on on.0))
      chosen

-- without ends there is no run
pub runs_of_none : {M : Type 0} (marks : List M) → runs_of marks [] ≡ []
runs_of_none [] = refl
runs_of_none (m ∷ marks) = refl
