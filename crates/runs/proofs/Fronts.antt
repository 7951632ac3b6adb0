-- Memory that holds runs at its front: what an overlay leaves, and the ends of runs, which rise.
use Rattle.std.proofs.Common.{◌≡◌, ℕ, zero, suc, ◌<◌, ◌≤◌, List, [], ◌∷◌, ◌++◌, map, length, get_or, take, set, sym, refl, ap, ◌∙◌, arith}
use Rattle.std.proofs.lemmas.List.{length-take, length-map, get_or-take, set-set}
use Rattle.runs.specs.declared.run.Run.{Run}
use Rattle.runs.specs.Runs.{Spells, Packing}
use Rattle.runs.specs.Memory.{overlay, runs_of, Rises, FirstAboveZero}

-- an overlay keeps the memory's length
pub length-overlay : {X : Type 0} (xs old : List X) → length (overlay xs old) ≡ length old
length-overlay [] old = refl
length-overlay (x ∷ xs) [] = refl
length-overlay (x ∷ xs) (o ∷ old) = ap suc (length-overlay xs old)

-- one element more
pub overlay_push : {X : Type 0} (xs : List X) (x : X) (old : List X) → overlay (xs ++ (x ∷ [])) old ≡ set (overlay xs old) (length xs) x
overlay_push [] x [] = refl
overlay_push [] x (o ∷ old) = refl
overlay_push (y ∷ ys) x [] = refl
overlay_push (y ∷ ys) x (o ∷ old) = ap (λ l. y ∷ l) (overlay_push ys x old)

-- another last element
pub overlay_last : {X : Type 0} (xs : List X) (x y : X) (old : List X) → set (overlay (xs ++ (x ∷ [])) old) (length xs) y ≡ overlay (xs ++ (y ∷ [])) old
overlay_last xs x y old =
    ap (λ l. set l (length xs) y) (overlay_push xs x old) ∙ set-set (overlay xs old) (length xs) x y ∙ sym (overlay_push xs y old)

pub get_or-overlay : {X : Type 0} (xs old : List X) (i : ℕ) (d : X) → i < length xs → i < length old → get_or (overlay xs old) i d ≡ get_or xs i d
get_or-overlay [] old i d within reached = absurd (omega arith)
get_or-overlay (x ∷ xs) [] i d within reached = absurd (omega arith)
get_or-overlay (x ∷ xs) (o ∷ old) zero d within reached = refl
get_or-overlay (x ∷ xs) (o ∷ old) (suc i) d within reached = get_or-overlay xs old i d (omega arith) (omega arith)

-- Runs that are written over marks and ends, and fit, are read back.
pub front_runs : {M : Type 0} (runs : List (Run M)) (marks : List M) (ends : List ℕ) → length runs ≤ length marks → length runs ≤ length ends → runs_of (take (length runs) (overlay (map (λ r. r.mark) runs) marks)) (take (length runs) (overlay (map (λ r. r.end) runs) ends)) ≡ runs
front_runs [] marks ends in_marks in_ends = refl
front_runs (r ∷ rs) [] ends in_marks in_ends = absurd (omega arith)
front_runs (r ∷ rs) (m ∷ marks) [] in_marks in_ends = absurd (omega arith)
front_runs (r ∷ rs) (m ∷ marks) (e ∷ ends) in_marks in_ends = ap (λ l. r ∷ l) (front_runs rs marks ends (omega arith) (omega arith))

-- The ends of a list that spells positions lie above its start, and rise.
ends_above : {M : Type 0} (spot : ℕ → M) (from n : ℕ) (runs : List (Run M)) → Spells spot from runs n → (k : ℕ) → k < length runs → from < get_or (map (λ r. r.end) runs) k 0
ends_above spot from n [] spelt k within = absurd (omega arith)
ends_above spot from n (r ∷ rs) spelt zero within = spelt.0
ends_above spot from n (r ∷ rs) spelt (suc k) within =
    let rest = ends_above spot r.end n rs spelt.2 k (omega arith) in omega arith

ends_ordered : {M : Type 0} (spot : ℕ → M) (from n : ℕ) (runs : List (Run M)) → Spells spot from runs n → (i j : ℕ) → i < j → j < length runs → get_or (map (λ r. r.end) runs) i 0 < get_or (map (λ r. r.end) runs) j 0
ends_ordered spot from n [] spelt i j order within = absurd (omega arith)
ends_ordered spot from n (r ∷ rs) spelt i zero order within = absurd (omega arith)
ends_ordered spot from n (r ∷ rs) spelt zero (suc j) order within = ends_above spot r.end n rs spelt.2 j (omega arith)
ends_ordered spot from n (r ∷ rs) spelt (suc i) (suc j) order within = ends_ordered spot r.end n rs spelt.2 i j (omega arith) (omega arith)

-- The ends of runs, as far as they are written, rise from above 0.
module _ {M : Type 0} {spot : ℕ → M} {n : ℕ} {runs : List (Run M)} (packing : Packing spot n runs) (used : ℕ) (in_runs : used ≤ length runs) (ends : List ℕ) (in_ends : used ≤ length ends) where
  abbrev front : List ℕ
  front = take used (overlay (map (λ r. r.end) runs) ends)

  length_front : length front ≡ used
  length_front = omega (arith, length-take used (overlay (map (λ r. r.end) runs) ends), length-overlay (map (λ r. r.end) runs) ends)

  front_end : (k : ℕ) → k < used → get_or front k 0 ≡ get_or (map (λ r. r.end) runs) k 0
  front_end k below =
      let mapped = length-map runs (λ r. r.end) in
      get_or-take used (overlay (map (λ r. r.end) runs) ends) k 0 below
      ∙ get_or-overlay (map (λ r. r.end) runs) ends k 0 (omega arith) (omega arith)

  pub front_rises : Rises front × FirstAboveZero front
  front_rises =
      let taken = length_front in (
        (λ i j order within.
            omega (arith, front_end i (omega arith), front_end j (omega arith), ends_ordered spot 0 n runs packing.spells i j order (omega arith))),
        (λ within. omega (arith, front_end 0 (omega arith), ends_above spot 0 n runs packing.spells 0 (omega arith))),
      )
