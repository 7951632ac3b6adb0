-- Lists of runs: what such a list spells, which one is packing's, and which mark it gives a position.
use Rattle.std.specs.Prelude.{◌≡◌, ℕ, ◌<◌, ◌≤◌, cond, ◌⊎◌, List, [], ◌∷◌, length, Some, None, Option, ◌≢◌, nat_lt}
use Rattle.runs.specs.declared.run.Run.{Run}

-- The list spells the positions from `from` up to n: its ends rise, from above `from` to n, and each position has the
-- mark of its run.
abbrev pub Spells : {M : Type 0} → (ℕ → M) → ℕ → List (Run M) → ℕ → Type 0
Spells spot from [] n = from ≡ n
Spells spot from (r ∷ rs) n =
    (from < r.end) × ((p : ℕ) → from ≤ p → p < r.end → spot p ≡ r.mark) × Spells spot r.end rs n

-- neighbouring runs differ in their marks
abbrev pub Apart : {M : Type 0} → List (Run M) → Type 0
Apart [] = Unit {0}
Apart (r ∷ []) = Unit {0}
Apart (r ∷ (s ∷ rs)) = (r.mark ≢ s.mark) × Apart (s ∷ rs)

-- Packing's list for n positions: it spells them, and no two neighbours could be joined.
pub record Packing {M : Type 0} (spot : ℕ → M) (n : ℕ) (runs : List (Run M)) : Type 0 where
  pub spells : Spells spot 0 runs n
  pub apart : Apart runs

-- every other list that spells the same positions is longer
abbrev pub Shortest : {M : Type 0} → (ℕ → M) → ℕ → List (Run M) → Type 0
Shortest {M} spot n runs =
    (others : List (Run M)) → Spells spot 0 others n → (others ≡ runs) ⊎ (length runs < length others)

-- the mark of the first run that ends past a position, or none
abbrev pub mark_at : {M : Type 0} → List (Run M) → ℕ → Option M
mark_at [] p = None
mark_at (r ∷ rs) p = cond (nat_lt p r.end) (Some r.mark) (mark_at rs p)
