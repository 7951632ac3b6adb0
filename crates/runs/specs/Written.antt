-- How far packing has come: the runs that it has found for the positions below `end`.
use Rattle.std.specs.Prelude.{◌≡◌, ℕ, ◌<◌, List, [], ◌∷◌, ◌++◌, map, length}
use Rattle.runs.specs.declared.run.Run.{Run}
use Rattle.runs.specs.Runs.{Packing}
use Rattle.runs.specs.Memory.{overlay}

pub record Written {M : Type 0} (spot : ℕ → M) (end count : ℕ) (mark : M) (marks0 marks : List M) (ends0 ends : List ℕ) : Type 0 where
  pub runs : List (Run M)
  pub packing : Packing spot end runs
  pub counted : count ≡ length runs
  pub last : 0 < count → (before : List (Run M)) × (runs ≡ before ++ (record { mark = mark; end = end } ∷ []))
  pub marks_are : marks ≡ overlay (map (λ r. r.mark) runs) marks0
  pub ends_are : ends ≡ overlay (map (λ r. r.end) runs) ends0
