-- Memory that holds a list of runs: the marks and the ends, side by side, from the front on.
use Rattle.std.specs.Prelude.{◌≡◌, ℕ, ◌-◌, ◌<◌, List, [], ◌∷◌, map, length, slice_index}
use Rattle.runs.specs.declared.run.Run.{Run}
use Rattle.runs.specs.Runs.{Packing, Shortest}

-- xs over the front of old, as far as old reaches; the rest of old stays
abbrev pub overlay : {X : Type 0} → List X → List X → List X
overlay [] old = old
overlay (x ∷ xs) [] = []
overlay (x ∷ xs) (o ∷ old) = x ∷ overlay xs old

-- the runs that marks and ends give, taken side by side
abbrev pub runs_of : {M : Type 0} → List M → List ℕ → List (Run M)
runs_of [] es = []
runs_of (m ∷ ms) [] = []
runs_of (m ∷ ms) (e ∷ es) = record { mark = m; end = e } ∷ runs_of ms es

-- the ends of runs
abbrev pub ends_of : {M : Type 0} → List (Run M) → List ℕ
ends_of runs = map (λ r. r.end) runs

-- the end of the last run, which is the number of places that runs hold
abbrev pub last_end : {M : Type 0} → List (Run M) → ℕ
last_end runs = slice_index (ends_of runs) (length runs - 1)

-- a later end is greater
abbrev pub Rises : List ℕ → Type 0
Rises es = (i j : ℕ) → i < j → j < length es → slice_index es i < slice_index es j

-- the first end is above 0, so the first run holds a position
abbrev pub FirstAboveZero : List ℕ → Type 0
FirstAboveZero es = 0 < length es → 0 < slice_index es 0

-- the ends of runs rise, from above 0
abbrev pub Ascending : {M : Type 0} → List (Run M) → Type 0
Ascending runs = Rises (ends_of runs) × FirstAboveZero (ends_of runs)

-- Marks and ends of a table: there are as many of both, and the ends rise from above 0.
pub record IsTable {M : Type 0} (marks : List M) (ends : List ℕ) : Type 0 where
  pub level : length marks ≡ length ends
  pub rising : Rises ends
  pub first : FirstAboveZero ends

-- What packing n positions leaves: its list is the one that spells them with no two neighbours alike, and the
-- shortest; `needed` is its length; the memory has the list over its front, as far as it reaches, and is otherwise as it was.
pub record Packed {M : Type 0} (spot : ℕ → M) (n : ℕ) (marks marks' : List M) (ends ends' : List ℕ) (needed : ℕ) : Type 0 where
  pub runs : List (Run M)
  pub packing : Packing spot n runs
  pub shortest : Shortest spot n runs
  pub length_is : needed ≡ length runs
  pub marks_after : marks' ≡ overlay (map (λ r. r.mark) runs) marks
  pub ends_after : ends' ≡ overlay (map (λ r. r.end) runs) ends

-- the length of packing's list for n positions
abbrev pub Needs : {M : Type 0} → (ℕ → M) → ℕ → ℕ → Type 0
Needs {M} spot n needed = (runs : List (Run M)) × (Packing spot n runs × (needed ≡ length runs))
