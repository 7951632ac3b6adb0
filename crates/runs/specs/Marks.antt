-- A box of n positions, numbered from 0 row by row, in which some positions bear a mark of their own and all others
-- the gap mark. This says when a list of such cells is in order, and which mark each position has.
use Rattle.std.specs.Prelude.{ℕ, ◌+◌, ◌<◌, ◌≤◌, cond, List, [], ◌∷◌, ◌==◌}
use Rattle.runs.specs.declared.marked.Placed.{Placed}

-- the places rise, from `from` on, and stay below n
abbrev pub InOrder : {M : Type 0} → ℕ → List (Placed M) → ℕ → Type 0
InOrder from [] n = from ≤ n
InOrder from (c ∷ cs) n = (from ≤ c.place) × (c.place < n) × InOrder (c.place + 1) cs n

-- the mark at a position: that of the cell there, or else the gap mark
abbrev pub mark_of : {M : Type 0} → M → List (Placed M) → ℕ → M
mark_of gap [] p = gap
mark_of gap (c ∷ cs) p = cond (c.place == p) c.mark (mark_of gap cs p)
