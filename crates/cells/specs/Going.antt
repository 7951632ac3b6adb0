-- How far a walk over the positions of a box has come: the place of the next one, and what a step of it does.
use Rattle.std.specs.Prelude.{◌≡◌, ℕ, ◌+◌, ◌<◌, ◌≤◌, is_some, if◌then◌else◌, MatchOption, Option}
use Rattle.cells.specs.declared.position.Position.{Position}
use Rattle.cells.specs.declared.positions.Positions.{Positions}
use Rattle.cells.specs.Area.{extent, size, place_in, row_at, column_at}

abbrev pub place : Positions → ℕ
place p = place_in (extent p.area) p.row p.column

-- A step gives the position at the place, and goes on to the next place; after the last it gives none, and stays.
pub record Stepped (p : Positions) (r : Option Position) (p' : Positions) : Type 0 where
  pub item : MatchOption r (size (extent p.area) ≤ place p)
      (λ at. (place p < size (extent p.area)) × (at.row ≡ row_at (extent p.area) (place p)) × (at.column ≡ column_at (extent p.area) (place p)))
  pub place_after : place p' ≡ (if is_some r then place p + 1 else place p)
  pub area_same : p'.area ≡ p.area
