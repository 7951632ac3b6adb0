-- A cell as a mark at a place of a box.
use Rattle.std.specs.Prelude.{ℕ}
use Rattle.runs.specs.declared.marked.Placed.{Placed}
use Rattle.cells.specs.declared.cell.Cell.{Cell}
use Rattle.cells.specs.Area.{Area, place_in}

abbrev pub placed : {M : Type 0} → Area → (ℕ → M) → Cell → Placed M
placed a mark x = record { place = place_in a x.at.row x.at.column; mark = mark x.id }
