use Rattle.std.proofs.Common.{◌≤◌, drop}
use Rattle.runs.specs.Marks.{mark_of}
use Rattle.runs.specs.Written.{Written}
use Rattle.runs.proofs.Cells.{Left}
use Rattle.runs.proofs.packing.pack.Given as goal

-- the positions up to the last run's end are packed, and the cells from the index on are left
abbrev pub invariant-loop-index : goal.invariant-loop-index
invariant-loop-index g l =
    let box = g.B.MarkedBox in
    let cells = box.cells l.area in
    let gap = box.gap l.area in
    (l.tail.count ≤ l.tail.end)
    × Left gap cells (drop l.index cells) l.tail.end (box.size l.area)
    × Written (mark_of gap cells) l.tail.end l.tail.count l.tail.mark l.initial.marks l.marks l.initial.ends l.ends
