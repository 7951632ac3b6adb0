use Rattle.cells.specs.Area.{extent}
use Rattle.sheet.proofs.Placing.{in_order, held_from}
use Rattle.sheet.proofs.marked.MarkedCellsMarkedBox.positions.Goals as goal

pub returns-clause-ordered : goal.returns-clause-ordered
returns-clause-ordered g c =
    let b = c.args.self.now in
    in_order (extent b.area) (g.K.Marking.of b.marking) b.cells.now b.ordered (held_from (extent b.area) b.cells.now b.held)
