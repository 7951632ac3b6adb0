use Rattle.std.proofs.Common.{is_some, sym, ap, ◌∙◌}
use Rattle.std.proofs.lemmas.Option.{same_Some}
use Rattle.cells.specs.Area.{extent}
use Rattle.sheet.proofs.Placing.{nth_placed, place_there, held_from}
use Rattle.sheet.proofs.marked.MarkedCellsMarkedBox.cell.Goals as goal

pub unwrap-place-requires : goal.unwrap-place-requires
unwrap-place-requires g c =
    let b = c.args.self.now in
    let x = c.in_ok-cell.cell.now in
    let read = c.in_ok-cell.ensures.lookup.3 in
    ap is_some (c.place.ensures ∙ place_there (extent b.area) b.cells.now c.args.index x c.row.result c.column.result read.0 (held_from (extent b.area) b.cells.now b.held) (read.1 x) c.row.ensures c.column.ensures)

pub returns : goal.returns
returns g c =
    let b = c.args.self.now in
    let a = extent b.area in
    let x = c.in_ok-cell.cell.now in
    let read = c.in_ok-cell.ensures.lookup.3 in
    let there = place_there a b.cells.now c.args.index x c.row.result c.column.result read.0 (held_from a b.cells.now b.held) (read.1 x) c.row.ensures c.column.ensures in
    let place = same_Some _ _ (sym c.unwrap-place.ensures ∙ c.place.ensures ∙ there) in
    nth_placed a (g.K.Marking.of b.marking) b.cells.now c.args.index x c.unwrap-place.result c.mark_of-mark.result read.0 (read.1 x) place c.mark_of-mark.ensures
