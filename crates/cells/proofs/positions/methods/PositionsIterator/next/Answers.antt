use Rattle.std.proofs.Common.{◌+◌, sym, ap, ◌∙◌, arith}
use Rattle.cells.specs.Area.{extent, Inside, place_in}
use Rattle.cells.specs.Going.{place}
use Rattle.cells.proofs.Places.{place_below, row_place, column_place, next_column, next_row}
use Rattle.cells.proofs.positions.methods.PositionsIterator.next.Goals as goal
use Rattle.cells.proofs.positions.methods.PositionsIterator.next.Goals.{then-at-column, else-at-column}

pub returns-clause-steps : goal.returns-clause-steps
returns-clause-steps c =
    let p = c.args.self.now in
    let a = extent p.area in
    let e = ap (λ q. q.row) c.end-end.ensures in
    let inside : Inside a p.row p.column = (p.first_row, omega arith, p.first_column, p.last_column) in
    record {
      item = (place_below a p.row p.column inside, sym (row_place a p.row p.column inside), sym (column_place a p.row p.column inside));
      place_after = elim c.if-at-column.branch [
        | then-at-column w ↦ ap place w.self-is ∙ next_column a p.row p.column p.first_column
        | else-at-column w ↦
            let f = ap (λ q. q.column) c.end-end.ensures in
            let g = ap (λ q. q.column) w.start.ensures in
            let order = p.area.columns in
            let last = p.last_column in
            ap place w.self-is ∙ ap (place_in a (p.row + 1)) (w.column-self.ensures ∙ g) ∙ next_row a p.row p.column p.first_row order (omega arith)
      ];
      area_same = elim c.if-at-column.branch [ then-at-column w ↦ ap (λ q. q.area) w.self-is | else-at-column w ↦ ap (λ q. q.area) w.self-is ];
    }
