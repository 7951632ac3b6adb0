use Rattle.std.proofs.lemmas.Grind.{common_steps}
use Rattle.std.proofs.lemmas.Option.{gets}
use Rattle.std.proofs.Common.{◌+◌, drop, sym, ◌∙◌, subst, arith}
use Rattle.runs.specs.Marks.{mark_of}
use Rattle.runs.proofs.Cells.{Left, left_all, left_next, left_none, left_gap, left_mark, left_rest}
use Rattle.runs.proofs.Steps.{Marked, written_none, written_all}
use Rattle.runs.proofs.packing.pack.Goals as goal

pub loop-index-init : goal.loop-index-init
loop-index-init g c =
    let box = g.B.MarkedBox in
    let area = c.args.area.now in
    let gap = box.gap area in
    let cells = box.cells area in (
      omega arith,
      left_all gap cells (box.size area) c.positions-size.ensures.ordered,
      written_none (mark_of gap cells) c.gap_mark-gap.result c.args.marks.now c.args.ends.now,
    )

-- an index below the count has a cell
pub unwrap-cell-requires : goal.unwrap-cell-requires
unwrap-cell-requires g c = grind (arith, common_steps, gets)

pub extend-tail-requires : goal.extend-tail-requires
extend-tail-requires g c =
    let left = left_next c.loop-index.index c.loop-index.invariant.1 c.unwrap-cell.result (sym c.unwrap-cell.ensures ∙ c.cell.ensures) in
    record { counted = c.loop-index.invariant.0; forward = left.order.0 }

pub overflow_add-cell : goal.overflow_add-cell
overflow_add-cell g c = omega (arith, (left_next c.loop-index.index c.loop-index.invariant.1 c.unwrap-cell.result (sym c.unwrap-cell.ensures ∙ c.cell.ensures)).order.1)

-- the positions before the cell have the gap mark, and its own position has its mark
pub loop-index-preserved : goal.loop-index-preserved
loop-index-preserved g c =
    let box = g.B.MarkedBox in
    let area = c.args.area.now in
    let gap = box.gap area in
    let cells = box.cells area in
    let spot = mark_of gap cells in
    let cell = c.unwrap-cell.result in
    let left = left_next c.loop-index.index c.loop-index.invariant.1 cell (sym c.unwrap-cell.ensures ∙ c.cell.ensures) in
    let before = c.extend-tail.ensures in
    let after = c.extend-tail-in-loop-index.ensures in
    let before_cell : Marked spot c.loop-index.tail.end cell.place c.gap_mark-gap.result =
    λ p from_p p_end. left_gap left p from_p p_end ∙ sym c.gap_mark-gap.ensures in
    let at_cell : Marked spot c.extend-tail.result.end (cell.place + 1) cell.mark =
    λ p from_p p_end. left_mark left p (omega (arith, before.end)) p_end in (
      after.counted,
      subst (λ e. Left gap cells (drop (c.loop-index.index + 1) cells) e (box.size area)) (sym after.end) (left_rest left),
      after.written spot at_cell _ _ (before.written spot before_cell _ _ c.loop-index.invariant.2),
    )

pub extend-tail-requires-2 : goal.extend-tail-requires-2
extend-tail-requires-2 g c =
    record { counted = c.loop-index.invariant.0; forward = omega (arith, (left_none c.loop-index.invariant.1 (omega arith)).order) }

-- the positions past the last cell have the gap mark
pub returns : goal.returns
returns g c =
    let box = g.B.MarkedBox in
    let area = c.args.area.now in
    let spot = mark_of (box.gap area) (box.cells area) in
    let left = left_none c.loop-index.invariant.1 (omega arith) in
    let last = c.extend-tail-2.ensures in
    let past_cells : Marked spot c.loop-index.tail.end c.positions-size.result c.gap_mark-gap.result =
    λ p from_p p_end. left.marks p from_p ∙ sym c.gap_mark-gap.ensures in
    written_all (last.written spot past_cells _ _ c.loop-index.invariant.2) (last.end ∙ c.positions-size.ensures.value)
