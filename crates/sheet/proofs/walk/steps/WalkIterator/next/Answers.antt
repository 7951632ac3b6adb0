use Rattle.std.proofs.Common.{◌≡◌, ◌+◌, rules, ap, ◌∙◌, ap₂, arith}
use Rattle.std.specs.Option.{option_map}
use Rattle.runs.specs.Runs.{mark_at}
use Rattle.cells.specs.Area.{extent}
use Rattle.cells.specs.Going.{place}
use Rattle.sheet.specs.Reads.{styled, seen_at}
use Rattle.sheet.proofs.Walks.{level_mark, seen_there, styled_by}
use Rattle.sheet.proofs.walk.steps.WalkIterator.next.Goals as goal

pub returns-clause-steps : goal.returns-clause-steps
returns-clause-steps g c =
    let w = c.args.self.now in
    let palette = w.palette.now in
    let a = extent w.positions.area in
    let runs = w.ids.table in
    let given = c.next-2.ensures.steps in
    let at = c.in_ok-at.ensures.steps in
    let inside = at.item.0 in
    let p = place w.positions in
    let same = level_mark runs w.ids.place p (w.behind inside) (w.level inside) in
    let style : option_map (λ x. x.now) c.and_then-style.result ≡ styled palette (mark_at runs p) =
    styled_by palette c.next-2.result c.and_then-style.result c.and_then-style.ensures (λ n made. search rules) ∙ ap (styled palette) (given.0 ∙ same) in
    record {
      item = seen_there palette a runs p c.in_ok-at.at.row c.in_ok-at.at.column (option_map (λ x. x.now) c.and_then-style.result) inside at.item.1 at.item.2 style;
      rest = λ k.
          let area_same = ap extent at.area_same in
          let further : place c.next.new.self + k ≡ p + (k + 1) = let h = at.place_after in omega arith in
          ap₂ (λ b rs. seen_at palette b rs (place c.next.new.self + k)) area_same given.2 ∙ ap (seen_at palette a runs) further;
    }
