use Rattle.std.proofs.Common.{◌≤◌, length, get_or, Some, sym, ap, ◌∙◌, arith}
use Rattle.std.specs.List.{slice_get}
use Rattle.std.proofs.lemmas.Option.{slice_get_past}
use Rattle.runs.specs.Memory.{runs_of}
use Rattle.runs.proofs.Laws.{run}
use Rattle.runs.proofs.Places.{length-runs_of, slice_get-runs_of}
use Rattle.runs.proofs.table.RunTable.run.Goals as goal

pub returns-in_err-mark : goal.returns-in_err-mark
returns-in_err-mark g c =
    let table = c.self.inside in
    let past : length table.marks.now ≤ c.args.index = c.in_err-mark.ensures.lookup.3 in
    let level = c.self.invariant.level in
    c.from_residual.ensures
    ∙ sym (slice_get_past (runs_of table.marks.now table.ends.now) c.args.index (omega (arith, length-runs_of table.marks.now table.ends.now level)))
    ∙ ap (λ runs. slice_get runs c.args.index) c.self.view_is

pub returns : goal.returns
returns g c =
    let table = c.self.inside in
    let mark = c.in_ok-mark.field-0.now in
    let found = c.in_ok-mark.ensures.lookup.3 in
    let level = c.self.invariant.level in
    ap (λ m. Some (run m (get_or table.ends.now c.args.index 0))) (found.1 mark)
    ∙ sym (slice_get-runs_of table.marks.now table.ends.now c.args.index mark level (omega (arith, found.0)))
    ∙ ap (λ runs. slice_get runs c.args.index) c.self.view_is
