use Rattle.std.proofs.Common.{◌≡◌, [], ap, ◌∙◌}
use Rattle.std.specs.Slice.Iter.{iter_rest}
use Rattle.std.proofs.lemmas.List.{nil_from_length}
use Rattle.runs.specs.Memory.{runs_of}
use Rattle.runs.proofs.Places.{runs_of_none}
use Rattle.runs.proofs.runs.RunsIterator.next.Goals as goal

-- where no end is left, no run was left and none is
pub returns-in_err-end-clause-steps : goal.returns-in_err-end-clause-steps
returns-in_err-end-clause-steps g c =
    let ended = c.in_err-end.ensures.steps in
    let before : iter_rest c.args.self.now.ends ≡ [] = nil_from_length _ ended.0 in
    let after : iter_rest c.next-2.new.self ≡ [] = ap iter_rest ended.1 ∙ before in
    rw c.from_residual-in_err-end.ensures (
      ap (runs_of (iter_rest c.args.self.now.marks)) before ∙ runs_of_none (iter_rest c.args.self.now.marks),
      ap (runs_of (iter_rest c.next.new.self)) after ∙ runs_of_none (iter_rest c.next.new.self),
    )
