-- The desk of that name stays in step with its calls, and the other one is not touched.
use Rattle.std.proofs.Common.{rules, ◌≡◌, Some, vec_items}
use Rattle.intake.specs.Desks.{SameDesk, InStep}
use Rattle.intake.specs.Places.{desk_at}
use Rattle.intake.proofs.Keeping.{left_alone, not_made, made}
use Rattle.intake.proofs.session.Session.make.Goals as goal

pub invariant_of-self : goal.invariant_of-self
invariant_of-self c =
    let session = c.args.self.now in
    record { in_order = left_alone (vec_items session.palette.entries) session.called c.args.name session.desks c.place-place.result.now c.place-place.ensures.value session.in_order }

pub invariant_of-self-in-Break-branch-2 : goal.invariant_of-self-in-Break-branch-2
invariant_of-self-in-Break-branch-2 c =
    let session = c.args.self.now in
    let desk = c.in_ok-desk.desk.now in
    let after = c.make_call.new.self in
    let there : desk_at c.args.name session.desks ≡ Some desk = search rules in
    let same : SameDesk desk after = search rules in
    record { in_order = not_made (vec_items session.palette.entries) session.called c.args.name session.desks desk after there same c.make_call.ensures.room session.in_order }

pub invariant_of-self-2 : goal.invariant_of-self-2
invariant_of-self-2 c =
    let session = c.args.self.now in
    let desk = c.in_ok-desk.desk.now in
    let after = c.make_call.new.self in
    let there : desk_at c.args.name session.desks ≡ Some desk = search rules in
    let step : InStep (vec_items session.palette.entries) desk → InStep (vec_items session.palette.entries) after = search rules in
    record { in_order = made (vec_items session.palette.entries) session.called c.args.name session.desks desk after there step session.in_order }
