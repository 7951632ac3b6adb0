-- A new desk is in step over whatever palette, and where there is none, both desks are as they were.
use Rattle.std.proofs.Common.{rules, ◌≡◌, List, Ok, IfOk, vec_items, subst}
use Rattle.sheet.specs.declared.xf.Xf.{Xf}
use Rattle.intake.specs.declared.style.Style.{Style}
use Rattle.intake.specs.Desks.{InStep}
use Rattle.intake.proofs.Keeping.{left_alone, opened}
use Rattle.intake.proofs.session.Session.open.Goals as goal

pub invariant_of-self : goal.invariant_of-self
invariant_of-self c =
    let session = c.args.self.now in
    record { in_order = left_alone (vec_items session.palette.entries) session.called c.args.name session.desks c.place-place.result.now c.place-place.ensures.value session.in_order }

pub invariant_of-self-in-Break-1 : goal.invariant_of-self-in-Break-1
invariant_of-self-in-Break-1 c =
    let session = c.args.self.now in
    record { in_order = left_alone (vec_items session.palette.entries) session.called c.args.name session.desks c.place-place.result.now c.place-place.ensures.value session.in_order }

pub invariant_of-self-2 : goal.invariant_of-self-2
invariant_of-self-2 c =
    let session = c.args.self.now in
    let made : c.new.result ≡ Ok c.in_ok-desk.desk = search rules in
    let new = subst (λ r. IfOk r (λ d. (any : List (Xf Style)) → InStep any d)) made c.new.ensures.in_step in
    record { in_order = opened (vec_items session.palette.entries) session.called c.args.name session.desks c.in_ok-desk.desk new session.in_order }
