-- Both desks are in step with their calls, and so what was compared anew says of their sheets.
use Rattle.std.proofs.Common.{rules, IfOk, vec_items}
use Rattle.intake.specs.Order.{InOrder}
use Rattle.intake.specs.Sessions.{Agreed}
use Rattle.intake.proofs.Agreement.{agreed_prop}
use Rattle.intake.proofs.session.Session.agree.Goals as goal
use Rattle.std.proofs.Math.Logic.{∥∥₁_elim}

pub returns-clause-agreed : goal.returns-clause-agreed
returns-clause-agreed c =
    let session = c.args.self.now in
    let desks = session.desks in
    let compared : InOrder (vec_items session.palette.entries) session.called desks → IfOk c.map_err.result (λ agree. Agreed agree desks.loader desks.floor) = search rules in
    ∥∥₁_elim session.in_order (agreed_prop c.map_err.result desks.loader desks.floor) compared
