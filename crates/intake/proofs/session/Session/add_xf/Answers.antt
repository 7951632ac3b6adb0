-- No call was made yet, so the desks are in step over whatever palette.
use Rattle.std.proofs.Common.{vec_items}
use Rattle.intake.proofs.Keeping.{added}
use Rattle.intake.proofs.session.Session.add_xf.Goals as goal

pub invariant_of-self : goal.invariant_of-self
invariant_of-self c =
    let session = c.args.self.now in
    record { in_order = added (vec_items session.palette.entries) (vec_items c.add.new.self.entries) session.called session.desks c.if-self.false session.in_order }
