-- The recorded call takes the sheet a step further.
use Rattle.std.proofs.Common.{vec_items}
use Rattle.intake.specs.Desks.{calls_of}
use Rattle.intake.proofs.Replay.{one_more}
use Rattle.intake.proofs.desk.Desk.make_call.Goals as goal

pub returns-clause-in_step : goal.returns-clause-in_step
returns-clause-in_step c =
    let desk = c.args.self.now in
    one_more c.args.palette.now desk.room.cells desk.room.runs (calls_of desk) (vec_items c.push.new.self) c.args.call c.apply.result desk.sheet c.apply.new.sheet c.in_ok-push.ensures.items c.apply.ensures
