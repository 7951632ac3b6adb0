-- A new sheet stands for no calls.
use Rattle.std.proofs.Common.{[], reverse, sym, subst}
use Rattle.sheet.specs.Contents.{memory_cell_room}
use Rattle.replicas.specs.Stands.{Stands}
use Rattle.replicas.proofs.Steps.{made_stands}
use Rattle.intake.proofs.desk.Desk.new.Goals as goal

pub returns-clause-in_step : goal.returns-clause-in_step
returns-clause-in_step c palette =
    let room = c.args.room in
    let blank = c.in_ok-memory.ensures in
    let sheet = c.new.result in
    let C = memory_cell_room c.in_ok-memory.memory in
    subst (λ calls. Stands palette room.cells room.runs (reverse calls) sheet) (sym c.new-2.ensures.items)
    (subst (λ C. Stands palette C room.runs [] sheet) blank.cell_room_is
    (subst (λ R. Stands palette C R [] sheet) blank.run_room_is (made_stands palette c.in_ok-memory.memory sheet c.new.ensures)))
