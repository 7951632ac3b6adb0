-- Each sheet that was played anew holds what the desk's sheet holds.
use Rattle.intake.proofs.Replay.{replayed, decided_of_same}
use Rattle.intake.proofs.desk.compare.Goals as goal

pub returns : goal.returns
returns c loader-stands floor-stands =
    let palette = c.args.palette.now in
    let played = c.play_both-played.result in
    let promise = c.play_both-played.ensures in
    let loader = c.args.loader.now in
    let floor = c.args.floor.now in
    let loader_room = c.in_ok-loader_memory.ensures in
    let floor_room = c.in_ok-floor_memory.ensures in
    decided_of_same played.agree played.loader played.floor loader.sheet floor.sheet
    (replayed palette loader.room.cells loader.room.runs _ _ _ _ loader.sheet played.loader loader_room.cell_room_is loader_room.run_room_is c.deref.ensures.value loader-stands promise.loader)
    (replayed palette floor.room.cells floor.room.runs _ _ _ _ floor.sheet played.floor floor_room.cell_room_is floor_room.run_room_is c.deref-2.ensures.value floor-stands promise.floor)
    promise.answer
