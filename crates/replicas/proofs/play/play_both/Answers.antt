use Rattle.std.proofs.Common.{[], ◌++◌, reverse}
use Rattle.std.proofs.lemmas.List.{append-nil}
use Rattle.sheet.specs.Contents.{memory_cell_room, memory_run_room}
use Rattle.replicas.proofs.Steps.{made_stands}
use Rattle.replicas.proofs.Promise.{replica, alike_from_words, words_from_runs, shortest_exists, refused_exactly}
use Rattle.replicas.proofs.play.play_both.Goals as goal

pub returns : goal.returns
returns g c =
    let palette = c.args.palette.now in
    let C = memory_cell_room c.args.loader in
    let R = memory_run_room c.args.loader in
    let C' = memory_cell_room c.args.floor in
    let R' = memory_run_room c.args.floor in
    let calls = c.args.loader_calls.now in
    let calls' = c.args.floor_calls.now in
    let s = c.play.new.sheet in
    let t = c.play-2.new.sheet in
    let one = replica palette C R calls (reverse calls ++ []) s (append-nil (reverse calls)) (c.play.ensures C R [] (made_stands palette c.args.loader _ c.new-loader.ensures)) in
    let other = replica palette C' R' calls' (reverse calls' ++ []) t (append-nil (reverse calls')) (c.play-2.ensures C' R' [] (made_stands palette c.args.floor _ c.new-floor.ensures)) in
    record {
      loader = one;
      floor = other;
      alike = alike_from_words palette C R calls s C' R' calls' t one other;
      unlike = words_from_runs palette C R calls s C' R' calls' t one other;
      answer = c.agree-agree.ensures;
      shortest = shortest_exists g.M.Mark.agrees g.met.M.Mark.exact;
      refused = refused_exactly;
    }
