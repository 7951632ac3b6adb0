use Rattle.std.proofs.Common.{List, ◌++◌, reverse, get_or, take, subst}
use Rattle.replicas.specs.declared.call.Call.{Call}
use Rattle.replicas.specs.declared.call.Call.TheVariants.{Put}
use Rattle.replicas.specs.Stands.{Stands}
use Rattle.replicas.proofs.Steps.{applied_stands, history_more, history_all}
use Rattle.replicas.proofs.play.play.Goals as goal

pub loop-call-preserved : goal.loop-call-preserved
loop-call-preserved g c C R h st =
    let palette = c.args.palette.now in
    let calls = c.args.calls.now in
    let i = c.loop-call.call-index in
    subst (λ (k : List Call). Stands palette C R k c.apply.new.sheet) (history_more calls h i (Put 0 0 0) c.loop-call-test.true)
    (applied_stands palette C R (reverse (take i calls) ++ h) c.loop-call.sheet c.apply.new.sheet (get_or calls i (Put 0 0 0)) c.apply.result (c.loop-call.invariant C R h st) c.apply.ensures)

pub returns : goal.returns
returns g c C R h st =
    subst (λ (k : List Call). Stands c.args.palette.now C R k c.loop-call.sheet) (history_all c.args.calls.now h c.loop-call.call-index c.loop-call-test.false) (c.loop-call.invariant C R h st)
