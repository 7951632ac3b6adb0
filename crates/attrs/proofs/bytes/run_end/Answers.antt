use Rattle.std.proofs.Common.{◌<◌, get_or, sym, ◌∙◌, arith}
use Rattle.attrs.proofs.Runs.{run_more, stops}
use Rattle.attrs.proofs.bytes.run_end.Goals as goal
use Rattle.attrs.proofs.bytes.run_end.Goals.{then-loop-at-test+else-test, else-loop-at-test}

pub loop-at-preserved : goal.loop-at-preserved
loop-at-preserved g c =
    let bytes = c.args.bytes.now in
    let at = c.loop-at.at in
    let low : get_or bytes at 0 < 256 = omega (arith, c.type_inv.bytes at) in (
      omega arith,
      omega arith,
      λ passes told.
          run_more passes bytes c.args.from at (omega arith) (omega arith) (c.loop-at.invariant.2 passes told)
          (sym (told (get_or bytes at 0) c.test.result low c.test.ensures) ∙ c.if-test.true),
    )

pub returns-clause-run : goal.returns-clause-run
returns-clause-run g c passes told =
    let bytes = c.args.bytes.now in
    let at = c.loop-at.at in
    let low : get_or bytes at 0 < 256 = omega (arith, c.type_inv.bytes at) in
    record {
      low = omega arith;
      high = omega arith;
      run = c.loop-at.invariant.2 passes told;
      stop = stops passes bytes at (λ inside. elim c.loop-at-test.branch [
        | then-loop-at-test+else-test w ↦ sym (told (get_or bytes at 0) w.test.result low w.test.ensures) ∙ w.if-test.false
        | else-loop-at-test w ↦ absurd (omega (arith, w.loop-at-test.false))
      ]);
    }
