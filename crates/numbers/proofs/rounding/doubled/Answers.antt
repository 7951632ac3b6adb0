use Rattle.std.proofs.Common.{arith}
use Rattle.numbers.proofs.Long.{few_doublings, doubled_once, power_once}
use Rattle.numbers.proofs.rounding.doubled.Goals as goal

pub overflow_add-count : goal.overflow_add-count
overflow_add-count c = omega (arith, few_doublings c.loop-unit.count c.loop-unit.unit c.args.dividend c.loop-unit.invariant.2 c.loop-unit.invariant.3 c.requires.2)

pub loop-unit-preserved : goal.loop-unit-preserved
loop-unit-preserved c =
    let unit = c.loop-unit.unit in
    let count = c.loop-unit.count in (
      omega arith,
      doubled_once c.args.divisor unit count c.loop-unit.invariant.1,
      power_once unit count c.loop-unit.invariant.2,
      omega arith,
    )

pub returns-clause-few : goal.returns-clause-few
returns-clause-few c = few_doublings c.loop-unit.count c.loop-unit.unit c.args.dividend c.loop-unit.invariant.2 c.loop-unit.invariant.3 c.requires.2
