use Rattle.std.proofs.Common.{arith}
use Rattle.numbers.proofs.Powers.{power_pos, power_le}
use Rattle.numbers.proofs.rounding.nearest.Goals as goal

pub by_long_division-requires : goal.by_long_division-requires
by_long_division-requires c = (omega arith, omega arith, omega (arith, power_pos c.args.k), omega (arith, power_le c.args.k c.requires.1))
