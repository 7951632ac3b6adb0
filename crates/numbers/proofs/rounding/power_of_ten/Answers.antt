use Rattle.numbers.proofs.Powers.{power_value}
use Rattle.numbers.proofs.rounding.power_of_ten.Goals as goal

pub returns : goal.returns
returns c = power_value c.args.k c.requires
