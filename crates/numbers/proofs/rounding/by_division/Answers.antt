use Rattle.std.proofs.Common.{◌^◌, false, pos}
use lib.Ieee.{binary64, of_int}
use lib.Ieee.Back.{round_whole}
use Rattle.numbers.proofs.Powers.{power_pos}
use Rattle.numbers.proofs.Values.{divided}
use Rattle.numbers.proofs.rounding.by_division.Goals as goal

pub returns : goal.returns
unfolding of_int
returns c = divided (of_int binary64 (pos c.args.w)) c.power_of_ten.result c.args.w (10 ^ c.args.k) (power_pos c.args.k) (round_whole binary64 false c.args.w c.requires.0) c.power_of_ten.ensures
