use Rattle.std.proofs.Common.{false, ◌∙◌, arith}
use lib.Ieee.{binary64, round}
use Rattle.numbers.proofs.Long.{long_way, long_digits}
use Rattle.std.proofs.lemmas.Float.{not_nan_f64_bits}
use Rattle.numbers.proofs.rounding.by_long_division.Goals as goal

pub float_from_bits-result : goal.float_from_bits-result
float_from_bits-result c =
    let d = c.doubled-unit in
    not_nan_f64_bits _ (omega (arith, long_digits c.from-dividend.result c.from.result d.result.1 d.result.0 c.quotient-digits.result (omega arith) d.ensures.times d.ensures.least d.ensures.most c.quotient-digits.ensures))

pub returns : goal.returns
returns c =
    let d = c.doubled-unit in
    long_way c.from-dividend.result c.from.result d.result.1 d.result.0 c.quotient-digits.result (omega arith) d.ensures.few d.ensures.times d.ensures.least d.ensures.most c.quotient-digits.ensures
    ∙ (λ i. round binary64 false (c.from-dividend.ensures i) (c.from.ensures i))
