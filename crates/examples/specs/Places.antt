-- How many places a decimal may have: a tint of a real workbook has 18, and one more is too many.
use Rattle.std.specs.Prelude.{◌≡◌, true, Some, None, codes}
use Rattle.numbers.specs.Decimals.{scaled, decimal_of, decimal_value}

pub record Places : Type 0 where
  pub eighteen : decimal_of (codes "-9.9978637043366805E-2") ≡ Some (scaled true 99978637043366805 18)
  pub nineteen : decimal_of (codes "0.0000000000000000001") ≡ None
  pub no_value : decimal_value (codes "0.0000000000000000001") ≡ None
