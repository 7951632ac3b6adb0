-- What is read from the front of a text, and what is left after it: digits, a point with the digits after it, and the exponent
-- part of a decimal. The functions that read a text a part at a time are told by these.
use Rattle.std.specs.Prelude.{ℕ, ◌^◌, Bool, cond, not, List, drop, pos, ◌-ℤ◌, Some, None, Option, nat_lt}
use Rattle.std.specs.Char.{is_ascii_digit}
use Rattle.std.specs.Option.{option_map, option_flatten}
use Rattle.numbers.specs.Cuts.{before_first, from_first, begins}
use Rattle.numbers.specs.Numerals.{value_after}
use Rattle.numbers.specs.Decimals.{is_point, exponent, power_within}

-- whether a byte is no digit
abbrev pub no_digit : ℕ → Bool
no_digit c = not (is_ascii_digit c)

-- the number that the digits at the front of a text write after those of n
abbrev pub front_value : ℕ → List ℕ → ℕ
front_value n text = value_after n (before_first no_digit text)

-- that number, with what follows the digits, where it is below 2^64
abbrev pub front : ℕ → List ℕ → Option (ℕ × List ℕ)
front n text = cond (nat_lt (front_value n text) (2 ^ 64)) (Some (front_value n text, from_first no_digit text)) None

-- the same past a point at the front of a text; where there is none, n and the text
abbrev pub past_point : ℕ → List ℕ → Option (ℕ × List ℕ)
past_point n text = cond (begins is_point text) (front n (drop 1 text)) (Some (n, text))

-- the power of ten under a decimal's digits, from how many of them stand after the point, and the exponent part
abbrev pub power_below : ℕ → List ℕ → Option ℕ
power_below after part = option_flatten (option_map (λ x. power_within (pos after -ℤ x)) (exponent part))
