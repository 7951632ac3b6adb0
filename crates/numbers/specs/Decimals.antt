-- Decimals as attributes write them: a minus sign if any, digits with at most one point, and perhaps an exponent, as in
-- -9.98E-2. The form and the limits are rules of this project. A readable one says w / 10^k under its sign, and its value is
-- the nearest binary64 (IEEE 754, ties to even). A text is the list of its bytes.
use Rattle.std.specs.Prelude.{ℕ, ◌^◌, Bool, cond, ◌&&◌, ◌||◌, List, [], ◌∷◌, ◌++◌, length, drop, ℤ, pos, negsuc, ◌-ℤ◌, neg_ℤ, Some, None, Option, ◌==◌, nat_le, nat_lt, Float}
use Rattle.std.specs.Float.{binary64}
use Rattle.std.specs.Float.Ieee.{round}
use Rattle.std.specs.Option.{option_map, option_flatten}
use Rattle.numbers.specs.Cuts.{before_first, from_first, begins, without}
use Rattle.numbers.specs.Numerals.{numeral, value}
use Rattle.numbers.specs.declared.decimals.Scaled.{Scaled}

-- ---- bytes

-- + and -
abbrev pub is_plus : ℕ → Bool
is_plus c = c == 43

abbrev pub is_minus : ℕ → Bool
is_minus c = c == 45

abbrev pub is_sign : ℕ → Bool
is_sign c = is_minus c || is_plus c

-- the decimal point
abbrev pub is_point : ℕ → Bool
is_point c = c == 46

-- the mark of an exponent, e or E
abbrev pub is_mark : ℕ → Bool
is_mark c = c == 101 || c == 69

-- ---- the form: the parts of a text that has no minus sign in front

-- what stands before the first e or E, and what stands from there on
abbrev pub mantissa : List ℕ → List ℕ
mantissa text = before_first is_mark text

abbrev pub exponent_part : List ℕ → List ℕ
exponent_part text = from_first is_mark text

-- what stands before the first point of the mantissa, and what stands after it
abbrev pub whole_part : List ℕ → List ℕ
whole_part text = before_first is_point (mantissa text)

abbrev pub fraction : List ℕ → List ℕ
fraction text = drop 1 (from_first is_point (mantissa text))

-- the mantissa without its point: in a decimal these are one or more digits
abbrev pub figures : List ℕ → List ℕ
figures text = whole_part text ++ fraction text

-- a number under a sign
abbrev pub signed : Bool → ℕ → ℤ
signed negative n = cond negative (neg_ℤ (pos n)) (pos n)

-- the exponent: 0 where there is none, else an e or E, a sign if any, and one or more digits
abbrev pub exponent : List ℕ → Option ℤ
exponent [] = Some (pos 0)
exponent (c ∷ cs) = cond (is_mark c && numeral (without is_sign cs)) (Some (signed (begins is_minus cs) (value (without is_sign cs)))) None

-- What a text of the form says: its digits as one number, and the power of ten under it, which is the count of the digits
-- after the point less the exponent.
pub record Form : Type 0 where
  pub digits : ℕ
  pub places : ℤ

-- from the digits, how many of them stand after the point, and the exponent
abbrev pub form : List ℕ → ℕ → ℤ → Form
form ds after x = record { digits = value ds; places = pos after -ℤ x }

-- what a text says that has the form: one or more digits before the exponent, and an exponent that can be read
abbrev pub form_of : List ℕ → Option Form
form_of text = cond (numeral (figures text)) (option_map (form (figures text) (length (fraction text))) (exponent (exponent_part text))) None

-- ---- the limits: the digits are below 10^18, and the power of ten is one of 10^0 to 10^18

-- a power of ten that is not negative and at most 18
abbrev pub power_within : ℤ → Option ℕ
power_within (pos k) = cond (nat_le k 18) (Some k) None
power_within (negsuc j) = None

-- w / 10^k under a sign
abbrev pub scaled : Bool → ℕ → ℕ → Scaled
scaled minus w k = record { negative = minus; w = w; k = k }

-- what a text of the form says within the limits
abbrev pub within_limits : Bool → Form → Option Scaled
within_limits minus f = cond (nat_lt f.digits (10 ^ 18)) (option_map (scaled minus f.digits) (power_within f.places)) None

-- what a text without its minus sign says under a sign
abbrev pub magnitude : Bool → List ℕ → Option Scaled
magnitude minus text = option_flatten (option_map (within_limits minus) (form_of text))

-- ---- what a text says, and its value

-- what a text says: under a minus sign where one stands in front, and by what stands after it
abbrev pub decimal_of : List ℕ → Option Scaled
decimal_of text = magnitude (begins is_minus text) (without is_minus text)

-- the nearest binary64 to what a decimal says
abbrev pub rounded : Scaled → Float
rounded d = round binary64 d.negative d.w (10 ^ d.k)

-- The value of a text that is a readable decimal.
abbrev pub decimal_value : List ℕ → Option Float
decimal_value text = option_map rounded (decimal_of text)
