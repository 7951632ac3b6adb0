-- Whole numbers as attributes write them: one or more decimal digits and nothing else, with any number of leading zeros, read
-- in base ten. The form is a rule of this project, and narrower than XML Schema's: no sign, no white space. A text is the list
-- of its bytes, and the bytes 48 to 57 are the digits 0 to 9.
use Rattle.std.specs.Prelude.{◌≡◌, ℕ, ◌+◌, ◌-◌, ◌*◌, ◌^◌, Bool, false, cond, List, [], ◌∷◌, length, Some, None, Option, nat_lt}
use Rattle.std.specs.Str.{all_ascii_digits}

-- one or more digits, and nothing else
abbrev pub numeral : List ℕ → Bool
numeral [] = false
numeral (c ∷ cs) = all_ascii_digits (c ∷ cs)

-- the number that digits write after those of n
abbrev pub value_after : ℕ → List ℕ → ℕ
value_after n [] = n
value_after n (c ∷ cs) = value_after (n * 10 + (c - 48)) cs

-- the number that digits write
abbrev pub value : List ℕ → ℕ
value ds = value_after 0 ds

-- that number by places: a digit counts the power of ten of its place, which is the number of digits after it
abbrev pub Positional : Type 0
Positional = (c : ℕ) (cs : List ℕ) → value (c ∷ cs) ≡ (c - 48) * 10 ^ length cs + value cs

-- a number, where it is below the limit
abbrev pub below : ℕ → ℕ → Option ℕ
below limit n = cond (nat_lt n limit) (Some n) None

-- The whole number that a text writes, if it is below the limit.
abbrev pub whole_number : ℕ → List ℕ → Option ℕ
whole_number limit text = cond (numeral text) (below limit (value text)) None
