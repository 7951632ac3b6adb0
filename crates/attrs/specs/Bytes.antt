-- Kinds of bytes in attribute text, and what holds of all bytes of a part. White space is that of XML 1.0, production S.
use Rattle.std.specs.Prelude.{◌≡◌, ℕ, ◌-◌, ◌<◌, ◌≤◌, Bool, true, not, ◌||◌, List, [], ◌∷◌, length, take, drop, ◌==◌}

-- space, tab, line feed, carriage return
abbrev pub white : ℕ → Bool
white b = b == 32 || (b == 9 || (b == 10 || b == 13))

-- " or '
abbrev pub quote : ℕ → Bool
quote b = b == 34 || b == 39

-- what a key is made of: no white space, no quote, no =
abbrev pub key_byte : ℕ → Bool
key_byte b = not (white b || (quote b || b == 61))

-- every byte but one
abbrev pub except : ℕ → ℕ → Bool
except mark b = not (b == mark)

-- the answers that a test may give to a byte are what p says
abbrev pub Tells : (ℕ → Bool → Type 0) → (ℕ → Bool) → Type 0
Tells answers p = (b : ℕ) (r : Bool) → b < 256 → answers b r → r ≡ p b

-- every byte passes
abbrev pub All : (ℕ → Bool) → List ℕ → Type 0
All p [] = Unit {0}
All p (b ∷ bs) = (p b ≡ true) × All p bs

-- there is a first byte, and it passes
abbrev pub Begins : (ℕ → Bool) → List ℕ → Type 0
Begins p [] = ⊥
Begins p (b ∷ bs) = p b ≡ true

-- the bytes from one index up to another pass, and the byte there, if any, does not
pub record Run (p : ℕ → Bool) (bytes : List ℕ) (from to : ℕ) : Type 0 where
  pub low : from ≤ to
  pub high : to ≤ length bytes
  pub run : All p (take (to - from) (drop from bytes))
  pub stop : Begins p (drop to bytes) → ⊥
