-- Texts as the vector file writes them. A field spells the bytes of its text one after the other: a byte stands for itself,
-- or % and two hexadecimal digits stand for it. A field that is a lone - is the empty text.
use Rattle.std.specs.Prelude.{◌≡◌, ℕ, ◌+◌, ◌*◌, ◌<◌, Bool, not, ◌&&◌, ◌⊎◌, List, [], ◌∷◌, codes, ◌==◌, nat_le}
use Rattle.std.specs.Char.{digit_value}

-- the field begins with the byte itself, which is not %
pub record Itself (field : List ℕ) (byte : ℕ) (rest : List ℕ) : Type 0 where
  pub plain : byte ≡ 37 → ⊥
  pub spelt : field ≡ byte ∷ rest

-- the field begins with % and two hexadecimal digits for the byte
pub record Escaped (field : List ℕ) (byte : ℕ) (rest : List ℕ) : Type 0 where
  pub high : ℕ
  pub low : ℕ
  pub high_digit : digit_value high < 16
  pub low_digit : digit_value low < 16
  pub number : byte ≡ digit_value high * 16 + digit_value low
  pub spelt : field ≡ 37 ∷ (high ∷ (low ∷ rest))

-- the field begins with the byte, and `rest` follows
abbrev pub Begins : List ℕ → ℕ → List ℕ → Type 0
Begins field byte rest = Itself field byte rest ⊎ Escaped field byte rest

-- the field spells the bytes, one after the other
abbrev pub Spells : List ℕ → List ℕ → Type 0
Spells field [] = field ≡ []
Spells field (b ∷ bs) = (rest : List ℕ) × Begins field b rest × Spells rest bs

-- the field is that of the text
abbrev pub FieldOf : List ℕ → List ℕ → Type 0
FieldOf field text = ((field ≡ codes "-") × (text ≡ [])) ⊎ Spells field text

-- a byte that a field shows as it is: ! to ~, but for % and |
abbrev pub plain : ℕ → Bool
plain b = nat_le 33 b && (nat_le b 126 && (not (b == 37) && not (b == 124)))
