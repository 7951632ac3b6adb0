-- The references that may stand in an attribute value, by XML 1.0: which characters a document may have (production
-- Char), the five entities that every processor knows (section 4.6), and references to a character by its number
-- (production CharRef). Bytes are numbers; `codes "lt"` are the bytes of that text.
use Rattle.std.specs.Prelude.{◌≡◌, ℕ, ◌⊎◌, List, ◌++◌, codes}
use Rattle.std.specs.Str.Parse.{IsNumeral, digits_value}
use Rattle.std.specs.Int.{IsInRange}

-- the characters that a document may have: tab, line feed, carriage return, and three ranges
abbrev pub Char : ℕ → Type 0
Char c = (c ≡ 0x9) ⊎ ((c ≡ 0xA) ⊎ ((c ≡ 0xD) ⊎ (IsInRange 0x20 0xD7FF c ⊎ (IsInRange 0xE000 0xFFFD c ⊎ IsInRange 0x10000 0x10FFFF c))))

-- the five names, with the characters < > & ' "
pub data Entity : List ℕ → ℕ → Type 0 where
  lt : Entity (codes "lt") 60
  gt : Entity (codes "gt") 62
  amp : Entity (codes "amp") 38
  apos : Entity (codes "apos") 39
  quot : Entity (codes "quot") 34

-- the digits, one or more, are the number of a character that a document may have
pub record Numbered (radix : ℕ) (digits : List ℕ) (c : ℕ) : Type 0 where
  pub numeral : IsNumeral radix digits
  pub number : digits_value radix digits ≡ c
  pub allowed : Char c

-- what may stand between `&` and `;`, and the character that it means
pub data Means : List ℕ → ℕ → Type 0 where
  entity : {name : List ℕ} {c : ℕ} → Entity name c → Means name c
  decimal : {digits : List ℕ} {c : ℕ} → Numbered 10 digits c → Means (codes "#" ++ digits) c
  hexadecimal : {digits : List ℕ} {c : ℕ} → Numbered 16 digits c → Means (codes "#x" ++ digits) c

-- the bytes are a reference to the character c
pub record Reference (piece : List ℕ) (c : ℕ) : Type 0 where
  pub name : List ℕ
  pub written : piece ≡ codes "&" ++ (name ++ codes ";")
  pub means : Means name c

-- the bytes after an `&` begin with what means the character c, and `;`, and `rest` follows
pub record Refers (after : List ℕ) (c : ℕ) (rest : List ℕ) : Type 0 where
  pub name : List ℕ
  pub split : after ≡ name ++ (codes ";" ++ rest)
  pub means : Means name c
