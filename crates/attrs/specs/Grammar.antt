-- The grammar of attribute text, after XML 1.0: items of a key, an equals sign and a quoted value, with white space before
-- each item and around its equals sign. It is wider than that of XML in what a key and a value may hold. A place counts bytes of
-- the whole text, of which attribute text is a part.
use Rattle.std.specs.Prelude.{◌≡◌, ℕ, ◌+◌, ◌<◌, true, not, ◌⊎◌, List, [], ◌∷◌, ◌++◌, length}
use Rattle.attrs.specs.Bytes.{white, quote, key_byte, except, All, Begins}

-- an item: its key, its value without the quotes, and where each of the two begins
pub record Attribute : Type 0 where
  pub key : List ℕ
  pub value : List ℕ
  pub key_place : ℕ
  pub value_place : ℕ

-- The bytes are a key, perhaps white space, = and then `after`. A key is not empty.
pub record Keyed (bytes key after : List ℕ) : Type 0 where
  pub gap : List ℕ
  pub some : 0 < length key
  pub key_bytes : All key_byte key
  pub white_gap : All white gap
  pub spelt : bytes ≡ key ++ (gap ++ (61 ∷ after))

-- The bytes are perhaps white space, a quote, a value without that quote, the same quote and then `rest`.
pub record Quoted (bytes value rest : List ℕ) : Type 0 where
  pub gap : List ℕ
  pub mark : ℕ
  pub white_gap : All white gap
  pub is_quote : quote mark ≡ true
  pub inside : All (except mark) value
  pub spelt : bytes ≡ gap ++ (mark ∷ (value ++ (mark ∷ rest)))

-- after a value stands white space or nothing
abbrev pub Apart : List ℕ → Type 0
Apart [] = Unit {0}
Apart (b ∷ bs) = white b ≡ true

-- The bytes begin with white space, or with none, and then `body`, whose first byte is no white space.
pub record Indented (bytes space body : List ℕ) : Type 0 where
  pub white_space : All white space
  pub spelt : bytes ≡ space ++ body
  pub dark : Begins (λ b. not (white b)) body

-- The first thing in the bytes, at that place, is the item, and `rest` follows it. Its key begins after the white space, and its
-- value after the key, white space, =, white space and a quote.
pub record First (place : ℕ) (bytes : List ℕ) (item : Attribute) (rest : List ℕ) : Type 0 where
  pub space : List ℕ
  pub body : List ℕ
  pub after : List ℕ
  pub indented : Indented bytes space body
  pub keyed : Keyed body item.key after
  pub quoted : Quoted after item.value rest
  pub apart : Apart rest
  pub key_at : item.key_place ≡ place + length space
  pub value_at : item.value_place ≡ item.key_place + length item.key + length keyed.gap + 1 + length quoted.gap + 1

-- where an item ends: past its closing quote
abbrev pub past : Attribute → ℕ
past i = i.value_place + length i.value + 1

-- The items stand at the front of the bytes, one after the other, and leave `rest`, which begins at the place `end`.
abbrev pub Front : ℕ → List ℕ → List Attribute → ℕ → List ℕ → Type 0
Front place bytes [] end rest = (place ≡ end) × (bytes ≡ rest)
Front place bytes (i ∷ is) end rest = (next : List ℕ) × First place bytes i next × Front (past i) next is end rest

-- one of the items has the key
abbrev pub Has : List ℕ → List Attribute → Type 0
Has key [] = ⊥
Has key (i ∷ is) = (i.key ≡ key) ⊎ Has key is

-- no key stands twice
abbrev pub Distinct : List Attribute → Type 0
Distinct [] = Unit {0}
Distinct (i ∷ is) = (Has i.key is → ⊥) × Distinct is

-- Well-formed attribute text, with its items: they are all that there is but for white space, and no key stands twice.
pub record WellFormed (place : ℕ) (bytes : List ℕ) (items : List Attribute) : Type 0 where
  pub end : ℕ
  pub rest : List ℕ
  pub front : Front place bytes items end rest
  pub blank : All white rest
  pub distinct : Distinct items
