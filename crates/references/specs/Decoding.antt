-- Decoding the raw text of an attribute value: the text is a row of pieces, each the UTF-8 of a character or a
-- reference to one (XML 1.0, production AttValue), and it decodes into the characters that the pieces stand for. Wider than
-- in XML, every character but & may stand for itself, < and control characters too.
use Rattle.std.specs.Prelude.{◌≡◌, ℕ, true, ◌⊎◌, List, [], ◌∷◌, ◌++◌, IsUtf8}
use Rattle.std.proofs.Math.Utf8.{encode, encodes, scalar}
use Rattle.references.specs.Xml.{Reference}

-- the bytes are the character c itself, which is not `&`
pub record Itself (piece : List ℕ) (c : ℕ) : Type 0 where
  pub scalar_value : scalar c ≡ true
  pub plain : c ≡ 38 → ⊥
  pub encoded : piece ≡ encode c

-- the bytes stand for the character c
abbrev pub Piece : List ℕ → ℕ → Type 0
Piece piece c = Itself piece c ⊎ Reference piece c

-- the raw bytes begin with a piece for the character c, and `rest` follows
pub record Begins (raw : List ℕ) (c : ℕ) (rest : List ℕ) : Type 0 where
  pub piece : List ℕ
  pub split : raw ≡ piece ++ rest
  pub stands : Piece piece c

-- the raw bytes begin with pieces for the characters, one after the other, and `rest` follows
abbrev pub Reads : List ℕ → List ℕ → List ℕ → Type 0
Reads raw [] rest = raw ≡ rest
Reads raw (c ∷ cs) rest = (after : List ℕ) × Begins raw c after × Reads after cs rest

-- the raw bytes are pieces for the characters, one after the other
abbrev pub Decodes : List ℕ → List ℕ → Type 0
Decodes raw cs = Reads raw cs []

-- no piece stands at the front
abbrev pub NoPiece : List ℕ → Type 0
NoPiece raw = (c : ℕ) (rest : List ℕ) → Begins raw c rest → ⊥

-- What holds of every raw text: one piece at most stands at its front, it decodes in one way at most, and where it does, it
-- and the decoded bytes are UTF-8.
pub record Laws : Type 0 where
  pub one_piece : (raw : List ℕ) (c d : ℕ) (rest tail : List ℕ) → Begins raw c rest → Begins raw d tail → (c ≡ d) × (rest ≡ tail)
  pub one_way : (raw cs ds : List ℕ) → Decodes raw cs → Decodes raw ds → cs ≡ ds
  pub raw_text : (raw cs : List ℕ) → Decodes raw cs → IsUtf8 raw
  pub decoded_text : (raw cs : List ℕ) → Decodes raw cs → IsUtf8 (encodes cs)
