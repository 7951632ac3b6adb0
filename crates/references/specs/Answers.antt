-- What the calls of this crate answer: the next character of a raw text, whether a text decodes, and the decoded bytes
-- in a buffer; with the numbers of the refusals and the words that a person reads.
use Rattle.std.specs.Prelude.{◌≡◌, ℕ, ◌+◌, ◌<◌, ◌≤◌, List, [], ◌++◌, length, take, drop, Some, None, Ok, Err, codes, decimal, Option, Result}
use Rattle.std.proofs.Math.Utf8.{encode, encodes}
use Rattle.references.specs.declared.refusals.Malformed.{Malformed}
use Rattle.references.specs.declared.refusals.DecodeRefusal.{DecodeRefusal}
use Rattle.references.specs.declared.refusals.DecodeRefusal.TheVariants as refusal
use Rattle.references.specs.Decoding.{Begins, NoPiece, Decodes}

-- a step over one character; from that it follows that its bytes and what is left are no more than what was there
pub record Step (rest : List ℕ) (c : ℕ) (rest' : List ℕ) : Type 0 where
  pub begins : Begins rest c rest'
  pub room : length (encode c) + length rest' ≤ length rest
  pub falls : length rest' < length rest

-- the next character of `rest`, with `rest'` left: none at the end; refused, and nothing moves, where no piece stands
abbrev pub Next : List ℕ → Result (Option ℕ) Malformed → List ℕ → Type 0
Next rest (Ok None) rest' = (rest ≡ []) × (rest' ≡ [])
Next rest (Ok (Some c)) rest' = Step rest c rest'
Next rest (Err e) rest' = (0 < length rest) × NoPiece rest × (rest' ≡ rest)

-- no characters are those of the raw bytes
abbrev pub Undecodable : List ℕ → Type 0
Undecodable raw = (cs : List ℕ) → Decodes raw cs → ⊥

-- the raw bytes decode into n bytes
pub record Sized (raw : List ℕ) (n : ℕ) : Type 0 where
  pub characters : List ℕ
  pub decodes : Decodes raw characters
  pub size : n ≡ length (encodes characters)

-- the raw bytes decode, and the decoded bytes are over the front of the memory, whose rest is as before
pub record Written (raw memory memory' : List ℕ) (n : ℕ) : Type 0 where
  pub characters : List ℕ
  pub decodes : Decodes raw characters
  pub size : n ≡ length (encodes characters)
  pub fits : n ≤ length memory
  pub after : memory' ≡ encodes characters ++ drop n memory

-- so many bytes from that place on lie within the text
abbrev pub Within : List ℕ → ℕ → ℕ → Type 0
Within text place size = place + size ≤ length text

-- those bytes
abbrev pub part : List ℕ → ℕ → ℕ → List ℕ
part text place size = take size (drop place text)

-- decoding a part of the text into the memory
abbrev pub Decoded : List ℕ → ℕ → ℕ → List ℕ → Result ℕ DecodeRefusal → List ℕ → Type 0
Decoded text place size memory (Ok n) memory' = Within text place size × Written (part text place size) memory memory' n
Decoded text place size memory (Err refusal.Malformed) memory' =
    (Within text place size → Undecodable (part text place size)) × (memory' ≡ memory)
Decoded text place size memory (Err (refusal.TooShort needed)) memory' =
    Within text place size × Sized (part text place size) needed × (length memory < needed) × (memory' ≡ memory)

abbrev pub malformed_number : Malformed → ℕ
malformed_number m = 8

abbrev pub decode_number : DecodeRefusal → ℕ
decode_number refusal.Malformed = 8
decode_number (refusal.TooShort needed) = 14

abbrev pub malformed_text : Malformed → List ℕ
malformed_text m = codes "refused " ++ (decimal (malformed_number m) ++ codes " (not UTF-8, or an & that begins no reference)")

-- what a refusal carries, and what was wrong
abbrev pub decode_reason : DecodeRefusal → List ℕ
decode_reason refusal.Malformed = codes " (outside the text, not UTF-8, or an & that begins no reference)"
decode_reason (refusal.TooShort needed) = codes " " ++ (decimal needed ++ codes " (so many bytes are needed)")

abbrev pub decode_text : DecodeRefusal → List ℕ
decode_text r = codes "refused " ++ (decimal (decode_number r) ++ decode_reason r)
