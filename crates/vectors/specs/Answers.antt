-- What is answered to a text that may have a value, and the words of one.
use Rattle.std.specs.Prelude.{◌≡◌, ℕ, ◌-◌, ◌^◌, false, List, [], Some, None, Option, IfSome, Float, string_bytes, codes, to_bits}
use Rattle.std.specs.Float.{binary64}
use Rattle.std.specs.Fmt.{digits, format_spec, padded_integral}
use Rattle.vectors.specs.declared.given.Given.{Given}
use Rattle.vectors.specs.declared.given.Kind.{Kind}
use Rattle.vectors.specs.declared.given.Kind.TheVariants.{Read, ReadWithFormFeed, Refused, Flawed, Unsound}

-- the answer is the value, in the words that it prints as, if its type says which, or that there is none
abbrev pub Says : {T : Type 0} → (T → Option (List ℕ)) → Option T → Given → Type 0
Says output None given = (given.kind ≡ Refused) × (string_bytes given.words ≡ codes "none")
Says output (Some value) given = (given.kind ≡ Read) × IfSome (output value) (λ words. string_bytes given.words ≡ words)

-- the bits of a binary64, as 16 hexadecimal digits
abbrev pub bits_text : Float → List ℕ
bits_text value = padded_integral (format_spec 32 0 4 16 (2 ^ 64 - 1)) false [] (digits 16 false (to_bits binary64 value))

-- what is said beside the words
abbrev pub remark : Kind → List ℕ
remark Read = []
remark ReadWithFormFeed = []
remark Refused = []
remark (Flawed flaw) = []
remark Unsound = codes ", with a wrong place, look-up, number or buffer"
