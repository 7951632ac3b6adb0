-- What decoding a whole text into a buffer comes to.
use Rattle.std.specs.Prelude.{◌≡◌, ℕ, ◌<◌, List, length, Ok, Err, Result}
use Rattle.references.specs.Answers.{Sized, Undecodable, Written}
use Rattle.references.specs.declared.refusals.DecodeRefusal.{DecodeRefusal}
use Rattle.references.specs.declared.refusals.DecodeRefusal.TheVariants.{Malformed, TooShort}

abbrev pub DecodedText : List ℕ → List ℕ → Result ℕ DecodeRefusal → List ℕ → Type 0
DecodedText text memory (Ok n) memory' = Written text memory memory' n
DecodedText text memory (Err Malformed) memory' = Undecodable text × (memory' ≡ memory)
DecodedText text memory (Err (TooShort needed)) memory' = Sized text needed × (length memory < needed) × (memory' ≡ memory)
