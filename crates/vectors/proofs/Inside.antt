-- A text inside a larger one is decoded as it would be by itself.
use Rattle.std.proofs.Common.{◌≡◌, ℕ, ◌+◌, ◌≤◌, List, ◌++◌, length, Ok, Err, codes, Result, subst, arith}
use Rattle.std.proofs.Math.Seq.{take-append_seam}
use Rattle.std.proofs.lemmas.List.{length-append}
use Rattle.references.specs.Answers.{Decoded, Sized, Undecodable, Written, part}
use Rattle.references.specs.declared.refusals.DecodeRefusal.{DecodeRefusal}
use Rattle.references.specs.declared.refusals.DecodeRefusal.TheVariants.{Malformed, TooShort}
use Rattle.vectors.specs.Texts.{DecodedText}

part_is : (text : List ℕ) → part (codes "<a " ++ (text ++ codes "/>")) 3 (length text) ≡ text
part_is text = take-append_seam text (codes "/>")

within : (text : List ℕ) → 3 + length text ≤ length (codes "<a " ++ (text ++ codes "/>"))
within text = simp length-append (omega arith)

pub decoded_text : (text memory : List ℕ) (r : Result ℕ DecodeRefusal) (memory' : List ℕ)
    → Decoded (codes "<a " ++ (text ++ codes "/>")) 3 (length text) memory r memory' → DecodedText text memory r memory'
decoded_text text memory (Ok n) memory' d = subst (λ t. Written t memory memory' n) (part_is text) d.1
decoded_text text memory (Err Malformed) memory' d = (subst Undecodable (part_is text) (d.0 (within text)), d.1)
decoded_text text memory (Err (TooShort needed)) memory' d = (subst (λ t. Sized t needed) (part_is text) d.1, d.2, d.3)
