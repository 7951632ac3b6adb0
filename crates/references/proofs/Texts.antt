-- The texts of the refusals, written out: the number stands in the text.
use Rattle.std.proofs.Common.{◌≡◌, ℕ, [], ◌∷◌, ◌++◌, ap, ◌∙◌, lit≤}
use Rattle.std.specs.Prelude.{codes, decimal}
use Rattle.std.proofs.lemmas.Fmt.{decimal_digit, decimal_step}
use Rattle.references.specs.declared.refusals.Malformed.{Malformed}
use Rattle.references.specs.declared.refusals.DecodeRefusal.TheVariants as refusals
use Rattle.references.specs.Answers.{malformed_text, decode_text}

eight : decimal 8 ≡ codes "8"
eight = decimal_digit 8 (lit≤ tt)

fourteen : decimal 14 ≡ codes "14"
fourteen = decimal_step 14 (lit≤ tt) (lit≤ tt) ∙ ap (λ ds. ds ++ (52 ∷ [])) (decimal_digit 1 (lit≤ tt))

pub malformed : (m : Malformed) → malformed_text m ≡ codes "refused 8 (not UTF-8, or an & that begins no reference)"
malformed m = ap (λ n. codes "refused " ++ (n ++ codes " (not UTF-8, or an & that begins no reference)")) eight

pub decode_malformed : decode_text refusals.Malformed ≡ codes "refused 8 (outside the text, not UTF-8, or an & that begins no reference)"
decode_malformed = ap (λ n. codes "refused " ++ (n ++ codes " (outside the text, not UTF-8, or an & that begins no reference)")) eight

pub too_short : (needed : ℕ) → decode_text (refusals.TooShort needed) ≡ codes "refused 14 " ++ (decimal needed ++ codes " (so many bytes are needed)")
too_short needed = ap (λ n. codes "refused " ++ (n ++ (codes " " ++ (decimal needed ++ codes " (so many bytes are needed)")))) fourteen
