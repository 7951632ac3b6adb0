-- The texts of the refusals, written out: the number stands in the text.
use Rattle.std.proofs.Common.{◌≡◌, ℕ, [], ◌∷◌, ◌++◌, ap, ◌∙◌, lit≤}
use Rattle.std.specs.Prelude.{codes, decimal}
use Rattle.std.proofs.lemmas.Fmt.{decimal_digit, decimal_step}
use Rattle.sheet.specs.declared.answers.PutRefusal.TheVariants as put
use Rattle.sheet.specs.declared.answers.ClearRefusal.{ClearRefusal}
use Rattle.sheet.specs.declared.answers.ClearRefusal.TheVariants as clear
use Rattle.sheet.specs.declared.answers.PackRefusal.TheVariants as pack
use Rattle.sheet.specs.Refusals.{put_text, clear_text, pack_text}

ten : decimal 10 ≡ codes "10"
ten = decimal_step 10 (lit≤ tt) (lit≤ tt) ∙ ap (λ ds. ds ++ (48 ∷ [])) (decimal_digit 1 (lit≤ tt))

eleven : decimal 11 ≡ codes "11"
eleven = decimal_step 11 (lit≤ tt) (lit≤ tt) ∙ ap (λ ds. ds ++ (49 ∷ [])) (decimal_digit 1 (lit≤ tt))

twelve : decimal 12 ≡ codes "12"
twelve = decimal_step 12 (lit≤ tt) (lit≤ tt) ∙ ap (λ ds. ds ++ (50 ∷ [])) (decimal_digit 1 (lit≤ tt))

thirteen : decimal 13 ≡ codes "13"
thirteen = decimal_step 13 (lit≤ tt) (lit≤ tt) ∙ ap (λ ds. ds ++ (51 ∷ [])) (decimal_digit 1 (lit≤ tt))

pub put_off_sheet : put_text put.OffSheet ≡ codes "refused 10 (the position is off the sheet)"
put_off_sheet = ap (λ n. codes "refused " ++ (n ++ codes " (the position is off the sheet)")) ten

pub put_full : put_text put.Full ≡ codes "refused 11 (the sheet has no room for another cell)"
put_full = ap (λ n. codes "refused " ++ (n ++ codes " (the sheet has no room for another cell)")) eleven

pub clear_off_sheet : (r : ClearRefusal) → clear_text r ≡ codes "refused 10 (the position is off the sheet)"
clear_off_sheet clear.OffSheet = ap (λ n. codes "refused " ++ (n ++ codes " (the position is off the sheet)")) ten

pub pack_ids : (needed : ℕ) → pack_text (pack.IdRuns needed) ≡ codes "refused 12 " ++ (decimal needed ++ codes " (so many runs of style ids are needed)")
pack_ids needed = ap (λ n. codes "refused " ++ (n ++ (codes " " ++ (decimal needed ++ codes " (so many runs of style ids are needed)")))) twelve

pub pack_kinds : (needed : ℕ) → pack_text (pack.KindRuns needed) ≡ codes "refused 13 " ++ (decimal needed ++ codes " (so many runs of date kinds are needed)")
pack_kinds needed = ap (λ n. codes "refused " ++ (n ++ (codes " " ++ (decimal needed ++ codes " (so many runs of date kinds are needed)")))) thirteen
