-- Whether two date kinds are the same, and their names.
use Rattle.std.specs.Prelude.{◌≡◌, ℕ, Bool, true, false, List, Decides, codes, refl}
use Rattle.std.proofs.Common.{sym, ap}
use Rattle.std.proofs.lemmas.Bool.{true≢false}
use Rattle.formats.specs.declared.CellFormat.{CellFormat}
use Rattle.formats.specs.declared.CellFormat.TheVariants.{Other, DateTime, TimeDelta}

abbrev pub same_kind : CellFormat → CellFormat → Bool
same_kind Other Other = true
same_kind Other DateTime = false
same_kind Other TimeDelta = false
same_kind DateTime Other = false
same_kind DateTime DateTime = true
same_kind DateTime TimeDelta = false
same_kind TimeDelta Other = false
same_kind TimeDelta DateTime = false
same_kind TimeDelta TimeDelta = true

-- it says yes exactly where both are one kind
pub same_kind_decides : (a b : CellFormat) → Decides (same_kind a b) (a ≡ b)
same_kind_decides Other Other = (λ _. refl, λ _. refl)
same_kind_decides Other DateTime = (λ e. absurd (true≢false (sym e)), λ e. sym (ap (same_kind Other) e))
same_kind_decides Other TimeDelta = (λ e. absurd (true≢false (sym e)), λ e. sym (ap (same_kind Other) e))
same_kind_decides DateTime Other = (λ e. absurd (true≢false (sym e)), λ e. sym (ap (same_kind DateTime) e))
same_kind_decides DateTime DateTime = (λ _. refl, λ _. refl)
same_kind_decides DateTime TimeDelta = (λ e. absurd (true≢false (sym e)), λ e. sym (ap (same_kind DateTime) e))
same_kind_decides TimeDelta Other = (λ e. absurd (true≢false (sym e)), λ e. sym (ap (same_kind TimeDelta) e))
same_kind_decides TimeDelta DateTime = (λ e. absurd (true≢false (sym e)), λ e. sym (ap (same_kind TimeDelta) e))
same_kind_decides TimeDelta TimeDelta = (λ _. refl, λ _. refl)

abbrev pub kind_name : CellFormat → List ℕ
kind_name Other = codes "Other"
kind_name DateTime = codes "DateTime"
kind_name TimeDelta = codes "TimeDelta"
