-- What is answered to an attribute text that is refused.
use Rattle.std.proofs.Common.{◌≡◌, ℕ, ◌⊎◌, List, subst, inl, inr}
use Rattle.attrs.specs.Flaws.{FirstFault}
use Rattle.attrs.specs.declared.fault.Fault.{Fault}
use Rattle.attrs.specs.declared.fault.Flaw.{Flaw}
use Rattle.vectors.specs.declared.given.Kind.{Kind}
use Rattle.vectors.specs.declared.given.Kind.TheVariants.{Flawed, Unsound}

-- the flaw that is told is that of the first fault
pub first_flaw : (fault : Fault) (place place' : ℕ) (bytes text : List ℕ) → place ≡ place' → bytes ≡ text → FirstFault place bytes fault
    → (kind : Kind) → (kind ≡ Flawed fault.flaw) ⊎ (kind ≡ Unsound) → (flaw : Flaw) → kind ≡ Flawed flaw → (at : ℕ) × FirstFault place' text (record { flaw = flaw; place = at })
first_flaw fault place place' bytes text at is first kind (inl flawed) flaw told =
    let moved : FirstFault place' text fault = subst (λ p. FirstFault p text fault) at (subst (λ b. FirstFault place b fault) is first) in
    let same : fault.flaw ≡ flaw = cc in
    (fault.place, subst (λ f. FirstFault place' text (record { flaw = f; place = fault.place })) same moved)
first_flaw fault place place' bytes text at is first kind (inr unsound) flaw told =
    let apart : Flawed flaw ≡ Unsound = cc in absurd (cc)
