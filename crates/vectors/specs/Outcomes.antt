-- What may be said of an answer: an outcome that is no disagreement says what was answered, and what was expected.
use Rattle.std.specs.Prelude.{◌≡◌, ℕ, ◌⊎◌, List, ◌++◌, string_bytes, codes, decimal}
use Rattle.attrs.specs.Refusals.{flaw_number}
use Rattle.attrs.specs.declared.fault.Flaw.{Flaw}
use Rattle.vectors.specs.Fronts.{Starts}
use Rattle.vectors.specs.declared.given.Given.{Given}
use Rattle.vectors.specs.declared.given.Kind.{Kind}
use Rattle.vectors.specs.declared.given.Kind.TheVariants.{Read, ReadWithFormFeed, Refused, Flawed}
use Rattle.vectors.specs.declared.outcome.Outcome.{Outcome}
use Rattle.vectors.specs.declared.outcome.Outcome.TheVariants.{Same, SameButFormFeeds, BothRefuse, Departs, Differs}

-- an attribute text was refused for the flaw: expected was error|NUMBER, or |NUMBER| and items
abbrev pub JustifiedRefusal : Flaw → List ℕ → Outcome → Type 0
JustifiedRefusal flaw expected Same = ⊥
JustifiedRefusal flaw expected SameButFormFeeds = ⊥
JustifiedRefusal flaw expected BothRefuse = expected ≡ codes "error|" ++ decimal (flaw_number flaw)
JustifiedRefusal flaw expected (Departs f) = (f ≡ flaw) × Starts expected (codes "|" ++ (decimal (flaw_number flaw) ++ codes "|"))
JustifiedRefusal flaw expected Differs =
    (expected ≡ codes "error|" ++ decimal (flaw_number flaw) → ⊥) × (Starts expected (codes "|" ++ (decimal (flaw_number flaw) ++ codes "|")) → ⊥)

-- the answer is of that kind, so that all that was tried beside it was right, and in the words that were expected
abbrev pub As : Given → List ℕ → Kind → Type 0
As given expected kind = (given.kind ≡ kind) × (string_bytes given.words ≡ expected)

-- an attribute text was refused for some flaw, soundly, and as expected
abbrev pub AsRefusal : Given → List ℕ → Outcome → Type 0
AsRefusal given expected outcome = (flaw : Flaw) × (given.kind ≡ Flawed flaw) × JustifiedRefusal flaw expected outcome

abbrev pub Justified : Given → List ℕ → Outcome → Type 0
Justified given expected Same = As given expected Read
Justified given expected SameButFormFeeds = As given expected ReadWithFormFeed
Justified given expected BothRefuse = As given expected Refused ⊎ AsRefusal given expected BothRefuse
Justified given expected (Departs f) = AsRefusal given expected (Departs f)
Justified given expected Differs =
    (As given expected Read → ⊥) × (As given expected ReadWithFormFeed → ⊥) × (As given expected Refused → ⊥)
    × ((flaw : Flaw) → given.kind ≡ Flawed flaw → JustifiedRefusal flaw expected Differs)
