-- A field that is read byte by byte.
use Rattle.std.proofs.Common.{◌≡◌, ℕ, ◌<◌, Bool, true, false, List, [], ◌∷◌, ◌++◌, length, Option, MatchOption, sym, refl, ap, subst, inl, inr, ⊎_elim, arith}
use Rattle.std.specs.Bool.{then_some}
use Rattle.std.proofs.lemmas.List.{append-nil, append_assoc}
use Rattle.vectors.specs.Fields.{Begins, Itself, Escaped, Spells}

-- what is left after a byte is shorter
pub falls : (field : List ℕ) (byte : ℕ) (rest : List ℕ) → Begins field byte rest → length rest < length field
falls field byte rest begins =
    ⊎_elim
    (λ (i : Itself field byte rest). let e : length field ≡ length (byte ∷ rest) = ap length i.spelt in omega (arith, e))
    (λ (e : Escaped field byte rest). let s : length field ≡ length (37 ∷ (e.high ∷ (e.low ∷ rest))) = ap length e.spelt in omega (arith, s))
    begins

-- the bytes so far, with those of whatever is left, are all of the field
abbrev pub Passed : List ℕ → List ℕ → List ℕ → Type 0
Passed field bytes rest = (more : List ℕ) → Spells rest more → Spells field (bytes ++ more)

pub passed_more : (field bytes bytes' rest after : List ℕ) (byte : ℕ) → bytes' ≡ bytes ++ byte ∷ [] → Passed field bytes rest → Begins rest byte after → Passed field bytes' after
passed_more field bytes bytes' rest after byte longer passed begins more spells =
    subst (λ bs. Spells field (bs ++ more)) (sym longer)
    (subst (Spells field) (sym (append_assoc bytes (byte ∷ []) more)) (passed (byte ∷ more) (after, begins, spells)))

pub passed_all : (field bytes rest : List ℕ) → length rest ≡ 0 → Passed field bytes rest → Spells field bytes
passed_all field bytes [] none passed = subst (Spells field) (append-nil bytes) (passed [] refl)
passed_all field bytes (b ∷ rest) none passed = absurd (omega arith)

-- what a field begins with is determined
begins_one : {field : List ℕ} {b d : ℕ} {rest tail : List ℕ} → Begins field b rest → Begins field d tail → (b ≡ d) × (rest ≡ tail)
begins_one (inl i) (inl j) = ((cc), (cc))
begins_one (inl i) (inr e) = absurd (i.plain (cc))
begins_one (inr e) (inl i) = absurd (i.plain (cc))
begins_one (inr e) (inr f) = ((cc), (cc))

-- whatever the field spells, the rest spells the end of it
abbrev pub Left : List ℕ → List ℕ → Type 0
Left field rest = (text : List ℕ) → Spells field text → (more : List ℕ) × Spells rest more

next_left : (rest after : List ℕ) (byte : ℕ) → Begins rest byte after → (more : List ℕ) → Spells rest more → (end : List ℕ) × Spells after end
next_left rest after byte begins [] none = absurd (omega (arith, ap length none, falls rest byte after begins))
next_left rest after byte begins (b ∷ bs) spells = (bs, subst (λ r. Spells r bs) (begins_one spells.1 begins).1 spells.2)

pub left_more : (field rest after : List ℕ) (byte : ℕ) → Begins rest byte after → Left field rest → Left field after
left_more field rest after byte begins left text spells = next_left rest after byte begins (left text spells).0 (left text spells).1

-- what begins with nothing spells nothing
pub none_left : (rest : List ℕ) → (length rest ≡ 0 → ⊥) → ((byte : ℕ) (after : List ℕ) → Begins rest byte after → ⊥) → (more : List ℕ) → Spells rest more → ⊥
none_left rest some none [] end = some (ap length end)
none_left rest some none (b ∷ bs) spells = none b spells.0 spells.1

-- what holds by a test
pub by_test : {X : Type 0} {N : Type 0} (P : X → Type 0) (x : X) (o : Option X) (b : Bool) → o ≡ then_some b x → (b ≡ true → P x) → (b ≡ false → N) → MatchOption o N P
by_test {X} {N} P x o true is some none = subst (λ o. MatchOption o N P) (sym is) (some refl)
by_test {X} {N} P x o false is some none = subst (λ o. MatchOption o N P) (sym is) (none refl)
