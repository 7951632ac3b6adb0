-- The digits at the front of a text, one more read at a time; and a text that is nothing but digits.
use Rattle.std.proofs.Common.{◌≡◌, ℕ, ◌+◌, ◌-◌, ◌*◌, ◌^◌, ◌<◌, ◌≤◌, Bool, true, false, cond, not, ◌&&◌, eqb, ltb, List, [], ◌∷◌, length, get_or, Some, None, Option, sym, refl, ap, ◌∙◌, subst, inl, inr, le_trans, le_refl, arith}
use Rattle.std.specs.Char.{is_ascii_digit}
use Rattle.std.specs.Bool.{then_some}
use Rattle.std.specs.Str.{all_ascii_digits}
use Rattle.std.proofs.lemmas.Bool.{eqb-true, eqb-false, lt-ltb, le-ltb, cond-true, cond-false, cases_lt, cases_eq, cases_Bool, and_parts, true≢false}
use Rattle.numbers.specs.Cuts.{before_first, from_first}
use Rattle.numbers.specs.Numerals.{value_after, below, whole_number}
use Rattle.numbers.specs.Fronts.{no_digit, front}

-- ---- the front, from its first byte

-- the front, where the test of the first byte has come out as b
unfoldable by_test : ℕ → ℕ → List ℕ → Bool → Option (ℕ × List ℕ)
by_test n c cs b =
    cond (ltb (value_after n (cond (not b) [] (c ∷ before_first no_digit cs))) (2 ^ 64))
    (Some (value_after n (cond (not b) [] (c ∷ before_first no_digit cs)), cond (not b) (c ∷ cs) (from_first no_digit cs))) None

pub front_digit : (n c : ℕ) (cs : List ℕ) → is_ascii_digit c ≡ true → front n (c ∷ cs) ≡ front (n * 10 + (c - 48)) cs
unfolding by_test
front_digit n c cs h = ap (by_test n c cs) h

pub value_after_ge : (n : ℕ) (ds : List ℕ) → n ≤ value_after n ds
value_after_ge n [] = le_refl n
value_after_ge n (c ∷ cs) = le_trans (omega arith) (value_after_ge (n * 10 + (c - 48)) cs)

pub front_over : (n : ℕ) (text : List ℕ) → 2 ^ 64 ≤ n → front n text ≡ None
front_over n text h = cond-false _ _ _ (le-ltb _ (2 ^ 64) (le_trans h (value_after_ge n (before_first no_digit text))))

-- ---- a number below a limit

pub below_none : (limit n : ℕ) → None ≡ below limit n → limit ≤ n
below_none limit n e =
    elim (cases_lt n limit) [
      | inl l ↦ absurd (let h = e ∙ cond-true _ _ _ (lt-ltb n limit l) in let z : ◌≡◌ {A = ℕ} 0 1 = cc in omega arith)
      | inr l ↦ l
    ]

-- one more digit at the front, with which the number is too large
pub front_large : (n : ℕ) (text : List ℕ) → 0 < length text → is_ascii_digit (get_or text 0 0) ≡ true → None ≡ below (2 ^ 64) (n * 10 + (get_or text 0 0 - 48)) → None ≡ front n text
front_large n [] some d e = absurd (omega arith)
front_large n (c ∷ cs) some d e = sym (front_digit n c cs d ∙ front_over (n * 10 + (c - 48)) cs (below_none (2 ^ 64) (n * 10 + (c - 48)) e))

-- ---- a text that is nothing but digits

-- all digits: nothing follows the digits at the front
pub all_front : (text : List ℕ) → all_ascii_digits text ≡ true → (before_first no_digit text ≡ text) × (from_first no_digit text ≡ [])
all_front [] h = (refl, refl)
all_front (c ∷ cs) h =
    let p = and_parts (is_ascii_digit c) (all_ascii_digits cs) h in
    let r = all_front cs p.1 in (
      ap (λ (b : Bool). cond (not b) [] (c ∷ before_first no_digit cs)) p.0 ∙ ap (λ (t : List ℕ). c ∷ t) r.0,
      ap (λ (b : Bool). cond (not b) (c ∷ cs) (from_first no_digit cs)) p.0 ∙ r.1,
    )

-- not all digits: something follows them
pub some_front : (text : List ℕ) → all_ascii_digits text ≡ false → 0 < length (from_first no_digit text)
some_front [] h = absurd (true≢false h)
some_front (c ∷ cs) h =
    let P : Bool → Type 0 = λ (b : Bool). 0 < length (cond (not b) (c ∷ cs) (from_first no_digit cs)) in
    elim (cases_Bool (is_ascii_digit c)) [
      | inl d ↦ subst P (sym d) (some_front cs (sym (ap (λ (b : Bool). b && all_ascii_digits cs) d) ∙ h))
      | inr d ↦ subst P (sym d) (omega arith)
    ]

-- a text whose digits are followed by something is no numeral
pub followed : (limit : ℕ) (text : List ℕ) → 0 < length (from_first no_digit text) → None ≡ whole_number limit text
followed limit [] h = refl
followed limit (c ∷ cs) h =
    elim (cases_Bool (all_ascii_digits (c ∷ cs))) [
      | inl d ↦ absurd (let e = ap length (all_front (c ∷ cs) d).1 in omega arith)
      | inr d ↦ sym (cond-false _ _ _ d)
    ]

-- a text whose digits are followed by nothing is all digits
pub not_followed : (text : List ℕ) → length (from_first no_digit text) ≡ 0 → all_ascii_digits text ≡ true
not_followed text h =
    elim (cases_Bool (all_ascii_digits text)) [
      | inl d ↦ d
      | inr d ↦ absurd (let e = some_front text d in omega arith)
    ]

-- what a text says, from its front
pub numeral_is : (limit : ℕ) (text : List ℕ) → 0 < length text → length (from_first no_digit text) ≡ 0 → below limit (value_after 0 (before_first no_digit text)) ≡ whole_number limit text
numeral_is limit [] p h = absurd (omega arith)
numeral_is limit (c ∷ cs) p h =
    let d = not_followed (c ∷ cs) h in
    ap (λ (t : List ℕ). below limit (value_after 0 t)) (all_front (c ∷ cs) d).0 ∙ sym (cond-true _ _ _ d)

-- the parts of a front that is there, and the size of one that is not
pub front_some : (n : ℕ) (text : List ℕ) (p : ℕ × List ℕ) → Some p ≡ front n text → (p.0 ≡ value_after n (before_first no_digit text)) × (p.1 ≡ from_first no_digit text) × (value_after n (before_first no_digit text) < 2 ^ 64)
front_some n text p e =
    elim (cases_lt (value_after n (before_first no_digit text)) (2 ^ 64)) [
      | inl l ↦ let h = e ∙ cond-true _ _ _ (lt-ltb _ _ l) in (cc, cc, l)
      | inr l ↦ absurd (let h = e ∙ cond-false _ _ _ (le-ltb _ _ l) in let z : ◌≡◌ {A = ℕ} 0 1 = cc in omega arith)
    ]

pub front_none : (n : ℕ) (text : List ℕ) → None ≡ front n text → 2 ^ 64 ≤ value_after n (before_first no_digit text)
front_none n text e =
    elim (cases_lt (value_after n (before_first no_digit text)) (2 ^ 64)) [
      | inl l ↦ absurd (let h = e ∙ cond-true _ _ _ (lt-ltb _ _ l) in let z : ◌≡◌ {A = ℕ} 0 1 = cc in omega arith)
      | inr l ↦ l
    ]

-- too large a number at the front is too large for the whole text
pub front_too_large : (text : List ℕ) → None ≡ front 0 text → None ≡ whole_number (2 ^ 64) text
front_too_large [] e = refl
front_too_large (c ∷ cs) e =
    elim (cases_lt 0 (length (from_first no_digit (c ∷ cs)))) [
      | inl l ↦ followed (2 ^ 64) (c ∷ cs) l
      | inr l ↦
          let h = numeral_is (2 ^ 64) (c ∷ cs) (omega arith) (omega arith) in
          sym (cond-false _ _ _ (le-ltb _ _ (front_none 0 (c ∷ cs) e))) ∙ h
    ]

pub empty_none : (limit : ℕ) (text : List ℕ) → length text ≡ 0 → None ≡ whole_number limit text
empty_none limit [] h = refl
empty_none limit (c ∷ cs) h = absurd (omega arith)

pub followed_none : (limit n : ℕ) (text : List ℕ) (p : ℕ × List ℕ) → Some p ≡ front n text → (length p.1 ≡ 0 → ⊥) → None ≡ whole_number limit text
followed_none limit n text p e h =
    let s = front_some n text p e in
    let l : length p.1 ≡ length (from_first no_digit text) = ap length s.1 in
    elim (cases_eq (length p.1) 0) [ inl z ↦ absurd (h z) | inr z ↦ followed limit text (omega (arith, pos_of (length p.1) z)) ]
  where
    pos_of : (k : ℕ) → (k ≡ 0 → ⊥) → 0 < k
    pos_of k z = elim (cases_lt 0 k) [ inl l ↦ l | inr l ↦ absurd (z (omega arith)) ]

pub front_is_all : (text : List ℕ) (p : ℕ × List ℕ) → Some p ≡ front 0 text → (length text ≡ 0 → ⊥) → length p.1 ≡ 0 → Some p.0 ≡ whole_number (2 ^ 64) text
front_is_all [] p e h z = absurd (h refl)
front_is_all (c ∷ cs) p e h z =
    let s = front_some 0 (c ∷ cs) p e in
    let l : length p.1 ≡ length (from_first no_digit (c ∷ cs)) = ap length s.1 in
    ap (λ (n : ℕ). Some n) s.0 ∙ sym (cond-true _ _ _ (lt-ltb _ _ s.2)) ∙ numeral_is (2 ^ 64) (c ∷ cs) (omega arith) (omega arith)

-- what a text says, from its front: the number there, if nothing follows it
pub whole_from_front : (text : List ℕ) (p : ℕ × List ℕ) → Some p ≡ front 0 text → (length text ≡ 0 → ⊥) → then_some (eqb (length p.1) 0) p.0 ≡ whole_number (2 ^ 64) text
whole_from_front text p e some =
    elim (cases_Bool (eqb (length p.1) 0)) [
      | inl t ↦ ap (λ (b : Bool). then_some b p.0) t ∙ front_is_all text p e some (eqb-true (length p.1) 0 t)
      | inr f ↦ ap (λ (b : Bool). then_some b p.0) f ∙ followed_none (2 ^ 64) 0 text p e (eqb-false (length p.1) 0 f)
    ]
