-- The parts of a decimal's text, from the digits at its front, a point, the digits after that, and what is left.
use Rattle.std.proofs.Common.{◌≡◌, ℕ, Bool, true, false, cond, not, ◌&&◌, eqb, leb, List, [], ◌∷◌, ◌++◌, length, drop, ℤ, None, Option, sym, refl, ap, ◌∙◌, inl, inr, append_assoc, append-nil, arith}
use Rattle.std.specs.Char.{is_ascii_digit}
use Rattle.std.specs.Str.{all_ascii_digits}
use Rattle.std.specs.Option.{option_map}
use Rattle.std.proofs.lemmas.Bool.{leb-true, eqb-true, ne_eqb, or_from, or_cases, and_parts, cond-false, cases_Bool}
use Rattle.numbers.specs.Cuts.{before_first, from_first, begins, without}
use Rattle.numbers.specs.Numerals.{numeral}
use Rattle.numbers.specs.Decimals.{is_point, is_mark, is_sign, mantissa, exponent_part, whole_part, fraction, exponent, Form, form, form_of}
use Rattle.numbers.specs.Fronts.{no_digit}

-- ---- bytes

digit_plain : (c : ℕ) → is_ascii_digit c ≡ true → (is_mark c ≡ false) × (is_point c ≡ false)
digit_plain c h =
    let p = and_parts (leb 48 c) (leb c 57) h in
    let l = leb-true 48 c p.0 in
    let m = leb-true c 57 p.1 in
    (or_from (eqb c 101) (eqb c 69) (ne_eqb c 101 (λ e. omega arith)) (ne_eqb c 69 (λ e. omega arith)), ne_eqb c 46 (λ e. omega arith))

mark_plain : (c : ℕ) → is_mark c ≡ true → is_point c ≡ false
mark_plain c h =
    elim (or_cases (eqb c 101) (eqb c 69) h) [
      | inl e ↦ ne_eqb c 46 (λ p. let z = eqb-true c 101 e in omega arith)
      | inr e ↦ ne_eqb c 46 (λ p. let z = eqb-true c 69 e in omega arith)
    ]

-- ---- a text as the digits at its front and what follows them

pub split : (u : List ℕ) → before_first no_digit u ++ from_first no_digit u ≡ u
split [] = refl
split (c ∷ cs) =
    elim (cases_Bool (is_ascii_digit c)) [
      | inl d ↦ (λ i. cond (not (d i)) [] (c ∷ before_first no_digit cs) ++ cond (not (d i)) (c ∷ cs) (from_first no_digit cs)) ∙ ap (λ (t : List ℕ). c ∷ t) (split cs)
      | inr d ↦ (λ i. cond (not (d i)) [] (c ∷ before_first no_digit cs) ++ cond (not (d i)) (c ∷ cs) (from_first no_digit cs))
    ]

pub front_digits : (u : List ℕ) → all_ascii_digits (before_first no_digit u) ≡ true
front_digits [] = refl
front_digits (c ∷ cs) =
    elim (cases_Bool (is_ascii_digit c)) [
      | inl d ↦ ap (λ (b : Bool). all_ascii_digits (cond (not b) [] (c ∷ before_first no_digit cs))) d ∙ ap (λ (b : Bool). b && all_ascii_digits (before_first no_digit cs)) d ∙ front_digits cs
      | inr d ↦ ap (λ (b : Bool). all_ascii_digits (cond (not b) [] (c ∷ before_first no_digit cs))) d
    ]

pub rest_plain : (u : List ℕ) → begins is_ascii_digit (from_first no_digit u) ≡ false
rest_plain [] = refl
rest_plain (c ∷ cs) =
    elim (cases_Bool (is_ascii_digit c)) [
      | inl d ↦ ap (λ (b : Bool). begins is_ascii_digit (cond (not b) (c ∷ cs) (from_first no_digit cs))) d ∙ rest_plain cs
      | inr d ↦ ap (λ (b : Bool). begins is_ascii_digit (cond (not b) (c ∷ cs) (from_first no_digit cs))) d ∙ d
    ]

-- ---- a cut past digits, none of which passes the test

module _ (test : ℕ → Bool) (plain : (c : ℕ) → is_ascii_digit c ≡ true → test c ≡ false) where
  before_past : (ds r : List ℕ) → all_ascii_digits ds ≡ true → before_first test (ds ++ r) ≡ ds ++ before_first test r
  before_past [] r h = refl
  before_past (c ∷ cs) r h =
      let p = and_parts (is_ascii_digit c) (all_ascii_digits cs) h in
      cond-false _ _ _ (plain c p.0) ∙ ap (λ (t : List ℕ). c ∷ t) (before_past cs r p.1)

  from_past : (ds r : List ℕ) → all_ascii_digits ds ≡ true → from_first test (ds ++ r) ≡ from_first test r
  from_past [] r h = refl
  from_past (c ∷ cs) r h =
      let p = and_parts (is_ascii_digit c) (all_ascii_digits cs) h in
      cond-false _ _ _ (plain c p.0) ∙ from_past cs r p.1

mark_free : (c : ℕ) → is_ascii_digit c ≡ true → is_mark c ≡ false
mark_free c h = (digit_plain c h).0

point_free : (c : ℕ) → is_ascii_digit c ≡ true → is_point c ≡ false
point_free c h = (digit_plain c h).1

-- ---- the form

-- what the parts of a text say
unfoldable pub of_parts : List ℕ → List ℕ → List ℕ → Option Form
of_parts whole after part = cond (numeral (whole ++ after)) (option_map (form (whole ++ after) (length after)) (exponent part)) None

-- something that is no digit among the digits
not_digits : (ds cs : List ℕ) (c : ℕ) → is_ascii_digit c ≡ false → all_ascii_digits (ds ++ (c ∷ cs)) ≡ false
not_digits [] cs c h = ap (λ (b : Bool). b && all_ascii_digits cs) h
not_digits (d ∷ ds) cs c h = ap (λ (b : Bool). is_ascii_digit d && b) (not_digits ds cs c h) ∙ last (is_ascii_digit d)
  where
    last : (b : Bool) → (b && false) ≡ false
    last true = refl
    last false = refl

not_numeral : (ds cs : List ℕ) (c : ℕ) → is_ascii_digit c ≡ false → numeral (ds ++ (c ∷ cs)) ≡ false
not_numeral [] cs c h = not_digits [] cs c h
not_numeral (d ∷ ds) cs c h = not_digits (d ∷ ds) cs c h

none_whole : (whole after part : List ℕ) → numeral (whole ++ after) ≡ false → of_parts whole after part ≡ None
unfolding of_parts
none_whole whole after part h = cond-false _ _ _ h

none_exponent : (whole after cs : List ℕ) (c : ℕ) → is_mark c ≡ false → of_parts whole after (c ∷ cs) ≡ None
unfolding of_parts
none_exponent whole after cs c h =
    ap (λ (o : Option ℤ). cond (numeral (whole ++ after)) (option_map (form (whole ++ after) (length after)) o) None) (none c cs h) ∙ either (numeral (whole ++ after))
  where
    none : (c : ℕ) (cs : List ℕ) → is_mark c ≡ false → exponent (c ∷ cs) ≡ None
    none c cs h = cond-false _ _ _ (ap (λ (b : Bool). b && numeral (without is_sign cs)) h)

    either : (b : Bool) → ◌≡◌ {A = Option Form} (cond b None None) None
    either true = refl
    either false = refl

-- past the point: digits, and then nothing, a mark, or what makes it no decimal
ending : (whole after rest : List ℕ) → begins is_ascii_digit rest ≡ false → of_parts whole (after ++ mantissa rest) (exponent_part rest) ≡ of_parts whole after rest
ending whole after [] h = ap (λ (t : List ℕ). of_parts whole t []) (append-nil after)
ending whole after (c ∷ cs) h =
    elim (cases_Bool (is_mark c)) [
      | inl m ↦
          (λ i. of_parts whole (after ++ cond (m i) [] (c ∷ mantissa cs)) (cond (m i) (c ∷ cs) (exponent_part cs)))
          ∙ ap (λ (t : List ℕ). of_parts whole t (c ∷ cs)) (append-nil after)
      | inr m ↦
          (λ i. of_parts whole (after ++ cond (m i) [] (c ∷ mantissa cs)) (cond (m i) (c ∷ cs) (exponent_part cs)))
          ∙ none_whole whole (after ++ (c ∷ mantissa cs)) (exponent_part cs)
          (ap numeral (sym (append_assoc whole after (c ∷ mantissa cs))) ∙ not_numeral (whole ++ after) (mantissa cs) c h)
          ∙ sym (none_exponent whole after cs c m)
    ]

-- the digits after a point at the front of a text, and what is left after them
abbrev pub after_point : List ℕ → List ℕ
after_point text = cond (begins is_point text) (before_first no_digit (drop 1 text)) []

abbrev pub rest_of : List ℕ → List ℕ
rest_of text = cond (begins is_point text) (from_first no_digit (drop 1 text)) text

-- the parts of a text whose first byte is no digit
leading : (ds text : List ℕ) → begins is_ascii_digit text ≡ false → of_parts (ds ++ whole_part text) (fraction text) (exponent_part text) ≡ of_parts ds (after_point text) (rest_of text)
leading ds [] h = ap (λ (t : List ℕ). of_parts t [] []) (append-nil ds)
leading ds (c ∷ cs) h =
    elim (cases_Bool (is_mark c)) [
      | inl m ↦
          let p = mark_plain c m in
          (λ i. of_parts (ds ++ before_first is_point (cond (m i) [] (c ∷ mantissa cs))) (drop 1 (from_first is_point (cond (m i) [] (c ∷ mantissa cs)))) (cond (m i) (c ∷ cs) (exponent_part cs)))
          ∙ ap (λ (t : List ℕ). of_parts t [] (c ∷ cs)) (append-nil ds)
          ∙ sym (λ i. of_parts ds (cond (p i) (before_first no_digit cs) []) (cond (p i) (from_first no_digit cs) (c ∷ cs)))
      | inr m ↦
          (λ i. of_parts (ds ++ before_first is_point (cond (m i) [] (c ∷ mantissa cs))) (drop 1 (from_first is_point (cond (m i) [] (c ∷ mantissa cs)))) (cond (m i) (c ∷ cs) (exponent_part cs)))
          ∙ elim (cases_Bool (is_point c)) [
            | inl p ↦
                (λ i. of_parts (ds ++ cond (p i) [] (c ∷ before_first is_point (mantissa cs))) (drop 1 (cond (p i) (c ∷ mantissa cs) (from_first is_point (mantissa cs)))) (exponent_part cs))
                ∙ ap (λ (t : List ℕ). of_parts t (mantissa cs) (exponent_part cs)) (append-nil ds)
                ∙ after_digits ds cs
                ∙ sym (λ i. of_parts ds (cond (p i) (before_first no_digit cs) []) (cond (p i) (from_first no_digit cs) (c ∷ cs)))
            | inr p ↦
                (λ i. of_parts (ds ++ cond (p i) [] (c ∷ before_first is_point (mantissa cs))) (drop 1 (cond (p i) (c ∷ mantissa cs) (from_first is_point (mantissa cs)))) (exponent_part cs))
                ∙ none_whole (ds ++ (c ∷ before_first is_point (mantissa cs))) (drop 1 (from_first is_point (mantissa cs))) (exponent_part cs)
                (ap numeral (append_assoc ds (c ∷ before_first is_point (mantissa cs)) (drop 1 (from_first is_point (mantissa cs))))
                ∙ not_numeral ds (before_first is_point (mantissa cs) ++ drop 1 (from_first is_point (mantissa cs))) c h)
                ∙ sym (none_exponent ds [] cs c m)
                ∙ sym (λ i. of_parts ds (cond (p i) (before_first no_digit cs) []) (cond (p i) (from_first no_digit cs) (c ∷ cs)))
          ]
    ]
  where
    after_digits : (ds cs : List ℕ) → of_parts ds (mantissa cs) (exponent_part cs) ≡ of_parts ds (before_first no_digit cs) (from_first no_digit cs)
    after_digits ds cs =
        let fs = before_first no_digit cs in
        let rest = from_first no_digit cs in
        let d = front_digits cs in
        (λ i. of_parts ds (mantissa (sym (split cs) i)) (exponent_part (sym (split cs) i)))
        ∙ (λ i. of_parts ds (before_past is_mark mark_free fs rest d i) (from_past is_mark mark_free fs rest d i))
        ∙ ending ds fs rest (rest_plain cs)

pub form_is : (text : List ℕ) → form_of text ≡ of_parts (before_first no_digit text) (after_point (from_first no_digit text)) (rest_of (from_first no_digit text))
unfolding of_parts
form_is text =
    let ds = before_first no_digit text in
    let rest = from_first no_digit text in
    let d = front_digits text in
    ap form_of (sym (split text))
    ∙ (λ i. of_parts (before_first is_point (before_past is_mark mark_free ds rest d i)) (drop 1 (from_first is_point (before_past is_mark mark_free ds rest d i))) (from_past is_mark mark_free ds rest d i))
    ∙ (λ i. of_parts (before_past is_point point_free ds (mantissa rest) d i) (drop 1 (from_past is_point point_free ds (mantissa rest) d i)) (exponent_part rest))
    ∙ leading ds rest (rest_plain text)
