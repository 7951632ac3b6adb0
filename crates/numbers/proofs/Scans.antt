-- What a decimal says, from the digits at its front, those after a point, and what is left.
use Rattle.std.proofs.Common.{◌≡◌, ℕ, ◌+◌, ◌-◌, ◌*◌, ◌^◌, ◌<◌, ◌≤◌, Bool, true, false, cond, ◌&&◌, leb, List, [], ◌∷◌, ◌++◌, length, get_or, drop, ℤ, pos, negsuc, ◌-ℤ◌, Some, None, Option, sym, refl, ap, ◌∙◌, subst, inl, inr, arith, length-append}
use Rattle.std.specs.Char.{is_ascii_digit}
use Rattle.std.specs.Str.{all_ascii_digits}
use Rattle.std.specs.Option.{option_map, option_flatten}
use Rattle.std.proofs.lemmas.Bool.{lt-ltb, le-ltb, leb-true, cond-true, cond-false, cases_lt, cases_Bool, and_parts, ne_eqb}
use Rattle.numbers.specs.Cuts.{before_first, from_first, begins}
use Rattle.numbers.specs.Numerals.{numeral, value_after, value}
use Rattle.numbers.specs.Decimals.{is_minus, is_point, exponent, Form, form, form_of, power_within, scaled, within_limits, magnitude, decimal_of}
use Rattle.numbers.specs.declared.decimals.Scaled.{Scaled}
use Rattle.numbers.specs.Fronts.{no_digit, front, power_below, past_point}
use Rattle.numbers.proofs.Fronts.{value_after_ge, front_some, front_none}
use Rattle.numbers.proofs.Forms.{split, front_digits, of_parts, after_point, rest_of, form_is}

-- ---- digits after digits

value_append : (n : ℕ) (ds fs : List ℕ) → value_after n (ds ++ fs) ≡ value_after (value_after n ds) fs
value_append n [] fs = refl
value_append n (c ∷ cs) fs = value_append (n * 10 + _) cs fs

digits_append : (ds fs : List ℕ) → all_ascii_digits ds ≡ true → all_ascii_digits fs ≡ true → all_ascii_digits (ds ++ fs) ≡ true
digits_append [] fs h k = k
digits_append (c ∷ cs) fs h k = let p = and_parts (is_ascii_digit c) (all_ascii_digits cs) h in (λ i. p.0 i && digits_append cs fs p.1 k i)

is_numeral : (ds : List ℕ) → all_ascii_digits ds ≡ true → 0 < length ds → numeral ds ≡ true
is_numeral [] h l = absurd (omega arith)
is_numeral (c ∷ cs) h l = h

no_numeral : (ds : List ℕ) → length ds ≡ 0 → numeral ds ≡ false
no_numeral [] h = refl
no_numeral (c ∷ cs) h = absurd (omega arith)

-- ---- the limits

unfoldable limits : Bool → List ℕ → List ℕ → List ℕ → Option Scaled
limits minus ds fs rest = option_flatten (option_map (within_limits minus) (of_parts ds fs rest))

too_large : (minus : Bool) (ds fs rest : List ℕ) → 10 ^ 18 ≤ value (ds ++ fs) → limits minus ds fs rest ≡ None
unfolding limits of_parts
too_large minus ds fs rest h = go (numeral (ds ++ fs)) (exponent rest)
  where
    go : (b : Bool) (o : Option ℤ) → option_flatten (option_map (within_limits minus) (cond b (option_map (form (ds ++ fs) (length fs)) o) None)) ≡ None
    go true None = refl
    go true (Some x) = cond-false _ _ _ (le-ltb (value (ds ++ fs)) (10 ^ 18) h)
    go false o = refl

no_digits : (minus : Bool) (ds fs rest : List ℕ) → length (ds ++ fs) ≡ 0 → limits minus ds fs rest ≡ None
unfolding limits of_parts
no_digits minus ds fs rest h = ap (λ (b : Bool). option_flatten (option_map (within_limits minus) (cond b (option_map (form (ds ++ fs) (length fs)) (exponent rest)) None))) (no_numeral (ds ++ fs) h)

small : (minus : Bool) (ds fs rest : List ℕ) → numeral (ds ++ fs) ≡ true → value (ds ++ fs) < 10 ^ 18 → limits minus ds fs rest ≡ option_map (scaled minus (value (ds ++ fs))) (power_below (length fs) rest)
unfolding limits of_parts
small minus ds fs rest h l =
    ap (λ (b : Bool). option_flatten (option_map (within_limits minus) (cond b (option_map (form (ds ++ fs) (length fs)) (exponent rest)) None))) h ∙ go (exponent rest)
  where
    go : (o : Option ℤ) → option_flatten (option_map (within_limits minus) (option_map (form (ds ++ fs) (length fs)) o))
        ≡ option_map (scaled minus (value (ds ++ fs))) (option_flatten (option_map (λ x. power_within (pos (length fs) -ℤ x)) o))
    go None = refl
    go (Some x) = cond-true _ _ _ (lt-ltb (value (ds ++ fs)) (10 ^ 18) l)

magnitude_is : (minus : Bool) (text : List ℕ) → magnitude minus text ≡ limits minus (before_first no_digit text) (after_point (from_first no_digit text)) (rest_of (from_first no_digit text))
unfolding limits
magnitude_is minus text = ap (λ (o : Option Form). option_flatten (option_map (within_limits minus) o)) (form_is text)

-- too many digits before the point
pub large_whole : (minus : Bool) (text : List ℕ) → None ≡ front 0 text → None ≡ magnitude minus text
large_whole minus text e =
    let ds = before_first no_digit text in
    let fs = after_point (from_first no_digit text) in
    let l = front_none 0 text e in
    let v : value (ds ++ fs) ≡ value_after (value ds) fs = value_append 0 ds fs in
    sym (magnitude_is minus text ∙ too_large minus ds fs (rest_of (from_first no_digit text)) (omega (arith, v, value_after_ge (value ds) fs)))

-- ---- past the digits before the point

point_parts : (n : ℕ) (text : List ℕ) (p : ℕ × List ℕ) → Some p ≡ past_point n text → (p.0 ≡ value_after n (after_point text)) × (p.1 ≡ rest_of text)
point_parts n text p e =
    elim (cases_Bool (begins is_point text)) [
      | inl b ↦
          let s = front_some n (drop 1 text) p (e ∙ cond-true _ _ _ b) in
          (s.0 ∙ ap (value_after n) (sym (cond-true _ _ _ b)), s.1 ∙ sym (cond-true _ _ _ b))
      | inr b ↦
          let s = e ∙ cond-false _ _ _ b in
          let x : p.0 ≡ n = cc in
          let y : p.1 ≡ text = cc in
          (x ∙ ap (value_after n) (sym (cond-false _ _ _ b)), y ∙ sym (cond-false _ _ _ b))
    ]

point_none : (n : ℕ) (text : List ℕ) → None ≡ past_point n text → 2 ^ 64 ≤ value_after n (after_point text)
point_none n text e =
    elim (cases_Bool (begins is_point text)) [
      | inl b ↦ subst (λ (t : List ℕ). 2 ^ 64 ≤ value_after n t) (sym (cond-true _ _ _ b)) (front_none n (drop 1 text) (e ∙ cond-true _ _ _ b))
      | inr b ↦ absurd (let s = e ∙ cond-false _ _ _ b in let z : ◌≡◌ {A = ℕ} 0 1 = cc in omega arith)
    ]

point_digits : (text : List ℕ) → all_ascii_digits (after_point text) ≡ true
point_digits text =
    elim (cases_Bool (begins is_point text)) [
      | inl b ↦ ap all_ascii_digits (cond-true _ _ _ b) ∙ front_digits (drop 1 text)
      | inr b ↦ ap all_ascii_digits (cond-false _ _ _ b)
    ]

-- what is left is shorter by the digits after the point, and by the point if there is one
point_lengths : (text : List ℕ) → (length (rest_of text) ≤ length text) × (length text - length (rest_of text) - 1 ≡ length (after_point text))
point_lengths [] = (omega arith, omega arith)
point_lengths (c ∷ cs) =
    elim (cases_Bool (is_point c)) [
      | inl b ↦
          let l = ap length (split cs) in
          let m = length-append (before_first no_digit cs) (from_first no_digit cs) in
          let x : length (rest_of (c ∷ cs)) ≡ length (from_first no_digit cs) = ap length (cond-true _ _ _ b) in
          let y : length (after_point (c ∷ cs)) ≡ length (before_first no_digit cs) = ap length (cond-true _ _ _ b) in
          (omega arith, omega arith)
      | inr b ↦
          let x : length (rest_of (c ∷ cs)) ≡ length (c ∷ cs) = ap length (cond-false _ _ _ b) in
          let y : length (after_point (c ∷ cs)) ≡ 0 = ap length (cond-false _ _ _ b) in
          (omega arith, omega arith)
    ]

-- from the digits at the front of the text on
module _ (minus : Bool) (text : List ℕ) (whole : ℕ) (after : List ℕ) (E : Some (whole, after) ≡ front 0 text) where
  whole_is : whole ≡ value (before_first no_digit text)
  whole_is = (front_some 0 text (whole, after) E).0

  after_is : after ≡ from_first no_digit text
  after_is = (front_some 0 text (whole, after) E).1

  text_length : length (before_first no_digit text) + length after ≡ length text
  text_length =
      let l = ap length (split text) in
      let m = length-append (before_first no_digit text) (from_first no_digit text) in
      let n = ap length after_is in
      omega arith

  pub after_shorter : length after ≤ length text
  after_shorter = omega (arith, text_length)

  says : magnitude minus text ≡ limits minus (before_first no_digit text) (after_point after) (rest_of after)
  says = magnitude_is minus text ∙ ap (λ (t : List ℕ). limits minus (before_first no_digit text) (after_point t) (rest_of t)) (sym after_is)

  value_is : (fs : List ℕ) → value (before_first no_digit text ++ fs) ≡ value_after whole fs
  value_is fs = value_append 0 (before_first no_digit text) fs ∙ ap (λ (n : ℕ). value_after n fs) (sym whole_is)

  -- too many digits after the point
  pub large_fraction : None ≡ past_point whole after → None ≡ magnitude minus text
  large_fraction e =
      let l = point_none whole after e in
      let v = value_is (after_point after) in
      sym (says ∙ too_large minus (before_first no_digit text) (after_point after) (rest_of after) (omega arith))

  module _ (w : ℕ) (rest : List ℕ) (P : Some (w, rest) ≡ past_point whole after) where
    w_is : w ≡ value (before_first no_digit text ++ after_point after)
    w_is = (point_parts whole after (w, rest) P).0 ∙ sym (value_is (after_point after))

    rest_is : rest ≡ rest_of after
    rest_is = (point_parts whole after (w, rest) P).1

    pub rest_shorter : length rest ≤ length after
    rest_shorter = omega (arith, point_lengths after, ap length rest_is)

    fraction_length : length after - length rest - 1 ≡ length (after_point after)
    fraction_length = ap (λ (t : List ℕ). length after - length t - 1) rest_is ∙ (point_lengths after).1

    figures_length : length (before_first no_digit text ++ after_point after) ≡ length text - length after + (length after - length rest - 1)
    figures_length = omega (arith, length-append (before_first no_digit text) (after_point after), fraction_length, text_length)

    pub large_number : 10 ^ 18 ≤ w → None ≡ magnitude minus text
    large_number h = sym (says ∙ too_large minus (before_first no_digit text) (after_point after) (rest_of after) (omega (arith, w_is)))

    pub no_figures : length text - length after + (length after - length rest - 1) ≡ 0 → None ≡ magnitude minus text
    no_figures h = sym (says ∙ no_digits minus (before_first no_digit text) (after_point after) (rest_of after) (figures_length ∙ h))

    pub all_read : w < 10 ^ 18 → (length text - length after + (length after - length rest - 1) ≡ 0 → ⊥)
        → option_map (scaled minus w) (power_below (length after - length rest - 1) rest) ≡ magnitude minus text
    all_read l h =
        let ds = before_first no_digit text in
        let fs = after_point after in
        let some : 0 < length (ds ++ fs) =
        elim (cases_lt 0 (length (ds ++ fs))) [ inl p ↦ p | inr p ↦ absurd (h (omega (arith, figures_length))) ] in
        let n = is_numeral (ds ++ fs) (digits_append ds fs (front_digits text) (point_digits after)) some in
        (λ i. option_map (scaled minus (w_is i)) (power_below (fraction_length i) (rest_is i)))
        ∙ sym (small minus ds fs (rest_of after) n (omega (arith, w_is))) ∙ sym says

-- ---- the limits hold of what is said

bounds : (minus : Bool) (d : Scaled) (o : Option Form) → Some d ≡ option_flatten (option_map (within_limits minus) o) → (d.w < 10 ^ 18) × (d.k ≤ 18)
bounds minus d None e = absurd (let z : ◌≡◌ {A = ℕ} 0 1 = cc in omega arith)
bounds minus d (Some f) e =
    elim (cases_lt f.digits (10 ^ 18)) [
      | inl l ↦ let s = go f.digits f.places (e ∙ cond-true _ _ _ (lt-ltb _ _ l)) in (omega (arith, s.0), s.1)
      | inr l ↦ absurd (let h = e ∙ cond-false _ _ _ (le-ltb _ _ l) in let z : ◌≡◌ {A = ℕ} 0 1 = cc in omega arith)
    ]
  where
    at : (w k : ℕ) → Some d ≡ Some (scaled minus w k) → k ≤ 18 → (d.w ≡ w) × (d.k ≤ 18)
    at w k h l =
        let s : d ≡ scaled minus w k = cc in
        let m : d.k ≡ k = ap (λ (x : Scaled). x.k) s in
        (ap (λ (x : Scaled). x.w) s, omega arith)

    go : (w : ℕ) (x : ℤ) → Some d ≡ option_map (scaled minus w) (power_within x) → (d.w ≡ w) × (d.k ≤ 18)
    go w (pos k) h =
        elim (cases_Bool (leb k 18)) [
          | inl l ↦ at w k (h ∙ ap (option_map (scaled minus w)) (cond-true _ _ _ l)) (leb-true k 18 l)
          | inr l ↦ absurd (let g = h ∙ ap (option_map (scaled minus w)) (cond-false _ _ _ l) in let z : ◌≡◌ {A = ℕ} 0 1 = cc in omega arith)
        ]
    go w (negsuc j) h = absurd (let z : ◌≡◌ {A = ℕ} 0 1 = cc in omega arith)

pub said_bounds : (minus : Bool) (d : Scaled) (text : List ℕ) → Some d ≡ magnitude minus text → (d.w < 10 ^ 18) × (d.k ≤ 18)
said_bounds minus d text e = bounds minus d (form_of text) e

-- a text that begins with no minus sign
pub no_minus : (text : List ℕ) → (0 < length text → get_or text 0 0 ≡ 45 → ⊥) → magnitude false text ≡ decimal_of text
no_minus [] h = refl
no_minus (c ∷ cs) h = let plain : is_minus c ≡ false = ne_eqb c 45 (h (omega arith)) in (λ i. magnitude (sym plain i) (cond (sym plain i) cs (c ∷ cs)))
