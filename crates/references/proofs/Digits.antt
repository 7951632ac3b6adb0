-- Numerals whose digits are read one by one, as long as their value may still be that of a character.
use Rattle.std.proofs.Common.{◌≡◌, ℕ, zero, suc, ◌+◌, ◌-◌, ◌*◌, ◌<◌, ◌≤◌, ◌⊎◌, List, [], ◌∷◌, length, get_or, take, Some, None, Option, sym, ap, ◌∙◌, subst, inl, inr, arith, MatchOption}
use Rattle.std.specs.Str.Parse.{digits_value, AllDigits}
use Rattle.std.specs.Char.{digit_value}
use Rattle.std.proofs.lemmas.Int.Digits.{digits_value_more}
use Rattle.std.proofs.lemmas.List.{take_all}
use Rattle.std.specs.Option.{SomeIff}
use Rattle.references.specs.Xml.{Char, Numbered}

-- each byte of a numeral is a digit
pub digit_at : (radix : ℕ) (ds : List ℕ) (i : ℕ) → AllDigits radix ds → i < length ds → digit_value (get_or ds i 0) < radix
digit_at radix [] i all h = omega arith
digit_at radix (d ∷ ds) zero all h = all.0
digit_at radix (d ∷ ds) (suc i) all h = digit_at radix ds i all.1 (omega arith)

-- the value of the first digits is no more than that of all
more_is_more : (v radix d : ℕ) → (radix ≡ 10) ⊎ (radix ≡ 16) → v ≤ v * radix + d
more_is_more v radix d (inl e) = rw e (omega arith)
more_is_more v radix d (inr e) = rw e (omega arith)

front_within : (radix : ℕ) (ds : List ℕ) (i k : ℕ) → (radix ≡ 10) ⊎ (radix ≡ 16) → i + k ≤ length ds → digits_value radix (take i ds) ≤ digits_value radix (take (i + k) ds)
front_within radix ds i zero base h =
    let same : i + zero ≡ i = omega arith in
    rw same (omega arith)
front_within radix ds i (suc k) base h =
    let next : i + suc k ≡ i + k + 1 = omega arith in
    let more = digits_value_more radix ds (i + k) (omega arith) in
    let grown = more_is_more (digits_value radix (take (i + k) ds)) radix (digit_value (get_or ds (i + k) 0)) base in
    rw next (omega (arith, front_within radix ds i k base (omega arith), more, grown))

-- every character is below the bound
char_below : (c : ℕ) → Char c → c < 0x110000
char_below c (inl e) = omega arith
char_below c (inr (inl e)) = omega arith
char_below c (inr (inr (inl e))) = omega arith
char_below c (inr (inr (inr (inl e)))) = omega arith
char_below c (inr (inr (inr (inr (inl e))))) = omega arith
char_below c (inr (inr (inr (inr (inr e))))) = omega arith

-- the digits of a character leave its value below the bound at each of them
pub stays_below : (radix number : ℕ) (ds : List ℕ) (i c : ℕ) → (radix ≡ 10) ⊎ (radix ≡ 16) → i < length ds → number ≡ digits_value radix (take i ds) → Numbered radix ds c → number * radix + digit_value (get_or ds i 0) < 0x110000
stays_below radix number ds i c base h e n =
    let front = front_within radix ds (i + 1) (length ds - (i + 1)) base (omega arith) in
    let whole : i + 1 + (length ds - (i + 1)) ≡ length ds = omega arith in
    let all = ap (digits_value radix) (ap (λ k. take k ds) whole ∙ take_all (length ds) ds (omega arith)) in
    let more = ap (λ v. v * radix + digit_value (get_or ds i 0)) e ∙ sym (digits_value_more radix ds i h) in
    omega (arith, front, all, more, n.number, char_below c n.allowed)

-- at the end of the digits, their value answers
pub value_answers : (radix number : ℕ) (ds : List ℕ) (i : ℕ) (r : Option ℕ) → length ds ≤ i → 0 < length ds → AllDigits radix (take i ds) → number ≡ digits_value radix (take i ds) → SomeIff r (Char number) number → MatchOption r ((c : ℕ) → Numbered radix ds c → ⊥) (λ c. Numbered radix ds c)
value_answers radix number ds i None all some digits e checked =
    λ c n. checked (subst Char (sym (e ∙ (ap (digits_value radix) (take_all i ds all) ∙ n.number))) n.allowed)
value_answers radix number ds i (Some x) all some digits e checked =
    let v : number ≡ digits_value radix ds = e ∙ ap (digits_value radix) (take_all i ds all) in
    record { numeral = (some, subst (AllDigits radix) (take_all i ds all) digits); number = sym (checked.1 ∙ v); allowed = subst Char (sym checked.1) checked.0 }
