-- A division of two floats that are whole numbers, and a float from its bits, each by its value.
use Rattle.std.proofs.Common.{◌≡◌, ℕ, zero, suc, ◌+◌, ◌-◌, ◌*◌, ◌/◌, ◌%◌, ◌^◌, ◌<◌, ◌≤◌, Bool, true, false, cond, eqb, leb, sym, ap, ◌∙◌, subst, inl, inr, eq-zero-or-pos, mul-pos, zero-mul, arith}
use lib.Ieee.{Float, nan, inf, fin, binary64, up, down, odd, round, div, of_bits, of_fields}
use lib.Ieee.Fits.{up_pos, down_pos}
use lib.Ieee.Exact.{HasValue, odd_sign}
use lib.Ieee.Scale.{round_same}
use Rattle.std.proofs.lemmas.Bool.{lt-leb, ne_eqb, true≢false}

-- ---- a division of two floats that are whole numbers is their fraction, rounded

pub divided : (x y : Float) (a b : ℕ) → 0 < b → HasValue x false a 1 → HasValue y false b 1 → div binary64 x y ≡ round binary64 false a b
unfolding div
divided nan y a b B v w = absurd v
divided (inf s) y a b B v w = absurd v
divided (fin true m e) y a b B v w = absurd (true≢false v.0)
divided (fin false m e) nan a b B v w = absurd w
divided (fin false m e) (inf t) a b B v w = absurd w
divided (fin false m e) (fin true n d) a b B v w = absurd (true≢false w.0)
divided (fin false m e) (fin false zero d) a b B v w = absurd (omega (arith, w.1, zero-mul (up d), mul-pos B (down_pos d)))
divided (fin false m e) (fin false (suc n) d) a b B v w =
    ap (λ (b : Bool). cond b (cond (eqb m 0) nan (inf false)) (round binary64 false (m * up e * down d) (suc n * up d * down e))) (ne_eqb (suc n) 0 (omega arith))
    ∙ round_same binary64 false (m * up e * down d) (suc n * up d * down e) a b (mul-pos (mul-pos (omega arith) (up_pos d)) (down_pos e)) B
    (cross (m * up e) (down e) (suc n * up d) (down d) v.1 w.1)
  where
    cross : (x c y d : ℕ) → x * 1 ≡ a * c → y * 1 ≡ b * d → x * d * b ≡ a * (y * c)
    cross x c y d p q =
        let p' : x ≡ a * c = omega arith in
        let q' : y ≡ b * d = omega arith in
        (λ i. p' i * d * b) ∙ swap c d ∙ (λ i. a * (sym q' i * c))
      where
        swap : (c d : ℕ) → a * c * d * b ≡ a * (b * d * c)
        swap c d = omega arith

-- ---- a float from its bits

-- by the exponent's field x and the digits t below the leading one
of_fields_lem : (x t : ℕ) → x < 2046 → HasValue (of_fields binary64 false (suc x) t) false ((2 ^ 52 + t) * 2 ^ x) (2 ^ 1074)
unfolding of_fields
of_fields_lem x t small =
    subst (λ (last : Bool). HasValue (cond last (cond (eqb t 0) (inf false) nan) (odd 53 false (2 ^ 52 + t) x 1074)) false ((2 ^ 52 + t) * 2 ^ x) (2 ^ 1074))
    (sym (ne_eqb (suc x) 2047 (omega arith))) (odd_sign 53 false (2 ^ 52 + t) x 1074)

of_bits_lem : (b x t : ℕ) → x < 2046 → t < 2 ^ 52 → b ≡ suc x * 2 ^ 52 + t → HasValue (of_bits binary64 b) false ((2 ^ 52 + t) * 2 ^ x) (2 ^ 1074)
unfolding of_bits
of_bits_lem b x t small low is =
    let sign : leb (2 ^ 63) b ≡ false = lt-leb (2 ^ 63) b (omega arith) in
    let field : b % 2 ^ 63 / 2 ^ 52 ≡ suc x = omega arith in
    let digits : b % 2 ^ 52 ≡ t = omega arith in
    subst (λ (z : Float). HasValue z false ((2 ^ 52 + t) * 2 ^ x) (2 ^ 1074)) (λ i. of_fields binary64 (sym sign i) (sym field i) (sym digits i)) (of_fields_lem x t small)

-- m times 2^k of the smallest values, where m has 53 binary digits, or is 2^53: that is carried into the exponent
pub value_of_bits : (m k : ℕ) → 2 ^ 52 ≤ m → m ≤ 2 ^ 53 → k ≤ 2000 → HasValue (of_bits binary64 (k * 2 ^ 52 + m)) false (m * 2 ^ k) (2 ^ 1074)
value_of_bits m k least most few =
    elim (eq-zero-or-pos (2 ^ 53 - m)) [
      | inl full ↦
          let is : m ≡ 2 ^ 53 = omega arith in
          let same : (2 ^ 52 + 0) * 2 ^ suc k ≡ m * 2 ^ k = omega (arith, ap (λ (j : ℕ). j * 2 ^ k) is) in
          subst (λ (a : ℕ). HasValue (of_bits binary64 (k * 2 ^ 52 + m)) false a (2 ^ 1074)) same (of_bits_lem (k * 2 ^ 52 + m) (suc k) 0 (omega arith) (omega arith) (omega arith))
      | inr below ↦
          let same : 2 ^ 52 + (m - 2 ^ 52) ≡ m = omega arith in
          subst (λ (j : ℕ). HasValue (of_bits binary64 (k * 2 ^ 52 + m)) false (j * 2 ^ k) (2 ^ 1074)) same (of_bits_lem (k * 2 ^ 52 + m) k (m - 2 ^ 52) (omega arith) (omega arith) (omega arith))
    ]
