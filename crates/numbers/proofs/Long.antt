-- The fraction w / p rounded by whole numbers: 53 binary digits of it, and the power of two that they count.
use Rattle.std.proofs.Common.{◌≡◌, ℕ, ◌+◌, ◌-◌, ◌*◌, ◌/◌, ◌%◌, ◌^◌, ◌<◌, ◌≤◌, false, sym, ap, ◌∙◌, subst, lt_of_lt_of_le, mul-le-mul_right, mul_assoc, mul_comm, div-lt_iff_lt-mul, mul-lt-mul_of_pos_right, mul-pos, lt_of_not-le, le-div_iff_mul-le, not-le_of_lt, mul_left_comm, arith, pow_pos, pow_mono, pow-add, shl_lt}
use Prim.Native.Nat.{compare}
use lib.Ieee.{binary64, size, round, of_bits}
use lib.Ieee.Digits.{size-lt, size-le}
use lib.Ieee.Exact.{HasValue}
use lib.Ieee.Fits.{round-fits, nearest-le}
use lib.Ieee.Nearest.{closest, closest_same, nearest-ge}
use lib.Ieee.Bits.{of_bits-fits}
use lib.Ieee.Scale.{grid, round_val}
use Rattle.std.proofs.num.Values.{same_value}
use Rattle.numbers.proofs.Values.{value_of_bits}

size_gt : (n j : ℕ) → 2 ^ j ≤ n → j < size n
size_gt n j h = lt_of_not-le (λ (g : size n ≤ j). not-le_of_lt (lt_of_lt_of_le (size-lt n) (pow_mono g)) h)

-- products in another order
turned : (v u d p : ℕ) → v * u * d * p ≡ p * d * v * u
turned v u d p = simp (mul_assoc, mul_comm, mul_left_comm)

regrouped : (w v p u d : ℕ) → w * v * (p * (u * d)) ≡ w * (v * u) * (p * d)
regrouped w v p u d = simp (mul_assoc, mul_left_comm)

between : (s c : ℕ) → 1066 + c < s → s ≤ 1067 + c → s - 53 ≡ 1014 + c
between s c l h = omega arith

module _ (w p c : ℕ) (P : 0 < p) (least : p * 2 ^ c * 2 ^ 52 ≤ w * 2 ^ 60) (most : w * 2 ^ 60 < p * 2 ^ c * 2 ^ 53) where
  B : 0 < p * 2 ^ c
  B = mul-pos P (pow_pos c)

  -- the quotient has 53 digits before the point
  pub digits_in : (2 ^ 52 ≤ closest (w * 2 ^ 60) (p * 2 ^ c)) × (closest (w * 2 ^ 60) (p * 2 ^ c) ≤ 2 ^ 53)
  digits_in =
      let a = w * 2 ^ 60 in
      let b = p * 2 ^ c in
      let o = compare (a % b * 2) b in
      let lo : 2 ^ 52 ≤ a / b = (le-div_iff_mul-le B).1 (omega arith) in
      let hi : a / b < 2 ^ 53 = (div-lt_iff_lt-mul B).1 (omega arith) in
      (omega (arith, nearest-ge (a / b) o), omega (arith, nearest-le (a / b) o))

  -- so in the smallest values of binary64 its whole part has 1014 + c digits more
  reaches : 2 ^ (1066 + c) * p ≤ w * 2 ^ 1074
  reaches =
      subst (λ (z : ℕ). z ≤ w * 2 ^ 1074) (sym (ap (λ (z : ℕ). z * p) (pow-add 2 1066 c) ∙ turned (2 ^ 52) (2 ^ 1014) (2 ^ c) p))
      (subst (λ (z : ℕ). p * 2 ^ c * 2 ^ 52 * 2 ^ 1014 ≤ z) (mul_assoc w (2 ^ 60) (2 ^ 1014)) (mul-le-mul_right (2 ^ 1014) least))

  stays : w * 2 ^ 1074 < 2 ^ (1067 + c) * p
  stays =
      subst (λ (z : ℕ). w * 2 ^ 1074 < z) (sym (ap (λ (z : ℕ). z * p) (pow-add 2 1067 c) ∙ turned (2 ^ 53) (2 ^ 1014) (2 ^ c) p))
      (subst (λ (z : ℕ). z < p * 2 ^ c * 2 ^ 53 * 2 ^ 1014) (mul_assoc w (2 ^ 60) (2 ^ 1014)) (mul-lt-mul_of_pos_right most (pow_pos 1014)))

  digits_more : size (w * 2 ^ 1074 / p) - 53 ≡ 1014 + c
  digits_more =
      between (size (w * 2 ^ 1074 / p)) c (size_gt (w * 2 ^ 1074 / p) (1066 + c) ((le-div_iff_mul-le P).1 reaches))
      (size-le (w * 2 ^ 1074 / p) (1067 + c) ((div-lt_iff_lt-mul P).1 stays))

  same_fraction : w * 2 ^ 60 * (p * 2 ^ (1014 + c)) ≡ w * 2 ^ 1074 * (p * 2 ^ c)
  same_fraction = ap (λ (z : ℕ). w * 2 ^ 60 * (p * z)) (pow-add 2 1014 c) ∙ regrouped w (2 ^ 60) p (2 ^ 1014) (2 ^ c)

  same_digits : closest (w * 2 ^ 60) (p * 2 ^ c) ≡ closest (w * 2 ^ 1074) (p * 2 ^ (1014 + c))
  same_digits = closest_same (w * 2 ^ 60) (p * 2 ^ c) (w * 2 ^ 1074) (p * 2 ^ (1014 + c)) B (mul-pos P (pow_pos (1014 + c))) same_fraction

  -- what `round` makes of the fraction, in the smallest values
  pub rounded : grid binary64 w p ≡ closest (w * 2 ^ 60) (p * 2 ^ c) * 2 ^ (1014 + c)
  rounded = ap (λ (j : ℕ). closest (w * 2 ^ 1074) (p * 2 ^ j) * 2 ^ j) digits_more ∙ ap (λ (q : ℕ). q * 2 ^ (1014 + c)) (sym same_digits)

pub long_way : (w p c b q : ℕ) → 0 < p → c < 68 → b ≡ p * 2 ^ c → b * 2 ^ 52 ≤ w * 2 ^ 60 → w * 2 ^ 60 < b * 2 ^ 53 → q ≡ closest (w * 2 ^ 60) b → of_bits binary64 ((1014 + c) * 2 ^ 52 + q) ≡ round binary64 false w p
long_way w p c b q P C e least most d =
    let l : p * 2 ^ c * 2 ^ 52 ≤ w * 2 ^ 60 = omega arith in
    let m : w * 2 ^ 60 < p * 2 ^ c * 2 ^ 53 = omega arith in
    let r = digits_in w p c P l m in
    let s : q ≡ closest (w * 2 ^ 60) (p * 2 ^ c) = d ∙ ap (closest (w * 2 ^ 60)) e in
    let least_digits : 2 ^ 52 ≤ q = omega (arith, r.0) in
    let most_digits : q ≤ 2 ^ 53 = omega (arith, r.1) in
    let bits = (1014 + c) * 2 ^ 52 + q in
    let in_smallest : grid binary64 w p ≡ q * 2 ^ (1014 + c) = rounded w p c P l m ∙ ap (λ (z : ℕ). z * 2 ^ (1014 + c)) (sym s) in
    let finite : q * 2 ^ (1014 + c) < 2 ^ 2098 = lt_of_lt_of_le (shl_lt {a = q} 54 (1014 + c) (omega arith)) (pow_mono {i = 54 + (1014 + c)} {j = 2098} (omega arith)) in
    same_value binary64 (of_bits binary64 bits) (round binary64 false w p) false (q * 2 ^ (1014 + c)) (of_bits-fits binary64 bits) (round-fits binary64 false w p)
    (value_of_bits q (1014 + c) least_digits most_digits (omega arith))
    (subst (λ (a : ℕ). HasValue (round binary64 false w p) false a (2 ^ 1074)) in_smallest
    (round_val binary64 w p (subst (λ (a : ℕ). a < 2 ^ 2098) (sym in_smallest) finite)))

pub few_doublings : (c b a : ℕ) → 2 ^ c ≤ b → b * 2 ^ 52 ≤ a → a < 2 ^ 120 → c < 68
few_doublings c b a h l m = lt_of_not-le (λ (g : 68 ≤ c). let t : 2 ^ 68 ≤ 2 ^ c = pow_mono {i = 68} {j = c} g in omega arith)

pub doubled_once : (d b c : ℕ) → b ≡ d * 2 ^ c → b * 2 ≡ d * 2 ^ (c + 1)
doubled_once d b c e = omega (arith, ap (λ (z : ℕ). d * z) (pow-add 2 c 1))

pub power_once : (b c : ℕ) → 2 ^ c ≤ b → 2 ^ (c + 1) ≤ b * 2
power_once b c h = omega (arith, pow-add 2 c 1)

pub long_digits : (w p c b q : ℕ) → 0 < p → b ≡ p * 2 ^ c → b * 2 ^ 52 ≤ w * 2 ^ 60 → w * 2 ^ 60 < b * 2 ^ 53 → q ≡ closest (w * 2 ^ 60) b → q ≤ 2 ^ 53
long_digits w p c b q P e least most d =
    let l : p * 2 ^ c * 2 ^ 52 ≤ w * 2 ^ 60 = omega arith in
    let m : w * 2 ^ 60 < p * 2 ^ c * 2 ^ 53 = omega arith in
    let r = digits_in w p c P l m in
    let s : q ≡ closest (w * 2 ^ 60) (p * 2 ^ c) = d ∙ ap (closest (w * 2 ^ 60)) e in
    omega (arith, r.1)
