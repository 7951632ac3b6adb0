-- The powers of ten that binary64 has.
use Rattle.std.proofs.Common.{◌≡◌, ℕ, zero, suc, ◌*◌, ◌^◌, ◌<◌, ◌≤◌, false, List, [], ◌∷◌, length, get_or, refl, ap, pow-suc, arith}
use native.Mathlib.Nat.{one-le-pow, pow-le-pow_right}
use lib.Ieee.{Float, nan, binary64, of_bits}
use lib.Ieee.Exact.{HasValue}

-- the floats are n, 10 n, 100 n and so on
abbrev Tenfold : List Float → ℕ → Type 0
Tenfold [] n = Unit {0}
Tenfold (x ∷ xs) n = HasValue x false n 1 × Tenfold xs (n * 10)

at : (xs : List Float) (n k : ℕ) → Tenfold xs n → k < length xs → HasValue (get_or xs k nan) false (n * 10 ^ k) 1
at [] n k t h = absurd (omega arith)
at (x ∷ xs) n zero t h = let e : n ≡ n * 10 ^ 0 = omega arith in rw (← e) t.0
at (x ∷ xs) n (suc k) t h = let e : n * 10 * 10 ^ k ≡ n * 10 ^ suc k = omega (arith, ap (λ (z : ℕ). n * z) (pow-suc 10 k)) in rw (← e) (at xs (n * 10) k t.1 (omega arith))

abbrev pub powers : List Float
powers = of_bits binary64 4607182418800017408 ∷ of_bits binary64 4621819117588971520 ∷ of_bits binary64 4636737291354636288 ∷ of_bits binary64 4652007308841189376 ∷ of_bits binary64 4666723172467343360 ∷ of_bits binary64 4681608360884174848 ∷ of_bits binary64 4696837146684686336 ∷ of_bits binary64 4711630319722168320 ∷ of_bits binary64 4726483295884279808 ∷ of_bits binary64 4741671816366391296 ∷ of_bits binary64 4756540486875873280 ∷ of_bits binary64 4771362005757984768 ∷ of_bits binary64 4786511204640096256 ∷ of_bits binary64 4801453603149578240 ∷ of_bits binary64 4816244402031689728 ∷ of_bits binary64 4831355200913801216 ∷ of_bits binary64 4846369599423283200 ∷ of_bits binary64 4861130398305394688 ∷ of_bits binary64 4876203697187506176 ∷ []

tenfold : Tenfold powers 1
unfolding of_bits
tenfold = ((refl, refl), ((refl, refl), ((refl, refl), ((refl, refl), ((refl, refl), ((refl, refl), ((refl, refl), ((refl, refl), ((refl, refl), ((refl, refl), ((refl, refl), ((refl, refl), ((refl, refl), ((refl, refl), ((refl, refl), ((refl, refl), ((refl, refl), ((refl, refl), ((refl, refl), tt)))))))))))))))))))

pub power_value : (k : ℕ) → k ≤ 18 → HasValue (get_or powers k nan) false (10 ^ k) 1
power_value k h = let e : 1 * 10 ^ k ≡ 10 ^ k = omega arith in rw (← e) (at powers 1 k tenfold (omega arith))

pub power_pos : (k : ℕ) → 0 < 10 ^ k
power_pos k = omega (arith, one-le-pow k 10 (omega arith))

pub power_le : (k : ℕ) → k ≤ 18 → 10 ^ k ≤ 10 ^ 18
power_le k h = pow-le-pow_right (omega arith) h
