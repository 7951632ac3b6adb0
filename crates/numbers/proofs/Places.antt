-- The value of digits, by their places.
use Rattle.std.proofs.Common.{◌≡◌, ℕ, suc, ◌+◌, ◌-◌, ◌*◌, ◌^◌, List, [], ◌∷◌, length, sym, ap, ◌∙◌, mul_assoc, mul_comm, add-mul, pow-suc, mul-one, arith}
use Rattle.numbers.specs.Numerals.{value_after, Positional}

value_after_is : (n : ℕ) (cs : List ℕ) → value_after n cs ≡ n * 10 ^ length cs + value_after 0 cs
value_after_is n [] = omega (arith, mul-one n)
value_after_is n (c ∷ cs) =
    let P = 10 ^ length cs in
    let d = c - 48 in
    let long : value_after (n * 10 + d) cs ≡ (n * 10 + d) * P + value_after 0 cs = value_after_is (n * 10 + d) cs in
    let short : value_after (0 * 10 + d) cs ≡ (0 * 10 + d) * P + value_after 0 cs = value_after_is (0 * 10 + d) cs in
    let parts : (n * 10 + d) * P ≡ n * 10 * P + d * P = add-mul (n * 10) d P in
    let none : (0 * 10 + d) * P ≡ d * P = ap (λ x. x * P) (omega arith) in
    let power : n * 10 ^ suc (length cs) ≡ n * 10 * P = ap (λ x. n * x) (pow-suc 10 (length cs) ∙ mul_comm P 10) ∙ sym (mul_assoc n 10 P) in
    omega arith

pub positional : Positional
positional c cs = value_after_is (0 * 10 + (c - 48)) cs ∙ ap (λ x. x * 10 ^ length cs + value_after 0 cs) (omega arith)
