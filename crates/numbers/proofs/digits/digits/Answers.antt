use Rattle.std.proofs.Common.{◌≡◌, true, get_or, sym, ◌∙◌, rules, arith}
use Rattle.std.specs.Char.{is_ascii_digit}
use Rattle.numbers.proofs.Fronts.{front_large}
use Rattle.numbers.proofs.digits.digits.Goals as goal

pub returns-in_err-sum : goal.returns-in_err-sum
returns-in_err-sum c =
    let digit : is_ascii_digit (get_or c.loop-rest.rest.now 0 0) ≡ true = search rules in
    rw c.from_residual.ensures (front_large c.loop-rest.sum c.loop-rest.rest.now (omega arith) digit c.in_err-sum.ensures ∙ sym c.loop-rest.invariant.1)
