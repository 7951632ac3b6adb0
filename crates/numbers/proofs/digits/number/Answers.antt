use Rattle.std.proofs.Common.{ℕ, ◌^◌, Bool, not, List, length, sym, ap, ◌∙◌}
use Rattle.std.specs.Bool.{then_some}
use Rattle.std.proofs.lemmas.Bool.{eqb-true, eqb-false}
use Rattle.numbers.proofs.Fronts.{front_too_large, empty_none, whole_from_front}
use Rattle.numbers.proofs.digits.number.Goals as goal
use Rattle.numbers.proofs.digits.number.Goals.{then-not-is_empty, else-not-is_empty}

pub returns-in_err-sum : goal.returns-in_err-sum
returns-in_err-sum c = rw c.from_residual.ensures (front_too_large c.args.text.now c.in_err-sum.ensures)

pub returns : goal.returns
returns c =
    let text = c.args.text.now in
    let p : ℕ × List ℕ = (c.in_ok-sum.sum, c.in_ok-sum.rest.now) in
    elim c.if-not-is_empty.branch [
      | then-not-is_empty w ↦
          c.then_some.ensures ∙ ap (λ (b : Bool). then_some b p.0) (w.then_some-is ∙ w.is_empty-then-not-is_empty.ensures)
          ∙ whole_from_front text p c.in_ok-sum.ensures (eqb-false (length text) 0 (sym w.if-not-is_empty.ensures))
      | else-not-is_empty w ↦
          c.then_some.ensures ∙ ap (λ (b : Bool). then_some b p.0) w.then_some-is ∙ ap (λ (b : Bool). then_some (not b) p.0) w.if-not-is_empty.false
          ∙ empty_none (2 ^ 64) text (eqb-true (length text) 0 (sym w.if-not-is_empty.ensures))
    ]
