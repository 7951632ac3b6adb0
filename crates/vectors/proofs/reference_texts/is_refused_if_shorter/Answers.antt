use Rattle.std.proofs.Common.{◌≡◌, ◌-◌, sym, subst, ◌∙◌, arith}
use Rattle.vectors.specs.Attempts.{Attempted}
use Rattle.vectors.proofs.reference_texts.is_refused_if_shorter.Goals as goal
use Rattle.vectors.proofs.reference_texts.is_refused_if_shorter.Goals.{then-number-eq14, else-number-eq14}

pub returns : goal.returns
returns c e some =
    let less : c.in-Some.shorter ≡ c.args.count - 1 = omega arith in
    let attempted = subst (λ n. Attempted c.args.text.now.text.now n c.in_ok-attempt.attempt) less c.in_ok-attempt.ensures in
    elim c.if-number-eq14.branch [
      | then-number-eq14 w ↦ (c.in_ok-attempt.attempt, attempted, w.was_refused.ensures.0 (sym w.result-is ∙ e))
      | else-number-eq14 w ↦ absurd (w.if-number-eq14.false c.number.ensures)
    ]
