use Rattle.std.proofs.Common.{◌+◌, ◌<◌, inl, inr, cond, is_some, sym, refl, ap, ◌∙◌, arith}
use Rattle.std.specs.Option.{option_map}
use Rattle.runs.specs.Memory.{last_end}
use Rattle.runs.proofs.Places.{Holds, mark_at_held, before_last, held_within, held_after}
use Rattle.runs.proofs.walk.RunWalkIterator.next.Goals as goal
use Rattle.runs.proofs.walk.RunWalkIterator.next.Goals.{then-run-place, else-run-place}

pub returns-in_err-run-clause-steps : goal.returns-in_err-run-clause-steps
returns-in_err-run-clause-steps g c =
    let w = c.args.self.now in
    let none = c.from_residual.ensures in (
      none
          ∙ ap (option_map (λ r. r.mark)) (sym c.in_err-run.was ∙ c.run.ensures)
          ∙ sym (mark_at_held w.table w.run w.place (w.before, w.within)),
      ap (λ r. cond (is_some r) (w.place + 1) w.place) (sym none),
      refl,
    )

pub overflow_add-self : goal.overflow_add-self
overflow_add-self g c =
    let w = c.args.self.now in
    let within = held_within w.table w.run w.place c.in_ok-run.run' (w.before, w.within) (sym c.run.ensures ∙ c.in_ok-run.was) in
    omega (arith, w.few)

pub invariant_of-self-2 : goal.invariant_of-self-2
invariant_of-self-2 g c =
    let w = c.args.self.now in
    let r = c.in_ok-run.run' in
    let next = c.if-run-place.self.1.1.0 in
    let held : Holds w.table next (w.place + 1) =
    held_after w.table w.run w.place r (w.before, w.within) (sym c.run.ensures ∙ c.in_ok-run.was) next w.rising (elim c.if-run-place.branch [
      | then-run-place t ↦ inl (t.if-run-place.true, ap (λ s. s.1.1.0) t.self-is)
      | else-run-place t ↦ inr (omega (arith, t.if-run-place.false), ap (λ s. s.1.1.0) t.self-is)
    ]) in
    record { few = w.few; rising = w.rising; first = w.first; before = held.0; within = held.1 }

pub returns-clause-steps : goal.returns-clause-steps
returns-clause-steps g c =
    let w = c.args.self.now in (
      ap (option_map (λ r. r.mark)) (sym c.in_ok-run.was ∙ c.run.ensures)
          ∙ sym (mark_at_held w.table w.run w.place (w.before, w.within)),
      refl,
      refl,
    )

pub returns-clause-goes : goal.returns-clause-goes
returns-clause-goes g c =
    let w = c.args.self.now in
    let within = held_within w.table w.run w.place c.in_ok-run.run' (w.before, w.within) (sym c.run.ensures ∙ c.in_ok-run.was) in
    let before : w.place < last_end w.table = before_last w.table w.run w.place w.rising within (w.within within) in
    record { on = λ finite. (tt, tt, omega arith); keeps = tt; rests = λ _. tt }
