use Rattle.std.proofs.Common.{◌≡◌, ◌+◌, ◌-◌, ◌<◌, ◌≤◌, length, take, drop, Err, refl, rules, arith}
use Rattle.attrs.specs.Bytes.{white}
use Rattle.attrs.specs.Grammar.{Keyed}
use Rattle.attrs.specs.Flaws.{ValueFlaw}
use Rattle.attrs.specs.declared.fault.Flaw.TheVariants.{BadKey}
use Rattle.attrs.proofs.Reading.{blank, faulty, value_flaw, first, past_is}
use Rattle.attrs.proofs.attributes.Attributes.next.Goals as goal

pub returns-then-place-text-clause-next : goal.returns-then-place-text-clause-next
returns-then-place-text-clause-next c =
    let self = c.args.self.now in
    (blank self.text.now self.place c.run_end-place.result (c.run_end-place.ensures.run white (search rules)) c.if-place-text.true, refl, refl)

pub returns-in_err-key-clause-next : goal.returns-in_err-key-clause-next
returns-in_err-key-clause-next c =
    let self = c.args.self.now in
    let is : c.from_residual.result ≡ Err (record { flaw = BadKey; place = c.run_end-place.result }) = search rules in
    rw is (faulty self.text.now self.place _ (c.run_end-place.ensures.run white (search rules)) (search rules) (search rules), refl, refl)

pub returns-in_err-value-clause-next : goal.returns-in_err-value-clause-next
returns-in_err-value-clause-next c =
    let self = c.args.self.now in
    let text = self.text.now in
    let place = c.run_end-place.result in
    let flaw = c.in_err-value.field-0.0.flaw in
    let key = c.in_ok-key.key in
    let is : c.from_residual-in_err-value.result ≡ Err (record { flaw = flaw; place = place }) = search rules in
    let keyed : Keyed (drop place text) (take (key.end - place) (drop place text)) (drop (key.equals + 1) text) = search rules in
    let flawed : ValueFlaw (drop (key.equals + 1) text) flaw = search rules in
    rw is (faulty text self.place _ (c.run_end-place.ensures.run white (search rules)) (search rules) (value_flaw _ _ _ flaw keyed flawed), refl, refl)

pub returns-clause-next : goal.returns-clause-next
returns-clause-next c =
    let self = c.args.self.now in
    let text = self.text.now in
    let place = c.run_end-place.result in
    let key = c.in_ok-key.key in
    let value = c.in_ok-value.value in
    let bounds : (key.equals + 1 < value.start) × (value.start ≤ value.end) × (value.end < length text) = search rules in (
      first text self.place place key.end key.equals value.start value.end (c.run_end-place.ensures.run white (search rules)) (search rules) (search rules)
          (search rules) (search rules) bounds.1 bounds.2,
      past_is text value.start value.end bounds.1 (omega (arith, bounds.2)),
    )
