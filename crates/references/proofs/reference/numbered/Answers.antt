use Rattle.std.proofs.Common.{◌+◌, ◌*◌, ◌<◌, length, get_or, sym, ap, ◌∙◌, arith, rules}
use Rattle.std.specs.Char.{digit_value}
use Rattle.std.proofs.lemmas.Int.Digits.{digits_more, digits_value_more}
use Rattle.references.proofs.Digits.{digit_at, stays_below, value_answers}
use Rattle.references.proofs.reference.numbered.Goals as goal

pub with_digit-requires : goal.with_digit-requires
with_digit-requires c = record { small = c.loop-byte.invariant.2; radix = c.requires }

pub loop-byte-preserved : goal.loop-byte-preserved
loop-byte-preserved c =
    let digits = c.args.digits.now in
    let i = c.loop-byte.byte-index in (
      digits_more c.args.radix digits i c.loop-byte-test.true c.loop-byte.invariant.0 c.in_ok-number.ensures.0.0,
      c.in_ok-number.ensures.1
          ∙ ap (λ v. v * c.args.radix + digit_value (get_or digits i 0)) c.loop-byte.invariant.1
          ∙ sym (digits_value_more c.args.radix digits i c.loop-byte-test.true),
      omega (arith, c.in_ok-number.ensures.0.1, c.in_ok-number.ensures.1),
    )

pub returns-in_err-number : goal.returns-in_err-number
returns-in_err-number c =
    rw c.from_residual.ensures
    (λ n h. c.in_err-number.ensures (
      digit_at c.args.radix c.args.digits.now c.loop-byte.byte-index h.numeral.1 c.loop-byte-test.true,
      stays_below c.args.radix c.loop-byte.number c.args.digits.now c.loop-byte.byte-index n c.requires c.loop-byte-test.true c.loop-byte.invariant.1 h,
    ))

pub returns : goal.returns
returns c =
    let some : 0 < length c.args.digits.now = search rules in
    value_answers c.args.radix c.loop-byte.number c.args.digits.now c.loop-byte.byte-index c.allowed.result c.loop-byte-test.false some c.loop-byte.invariant.0 c.loop-byte.invariant.1 c.allowed.ensures
