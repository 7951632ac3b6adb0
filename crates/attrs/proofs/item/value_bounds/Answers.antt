use Rattle.std.proofs.Common.{◌≡◌, Err, rules}
use Rattle.attrs.specs.Bytes.{white, except}
use Rattle.attrs.specs.declared.fault.Flaw.TheVariants.{NoQuote}
use Rattle.attrs.proofs.Reading.{unquoted, unclosed, quoted, joined}
use Rattle.attrs.proofs.item.value_bounds.Goals as goal

pub returns-in_err-mark-clause-quoted : goal.returns-in_err-mark-clause-quoted
returns-in_err-mark-clause-quoted c =
    let is : c.from_residual.result ≡ Err NoQuote = search rules in
    rw is (unquoted c.args.bytes.now c.args.from c.run_end-open.result (c.run_end-open.ensures.run white (search rules)) (λ inside. search rules))

pub returns-then-end-bytes-clause-quoted : goal.returns-then-end-bytes-clause-quoted
returns-then-end-bytes-clause-quoted c =
    unclosed c.args.bytes.now c.args.from c.run_end-open.result (c.run_end-open.ensures.run white (search rules))
    c.in_ok-mark.mark c.run_end-end.result (search rules) (search rules) (search rules)
    (c.run_end-end.ensures.run (except c.in_ok-mark.mark) (search rules)) c.if-end-bytes.true

pub returns-then-is_some_and-clause-quoted : goal.returns-then-is_some_and-clause-quoted
returns-then-is_some_and-clause-quoted c =
    joined c.args.bytes.now c.args.from c.run_end-open.result (c.run_end-open.ensures.run white (search rules))
    c.in_ok-mark.mark c.run_end-end.result (search rules) (search rules) (search rules)
    (c.run_end-end.ensures.run (except c.in_ok-mark.mark) (search rules)) (search rules) (search rules)

pub returns-clause-quoted : goal.returns-clause-quoted
returns-clause-quoted c =
    quoted c.args.bytes.now c.args.from c.run_end-open.result (c.run_end-open.ensures.run white (search rules))
    c.in_ok-mark.mark c.run_end-end.result (search rules) (search rules) (search rules)
    (c.run_end-end.ensures.run (except c.in_ok-mark.mark) (search rules)) (search rules)
