use Rattle.std.proofs.Common.{rules, arith}
use Rattle.std.proofs.lemmas.Grind.{common_steps}
use Rattle.attrs.specs.Bytes.{white, key_byte}
use Rattle.attrs.proofs.Reading.{key_there, no_key, no_equals}
use Rattle.attrs.proofs.item.key_bounds.Goals as goal
use Rattle.attrs.proofs.item.key_bounds.Goals.{then-end-start-via-then-end-start, then-end-start-via-else-end-start+then-ne}

pub returns-then-end-start-clause-keyed : goal.returns-then-end-start-clause-keyed
returns-then-end-start-clause-keyed c =
    let key = c.run_end-end.ensures.run key_byte (search rules) in
    let gap = c.run_end-equals.ensures.run white (search rules) in
    elim c.then-end-start.branch [
      | then-end-start-via-then-end-start w ↦ no_key _ _ _ _ key gap w.if-end-start.true
      | then-end-start-via-else-end-start+then-ne w ↦ no_equals _ _ _ _ key gap (λ inside is. grind (arith, common_steps))
    ]

pub returns-clause-keyed : goal.returns-clause-keyed
returns-clause-keyed c =
    key_there c.args.bytes.now c.args.start c.run_end-end.result c.run_end-equals.result
    (c.run_end-end.ensures.run key_byte (search rules)) (c.run_end-equals.ensures.run white (search rules))
    (search rules) (search rules) (search rules)
