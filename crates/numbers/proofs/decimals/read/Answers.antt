use Rattle.std.proofs.Common.{◌∙◌, rules}
use Rattle.numbers.proofs.Scans.{no_minus}
use Rattle.numbers.proofs.decimals.read.Goals as goal

pub returns-in_default : goal.returns-in_default
returns-in_default c = c.scan-in_default.ensures ∙ no_minus c.args.text.now (λ some minus. search rules)
