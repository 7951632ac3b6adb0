use Rattle.std.proofs.Common.{sym, subst}
use Rattle.std.specs.Fmt.{HasWritten}
use Rattle.references.proofs.Texts.{malformed}
use Rattle.references.proofs.refusals.MalformedDisplay.fmt.Goals as goal

pub returns-clause-writes : goal.returns-clause-writes
returns-clause-writes g c plain ok =
    subst (λ t. HasWritten g.W.Write.write_str_gives c.args.f.now t c.write_str.new.self) (sym (malformed c.args.self.now)) (c.write_str.ensures.writes plain ok)
