use Rattle.std.proofs.Common.{sym, ap, ◌∙◌, subst}
use Rattle.std.specs.Fmt.{HasWritten}
use Rattle.sheet.specs.Refusals.{pack_text}
use Rattle.sheet.proofs.Texts.{pack_ids, pack_kinds}
use Rattle.sheet.proofs.answers.PackRefusalDisplay.fmt.Goals as goal

pub returns-in-IdRuns-clause-writes : goal.returns-in-IdRuns-clause-writes
returns-in-IdRuns-clause-writes g c plain ok =
    subst (λ t. HasWritten g.W.Write.write_str_gives c.args.f.now t c.write.new.self) (sym (ap pack_text c.in-IdRuns.is ∙ pack_ids c.in-IdRuns.needed)) (c.write.ensures.writes plain ok)

pub returns-in-KindRuns-clause-writes : goal.returns-in-KindRuns-clause-writes
returns-in-KindRuns-clause-writes g c plain ok =
    subst (λ t. HasWritten g.W.Write.write_str_gives c.args.f.now t c.write-in-KindRuns.new.self) (sym (ap pack_text c.in-KindRuns.is ∙ pack_kinds c.in-KindRuns.needed)) (c.write-in-KindRuns.ensures.writes plain ok)
