use Rattle.std.proofs.Common.{sym, ap, ◌∙◌, subst}
use Rattle.std.specs.Fmt.{HasWritten}
use Rattle.references.specs.Answers.{decode_text}
use Rattle.references.proofs.Texts.{decode_malformed, too_short}
use Rattle.references.proofs.refusals.DecodeRefusalDisplay.fmt.Goals as goal

pub returns-in-Malformed-clause-writes : goal.returns-in-Malformed-clause-writes
returns-in-Malformed-clause-writes g c plain ok =
    subst (λ t. HasWritten g.W.Write.write_str_gives c.args.f.now t c.write_str.new.self) (sym (ap decode_text c.in-Malformed.is ∙ decode_malformed)) (c.write_str.ensures.writes plain ok)

pub returns-in-TooShort-clause-writes : goal.returns-in-TooShort-clause-writes
returns-in-TooShort-clause-writes g c plain ok =
    subst (λ t. HasWritten g.W.Write.write_str_gives c.args.f.now t c.write.new.self) (sym (ap decode_text c.in-TooShort.is ∙ too_short c.in-TooShort.needed)) (c.write.ensures.writes plain ok)
