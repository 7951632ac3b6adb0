use Rattle.std.proofs.Common.{sym, ap, ◌∙◌, subst}
use Rattle.std.specs.Fmt.{HasWritten}
use Rattle.sheet.specs.Refusals.{put_text}
use Rattle.sheet.proofs.Texts.{put_off_sheet, put_full}
use Rattle.sheet.proofs.answers.PutRefusalDisplay.fmt.Goals as goal

pub returns-in-OffSheet-clause-writes : goal.returns-in-OffSheet-clause-writes
returns-in-OffSheet-clause-writes g c plain ok =
    subst (λ t. HasWritten g.W.Write.write_str_gives c.args.f.now t c.write_str.new.self) (sym (ap put_text c.in-OffSheet.is ∙ put_off_sheet)) (c.write_str.ensures.writes plain ok)

pub returns-in-Full-clause-writes : goal.returns-in-Full-clause-writes
returns-in-Full-clause-writes g c plain ok =
    subst (λ t. HasWritten g.W.Write.write_str_gives c.args.f.now t c.write_str-in-Full.new.self) (sym (ap put_text c.in-Full.is ∙ put_full)) (c.write_str-in-Full.ensures.writes plain ok)
