use Rattle.std.proofs.Common.{lit<}
use Rattle.vectors.specs.Lines.{family_words}
use Rattle.vectors.proofs.Splits.{cut_last, three_parts}
use Rattle.vectors.proofs.line.Line.read.Goals as goal

pub returns : goal.returns
returns c =
    let cut = cut_last 32 c.args.line.now c.in_ok-front.front.now c.in_ok-front.answer.now c.in_ok-front.ensures.cases (lit< tt) in
    three_parts _ _ (family_words c.in_ok-family.family) c.in_ok-family.texts.now _ 32 cut c.in_ok-family.ensures
