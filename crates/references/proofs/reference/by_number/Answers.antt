use Rattle.std.proofs.Common.{Some, None, lit<}
use Rattle.std.proofs.lemmas.Str.Pattern.{strip_prefix_char}
use Rattle.references.proofs.Names.{hexadecimal_answers, decimal_answers}
use Rattle.references.proofs.reference.by_number.Goals as goal

pub returns-in-Some : goal.returns-in-Some
returns-in-Some c =
    hexadecimal_answers c.args.number.now c.in-Some.digits.now c.as_bytes.result.now c.numbered.result
    (strip_prefix_char 120 c.args.number.now (Some c.in-Some.digits) c.in-Some.ensures.cases (lit< tt))
    c.as_bytes.ensures.value c.numbered.ensures

pub returns-in-None : goal.returns-in-None
returns-in-None c =
    decimal_answers c.args.number.now c.as_bytes-in-None.result.now c.numbered-in-None.result
    (strip_prefix_char 120 c.args.number.now None c.in-None.ensures.cases (lit< tt))
    c.as_bytes-in-None.ensures.value c.numbered-in-None.ensures
