use Rattle.std.proofs.Common.{None, lit<}
use Rattle.std.proofs.lemmas.Str.Pattern.{strip_prefix_char}
use Rattle.references.proofs.Names.{entity_answers}
use Rattle.references.proofs.reference.meaning.Goals as goal

pub returns-in-None : goal.returns-in-None
returns-in-None c =
    entity_answers c.args.name.now c.entity.result
    (strip_prefix_char 35 c.args.name.now None c.in-None.ensures.cases (lit< tt))
    c.entity.ensures
