use Rattle.std.proofs.Common.{◌∙◌}
use Rattle.std.proofs.lemmas.Result.{IfOk-weaker}
use Rattle.vectors.proofs.Flaws.{first_flaw}
use Rattle.vectors.proofs.attribute_texts.answered.Goals as goal

pub returns-clause-flawed : goal.returns-clause-flawed
returns-clause-flawed c =
    IfOk-weaker c.refused.result _ _
    (λ given. first_flaw c.in-Err.fault _ 3 _ c.args.text.now c.attributes.ensures.place (c.attributes.ensures.left ∙ c.in_ok-text.ensures) c.in-Err.ensures.checked given.kind)
    c.refused.ensures.kind
