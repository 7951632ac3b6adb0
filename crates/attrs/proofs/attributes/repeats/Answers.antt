use Rattle.std.proofs.Common.{true, false, Some, None, refl, rules}
use Rattle.attrs.specs.Items.{attribute_of}
use Rattle.attrs.proofs.Checking.{first_tells}
use Rattle.attrs.proofs.attributes.repeats.Goals as goal

pub returns-in-Some : goal.returns-in-Some
returns-in-Some c = first_tells _ _ (Some c.in-Some.first) (attribute_of c.args.item.now) true c.in-Some.ensures.found (search rules)

pub returns-in_default : goal.returns-in_default
returns-in_default c = first_tells _ _ (Some c.in-Some.first) (attribute_of c.args.item.now) false c.in-Some.ensures.found (search rules)

pub returns-in_default-2 : goal.returns-in_default-2
returns-in_default-2 c = first_tells _ _ None (attribute_of c.args.item.now) false (search rules) refl
