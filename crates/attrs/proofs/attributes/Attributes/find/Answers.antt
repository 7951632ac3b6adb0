use Rattle.std.proofs.Common.{◌≡◌, drop, rules}
use Rattle.attrs.specs.Grammar.{First, past}
use Rattle.attrs.specs.Items.{attribute_of, FoundAt, NotFound, left}
use Rattle.attrs.proofs.Finding.{passed_more, found_among, none_among, fewer_left}
use Rattle.attrs.proofs.attributes.Attributes.find.Goals as goal

pub returns-then-eq-clause-among : goal.returns-then-eq-clause-among
returns-then-eq-clause-among c items formed =
    let found : FoundAt c.args.self.now.place (left c.args.self.now) c.args.key.now (attribute_of c.in-Ok-Some.item) = search rules in
    (found_among found formed, found.key_is)

pub loop-item-smaller : goal.loop-item-smaller
loop-item-smaller c =
    fewer_left c.args.self.now.text.now _ _ (attribute_of c.in-Ok-Some.item) (drop c.next.new.self.place c.args.self.now.text.now) (search rules) (search rules)

pub loop-item-preserved : goal.loop-item-preserved
loop-item-preserved c =
    let text = c.args.self.now.text.now in
    let first : First c.loop-item.rest.place (drop c.loop-item.rest.place text) (attribute_of c.in-Ok-Some.item) (drop (past (attribute_of c.in-Ok-Some.item)) text) = search rules in
    let at : c.next.new.self.place ≡ past (attribute_of c.in-Ok-Some.item) = search rules in
    record {
      same_text = search rules;
      passed = rw at (passed_more c.loop-item.invariant.passed first (search rules));
    }

pub returns-clause-among : goal.returns-clause-among
returns-clause-among c items formed =
    let missing : NotFound c.args.self.now.place (left c.args.self.now) c.args.key.now = search rules in
    none_among missing formed
