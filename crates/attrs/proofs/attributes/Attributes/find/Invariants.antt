use Rattle.std.proofs.Common.{◌≡◌, ◌-◌, length, drop}
use Rattle.attrs.proofs.Finding.{Passed}
use Rattle.attrs.proofs.attributes.Attributes.find.Given as goal

-- the items so far have other keys
abbrev pub invariant-loop-item : goal.invariant-loop-item
invariant-loop-item l = record {
  same_text : l.rest.text ≡ l.self.text;
  passed : Passed l.self.place (drop l.self.place l.self.text.now) l.key l.rest.place (drop l.rest.place l.self.text.now);
}

abbrev pub decreases-loop-item : goal.decreases-loop-item
decreases-loop-item l = length l.self.text.now - l.rest.place
