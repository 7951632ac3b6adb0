use Rattle.std.proofs.Common.{◌≡◌, ◌-◌, ◌<◌, length, drop}
use Rattle.attrs.proofs.Checking.{Sound}
use Rattle.attrs.proofs.attributes.check_items.Given as goal

abbrev pub invariant-loop-item : goal.invariant-loop-item
invariant-loop-item l = record {
  same_text : l.rest.text ≡ l.attributes.text;
  some_words : 0 < length l.words;
  sound : Sound l.attributes.place (drop l.attributes.place l.attributes.text.now) l.words l.rest.place (drop l.rest.place l.attributes.text.now);
}

abbrev pub decreases-loop-item : goal.decreases-loop-item
decreases-loop-item l = length l.attributes.text.now - l.rest.place
