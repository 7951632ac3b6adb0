use Rattle.std.proofs.Common.{length, drop}
use Rattle.vectors.proofs.attribute_texts.accepted.Given as goal

abbrev pub decreases-loop-item : goal.decreases-loop-item
decreases-loop-item l = length (drop l.rest.place l.rest.text.now)
