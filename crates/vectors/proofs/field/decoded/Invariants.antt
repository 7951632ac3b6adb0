use Rattle.std.proofs.Common.{length, vec_items}
use Rattle.vectors.proofs.Spelling.{Passed, Left}
use Rattle.vectors.proofs.field.decoded.Given as goal

-- the text so far is what the field has before the rest
abbrev pub invariant-loop-byte : goal.invariant-loop-byte
invariant-loop-byte l = Passed l.initial.rest (vec_items l.text) l.rest × Left l.initial.rest l.rest

abbrev pub decreases-loop-byte : goal.decreases-loop-byte
decreases-loop-byte l = length l.rest
