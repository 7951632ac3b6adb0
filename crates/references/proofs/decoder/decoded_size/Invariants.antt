use Rattle.std.proofs.Common.{length}
use Rattle.references.proofs.Passes.{Counted}
use Rattle.references.proofs.decoder.decoded_size.Given as goal

abbrev pub invariant-loop-character : goal.invariant-loop-character
invariant-loop-character l = Counted l.raw l.characters.rest.now l.size

abbrev pub decreases-loop-character : goal.decreases-loop-character
decreases-loop-character l = length l.characters.rest.now
