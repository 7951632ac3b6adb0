use Rattle.std.proofs.Common.{length}
use Rattle.references.proofs.Passes.{Writing}
use Rattle.references.proofs.decoder.write.Given as goal

abbrev pub invariant-loop-character : goal.invariant-loop-character
invariant-loop-character l = Writing l.raw l.characters.rest.now l.initial.buffer l.buffer l.place

abbrev pub decreases-loop-character : goal.decreases-loop-character
decreases-loop-character l = length l.characters.rest.now
