use Rattle.numbers.specs.Fronts.{front}
use Rattle.std.proofs.Common.{◌≡◌, ◌^◌, ◌<◌, length}
use Rattle.numbers.proofs.digits.digits.Given as goal

-- what is still to be read says the same as the whole text
abbrev pub invariant-loop-rest : goal.invariant-loop-rest
invariant-loop-rest l = (l.sum < 2 ^ 64) × (front l.number l.text ≡ front l.sum l.rest)

abbrev pub decreases-loop-rest : goal.decreases-loop-rest
decreases-loop-rest l = length l.rest
