use Rattle.std.proofs.Common.{◌≡◌, sum, take}
use Rattle.vectors.specs.Counts.{capped}
use Rattle.vectors.proofs.tallies.total.Given as goal

-- so far the counters come to the sum
abbrev pub invariant-loop-counter : goal.invariant-loop-counter
invariant-loop-counter l = l.sum ≡ capped (sum (take l.counter-index l.counters))
