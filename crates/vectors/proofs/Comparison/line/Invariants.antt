use Rattle.vectors.specs.Counts.{NoneDiffers}
use Rattle.vectors.proofs.Comparison.line.Given as goal

-- where nothing differs now, nothing did at the beginning
abbrev pub invariant-loop-field : goal.invariant-loop-field
invariant-loop-field l = NoneDiffers l.self.tallies → NoneDiffers l.fn.self.tallies
