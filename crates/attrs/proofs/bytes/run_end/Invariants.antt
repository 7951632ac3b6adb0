use Rattle.std.proofs.Common.{ℕ, ◌-◌, ◌≤◌, Bool, length, take, drop}
use Rattle.attrs.specs.Bytes.{All, Tells}
use Rattle.attrs.proofs.bytes.run_end.Given as goal

-- the bytes so far pass
abbrev pub invariant-loop-at : goal.invariant-loop-at
invariant-loop-at g l =
    (l.from ≤ l.at) × (l.at ≤ length l.bytes) × ((passes : ℕ → Bool) → Tells (λ b r. g.F.Fn.post l.test (b, tt) r) passes → All passes (take (l.at - l.from) (drop l.from l.bytes)))

abbrev pub decreases-loop-at : goal.decreases-loop-at
decreases-loop-at g l = length l.bytes - l.at
