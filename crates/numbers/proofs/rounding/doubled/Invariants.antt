use Rattle.std.proofs.Common.{◌≡◌, ◌-◌, ◌*◌, ◌^◌, ◌<◌, ◌≤◌}
use Rattle.numbers.proofs.rounding.doubled.Given as goal

-- the unit is the divisor doubled as often as counted, and has not passed its mark
abbrev pub invariant-loop-unit : goal.invariant-loop-unit
invariant-loop-unit l = (0 < l.unit) × (l.unit ≡ l.divisor * 2 ^ l.count) × (2 ^ l.count ≤ l.unit) × (l.unit * 2 ^ 52 ≤ l.dividend)

abbrev pub decreases-loop-unit : goal.decreases-loop-unit
decreases-loop-unit l = l.dividend - l.unit
