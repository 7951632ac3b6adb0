use Rattle.std.proofs.Common.{◌≡◌, ◌<◌, take}
use Rattle.std.specs.Str.Parse.{digits_value, AllDigits}
use Rattle.references.proofs.reference.numbered.Given as goal

-- the bytes so far are digits, and the number is their value, which is not past every character
abbrev pub invariant-loop-byte : goal.invariant-loop-byte
invariant-loop-byte l =
    AllDigits l.radix (take l.byte-index l.digits) × (l.number ≡ digits_value l.radix (take l.byte-index l.digits)) × (l.number < 0x110000)
