use Rattle.std.proofs.Common.{◌≡◌, take}
use Rattle.attrs.specs.Seen.{key_number}
use Rattle.attrs.proofs.seen.key_number.Given as goal

abbrev pub invariant-loop-byte : goal.invariant-loop-byte
invariant-loop-byte l = l.number ≡ key_number (take l.byte-index l.key)
