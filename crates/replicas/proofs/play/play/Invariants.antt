use Rattle.std.proofs.Common.{ℕ, List, ◌++◌, reverse, take}
use Rattle.replicas.specs.declared.call.Call.{Call}
use Rattle.replicas.specs.Stands.{Stands}
use Rattle.replicas.proofs.play.play.Given as goal

-- the sheet stands for the calls so far
abbrev pub invariant-loop-call : goal.invariant-loop-call
invariant-loop-call g l = (C R : ℕ) (h : List Call) → Stands l.palette C R h l.initial.sheet → Stands l.palette C R (reverse (take l.call-index l.calls) ++ h) l.sheet
