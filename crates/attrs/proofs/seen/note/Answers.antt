use Rattle.std.proofs.Common.{mod-lt}
use Rattle.attrs.proofs.Filter.{now_marked, still_marked}
use Rattle.attrs.proofs.seen.note.Goals as goal

pub returns-clause-marked : goal.returns-clause-marked
returns-clause-marked c =
    rw c.bits_of.ensures (now_marked c.args.words.now c.args.number (mod-lt _ c.requires))

pub returns-clause-kept : goal.returns-clause-kept
returns-clause-kept c other m =
    rw c.bits_of.ensures (still_marked c.args.words.now c.args.number (mod-lt _ c.requires) other m)
