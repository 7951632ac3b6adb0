use Rattle.std.proofs.Common.{refl}
use Rattle.runs.proofs.Places.{table_rises}
use Rattle.runs.proofs.table.RunTable.over.Goals as goal

pub returns : goal.returns
returns g c =
    let rises = table_rises c.args.marks.now c.args.ends.now c.requires in
    record { runs = refl; ascending = rises }
