use Rattle.std.proofs.Common.{length, sym, ap, ◌∙◌, subst}
use Rattle.runs.specs.Memory.{Ascending}
use Rattle.runs.proofs.Places.{length-runs_of, table_rises}
use Rattle.runs.proofs.table.RunTable.count.Goals as goal

pub returns : goal.returns
returns g c =
    let table = c.self.inside in
    let rises = table_rises table.marks.now table.ends.now c.self.invariant in
    record {
      value = sym (length-runs_of table.marks.now table.ends.now c.self.invariant.level) ∙ ap length c.self.view_is;
      ascending = subst Ascending c.self.view_is rises;
    }
