use Rattle.std.proofs.Common.{leb, rules, sym, ap, ◌∙◌, subst}
use Rattle.std.specs.Option.{option_map}
use Rattle.std.proofs.lemmas.List.Sorted.{IsPartitionPoint-from_clause}
use Rattle.runs.proofs.Places.{Holds, mark_at_held, rises_parted, holds_parted}
use Rattle.runs.proofs.table.RunTable.look_up.Goals as goal

-- the partition point is the index of the run that holds the place
pub returns : goal.returns
returns g c =
    let marks = c.self.inside.marks.now in
    let ends = c.self.inside.ends.now in
    let place = c.args.place in
    let index = c.partition_point-index.result in
    let parted = IsPartitionPoint-from_clause (λ end. leb end place) ends index c.partition_point-index.ensures.partitioned (rises_parted ends place c.self.invariant.rising) (λ a r f' k. search rules) in
    let held : Holds c.args.self.now index place = subst (λ runs. Holds runs index place) c.self.view_is (holds_parted marks ends index place c.self.invariant.level parted) in
    search rules ∙ ap (option_map (λ r. r.mark)) c.run.ensures ∙ sym (mark_at_held c.args.self.now index place held)
