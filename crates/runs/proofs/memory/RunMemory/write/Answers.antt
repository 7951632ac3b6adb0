use Rattle.std.proofs.Common.{◌≡◌, ◌≤◌, List, map, length, take, vec_items, vec_len, Vec, sym, refl, ap, ◌∙◌, subst, arith}
use Rattle.std.specs.Vec.{with_items}
use Rattle.std.proofs.lemmas.List.{with_items_is}
use Rattle.runs.specs.Memory.{overlay, Rises, FirstAboveZero}
use Rattle.runs.proofs.Fronts.{front_rises}
use Rattle.runs.proofs.memory.RunMemory.write.Goals as goal

-- a `Vec` whose items were lent holds what the loan left of them
overlaid : {X Z : Type 0} (memory : Vec X Z) (lent last xs : List X) → lent ≡ vec_items memory → length lent ≡ vec_len memory → length last ≡ length lent → last ≡ overlay xs lent → vec_items (with_items memory last) ≡ overlay xs (vec_items memory)
overlaid memory lent last xs value len kept after = with_items_is memory last (kept ∙ len) ∙ after ∙ ap (overlay xs) value

pub invariant_of-self : goal.invariant_of-self
invariant_of-self g c =
    let memory = c.args.self.now in
    let packed = c.pack-needed.ensures in
    let used = c.min-self.result in
    let lent = c.deref_mut-2 in
    let ends = overlaid memory.ends lent.result.now c.pack-needed.new.ends (map (λ r. r.end) packed.runs) lent.ensures.value lent.ensures.len c.pack-needed.auto.ends packed.ends_after in
    let in_runs : used ≤ length packed.runs = omega (arith, packed.length_is) in
    let in_ends : used ≤ length (vec_items memory.ends) = omega (arith, ap length lent.ensures.value) in
    let rising = subst (λ l. Rises (take used l) × FirstAboveZero (take used l)) (sym ends) (front_rises packed.packing used in_runs (vec_items memory.ends) in_ends) in
    record { marks_within = omega arith; ends_within = omega arith; rising = rising.0; first = rising.1 }

pub returns : goal.returns
returns g c =
    let memory = c.args.self.now in
    let packed = c.pack-needed.ensures in
    let marks = c.deref_mut in
    let ends = c.deref_mut-2 in
    record {
      packed = record {
        runs = packed.runs;
        packing = packed.packing;
        shortest = packed.shortest;
        length_is = packed.length_is;
        marks_after = overlaid memory.marks marks.result.now c.pack-needed.new.marks (map (λ r. r.mark) packed.runs) marks.ensures.value marks.ensures.len c.pack-needed.auto.marks packed.marks_after;
        ends_after = overlaid memory.ends ends.result.now c.pack-needed.new.ends (map (λ r. r.end) packed.runs) ends.ensures.value ends.ensures.len c.pack-needed.auto.ends packed.ends_after;
      };
      used = omega arith;
      marks_len = refl {a = vec_len memory.marks};
      ends_len = refl {a = vec_len memory.ends};
    }
