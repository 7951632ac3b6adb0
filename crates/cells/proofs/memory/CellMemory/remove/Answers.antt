use Rattle.std.proofs.Common.{sym, refl, ap, ◌∙◌, subst, arith}
use Rattle.std.proofs.lemmas.Bool.{true≢false}
use Rattle.cells.specs.Words.{Ordered, words_of}
use Rattle.cells.proofs.Order.{ordered_removed}
use Rattle.cells.proofs.Words.{stands_found, none_absent, words_removed}
use Rattle.cells.proofs.memory.CellMemory.remove.Goals as goal

pub invariant_of-self : goal.invariant_of-self
invariant_of-self c =
    let m = c.args.self.now in
    let f = rw c.deref.ensures.value at c.in-Ok.ensures in
    let less = c.remove.ensures.len in
    record {
      ordered = subst Ordered (sym c.remove.ensures.items) (ordered_removed m.cells.items c.in-Ok.index m.ordered c.remove.result f.within);
      few = omega arith;
      room = omega arith;
    }

pub returns-in-Ok-clause-removed : goal.returns-in-Ok-clause-removed
returns-in-Ok-clause-removed c =
    let m = c.args.self.now in
    let d = c.remove.result in
    let f = rw c.deref.ensures.value at c.in-Ok.ensures in
    record {
      is = sym (stands_found m.cells.items c.args.at c.in-Ok.index f);
      limit_same = refl;
      words_after = λ _. λ r c'.
          ap (λ xs. words_of xs r c') c.remove.ensures.items
          ∙ words_removed m.cells.items c.in-Ok.index c.args.at d r c' f.within f.before (f.at d) f.after;
      kept_after = λ _. c.remove.ensures.len;
    }

pub returns-in-Err-clause-removed : goal.returns-in-Err-clause-removed
returns-in-Err-clause-removed c =
    let f = rw c.deref.ensures.value at c.in-Err.ensures in
    record {
      is = sym (none_absent c.args.self.now.cells.items c.args.at c.in-Err.field-0 f);
      limit_same = refl;
      words_after = λ e. absurd (true≢false (sym e));
      kept_after = λ e. absurd (true≢false (sym e));
    }
