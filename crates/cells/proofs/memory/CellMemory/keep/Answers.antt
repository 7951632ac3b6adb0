use Rattle.std.proofs.Common.{◌≡◌, ℕ, ◌<◌, true, false, vec_len, vec_capacity, sym, refl, ap, ◌∙◌, subst, arith}
use Rattle.std.proofs.lemmas.Bool.{or_left, or_right, or_from, lt-ltb, le-ltb, cond-true, cond-false, true≢false}
use Rattle.cells.specs.declared.cell.Cell.{Cell}
use Rattle.cells.specs.Words.{Ordered, words_of}
use Rattle.cells.specs.Kept.{stands_at, kept}
use Rattle.cells.proofs.Order.{ordered_set, ordered_inserted}
use Rattle.cells.proofs.Words.{stands_found, none_absent, words_inserted, words_set}
use Rattle.cells.proofs.memory.CellMemory.keep.Goals as goal

pub invariant_of-self : goal.invariant_of-self
invariant_of-self c =
    let m = c.args.self.now in
    let x : Cell = record { at = c.args.at; id = c.args.id } in
    let f = rw c.deref.ensures.value at c.in-Ok.ensures in
    record { ordered = ordered_set m.cells.items c.in-Ok.index x x f.within (f.at x) m.ordered; few = m.few; room = m.room }

pub returns-in-Ok-clause-kept : goal.returns-in-Ok-clause-kept
returns-in-Ok-clause-kept c =
    let m = c.args.self.now in
    let x : Cell = record { at = c.args.at; id = c.args.id } in
    let f = rw c.deref.ensures.value at c.in-Ok.ensures in
    let found : stands_at m c.args.at ≡ true = stands_found m.cells.items c.args.at c.in-Ok.index f in
    record {
      is = sym (or_left _ _ found);
      limit_same = refl;
      words_after = λ _. λ r c'. words_set m.cells.items c.in-Ok.index x x r c' f.within f.before (f.at x);
      kept_after = λ _. omega (arith, cond-true {A = ℕ} _ 0 1 found);
    }

pub returns-in-Err-clause-kept : goal.returns-in-Err-clause-kept
returns-in-Err-clause-kept c =
    let m = c.args.self.now in
    let f = rw c.deref.ensures.value at c.in-Err.ensures in
    let missing : stands_at m c.args.at ≡ false = none_absent m.cells.items c.args.at c.in-Err.field-0 f in
    record {
      is = sym (or_from _ _ missing (le-ltb (kept m) m.limit (omega arith)));
      limit_same = refl;
      words_after = λ e. absurd (true≢false (sym e));
      kept_after = λ e. absurd (true≢false (sym e));
    }

pub invariant_of-self-in-Err-2 : goal.invariant_of-self-in-Err-2
invariant_of-self-in-Err-2 c =
    let m = c.args.self.now in
    let x : Cell = record { at = c.args.at; id = c.args.id } in
    let f = rw c.deref.ensures.value at c.in-Err.ensures in
    let room : vec_len m.cells < vec_capacity m.cells = let h = m.room in omega arith in
    let done = c.insert.ensures.succeeds room in
    let one_more = c.insert.ensures.len ∙ cond-true _ _ _ done in
    record {
      ordered = subst Ordered (sym (c.insert.ensures.items ∙ cond-true _ _ _ done)) (ordered_inserted m.cells.items c.in-Err.field-0 m.ordered x f.within f.before f.after);
      few = omega arith;
      room = let same = (c.insert.ensures.in_place room).1.0 in let h = m.room in omega arith;
    }

pub returns-in-Err-2-clause-kept : goal.returns-in-Err-2-clause-kept
returns-in-Err-2-clause-kept c =
    let m = c.args.self.now in
    let x : Cell = record { at = c.args.at; id = c.args.id } in
    let f = rw c.deref.ensures.value at c.in-Err.ensures in
    let room : vec_len m.cells < vec_capacity m.cells = let h = m.room in omega arith in
    let done = c.insert.ensures.succeeds room in
    let missing : stands_at m c.args.at ≡ false = none_absent m.cells.items c.args.at c.in-Err.field-0 f in
    record {
      is = sym (or_right _ _ (lt-ltb (kept m) m.limit (omega arith)));
      limit_same = refl;
      words_after = λ _. λ r c'.
          ap (λ xs. words_of xs r c') (c.insert.ensures.items ∙ cond-true _ _ _ done)
          ∙ words_inserted m.cells.items c.in-Err.field-0 x r c' f.within (λ k d h e. let l = f.before k d h in omega arith);
      kept_after = λ _. let one_more = c.insert.ensures.len ∙ cond-true _ _ _ done in omega (arith, cond-false {A = ℕ} _ 0 1 missing);
    }
