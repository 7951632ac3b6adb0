use Rattle.std.proofs.Common.{◌≡◌, ℕ, length, sym, ap, ◌∙◌, arith, rules}
use Rattle.std.specs.List.{slice_get}
use Rattle.std.proofs.lemmas.Iterator.{YieldsList-from_range, cases_from_all}
use Rattle.runs.proofs.Places.{same_from_indices}
use Rattle.runs.proofs.table.RunTable.same.Goals as goal
use borrow.Author.Tests.{tests}

pub returns-then-count : goal.returns-then-count
returns-then-count g c =
    let one = c.args.self.now in
    let other = c.args.other.now in
    let n = length one in
    let Yes : ℕ → Type 0 = λ k. slice_get one k ≡ slice_get other k in
    let level : length one ≡ length other = sym c.count.ensures.value ∙ c.if-count.true ∙ c.count-2.ensures.value in
    let indices = YieldsList-from_range 0 n n (ap (λ e. record { start = 0; end = e }) c.count-then-count.ensures.value) (omega arith) in
    same_from_indices one other c.all.result level (cases_from_all _ _ c.all.result Yes (λ k. Yes k → ⊥) c.all.ensures.ran indices (λ x q k. search (rules, tests)) (λ x q k. search (rules, tests)))
