use Rattle.std.proofs.Common.{subst, rules, arith}
use Rattle.std.specs.List.Sorted.{IsBinarySearchResult}
use Rattle.std.specs.Ordering.{nat_cmp}
use Rattle.std.proofs.lemmas.List.Sorted.{answers_always}
use Rattle.cells.specs.declared.cell.Cell.{Cell}
use Rattle.cells.specs.Words.{number}
use Rattle.cells.proofs.Search.{all_before, searched}
use Rattle.cells.proofs.memory.methods.locate.Goals as goal

pub returns-in-Some : goal.returns-in-Some
returns-in-Some c =
    let last = c.in-Some.ensures.item.3 in
    all_before c.args.cells.now c.requires c.args.at c.in-Some.last.now last.0 last.1 (omega (arith, c.number.ensures, c.number-wanted.ensures, c.if-number-wanted.true))

pub returns-in_default : goal.returns-in_default
returns-in_default c =
    let facts = c.binary_search_by_key.ensures in
    let by_key = facts.position (λ (x : Cell). number x.at) (answers_always _ _ _ (λ f a r g called. search rules)) in
    searched c.args.cells.now c.requires c.args.at c.binary_search_by_key.result facts.bound
    (subst (λ n. IsBinarySearchResult (λ (x : Cell). nat_cmp (number x.at) n) c.args.cells.now c.binary_search_by_key.result) c.number-wanted.ensures by_key)
