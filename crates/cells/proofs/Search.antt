-- What a search among cells in order finds.
use Rattle.std.proofs.Common.{◌≡◌, ℕ, ◌-◌, ◌<◌, List, length, get_or, Ok, Err, Result, sym, ap, arith}
use Rattle.std.specs.List.Sorted.{IsSearchInRange, IsBinarySearchResult, IsNonDecreasingBy}
use Rattle.std.specs.Ordering.{nat_cmp, ordering_index}
use Rattle.std.specs.declared.cmp.Ordering.{Ordering}
use Rattle.std.proofs.lemmas.Cmp.{ranked}
use Rattle.std.proofs.lemmas.Bool.Decides.{nat_tests}
use Rattle.cells.specs.declared.cell.Cell.{Cell}
use Rattle.cells.specs.declared.position.Position.{Position}
use Rattle.cells.specs.Words.{number, Ordered}
use Rattle.cells.specs.Located.{Absent, Located}
use Rattle.cells.proofs.Order.{ordered_at}

-- how the number of a cell's position compares with that of a position
abbrev pub by_number : Position → Cell → Ordering
by_number p x = nat_cmp (number x.at) (number p)

module _ (cells : List Cell) (o : Ordered cells) (p : Position) where
  -- where the last cell comes before a position, all do
  pub all_before : (last : Cell) → 0 < length cells → ((d : Cell) → last ≡ get_or cells (length cells - 1) d) → number last.at < number p → Absent cells p (length cells)
  all_before last some is less =
      record {
        within = omega arith;
        before = λ k d h. let e = ap (λ (x : Cell). number x.at) (is d) in grind (arith, e, less, ordered_at cells o k (length cells - 1) d, h);
        after = λ k d l h. absurd (omega arith);
      }

  -- the comparisons with the position rise along the cells
  comparisons_rise : IsNonDecreasingBy (λ (x : Cell). ordering_index (by_number p x)) cells
  comparisons_rise i j d le h = grind (arith, nat_tests, ordered_at cells o i j d, λ (e : i ≡ j). ap (λ k. number (get_or cells k d).at) e)

  -- a binary search by number ends at the cell there, or where a new one goes
  pub searched : (r : Result ℕ ℕ) → IsSearchInRange r (length cells) → IsBinarySearchResult (by_number p) cells r → Located cells p r
  searched (Ok i) within equal =
      let at : (d : Cell) → number (get_or cells i d).at ≡ number p = λ d. ranked (number (get_or cells i d).at) (number p) _ (sym (equal d)) in
      record {
        within = within;
        at = at;
        before = λ k d h e. omega (arith, at d, ordered_at cells o k i d h within);
        after = λ k d h l e. omega (arith, at d, ordered_at cells o i k d h l);
      }
  searched (Err i) within parted =
      record {
        within = within;
        before = λ k d h. ranked _ (number p) _ (sym ((parted comparisons_rise).0 k d (omega arith) h));
        after = λ k d h l. ranked _ (number p) _ (sym ((parted comparisons_rise).1 k d h l));
      }
