-- The marked cells of a box, taken one after another.
use Rattle.std.proofs.Common.{◌≡◌, ℕ, sym, ◌+◌, ◌<◌, ◌≤◌, eqb, List, [], ◌∷◌, length, drop, Some, refl, ap, ◌∙◌, subst, arith}
use Rattle.std.specs.List.{slice_get}
use Rattle.std.proofs.lemmas.Bool.{eq-eqb, ne_eqb, cond-true, cond-false}
use Rattle.std.proofs.lemmas.List.{drop_all, drop_more}
use Rattle.std.proofs.lemmas.Option.{slice_get_within, get_or_from_slice_get}
use Rattle.runs.specs.declared.marked.Placed.{Placed}
use Rattle.runs.specs.Marks.{InOrder, mark_of}

-- before the first cell every position has the gap mark
pub gap_before : {M : Type 0} (gap : M) (cells : List (Placed M)) (from n p : ℕ) → InOrder from cells n → p < from → mark_of gap cells p ≡ gap
gap_before gap [] from n p order before = refl
gap_before gap (c ∷ cs) from n p order before =
    cond-false (eqb c.place p) c.mark (mark_of gap cs p) (ne_eqb c.place p (λ same. omega arith))
    ∙ gap_before gap cs (c.place + 1) n p order.2 (omega arith)

-- what the cells that are left say: they are in order from the end of what is packed, and give its positions the marks of all
pub record Left {M : Type 0} (gap : M) (all left : List (Placed M)) (from n : ℕ) : Type 0 where
  pub order : InOrder from left n
  pub marks : (p : ℕ) → from ≤ p → mark_of gap all p ≡ mark_of gap left p

-- at first all are left
pub left_all : {M : Type 0} (gap : M) (all : List (Placed M)) (n : ℕ) → InOrder 0 all n → Left gap all all 0 n
left_all gap all n order = record { order = order; marks = λ p from_p. refl }

-- the cell of an index is the first of those from it on, and past the last cell none is left
pub left_next : {M : Type 0} {gap : M} {all : List (Placed M)} {from n : ℕ} (index : ℕ) → Left gap all (drop index all) from n → (cell : Placed M) → Some cell ≡ slice_get all index → Left gap all (cell ∷ drop (index + 1) all) from n
left_next {gap = gap} {all = all} {from = from} {n = n} index left cell is =
    let first = get_or_from_slice_get all index cell cell (sym is) in
    let within = slice_get_within all index cell (sym is) in
    subst (λ l. Left gap all l from n) (drop_more all index cell within ∙ ap (λ x. x ∷ drop (index + 1) all) first) left

pub left_none : {M : Type 0} {gap : M} {all : List (Placed M)} {index from n : ℕ} → Left gap all (drop index all) from n → length all ≤ index → Left gap all [] from n
left_none {gap = gap} {all = all} {index = index} {from = from} {n = n} left past = subst (λ l. Left gap all l from n) (drop_all index all past) left

module _ {M : Type 0} {gap : M} {all : List (Placed M)} {cell : Placed M} {rest : List (Placed M)} {from n : ℕ} (left : Left gap all (cell ∷ rest) from n) where
  -- the positions up to the next cell have the gap mark
  pub left_gap : (p : ℕ) → from ≤ p → p < cell.place → mark_of gap all p ≡ gap
  left_gap p from_p before =
      left.marks p from_p
      ∙ gap_before gap (cell ∷ rest) cell.place n p (omega arith, left.order.1, left.order.2) before

  -- its own position has its mark
  pub left_mark : (p : ℕ) → cell.place ≤ p → p < cell.place + 1 → mark_of gap all p ≡ cell.mark
  left_mark p from_p before =
      let order = left.order in
      left.marks p (omega arith)
      ∙ cond-true (eqb cell.place p) cell.mark (mark_of gap rest p) (eq-eqb cell.place p (omega arith))

  -- past it the other cells are left
  pub left_rest : Left gap all rest (cell.place + 1) n
  left_rest = record {
    order = left.order.2;
    marks = λ p from_p.
        let order = left.order in
        left.marks p (omega arith)
        ∙ cond-false (eqb cell.place p) cell.mark (mark_of gap rest p) (ne_eqb cell.place p (λ same. omega arith));
  }
