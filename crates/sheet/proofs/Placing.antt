-- Cells of a box as packing reads them: they are in order, and the mark at each place is that of the word there.
use Rattle.std.proofs.Common.{◌≡◌, ℕ, suc, ◌+◌, ◌<◌, ◌≤◌, true, false, ◌&&◌, eqb, List, [], ◌∷◌, map, length, get_or, is_some, Some, unwrap_or, sym, refl, ap, ◌∙◌, subst, ap₂, ⊎_elim, arith}
use Rattle.std.specs.List.{slice_get}
use Rattle.std.proofs.lemmas.Bool.{and_parts, and_from, eqb-true, eqb-false, eq-eqb, cases_Bool, cond-true, cond-false}
use Rattle.std.proofs.lemmas.Option.{slice_get-map, slice_get_read}
use Rattle.std.specs.Option.{option_map}
use Rattle.runs.specs.declared.marked.Placed.{Placed}
use Rattle.runs.specs.Marks.{InOrder, mark_of}
use Rattle.cells.specs.declared.cell.Cell.{Cell}
use Rattle.cells.specs.Area.{Area, Inside, inside, size, place_in, place_of, row_at, column_at}
use Rattle.cells.specs.Words.{Ordered, words_of}
use Rattle.cells.proofs.Order.{ordered_at}
use Rattle.cells.proofs.Words.{cell_word}
use Rattle.sheet.specs.Placing.{placed}
use Rattle.cells.proofs.Places.{inside_true, true_inside, place_below, place_later, place_at, row_place, column_place}

-- each cell of the list lies in the area
abbrev pub Held : Area → List Cell → Type 0
Held a xs = (k : ℕ) (d : Cell) → k < length xs → Inside a (get_or xs k d).at.row (get_or xs k d).at.column

pub held_from : (a : Area) (xs : List Cell) → ((r c : ℕ) → is_some (words_of xs r c) ≡ true → inside a r c ≡ true) → Held a xs
held_from a xs h k d l = inside_true a _ _ (h _ _ (cell_word xs k d l))

held_rest : (a : Area) (x : Cell) (xs : List Cell) → Held a (x ∷ xs) → Held a xs
held_rest a x xs h k d l = h (suc k) d (omega arith)

ordered_rest : (x : Cell) (xs : List Cell) → Ordered (x ∷ xs) → Ordered xs
ordered_rest x xs o i j h l = o (suc i) (suc j) (omega arith) (omega arith)

module _ {M : Type 0} (a : Area) (mark : ℕ → M) where
  later : (x y : Cell) (xs : List Cell) → Ordered (x ∷ (y ∷ xs)) → Held a (x ∷ (y ∷ xs)) → place_in a x.at.row x.at.column + 1 ≤ place_in a y.at.row y.at.column
  later x y xs o h =
      let less = ordered_at (x ∷ (y ∷ xs)) o 0 1 x (omega arith) (omega arith) in
      let w = x.at.column_within in
      let v = y.at.column_within in
      let l = place_later a x.at.row x.at.column y.at.row y.at.column (h 0 x (omega arith)) (h 1 x (omega arith)) (omega arith) (λ e. omega arith) in
      omega arith

  in_order_from : (from : ℕ) (x : Cell) (xs : List Cell) → from ≤ place_in a x.at.row x.at.column → Ordered (x ∷ xs) → Held a (x ∷ xs) → InOrder from (map (placed a mark) (x ∷ xs)) (size a)
  in_order_from from x [] first o h =
      let b = place_below a x.at.row x.at.column (h 0 x (omega arith)) in (first, b, omega arith)
  in_order_from from x (y ∷ ys) first o h = (
    first,
    place_below a x.at.row x.at.column (h 0 x (omega arith)),
    in_order_from (place_in a x.at.row x.at.column + 1) y ys (later x y ys o h) (ordered_rest x (y ∷ ys) o) (held_rest a x (y ∷ ys) h),
  )

  pub in_order : (xs : List Cell) → Ordered xs → Held a xs → InOrder 0 (map (placed a mark) xs) (size a)
  in_order [] o h = omega arith
  in_order (x ∷ xs) o h = in_order_from 0 x xs (omega arith) o h

  -- a place is that of a cell exactly if its row and column are
  same_place : (x : Cell) (p : ℕ) → Inside a x.at.row x.at.column → eqb (place_in a x.at.row x.at.column) p ≡ (eqb x.at.row (row_at a p) && eqb x.at.column (column_at a p))
  same_place x p i = ⊎_elim
      (λ (t : eqb (place_in a x.at.row x.at.column) p ≡ true).
      let e = eqb-true (place_in a x.at.row x.at.column) p t in
      let r = sym (row_place a x.at.row x.at.column i) ∙ ap (row_at a) e in
      let c = sym (column_place a x.at.row x.at.column i) ∙ ap (column_at a) e in
      t ∙ sym (and_from _ _ (eq-eqb _ _ r) (eq-eqb _ _ c)))
      (λ (f : eqb (place_in a x.at.row x.at.column) p ≡ false). ⊎_elim
      (λ (t : (eqb x.at.row (row_at a p) && eqb x.at.column (column_at a p)) ≡ true).
      let parts = and_parts (eqb x.at.row (row_at a p)) (eqb x.at.column (column_at a p)) t in
      let e = ap₂ (place_in a) (eqb-true _ _ parts.0) (eqb-true _ _ parts.1) ∙ place_at a p in
      absurd (eqb-false _ _ f e))
      (λ (g : (eqb x.at.row (row_at a p) && eqb x.at.column (column_at a p)) ≡ false). f ∙ sym g)
      (cases_Bool (eqb x.at.row (row_at a p) && eqb x.at.column (column_at a p))))
      (cases_Bool (eqb (place_in a x.at.row x.at.column) p))

  -- the mark at a place is that of the word there, or of id 0 for none
  pub mark_of_word : (xs : List Cell) (p : ℕ) → Held a xs → mark_of (mark 0) (map (placed a mark) xs) p ≡ mark (unwrap_or (words_of xs (row_at a p) (column_at a p)) 0)
  mark_of_word [] p h = refl
  mark_of_word (x ∷ xs) p h =
      let same = same_place x p (h 0 x (omega arith)) in
      let rest = mark_of_word xs p (held_rest a x xs h) in
      ⊎_elim
      (λ (t : eqb (place_in a x.at.row x.at.column) p ≡ true).
      cond-true _ _ _ t ∙ ap (λ w. mark (unwrap_or w 0)) (sym (cond-true _ _ _ (sym same ∙ t))))
      (λ (f : eqb (place_in a x.at.row x.at.column) p ≡ false).
      cond-false _ _ _ f ∙ rest ∙ ap (λ w. mark (unwrap_or w 0)) (sym (cond-false _ _ _ (sym same ∙ f))))
      (cases_Bool (eqb (place_in a x.at.row x.at.column) p))

  -- what is read at an index is the cell there, with its place and its mark
  pub nth_placed : (xs : List Cell) (i : ℕ) (x : Cell) (place : ℕ) (m : M) → i < length xs → x ≡ get_or xs i x → place ≡ place_in a x.at.row x.at.column → m ≡ mark x.id
      → Some (record { place = place; mark = m }) ≡ slice_get (map (placed a mark) xs) i
  nth_placed xs i x place m h e same em =
      let cell : ◌≡◌ {A = Placed M} (record { place = place; mark = m }) (placed a mark x) = λ j. record { place = same j; mark = em j } in
      ap Some cell ∙ sym (slice_get-map (placed a mark) xs i ∙ ap (option_map (placed a mark)) (slice_get_read xs (length xs) i x refl h e))

-- a cell that the box holds has a place
pub place_there : (a : Area) (xs : List Cell) (i : ℕ) (x : Cell) (row column : ℕ) → i < length xs → Held a xs → x ≡ get_or xs i x → row ≡ x.at.row → column ≡ x.at.column → place_of a row column ≡ Some (place_in a x.at.row x.at.column)
place_there a xs i x row column h held e r c =
    let within = subst (λ (y : Cell). Inside a y.at.row y.at.column) (sym e) (held i x h) in
    ap₂ (place_of a) r c ∙ cond-true _ _ _ (true_inside a x.at.row x.at.column within)
