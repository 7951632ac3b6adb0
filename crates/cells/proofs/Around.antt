-- The box around the words of a list of cells, cell by cell.
use Rattle.std.proofs.Common.{◌≡◌, ℕ, min, max, true, ◌&&◌, ◌||◌, eqb, ◌⊎◌, List, [], ◌∷◌, ◌++◌, is_some, ⊎_elim, arith}
use Rattle.std.proofs.lemmas.Bool.Decides.{nat_tests}
use Rattle.cells.specs.declared.cell.Cell.{Cell}
use Rattle.cells.specs.Area.{Area, grown}
use Rattle.cells.specs.Words.{words_of, Least}
use Rattle.cells.proofs.Words.{row, column}

-- one cell more gives its position a word, and the other positions keep theirs
pushed : (xs : List Cell) (y : Cell) (r c : ℕ) → is_some (words_of (xs ++ y ∷ []) r c) ≡ (is_some (words_of xs r c) || (eqb (row y) r && eqb (column y) c))
pushed [] y r c = grind arith
pushed (x ∷ xs) y r c = grind (arith, pushed xs y r c)

min_either : (a b : ℕ) → (min a b ≡ a) ⊎ (min a b ≡ b)
min_either a b = grind arith

max_either : (a b : ℕ) → (max a b ≡ a) ⊎ (max a b ≡ b)
max_either a b = grind arith

-- the box of one cell
pub least_first : (x : Cell) → Least (words_of (x ∷ [])) (record { top = row x; left = column x; bottom = row x; right = column x })
least_first x =
    record {
      holds = λ r c e. let at = at_first r c e in (omega arith, omega arith, omega arith, omega arith);
      on_top = (column x, here);
      on_left = (row x, here);
      on_bottom = (column x, here);
      on_right = (row x, here);
    }
  where
    here : is_some (words_of (x ∷ []) (row x) (column x)) ≡ true
    here = grind (arith, nat_tests)

    at_first : (r c : ℕ) → is_some (words_of (x ∷ []) r c) ≡ true → (row x ≡ r) × (column x ≡ c)
    at_first r c e = grind (arith, nat_tests)

-- one cell more
pub least_more : (xs : List Cell) (a : Area) (y : Cell) → Least (words_of xs) a → Least (words_of (xs ++ y ∷ [])) (grown a (row y) (column y))
least_more xs a y w =
    record {
      holds = λ r c e. ⊎_elim
          (λ (old : is_some (words_of xs r c) ≡ true). let i = w.holds r c old in (omega arith, omega arith, omega arith, omega arith))
          (λ (new : (row y ≡ r) × (column y ≡ c)). (omega arith, omega arith, omega arith, omega arith))
          (either r c e);
      on_top = ⊎_elim (λ (e : min a.top (row y) ≡ a.top). (w.on_top.0, rw e (stays _ _ w.on_top.1))) (λ (e : min a.top (row y) ≡ row y). (column y, rw e here)) (min_either a.top (row y));
      on_left = ⊎_elim (λ (e : min a.left (column y) ≡ a.left). (w.on_left.0, rw e (stays _ _ w.on_left.1))) (λ (e : min a.left (column y) ≡ column y). (row y, rw e here)) (min_either a.left (column y));
      on_bottom = ⊎_elim (λ (e : max a.bottom (row y) ≡ a.bottom). (w.on_bottom.0, rw e (stays _ _ w.on_bottom.1))) (λ (e : max a.bottom (row y) ≡ row y). (column y, rw e here)) (max_either a.bottom (row y));
      on_right = ⊎_elim (λ (e : max a.right (column y) ≡ a.right). (w.on_right.0, rw e (stays _ _ w.on_right.1))) (λ (e : max a.right (column y) ≡ column y). (row y, rw e here)) (max_either a.right (column y));
    }
  where
    here : is_some (words_of (xs ++ y ∷ []) (row y) (column y)) ≡ true
    here = grind (arith, nat_tests, pushed xs y (row y) (column y))

    stays : (r c : ℕ) → is_some (words_of xs r c) ≡ true → is_some (words_of (xs ++ y ∷ []) r c) ≡ true
    stays r c e = grind (arith, pushed xs y r c)

    either : (r c : ℕ) → is_some (words_of (xs ++ y ∷ []) r c) ≡ true → (is_some (words_of xs r c) ≡ true) ⊎ ((row y ≡ r) × (column y ≡ c))
    either r c e = grind (arith, nat_tests, pushed xs y r c)
