-- The words that a list of cells stands for, and what a cell that is put in, replaced or taken out does to them.
use Rattle.std.proofs.Common.{◌≡◌, ℕ, zero, suc, ◌<◌, ◌≤◌, Bool, true, false, cond, ◌&&◌, eqb, List, [], ◌∷◌, length, get_or, set, is_some, Some, None, Option, sym, refl, ap, ◌∙◌, ⊎_elim, arith}
use Rattle.std.specs.List.{insert, remove}
use Rattle.std.proofs.lemmas.Bool.{and_parts, and_from, eqb-true, eq-eqb, cases_Bool, cond-true, cond-false, cases_lt, true≢false}
use Rattle.cells.specs.declared.cell.Cell.{Cell}
use Rattle.cells.specs.declared.position.Position.{Position}
use Rattle.cells.specs.Words.{number, words_of, reworded}
use Rattle.cells.specs.Located.{Free, Found, Absent}

abbrev pub row : Cell → ℕ
row x = x.at.row

abbrev pub column : Cell → ℕ
column x = x.at.column

-- whether a position is that of a row and a column
abbrev here : Position → ℕ → ℕ → Bool
here p r c = eqb p.row r && eqb p.column c

same_row : (p q : Position) → number p ≡ number q → p.row ≡ q.row
same_row p q e = let a = p.column_within in let b = q.column_within in omega arith

same_column : (p q : Position) → number p ≡ number q → p.column ≡ q.column
same_column p q e = let a = p.column_within in let b = q.column_within in omega arith

here_same : (p q : Position) (r c : ℕ) → number p ≡ number q → here p r c ≡ here q r c
here_same p q r c e = let s = same_row p q e in let t = same_column p q e in cc

here_itself : (p : Position) → here p p.row p.column ≡ true
here_itself p = and_from _ _ (eq-eqb p.row p.row refl) (eq-eqb p.column p.column refl)

-- two positions that are both of one row and column are the same
here_both : (p q : Position) (r c : ℕ) → here p r c ≡ true → here q r c ≡ true → number p ≡ number q
here_both p q r c h k =
    let a = and_parts (eqb p.row r) (eqb p.column c) h in
    let b = and_parts (eqb q.row r) (eqb q.column c) k in
    omega (arith, eqb-true _ _ a.0, eqb-true _ _ a.1, eqb-true _ _ b.0, eqb-true _ _ b.1)

here_apart : (p q : Position) (r c : ℕ) → (number p ≡ number q → ⊥) → here q r c ≡ true → here p r c ≡ false
here_apart p q r c apart h = ⊎_elim (λ t. absurd (apart (here_both p q r c t h))) (λ f. f) (cases_Bool (here p r c))

-- words at two positions that are not the same may be set in either order
swap : (p q : Position) (r c : ℕ) (v w z : Option ℕ) → (number p ≡ number q → ⊥) → cond (here p r c) v (cond (here q r c) w z) ≡ cond (here q r c) w (cond (here p r c) v z)
swap p q r c v w z apart = ⊎_elim
    (λ (t : here q r c ≡ true). let f = here_apart p q r c apart t in simp (t, f))
    (λ (f : here q r c ≡ false). simp f)
    (cases_Bool (here q r c))

free_rest : (x : Cell) (xs : List Cell) (i : ℕ) (p : Position) → Free (x ∷ xs) (suc i) p → Free xs i p
free_rest x xs i p free k d h = free (suc k) d (omega arith)

free_first : (x : Cell) (xs : List Cell) (i : ℕ) (p : Position) → Free (x ∷ xs) (suc i) p → number x.at ≡ number p → ⊥
free_first x xs i p free = free 0 x (omega arith)

-- where no cell stands, the word is none
pub words_missing : (xs : List Cell) (p : Position) → Free xs (length xs) p → words_of xs p.row p.column ≡ None
words_missing [] p free = refl
words_missing (x ∷ xs) p free =
    let f = here_apart x.at p p.row p.column (free_first x xs (length xs) p free) (here_itself p) in
    cond-false _ _ _ f ∙ words_missing xs p (free_rest x xs (length xs) p free)

-- where a cell stands, the word is its id
pub words_here : (xs : List Cell) (i : ℕ) (p : Position) (d : Cell) → i < length xs → Free xs i p → number (get_or xs i d).at ≡ number p → words_of xs p.row p.column ≡ Some (get_or xs i d).id
words_here [] i p d h free e = absurd (omega arith)
words_here (x ∷ xs) zero p d h free e = cond-true _ _ _ (here_same x.at p p.row p.column e ∙ here_itself p)
words_here (x ∷ xs) (suc i) p d h free e =
    let f = here_apart x.at p p.row p.column (free_first x xs i p free) (here_itself p) in
    cond-false _ _ _ f ∙ words_here xs i p d (omega arith) (free_rest x xs i p free) e

-- one more cell, at a position that no cell before it has
pub words_inserted : (xs : List Cell) (i : ℕ) (x : Cell) (r c : ℕ) → i ≤ length xs → Free xs i x.at → words_of (insert xs i x) r c ≡ reworded (words_of xs) x.at.row x.at.column (Some x.id) r c
words_inserted xs zero x r c h free = refl
words_inserted [] (suc i) x r c h free = absurd (omega arith)
words_inserted (y ∷ ys) (suc i) x r c h free =
    ap (cond (here y.at r c) (Some y.id)) (words_inserted ys i x r c (omega arith) (free_rest y ys i x.at free))
    ∙ swap y.at x.at r c (Some y.id) (Some x.id) (words_of ys r c) (free_first y ys i x.at free)

-- another cell in the place of one at the same position
pub words_set : (xs : List Cell) (i : ℕ) (x d : Cell) (r c : ℕ) → i < length xs → Free xs i x.at → number (get_or xs i d).at ≡ number x.at → words_of (set xs i x) r c ≡ reworded (words_of xs) x.at.row x.at.column (Some x.id) r c
words_set [] i x d r c h free e = absurd (omega arith)
words_set (y ∷ ys) zero x d r c h free e = ⊎_elim
    (λ (t : here x.at r c ≡ true). simp t)
    (λ (f : here x.at r c ≡ false). let g = here_same y.at x.at r c e ∙ f in simp (f, g))
    (cases_Bool (here x.at r c))
words_set (y ∷ ys) (suc i) x d r c h free e =
    ap (cond (here y.at r c) (Some y.id)) (words_set ys i x d r c (omega arith) (free_rest y ys i x.at free) e)
    ∙ swap y.at x.at r c (Some y.id) (Some x.id) (words_of ys r c) (free_first y ys i x.at free)

-- a cell less, where no other stands at its position
pub words_removed : (xs : List Cell) (i : ℕ) (p : Position) (d : Cell) (r c : ℕ) → i < length xs → Free xs i p → number (get_or xs i d).at ≡ number p → ((k : ℕ) (e : Cell) → i < k → k < length xs → number (get_or xs k e).at ≡ number p → ⊥) → words_of (remove xs i) r c ≡ reworded (words_of xs) p.row p.column None r c
words_removed [] i p d r c h free e after = absurd (omega arith)
words_removed (y ∷ ys) zero p d r c h free e after = ⊎_elim
    (λ (t : here p r c ≡ true).
    let parts = and_parts (eqb p.row r) (eqb p.column c) t in
    let row = eqb-true p.row r parts.0 in
    let column = eqb-true p.column c parts.1 in
    ap (λ a. words_of ys a c) (sym row) ∙ ap (words_of ys p.row) (sym column)
    ∙ words_missing ys p (λ k e' l. after (suc k) e' (omega arith) (omega arith)) ∙ sym (cond-true _ _ _ t))
    (λ (f : here p r c ≡ false). let g = here_same y.at p r c e ∙ f in simp (f, g))
    (cases_Bool (here p r c))
words_removed (y ∷ ys) (suc i) p d r c h free e after =
    ap (cond (here y.at r c) (Some y.id)) (words_removed ys i p d r c (omega arith) (free_rest y ys i p free) e (λ k e' l m. after (suc k) e' (omega arith) (omega arith)))
    ∙ swap y.at p r c (Some y.id) None (words_of ys r c) (free_first y ys i p free)

-- The same by where a position stands.
pub stands_found : (xs : List Cell) (p : Position) (i : ℕ) → Found xs p i → is_some (words_of xs p.row p.column) ≡ true
stands_found [] p i f = let w = f.within in absurd (omega arith)
stands_found (x ∷ xs) p i f = ap is_some (words_here (x ∷ xs) i p x f.within f.before (f.at x))

pub absent_free : (xs : List Cell) (p : Position) (i : ℕ) → Absent xs p i → Free xs (length xs) p
absent_free xs p i a k d h e = ⊎_elim (λ (l : k < i). let b = a.before k d l in omega arith) (λ (l : i ≤ k). let b = a.after k d l h in omega arith) (cases_lt k i)

pub none_absent : (xs : List Cell) (p : Position) (i : ℕ) → Absent xs p i → is_some (words_of xs p.row p.column) ≡ false
none_absent xs p i a = ap is_some (words_missing xs p (absent_free xs p i a))

-- a word belongs to a cell
pub word_cell : (cells : List Cell) (r c : ℕ) → is_some (words_of cells r c) ≡ true → (k : ℕ) × (k < length cells) × ((d : Cell) → (row (get_or cells k d) ≡ r) × (column (get_or cells k d) ≡ c))
word_cell [] r c e = absurd (true≢false (sym e))
word_cell (x ∷ xs) r c e = ⊎_elim
    (λ (t : (eqb (row x) r && eqb (column x) c) ≡ true).
    let p = and_parts (eqb (row x) r) (eqb (column x) c) t in
    (0, omega arith, λ d. (eqb-true (row x) r p.0, eqb-true (column x) c p.1)))
    (λ (f : (eqb (row x) r && eqb (column x) c) ≡ false).
    let rest = word_cell xs r c (sym (ap is_some (cond-false _ _ _ f)) ∙ e) in
    (suc rest.0, (let l = rest.1 in omega arith), rest.2))
    (cases_Bool (eqb (row x) r && eqb (column x) c))

-- a cell gives its position a word
pub cell_word : (cells : List Cell) (k : ℕ) (d : Cell) → k < length cells → is_some (words_of cells (row (get_or cells k d)) (column (get_or cells k d))) ≡ true
cell_word [] k d h = absurd (omega arith)
cell_word (x ∷ xs) zero d h = ap is_some (cond-true _ _ _ (and_from _ _ (eq-eqb (row x) (row x) refl) (eq-eqb (column x) (column x) refl)))
cell_word (x ∷ xs) (suc k) d h =
    let r = row (get_or xs k d) in
    let c = column (get_or xs k d) in
    ⊎_elim
    (λ (t : (eqb (row x) r && eqb (column x) c) ≡ true). ap is_some (cond-true _ _ _ t))
    (λ (f : (eqb (row x) r && eqb (column x) c) ≡ false). ap is_some (cond-false _ _ _ f) ∙ cell_word xs k d (omega arith))
    (cases_Bool (eqb (row x) r && eqb (column x) c))
