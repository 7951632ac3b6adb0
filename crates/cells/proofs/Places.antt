-- The numbers of the positions of an area, and the positions of the numbers.
use Rattle.std.proofs.Common.{◌≡◌, ℕ, ◌+◌, ◌-◌, ◌*◌, ◌/◌, ◌%◌, ◌<◌, ◌≤◌, true, ◌&&◌, leb, ap, ◌∙◌, ⊎_elim, add-mul, arith}
use Rattle.std.proofs.lemmas.Nat.{mul-le, mul-add-lt, div-mul-add, mod-mul-add, div-add-mod', div_below, mod_below}
use Rattle.std.proofs.lemmas.Bool.{and_parts, and_from, leb-true, le-leb, cases_lt}
use Rattle.cells.specs.Area.{Area, Inside, inside, width, height, size, place_in, row_at, column_at}

pub inside_true : (a : Area) (r c : ℕ) → inside a r c ≡ true → Inside a r c
inside_true a r c e =
    let halves = and_parts (leb a.top r && leb r a.bottom) (leb a.left c && leb c a.right) e in
    let rows = and_parts (leb a.top r) (leb r a.bottom) halves.0 in
    let columns = and_parts (leb a.left c) (leb c a.right) halves.1 in
    (leb-true _ _ rows.0, leb-true _ _ rows.1, leb-true _ _ columns.0, leb-true _ _ columns.1)

pub true_inside : (a : Area) (r c : ℕ) → Inside a r c → inside a r c ≡ true
true_inside a r c (t, b, l, i) =
    and_from (leb a.top r && leb r a.bottom) (leb a.left c && leb c a.right)
    (and_from _ _ (le-leb a.top r t) (le-leb r a.bottom b)) (and_from _ _ (le-leb a.left c l) (le-leb c a.right i))

module _ (a : Area) where
  -- a position inside has one of the numbers below the size
  pub place_below : (r c : ℕ) → Inside a r c → place_in a r c < size a
  place_below r c (t, b, l, i) = let h = mul-add-lt (r - a.top) (width a) (c - a.left) (height a) (omega arith) (omega arith) in omega arith

  pub row_place : (r c : ℕ) → Inside a r c → row_at a (place_in a r c) ≡ r
  row_place r c (t, b, l, i) = let h = div-mul-add (r - a.top) (width a) (c - a.left) (omega arith) in omega arith

  pub column_place : (r c : ℕ) → Inside a r c → column_at a (place_in a r c) ≡ c
  column_place r c (t, b, l, i) = let h = mod-mul-add (r - a.top) (width a) (c - a.left) (omega arith) in omega arith

  -- a number below the size is that of a position inside
  pub inside_at : (p : ℕ) → a.top ≤ a.bottom → a.left ≤ a.right → p < size a → Inside a (row_at a p) (column_at a p)
  inside_at p rows columns h =
      let d = div_below p (width a) (height a) (omega arith) h in
      let m = mod_below p (width a) (omega arith) in
      (omega arith, omega arith, omega arith, omega arith)

  pub place_at : (p : ℕ) → place_in a (row_at a p) (column_at a p) ≡ p
  place_at p =
      let r : row_at a p - a.top ≡ p / width a = omega arith in
      let c : column_at a p - a.left ≡ p % width a = omega arith in
      ap (λ x. x * width a + (column_at a p - a.left)) r ∙ ap (λ y. p / width a * width a + y) c ∙ div-add-mod' p (width a)

  -- row by row, and in a row column by column, the numbers rise
  pub place_later : (r c r' c' : ℕ) → Inside a r c → Inside a r' c' → (r ≤ r') → (r ≡ r' → c < c') → place_in a r c < place_in a r' c'
  place_later r c r' c' (t, b, l, i) (t', b', l', i') rows columns = ⊎_elim
      (λ (less : r < r').
      let m = mul-le (r - a.top + 1) (width a) (r' - a.top) (width a) (omega arith) (omega arith) in
      let n = add-mul (r - a.top) 1 (width a) in
      omega arith)
      (λ (more : r' ≤ r).
      let same : r ≡ r' = omega arith in
      let later = columns same in
      omega (arith, ap (λ x. (x - a.top) * width a) same))
      (cases_lt r r')

  -- the next place is the next column's, or that of the next row's first column after the last
  pub next_column : (r c : ℕ) → a.left ≤ c → place_in a r (c + 1) ≡ place_in a r c + 1
  next_column r c l = omega arith

  pub next_row : (r c : ℕ) → a.top ≤ r → a.left ≤ a.right → c ≡ a.right → place_in a (r + 1) a.left ≡ place_in a r c + 1
  next_row r c t w e =
      let s : r + 1 - a.top ≡ r - a.top + 1 = omega arith in
      let n = add-mul (r - a.top) 1 (width a) in
      omega (arith, ap (λ x. x * width a) s)
