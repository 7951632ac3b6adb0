-- Cells in order, read place by place.
use Rattle.std.proofs.Common.{◌≡◌, ℕ, ◌+◌, ◌-◌, ◌<◌, ◌≤◌, List, length, get_or, set, sym, ap, ◌∙◌, subst, arith}
use Rattle.std.proofs.lemmas.List.{get_or-map, map-set, set-get_or, length-set}
use Rattle.std.specs.List.{insert, remove}
use Rattle.std.proofs.lemmas.List.Edits.{length-insert, get_or-insert_below, get_or-insert_at, get_or-insert_above, length-remove, get_or-remove_below, get_or-remove_above}
use Rattle.cells.specs.declared.cell.Cell.{Cell}
use Rattle.cells.specs.Words.{number, numbers, Ordered}

number_at : (cells : List Cell) (i : ℕ) (d : Cell) → i < length cells → get_or (numbers cells) i 0 ≡ number (get_or cells i d).at
number_at cells i d h = get_or-map (λ (x : Cell). number x.at) cells i d 0 h

-- a later cell has the greater number
pub ordered_at : (cells : List Cell) → Ordered cells → (i j : ℕ) (d : Cell) → i < j → j < length cells → number (get_or cells i d).at < number (get_or cells j d).at
ordered_at cells o i j d h k =
    let below : i < length cells = omega arith in
    omega (arith, number_at cells i d below, number_at cells j d k, o i j h k)

-- the numbers rise if a later cell has the greater number
pub ordered_from : (cells : List Cell) (d : Cell) → ((i j : ℕ) → i < j → j < length cells → number (get_or cells i d).at < number (get_or cells j d).at) → Ordered cells
ordered_from cells d f i j h k =
    let below : i < length cells = omega arith in
    omega (arith, number_at cells i d below, number_at cells j d k, f i j h k)

-- another cell in the place of one at the same position
pub ordered_set : (cells : List Cell) (i : ℕ) (x d : Cell) → i < length cells → number (get_or cells i d).at ≡ number x.at → Ordered cells → Ordered (set cells i x)
ordered_set cells i x d within e o j k h l =
    let same : numbers (set cells i x) ≡ numbers cells =
    map-set (λ (y : Cell). number y.at) cells i x ∙ ap (set (numbers cells) i) (sym (number_at cells i d within ∙ e)) ∙ set-get_or (numbers cells) i 0 in
    let below : k < length cells = simp length-set at l in
    omega (arith, o j k h below, ap (λ ns. get_or ns j 0) same, ap (λ ns. get_or ns k 0) same)

module _ (xs : List Cell) (i : ℕ) (o : Ordered xs) where
  -- one more cell, between those before it and those after
  pub ordered_inserted : (x : Cell) → i ≤ length xs → ((k : ℕ) (d : Cell) → k < i → number (get_or xs k d).at < number x.at) → ((k : ℕ) (d : Cell) → i ≤ k → k < length xs → number x.at < number (get_or xs k d).at) → Ordered (insert xs i x)
  ordered_inserted x within less more = ordered_from (insert xs i x) x rises
    where
      below : (k : ℕ) → k < i → number (get_or (insert xs i x) k x).at ≡ number (get_or xs k x).at
      below k h = ap (λ (y : Cell). number y.at) (get_or-insert_below xs i x x k h within)

      here : (k : ℕ) → k ≡ i → number (get_or (insert xs i x) k x).at ≡ number x.at
      here k e = rw e (ap (λ (y : Cell). number y.at) (get_or-insert_at xs i x x within))

      above : (k : ℕ) → i < k → number (get_or (insert xs i x) k x).at ≡ number (get_or xs (k - 1) x).at
      above k h =
          subst (λ n. number (get_or (insert xs i x) n x).at ≡ number (get_or xs (k - 1) x).at) {x = k - 1 + 1} (omega arith)
          (ap (λ (y : Cell). number y.at) (get_or-insert_above xs i x x (k - 1) (omega arith) within))

      rises : (j k : ℕ) → j < k → k < length (insert xs i x) → number (get_or (insert xs i x) j x).at < number (get_or (insert xs i x) k x).at
      rises j k h l =
          let long = length-insert xs i x within in
          grind (arith, below j, here j, above j, below k, here k, above k, ordered_at xs o j k x, ordered_at xs o j (k - 1) x, ordered_at xs o (j - 1) (k - 1) x, less j x, more (k - 1) x)

  -- a cell less
  pub ordered_removed : (d : Cell) → i < length xs → Ordered (remove xs i)
  ordered_removed d within = ordered_from (remove xs i) d rises
    where
      below : (k : ℕ) → k < i → number (get_or (remove xs i) k d).at ≡ number (get_or xs k d).at
      below k h = ap (λ (y : Cell). number y.at) (get_or-remove_below xs i d k h within)

      above : (k : ℕ) → i ≤ k → number (get_or (remove xs i) k d).at ≡ number (get_or xs (k + 1) d).at
      above k h = ap (λ (y : Cell). number y.at) (get_or-remove_above xs i d k h within)

      rises : (j k : ℕ) → j < k → k < length (remove xs i) → number (get_or (remove xs i) j d).at < number (get_or (remove xs i) k d).at
      rises j k h l =
          let long = length-remove xs i within in
          grind (arith, below j, above j, below k, above k, ordered_at xs o j k d, ordered_at xs o j (k + 1) d, ordered_at xs o (j + 1) (k + 1) d)
