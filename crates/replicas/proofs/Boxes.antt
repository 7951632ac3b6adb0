-- There is one box around the words, and its sides are in order.
use Rattle.std.proofs.Common.{◌≡◌, ℕ, ◌≤◌, is_some, Some, None, Option, sym, refl, ap, ◌∙◌, arith}
use Rattle.std.proofs.lemmas.Bool.{true≢false}
use Rattle.cells.specs.Area.{Area}
use Rattle.cells.specs.Words.{Words, Least, Bounds}

-- a box holds what touches the sides of another
within : (words : Words) (a b : Area) → Least words a → Least words b → (a.top ≤ b.top) × (a.left ≤ b.left) × (b.bottom ≤ a.bottom) × (b.right ≤ a.right)
within words a b la lb =
    ((la.holds _ _ lb.on_top.1).0, (la.holds _ _ lb.on_left.1).2, (la.holds _ _ lb.on_bottom.1).1, (la.holds _ _ lb.on_right.1).3)

one_least : (words : Words) (a b : Area) → Least words a → Least words b → a ≡ b
one_least words a b la lb =
    let ab = within words a b la lb in
    let ba = within words b a lb la in
    let top : a.top ≡ b.top = omega arith in
    let left : a.left ≡ b.left = omega arith in
    let bottom : a.bottom ≡ b.bottom = omega arith in
    let right : a.right ≡ b.right = omega arith in
    λ i. record { top = top i; left = left i; bottom = bottom i; right = right i }

no_word : (words : Words) (a : Area) → ((r c : ℕ) → words r c ≡ None) → Least words a → ⊥
no_word words a none least =
    let top = least.on_top in
    true≢false (sym top.1 ∙ ap is_some (none a.top top.0))

pub one_box : (words : Words) (x y : Option Area) → Bounds words x → Bounds words y → x ≡ y
one_box words None None bx by = refl
one_box words None (Some b) bx by = absurd (no_word words b bx by)
one_box words (Some a) None bx by = absurd (no_word words a by bx)
one_box words (Some a) (Some b) bx by = ap Some (one_least words a b bx by)

pub rows_ordered : (words : Words) (a : Area) → Least words a → a.top ≤ a.bottom
rows_ordered words a least = let i = least.holds _ _ least.on_top.1 in omega arith

pub columns_ordered : (words : Words) (a : Area) → Least words a → a.left ≤ a.right
columns_ordered words a least = let i = least.holds _ _ least.on_left.1 in omega arith
