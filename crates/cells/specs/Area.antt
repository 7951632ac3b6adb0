-- A rectangle of a sheet's rows and columns, and the numbers of its positions, counted row by row from 0.
use Rattle.std.specs.Prelude.{ℕ, ◌+◌, ◌-◌, ◌*◌, ◌/◌, ◌%◌, ◌≤◌, min, max, Bool, cond, ◌&&◌, Some, None, Option, nat_le}
use Rattle.cells.specs.declared.bounding_box.BoundingBox.{BoundingBox}

-- the first row and column and the last ones
pub record Area : Type 0 where
  pub top : ℕ
  pub left : ℕ
  pub bottom : ℕ
  pub right : ℕ

-- the rectangle of a bounding box
abbrev pub extent : BoundingBox → Area
extent b = record { top = b.start.row; left = b.start.column; bottom = b.end.row; right = b.end.column }

abbrev pub width : Area → ℕ
width a = a.right - a.left + 1

abbrev pub height : Area → ℕ
height a = a.bottom - a.top + 1

-- how many positions it has
abbrev pub size : Area → ℕ
size a = height a * width a

abbrev pub Inside : Area → ℕ → ℕ → Type 0
Inside a r c = (a.top ≤ r) × (r ≤ a.bottom) × (a.left ≤ c) × (c ≤ a.right)

abbrev pub inside : Area → ℕ → ℕ → Bool
inside a r c = (nat_le a.top r && nat_le r a.bottom) && (nat_le a.left c && nat_le c a.right)

-- the number of a position, counted row by row
abbrev pub place_in : Area → ℕ → ℕ → ℕ
place_in a r c = (r - a.top) * width a + (c - a.left)

-- the same, or none outside
abbrev pub place_of : Area → ℕ → ℕ → Option ℕ
place_of a r c = cond (inside a r c) (Some (place_in a r c)) None

-- the row and the column of the position with a number
abbrev pub row_at : Area → ℕ → ℕ
row_at a p = a.top + p / width a

abbrev pub column_at : Area → ℕ → ℕ
column_at a p = a.left + p % width a

-- the least rectangle that holds a and one more position
abbrev pub grown : Area → ℕ → ℕ → Area
grown a r c = record { top = min a.top r; left = min a.left c; bottom = max a.bottom r; right = max a.right c }
