-- What a list of cells says of each position: the id of the cell there, or none. And the least box around the positions
-- that have one.
use Rattle.std.specs.Prelude.{◌≡◌, ℕ, ◌+◌, ◌*◌, ◌<◌, true, cond, ◌&&◌, List, [], ◌∷◌, map, length, is_some, Some, None, Option, ◌==◌, slice_index}
use Rattle.cells.specs.Area.{Area, Inside}
use Rattle.cells.specs.declared.cell.Cell.{Cell}
use Rattle.cells.specs.declared.position.Position.{Position}

-- an id or none at each row and column
abbrev pub Words : Type 0
Words = ℕ → ℕ → Option ℕ

-- the number of a position of the sheet, counted row by row
abbrev pub number : Position → ℕ
number p = p.row * 16384 + p.column

abbrev pub numbers : List Cell → List ℕ
numbers cells = map (λ (x : Cell). number x.at) cells

-- cells in order: row by row, and in a row column by column, with no position twice
abbrev pub Ordered : List Cell → Type 0
Ordered cells = (i j : ℕ) → i < j → j < length cells → slice_index (numbers cells) i < slice_index (numbers cells) j

-- the words with another at one position
abbrev pub reworded : Words → ℕ → ℕ → Option ℕ → Words
reworded words row column w r c = cond (row == r && column == c) w (words r c)

-- the words that a list of cells stands for
abbrev pub words_of : List Cell → Words
words_of [] r c = None
words_of (x ∷ xs) r c = reworded (words_of xs) x.at.row x.at.column (Some x.id) r c

-- The area is the least box around the positions that have a word: it holds each of them, and each of its sides holds one.
pub record Least (words : Words) (a : Area) : Type 0 where
  pub holds : (r c : ℕ) → is_some (words r c) ≡ true → Inside a r c
  pub on_top : (c : ℕ) × (is_some (words a.top c) ≡ true)
  pub on_left : (r : ℕ) × (is_some (words r a.left) ≡ true)
  pub on_bottom : (c : ℕ) × (is_some (words a.bottom c) ≡ true)
  pub on_right : (r : ℕ) × (is_some (words r a.right) ≡ true)

-- the box around the positions that have a word, or none where no position has one
abbrev pub Bounds : Words → Option Area → Type 0
Bounds words None = (r c : ℕ) → words r c ≡ None
Bounds words (Some a) = Least words a
