-- What keeping and forgetting a cell do to the words of a cell memory.
use Rattle.std.specs.Prelude.{◌≡◌, ℕ, ◌+◌, Bool, true, cond, ◌||◌, is_some, Some, None, vec_items, vec_len, nat_lt}
use Rattle.cells.specs.declared.memory.CellMemory.{CellMemory}
use Rattle.cells.specs.declared.position.Position.{Position}
use Rattle.cells.specs.Words.{Words, words_of, reworded}

-- the words that a memory stands for
abbrev pub words : CellMemory → Words
words m = words_of (vec_items m.cells)

-- how many cells it keeps
abbrev pub kept : CellMemory → ℕ
kept m = vec_len m.cells

-- whether a cell stands at a position
abbrev pub stands_at : CellMemory → Position → Bool
stands_at m p = is_some (words m p.row p.column)

-- An id is kept where a cell stands already, or where the memory is not full. Then the word at the position is the id, each
-- other word is as it was, and a new position counts as one cell more.
pub record Kept (m : CellMemory) (p : Position) (id : ℕ) (answer : Bool) (m' : CellMemory) : Type 0 where
  pub is : answer ≡ (stands_at m p || nat_lt (kept m) m.limit)
  pub limit_same : m'.limit ≡ m.limit
  pub words_after : answer ≡ true → (r c : ℕ) → words m' r c ≡ reworded (words m) p.row p.column (Some id) r c
  pub kept_after : answer ≡ true → kept m' ≡ kept m + cond (stands_at m p) 0 1

-- The answer is whether a cell stood there. Then the word at the position is none, each other word is as it was, and there is
-- one cell less.
pub record Removed (m : CellMemory) (p : Position) (answer : Bool) (m' : CellMemory) : Type 0 where
  pub is : answer ≡ stands_at m p
  pub limit_same : m'.limit ≡ m.limit
  pub words_after : answer ≡ true → (r c : ℕ) → words m' r c ≡ reworded (words m) p.row p.column None r c
  pub kept_after : answer ≡ true → kept m' + 1 ≡ kept m
