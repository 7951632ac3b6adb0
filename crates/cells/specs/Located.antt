-- Where a position stands in an ordered list of cells.
use Rattle.std.specs.Prelude.{◌≡◌, ℕ, ◌<◌, ◌≤◌, List, length, Ok, Err, Result, ◌≢◌, slice_index_or}
use Rattle.cells.specs.declared.cell.Cell.{Cell}
use Rattle.cells.specs.declared.position.Position.{Position}
use Rattle.cells.specs.Words.{number}

-- no cell below an index stands at the position
abbrev pub Free : List Cell → ℕ → Position → Type 0
Free cells i p = (k : ℕ) (d : Cell) → k < i → number (slice_index_or cells k d).at ≢ number p

-- the cell at the index stands at the position, and no other does
pub record Found (cells : List Cell) (p : Position) (i : ℕ) : Type 0 where
  pub within : i < length cells
  pub at : (d : Cell) → number (slice_index_or cells i d).at ≡ number p
  pub before : Free cells i p
  pub after : (k : ℕ) (d : Cell) → i < k → k < length cells → number (slice_index_or cells k d).at ≢ number p

-- no cell stands at the position: those below the index come before it, the others after it
pub record Absent (cells : List Cell) (p : Position) (i : ℕ) : Type 0 where
  pub within : i ≤ length cells
  pub before : (k : ℕ) (d : Cell) → k < i → number (slice_index_or cells k d).at < number p
  pub after : (k : ℕ) (d : Cell) → i ≤ k → k < length cells → number p < number (slice_index_or cells k d).at

abbrev pub Located : List Cell → Position → Result ℕ ℕ → Type 0
Located cells p (Ok i) = Found cells p i
Located cells p (Err i) = Absent cells p i
