-- A history is the list of the calls that a sheet has had, the newest first. The last word of a position is read off it, off
-- the palette's length P and off the number C of cells that the sheet has room for.
use Rattle.std.specs.Prelude.{◌≡◌, ℕ, ◌<◌, true, List, [], ◌∷◌, is_some, None}
use Rattle.cells.specs.Words.{Words}
use Rattle.sheet.specs.Rules.{put_words, put_kept, clear_words, clear_kept}
use Rattle.replicas.specs.declared.call.Call.{Call}
use Rattle.replicas.specs.declared.call.Call.TheVariants.{Put, Clear, Pack}

-- the last word of each position, and how many positions have an id
pub record Kept : Type 0 where
  pub words : Words
  pub count : ℕ

-- At first no position has a word. A put and a clear change the words by their rules, and a pack changes none.
unfoldable pub after : ℕ → ℕ → List Call → Kept
after P C [] = record { words = λ r c. None; count = 0 }
after P C (Put row column id ∷ h) =
    record {
      words = put_words P C (after P C h).words (after P C h).count row column id;
      count = put_kept P C (after P C h).words (after P C h).count row column id;
    }
after P C (Clear row column ∷ h) =
    record {
      words = clear_words (after P C h).words (after P C h).count row column;
      count = clear_kept (after P C h).words (after P C h).count row column;
    }
after P C (Pack ∷ h) = after P C h

abbrev pub last_words : ℕ → ℕ → List Call → Words
last_words P C h = (after P C h).words

abbrev pub kept_after : ℕ → ℕ → List Call → ℕ
kept_after P C h = (after P C h).count

-- The positions that have a word can be numbered from 0 up to n, each once.
pub record Counts (words : Words) (n : ℕ) : Type 0 where
  pub row : ℕ → ℕ
  pub column : ℕ → ℕ
  pub have : (k : ℕ) → k < n → is_some (words (row k) (column k)) ≡ true
  pub all : (r c : ℕ) → is_some (words r c) ≡ true → (k : ℕ) × ((k < n) × (row k ≡ r) × (column k ≡ c))
  pub once : (j k : ℕ) → j < n → k < n → row j ≡ row k → column j ≡ column k → j ≡ k
