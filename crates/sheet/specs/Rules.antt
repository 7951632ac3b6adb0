-- The rules of put and clear. P is the palette's length, C the number of cells that there is room for, `words` the word of
-- each position so far, and `kept` the number of positions that have one.
use Rattle.std.specs.Prelude.{ℕ, ◌+◌, ◌-◌, Bool, cond, not, ◌&&◌, ◌||◌, is_some, Some, None, Ok, Err, Result, ◌==◌, nat_le, nat_lt}
use Rattle.cells.specs.Words.{Words, reworded}
use Rattle.sheet.specs.declared.answers.Put.{Put}
use Rattle.sheet.specs.declared.answers.Put.TheVariants.{Kept, Ignored}
use Rattle.sheet.specs.declared.answers.PutRefusal.{PutRefusal}
use Rattle.sheet.specs.declared.answers.PutRefusal.TheVariants as put
use Rattle.sheet.specs.declared.answers.ClearRefusal.{ClearRefusal}
use Rattle.sheet.specs.declared.answers.ClearRefusal.TheVariants as clear

-- a sheet has 1,048,576 rows and 16,384 columns
abbrev pub on_sheet : ℕ → ℕ → Bool
on_sheet row column = nat_lt row 1048576 && nat_lt column 16384

-- id 0 and an id not below P are ignored
abbrev pub ignored : ℕ → ℕ → Bool
ignored P id = id == 0 || nat_le P id

-- there is a cell at the position already, or room for one more
abbrev pub room_for : ℕ → Words → ℕ → ℕ → ℕ → Bool
room_for C words kept row column = is_some (words row column) || nat_lt kept C

module _ (P C : ℕ) (words : Words) (kept row column id : ℕ) where
  -- off the sheet, then ignored, then full, else kept
  abbrev pub put_answer : Result Put PutRefusal
  put_answer =
      cond (on_sheet row column)
      (cond (ignored P id) (Ok Ignored) (cond (room_for C words kept row column) (Ok Kept) (Err put.Full)))
      (Err put.OffSheet)

  -- whether the put keeps its cell
  abbrev pub keeps : Bool
  keeps = on_sheet row column && (not (ignored P id) && room_for C words kept row column)

  -- its id becomes the word
  abbrev pub put_words : Words
  put_words r c = cond keeps (reworded words row column (Some id) r c) (words r c)

  -- a new position counts as one more
  abbrev pub put_kept : ℕ
  put_kept = cond keeps (kept + cond (is_some (words row column)) 0 1) kept

module _ (words : Words) (kept row column : ℕ) where
  -- off the sheet, else whether a cell stood there
  abbrev pub clear_answer : Result Bool ClearRefusal
  clear_answer = cond (on_sheet row column) (Ok (is_some (words row column))) (Err clear.OffSheet)

  -- whether the clear takes a cell away
  abbrev pub clears : Bool
  clears = on_sheet row column && is_some (words row column)

  -- the word becomes none
  abbrev pub clear_words : Words
  clear_words r c = cond clears (reworded words row column None r c) (words r c)

  abbrev pub clear_kept : ℕ
  clear_kept = cond clears (kept - 1) kept
