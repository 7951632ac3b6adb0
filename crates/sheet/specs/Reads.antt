-- What get, kind and walk answer, by the box and the runs of the latest accepted pack.
use Rattle.std.specs.Prelude.{ℕ, cond, List, Some, None, Option, nat_lt}
use Rattle.runs.specs.declared.run.Run.{Run}
use Rattle.runs.specs.Runs.{mark_at}
use Rattle.formats.specs.declared.CellFormat.{CellFormat}
use Rattle.cells.specs.Area.{Area, inside, size, place_in, row_at, column_at}
use Rattle.sheet.specs.declared.xf.Xf.{Xf}
use Rattle.sheet.specs.declared.memory.Sheet.{Sheet}
use Rattle.sheet.specs.Palette.{style_at}
use Rattle.sheet.specs.Contents.{area, id_runs, kind_runs}

-- the mark that the runs of a box give a position, and none outside the box
abbrev pub mark_there : {M : Type 0} → Option Area → List (Run M) → ℕ → ℕ → Option M
mark_there None runs r c = None
mark_there (Some a) runs r c = cond (inside a r c) (mark_at runs (place_in a r c)) None

-- the style of an id, if there is an id
abbrev pub styled : {S : Type 0} → List (Xf S) → Option ℕ → Option S
styled palette None = None
styled palette (Some n) = style_at palette n

abbrev pub got : {S : Type 0} → List (Xf S) → Sheet → ℕ → ℕ → Option S
got palette s r c = styled palette (mark_there (area s) (id_runs s) r c)

abbrev pub kind_there : Sheet → ℕ → ℕ → Option CellFormat
kind_there s r c = mark_there (area s) (kind_runs s) r c

-- a position with its style
pub record Seen (S : Type 0) : Type 0 where
  pub row : ℕ
  pub column : ℕ
  pub style : Option S

-- what stands at a place of a box: its row and column, and the style of its mark; nothing past the last place
abbrev pub seen_at : {S : Type 0} → List (Xf S) → Area → List (Run ℕ) → ℕ → Option (Seen S)
seen_at palette a runs p =
    cond (nat_lt p (size a)) (Some (record { row = row_at a p; column = column_at a p; style = styled palette (mark_at runs p) })) None

-- the k-th position that walk gives, from 0, and none after the last
abbrev pub walked_from : {S : Type 0} → List (Xf S) → Option Area → List (Run ℕ) → ℕ → Option (Seen S)
walked_from palette None runs k = None
walked_from palette (Some a) runs k = seen_at palette a runs k

abbrev pub walked : {S : Type 0} → List (Xf S) → Sheet → ℕ → Option (Seen S)
walked palette s k = walked_from palette (area s) (id_runs s) k
