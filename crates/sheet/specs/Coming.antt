-- The positions that are still to come in a walk.
use Rattle.std.specs.Prelude.{◌≡◌, ℕ, ◌+◌, Option}
use Rattle.std.specs.Option.{option_map}
use Rattle.cells.specs.Area.{extent}
use Rattle.cells.specs.Going.{place}
use Rattle.sheet.specs.declared.walk.Walk.{Walk}
use Rattle.sheet.specs.declared.walk.Styled.{Styled}
use Rattle.sheet.specs.Reads.{Seen, seen_at}

-- the position that comes after k others
abbrev pub coming : {S : Type 0} → Walk S → ℕ → Option (Seen S)
coming w k =
    seen_at w.palette.now (extent w.positions.area) w.ids.table (place w.positions + k)

-- what is given, with the style that it refers to
abbrev pub seen : {S : Type 0} → Styled S → Seen S
seen x = record { row = x.at.row; column = x.at.column; style = option_map (λ x. x.now) x.style }

-- a step gives the position that comes next, and the others are still to come
pub record Stepped {S : Type 0} (w : Walk S) (r : Option (Styled S)) (w' : Walk S) : Type 0 where
  pub item : option_map seen r ≡ coming w 0
  pub rest : (k : ℕ) → coming w' k ≡ coming w (k + 1)
