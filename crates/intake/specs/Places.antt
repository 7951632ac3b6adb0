-- The desk of each name.
use Rattle.std.specs.Prelude.{Option}
use Rattle.std.specs.Borrow.{Lends, MutBor, Fml}
use Rattle.std.specs.contracts.option.Option.{the_row as option_row}
use Rattle.intake.specs.declared.command.DeskName.{DeskName}
use Rattle.intake.specs.declared.command.DeskName.TheVariants.{Loader, Floor}
use Rattle.intake.specs.declared.desk.Desk.{Desk}
use Rattle.intake.specs.declared.desks.Desks.{Desks}
use Rattle.intake.specs.contracts.desk.Desk.{the_row as desk_row}
use Rattle.intake.specs.contracts.desks.Desks.{the_row}

-- the desk of a name, and the other one
abbrev pub desk_at : DeskName → Desks → Option Desk
desk_at Loader s = s.loader
desk_at Floor s = s.floor

abbrev pub other_desk : DeskName → Desks → Option Desk
other_desk Loader s = s.floor
other_desk Floor s = s.loader

-- the desks with another one at a name
abbrev pub with_desk : DeskName → Desks → Option Desk → Desks
with_desk Loader s w = record s { loader = w }
with_desk Floor s w = record s { floor = w }

-- The desks end with the last one behind r at the name.
abbrev pub LendsPlace : MutBor Desks → DeskName → MutBor (Option Desk) → Fml
LendsPlace s name r = Lends the_row (option_row desk_row) s r (with_desk name s.now)
