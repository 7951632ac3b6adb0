-- What a desk does.
use Rattle.std.specs.Prelude.{◌≡◌, ℕ, List, [], ◌∷◌, ◌++◌, reverse, vec_items, Option}
use Rattle.sheet.specs.declared.xf.Xf.{Xf}
use Rattle.sheet.specs.declared.memory.Sheet.{Sheet}
use Rattle.sheet.specs.Contents.{area, id_runs}
use Rattle.sheet.specs.Reads.{mark_there}
use Rattle.replicas.specs.declared.call.Call.{Call}
use Rattle.replicas.specs.declared.call.Answer.{Answer}
use Rattle.replicas.specs.Stands.{Applied, Stands}
use Rattle.intake.specs.declared.style.Style.{Style}
use Rattle.intake.specs.declared.desk.Desk.{Desk}

-- the calls that the desk's sheet has had, the oldest first
abbrev pub calls_of : Desk → List Call
calls_of d = vec_items d.calls

-- the id that the latest accepted pack has at a position, if there is one
abbrev pub packed_id : Sheet → ℕ → ℕ → Option ℕ
packed_id s r c = mark_there (area s) (id_runs s) r c

-- The call stands at the end of the list, and was made at the sheet.
abbrev pub Recorded : List (Xf Style) → Desk → Call → Answer → Desk → Type 0
Recorded palette d call answer d' =
    (calls_of d' ≡ calls_of d ++ call ∷ []) × Applied palette d.sheet call answer d'.sheet

-- The list of calls and the sheet are as they were.
abbrev pub SameDesk : Desk → Desk → Type 0
SameDesk d d' = (calls_of d' ≡ calls_of d) × (d'.sheet ≡ d.sheet)

-- the room for cells and for runs is as it was
abbrev pub SameRoom : Desk → Desk → Type 0
SameRoom d d' = d'.room ≡ d.room

-- The sheet is what the recorded calls make of a new one.
abbrev pub InStep : List (Xf Style) → Desk → Type 0
InStep palette d = Stands palette d.room.cells d.room.runs (reverse (calls_of d)) d.sheet
