-- What a session keeps.
use Rattle.std.specs.Prelude.{◌≡◌, ◌↔◌, Bool, List, [], Some, None, Ok, Err, vec_items, Decides, Option, Result, IsErrOf, IsOkUnless, MatchOption, false, vec_len, IsSome}
use Rattle.sheet.specs.declared.xf.Xf.{Xf}
use Rattle.sheet.specs.declared.room.Room.{Room}
use Rattle.sheet.specs.Reads.{got, kind_there}
use Rattle.replicas.specs.declared.call.Call.{Call}
use Rattle.replicas.specs.declared.call.Answer.{Answer}
use Rattle.replicas.specs.Promise.{SameRuns}
use Rattle.intake.specs.declared.style.Style.{Style}
use Rattle.intake.specs.declared.misread.Misread.{Misread}
use Rattle.intake.specs.declared.command.Command.{Command}
use Rattle.intake.specs.declared.command.Command.TheVariants.{Open, AddXf, Make, Ask, Agree}
use Rattle.intake.specs.declared.command.DeskName.{DeskName}
use Rattle.intake.specs.declared.command.Question.{Question}
use Rattle.intake.specs.declared.command.Question.TheVariants.{Get, Kind as AskKind, Runs as AskRuns, Walk as AskWalk}
use Rattle.intake.specs.declared.reply.Reply.{Reply}
use Rattle.intake.specs.declared.reply.Reply.TheVariants.{Ready, Added, Made as MadeCall, Style as StyleIs, Kind as KindIs, Runs as RunsOf, Walk as WalkOf, Agree as AgreeIs}
use Rattle.intake.specs.declared.desk.Desk.{Desk}
use Rattle.intake.specs.declared.session.Session.{Session}
use Rattle.intake.specs.Desks.{calls_of, packed_id, Recorded, SameDesk, SameRoom}
use Rattle.intake.specs.Places.{desk_at, other_desk}

-- The call was recorded and made at the desk that is there, or the desk is as it was.
abbrev pub MadeAt : List (Xf Style) → Option Desk → Call → Result Answer Misread → Option Desk → Type 0
MadeAt palette None call (Ok answer) o = ⊥
MadeAt palette None call (Err why) o = o ≡ None
MadeAt palette (Some d) call r None = ⊥
MadeAt palette (Some d) call (Ok answer) (Some d') = Recorded palette d call answer d' × SameRoom d d'
MadeAt palette (Some d) call (Err why) (Some d') = SameDesk d d' × SameRoom d d'

-- The call was made at the desk of that name, and the rest is as it was.
abbrev pub Made : Session → DeskName → Call → Result Answer Misread → Session → Type 0
Made s name call r s' =
    MadeAt (vec_items s.palette.entries) (desk_at name s.desks) call r (desk_at name s'.desks)
    × (other_desk name s'.desks ≡ other_desk name s.desks)
    × (vec_items s'.palette.entries ≡ vec_items s.palette.entries)

-- The answer says whether the sheets of both desks have the same box and the same runs.
abbrev pub Agreed : Bool → Option Desk → Option Desk → Type 0
Agreed agree None o = ⊥
Agreed agree (Some d) None = ⊥
Agreed agree (Some d) (Some e) = Decides agree (SameRuns d.sheet e.sheet)

-- A new sheet stands at the desk, which had no call yet.
abbrev pub NewDesk : Room → Option Desk → Type 0
NewDesk room None = ⊥
NewDesk room (Some d) = (calls_of d ≡ []) × (d.room ≡ room)

-- The one misread comes exactly where the fact holds, and elsewhere only memory can be missing.
abbrev pub Refuses : {A : Type 0} → Result A Misread → Misread → Type 0 → Misread → Type 0
Refuses r why P no_memory = (IsErrOf r why ↔ P) × (¬ P → IsOkUnless r no_memory)

-- The reply tells of the sheet that is there: the number of the style at a position, the date kind there, or the sheet itself, to
-- be printed with its runs, or walked over the palette.
abbrev pub Answered : List (Xf Style) → Option Desk → Question → Reply → Type 0
Answered palette (Some d) (Get row column) (StyleIs number) = MatchOption number (got palette d.sheet row column ≡ None) (λ n. packed_id d.sheet row column ≡ Some n)
Answered palette (Some d) (AskKind row column) (KindIs kind) = kind ≡ kind_there d.sheet row column
Answered palette (Some d) AskRuns (RunsOf sheet) = sheet.now ≡ d.sheet
Answered palette (Some d) AskWalk (WalkOf sheet entries) = (sheet.now ≡ d.sheet) × (entries.now ≡ palette)
Answered palette place question reply = ⊥

-- The reply is one to that command, told from the session before it.
abbrev pub RepliesTo : Session → Command → Reply → Type 0
RepliesTo s (Open name room) Ready = desk_at name s.desks ≡ None
RepliesTo s (AddXf kind) (Added number) = (s.called ≡ false) × (number ≡ vec_len s.palette.entries)
RepliesTo s (Make name call) (MadeCall answer) = IsSome (desk_at name s.desks)
RepliesTo s (Ask name question) reply = Answered (vec_items s.palette.entries) (desk_at name s.desks) question reply
RepliesTo s Agree (AgreeIs agree) = Agreed agree s.desks.loader s.desks.floor
RepliesTo s command reply = ⊥
