-- What words of a line mean.
use Rattle.std.specs.Prelude.{◌≡◌, ◌≢◌, ℕ, ◌^◌, ◌<◌, List, codes, None, Some, Option, Result}
use Rattle.std.specs.Result.{OkIff}
use Rattle.std.specs.Str.Parse.{IsNumeral, digits_value}
use Rattle.replicas.specs.declared.call.Call.{Call}
use Rattle.replicas.specs.declared.call.Call.TheVariants.{Put, Clear, Pack}
use Rattle.intake.specs.declared.command.Command.{Command}
use Rattle.intake.specs.declared.command.Command.TheVariants.{Open, AddXf, Make, Ask, Agree}
use Rattle.intake.specs.declared.command.Question.{Question}
use Rattle.intake.specs.declared.command.Question.TheVariants.{Get, Kind, Runs, Walk}
use Rattle.intake.specs.declared.command.DeskName.{DeskName}
use Rattle.intake.specs.declared.command.DeskName.TheVariants.{Loader, Floor}

-- One digit or more, and nothing else, is read as the number that it writes; all other words, and numbers past 32 bits, are
-- refused.
abbrev pub ReadsNumber : {E : Type 0} → List ℕ → Result ℕ E → Type 0
ReadsNumber word r = OkIff r (IsNumeral 10 word × (digits_value 10 word < 2 ^ 32)) (digits_value 10 word)

-- the word for a desk
abbrev pub desk_word : DeskName → List ℕ
desk_word Loader = codes "loader"
desk_word Floor = codes "floor"

-- the word stands for the call, and where there is none, for none
abbrev pub CallNamed : List ℕ → Option Call → Type 0
CallNamed word (Some (Put row column id)) = word ≡ codes "put"
CallNamed word (Some (Clear row column)) = word ≡ codes "clear"
CallNamed word (Some Pack) = word ≡ codes "pack"
CallNamed word None = (word ≢ codes "put") × (word ≢ codes "clear") × (word ≢ codes "pack")

-- the word for a question
abbrev pub question_word : Question → List ℕ
question_word (Get row column) = codes "get"
question_word (Kind row column) = codes "kind"
question_word Runs = codes "runs"
question_word Walk = codes "walk"

-- the command asks something of the sheet of that name
abbrev pub IsAt : DeskName → Command → Type 0
IsAt name (Make n call) = n ≡ name
IsAt name (Ask n question) = n ≡ name
IsAt name (Open n room) = ⊥
IsAt name (AddXf kind) = ⊥
IsAt name Agree = ⊥
