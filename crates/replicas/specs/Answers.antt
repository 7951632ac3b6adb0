-- The text of an answer.
use Rattle.std.specs.Prelude.{ℕ, true, false, List, ◌++◌, Ok, Err, codes, decimal}
use Rattle.sheet.specs.declared.answers.Put.TheVariants.{Kept, Ignored}
use Rattle.sheet.specs.Refusals.{put_text, clear_text, pack_text}
use Rattle.replicas.specs.declared.call.Answer.{Answer}
use Rattle.replicas.specs.declared.call.Answer.TheVariants.{Put, Clear, Pack}

abbrev pub answer_text : Answer → List ℕ
answer_text (Put (Ok Kept)) = codes "kept"
answer_text (Put (Ok Ignored)) = codes "ignored"
answer_text (Put (Err refusal)) = put_text refusal
answer_text (Clear (Ok true)) = codes "cleared"
answer_text (Clear (Ok false)) = codes "empty"
answer_text (Clear (Err refusal)) = clear_text refusal
answer_text (Pack (Ok counts)) = codes "packed " ++ (decimal counts.ids ++ (codes " " ++ decimal counts.kinds))
answer_text (Pack (Err refusal)) = pack_text refusal
