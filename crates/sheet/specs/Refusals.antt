-- The numbers of the refusals, and the text that a person reads. A refused pack also tells how many runs it needs.
use Rattle.std.specs.Prelude.{ℕ, List, ◌++◌, codes, decimal}
use Rattle.sheet.specs.declared.answers.PutRefusal.{PutRefusal}
use Rattle.sheet.specs.declared.answers.PutRefusal.TheVariants as put
use Rattle.sheet.specs.declared.answers.ClearRefusal.{ClearRefusal}
use Rattle.sheet.specs.declared.answers.ClearRefusal.TheVariants as clear
use Rattle.sheet.specs.declared.answers.PackRefusal.{PackRefusal}
use Rattle.sheet.specs.declared.answers.PackRefusal.TheVariants as pack

abbrev pub put_number : PutRefusal → ℕ
put_number put.OffSheet = 10
put_number put.Full = 11

abbrev pub clear_number : ClearRefusal → ℕ
clear_number clear.OffSheet = 10

abbrev pub pack_number : PackRefusal → ℕ
pack_number (pack.IdRuns needed) = 12
pack_number (pack.KindRuns needed) = 13

-- the text after the number: why, and for a pack also how many runs are needed
abbrev pub put_reason : PutRefusal → List ℕ
put_reason put.OffSheet = codes " (the position is off the sheet)"
put_reason put.Full = codes " (the sheet has no room for another cell)"

abbrev pub pack_reason : PackRefusal → List ℕ
pack_reason (pack.IdRuns needed) = codes " " ++ (decimal needed ++ codes " (so many runs of style ids are needed)")
pack_reason (pack.KindRuns needed) = codes " " ++ (decimal needed ++ codes " (so many runs of date kinds are needed)")

abbrev pub put_text : PutRefusal → List ℕ
put_text r = codes "refused " ++ (decimal (put_number r) ++ put_reason r)

abbrev pub clear_text : ClearRefusal → List ℕ
clear_text r = codes "refused " ++ (decimal (clear_number r) ++ codes " (the position is off the sheet)")

abbrev pub pack_text : PackRefusal → List ℕ
pack_text r = codes "refused " ++ (decimal (pack_number r) ++ pack_reason r)
