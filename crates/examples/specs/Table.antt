-- The table of worked examples.
use Rattle.std.specs.Prelude.{◌≡◌, ℕ, List, [], ◌∷◌, length, Some, None, Ok, Err}
use Rattle.runs.specs.declared.run.Run.{Run}
use Rattle.runs.specs.Runs.{Packing}
use Rattle.formats.specs.declared.CellFormat.TheVariants.{Other}
use Rattle.cells.specs.Area.{Area, size}
use Rattle.cells.specs.Words.{Words, Least}
use Rattle.sheet.specs.declared.xf.Xf.{Xf}
use Rattle.sheet.specs.declared.answers.Put.TheVariants.{Ignored}
use Rattle.sheet.specs.declared.answers.PackRefusal.TheVariants.{IdRuns}
use Rattle.sheet.specs.Refusals.{pack_number}
use Rattle.sheet.specs.Rules.{put_answer}
use Rattle.sheet.specs.Packs.{spot, pack_answer}
use Rattle.sheet.specs.Reads.{mark_there, styled}
use Rattle.replicas.specs.declared.call.Call.{Call}
use Rattle.replicas.specs.declared.call.Call.TheVariants.{Put}
use Rattle.replicas.specs.History.{last_words, kept_after}

abbrev xf : ℕ → Xf ℕ
xf n = record { style = n; kind = Other }

-- four styles, each known by its number
abbrev pub palette : List (Xf ℕ)
palette = xf 0 ∷ (xf 1 ∷ (xf 2 ∷ (xf 3 ∷ [])))

-- three puts, the newest first, at a sheet with room for three cells
abbrev pub history : List Call
history = Put 6 2 1 ∷ (Put 5 3 2 ∷ (Put 5 2 2 ∷ []))

abbrev pub words : Words
words = last_words 4 3 (Put 7 3 4 ∷ history)

abbrev pub box : Area
box = record { top = 5; left = 2; bottom = 6; right = 3 }

abbrev run : ℕ → ℕ → Run ℕ
run mark end = record { mark = mark; end = end }

abbrev pub runs : List (Run ℕ)
runs = run 2 2 ∷ (run 1 3 ∷ (run 0 4 ∷ []))

-- A style id equal to the palette's length is ignored, and no other style stands in for it.
pub record IdPastPalette : Type 0 where
  pub ignored : put_answer 4 3 (last_words 4 3 history) (kept_after 4 3 history) 7 3 4 ≡ Ok Ignored
  pub bounds : Least words box
  pub packed : Packing (spot (λ id. id) words box) (size box) runs
  pub gap : styled palette (mark_there (Some box) runs 6 3) ≡ Some 0
  pub outside : styled palette (mark_there (Some box) runs 4 2) ≡ None
  pub refused : (kinds : ℕ) → pack_answer 2 (length runs) kinds ≡ Err (IdRuns 3)
  pub refusal_number : pack_number (IdRuns 3) ≡ 12

pub record Table : Type 0 where
  pub id_past_palette : IdPastPalette
