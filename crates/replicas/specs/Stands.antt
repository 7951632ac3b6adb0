-- A sheet stands for a history of calls: it keeps the cells of the last words, and holds the box and the runs of the latest
-- accepted pack.
use Rattle.std.specs.Prelude.{◌≡◌, ℕ, List, length, Option}
use Rattle.sheet.specs.declared.xf.Xf.{Xf}
use Rattle.sheet.specs.declared.memory.Sheet.{Sheet}
use Rattle.sheet.specs.Contents.{words, kept, cell_room, run_room, area, id_runs, kind_runs}
use Rattle.sheet.specs.Palette.{kind_at}
use Rattle.sheet.specs.Edits.{PutDone, ClearDone}
use Rattle.sheet.specs.Packs.{PackDone, Packs}
use Rattle.cells.specs.Words.{Bounds}
use Rattle.replicas.specs.declared.call.Call.{Call}
use Rattle.replicas.specs.declared.call.Call.TheVariants as call
use Rattle.replicas.specs.declared.call.Answer.{Answer}
use Rattle.replicas.specs.declared.call.Answer.TheVariants as answer
use Rattle.replicas.specs.History.{last_words, kept_after}
use Rattle.replicas.specs.Latest.{Latest, words_at}

module _ {S : Type 0} (palette : List (Xf S)) where
  -- the call was made, and answered by its rule
  abbrev pub Applied : Sheet → Call → Answer → Sheet → Type 0
  Applied s (call.Put row column id) (answer.Put r) s' = PutDone (length palette) s row column id r s'
  Applied s (call.Put row column id) (answer.Clear r) s' = ⊥
  Applied s (call.Put row column id) (answer.Pack r) s' = ⊥
  Applied s (call.Clear row column) (answer.Put r) s' = ⊥
  Applied s (call.Clear row column) (answer.Clear r) s' = ClearDone s row column r s'
  Applied s (call.Clear row column) (answer.Pack r) s' = ⊥
  Applied s call.Pack (answer.Put r) s' = ⊥
  Applied s call.Pack (answer.Clear r) s' = ⊥
  Applied s call.Pack (answer.Pack r) s' = PackDone palette s r s'

  pub record Stands (C R : ℕ) (h : List Call) (s : Sheet) : Type 0 where
    pub cells_fit : cell_room s ≡ C
    pub runs_fit : run_room s ≡ R
    pub words_are : words s ≡ last_words (length palette) C h
    pub kept_is : kept s ≡ kept_after (length palette) C h
    pub latest : Option (List Call)
    pub is_latest : Latest palette C R h latest
    pub bounds : Bounds (words_at palette C latest) (area s)
    pub ids : Packs (λ id. id) (words_at palette C latest) (area s) (id_runs s)
    pub kinds : Packs (kind_at palette) (words_at palette C latest) (area s) (kind_runs s)
