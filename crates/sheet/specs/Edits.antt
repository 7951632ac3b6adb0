-- What making a sheet, put and clear do.
use Rattle.std.specs.Prelude.{◌≡◌, ℕ, Bool, false, [], replicate, None, vec_items, Result}
use Rattle.formats.specs.declared.CellFormat.TheVariants.{Other}
use Rattle.sheet.specs.declared.memory.Sheet.{Sheet}
use Rattle.sheet.specs.declared.memory.SheetMemory.{SheetMemory}
use Rattle.sheet.specs.declared.answers.Put.{Put}
use Rattle.sheet.specs.declared.answers.PutRefusal.{PutRefusal}
use Rattle.sheet.specs.declared.answers.ClearRefusal.{ClearRefusal}
use Rattle.sheet.specs.Contents.{words, kept, cell_room, memory_cell_room, memory_run_room}
use Rattle.sheet.specs.Rules.{keeps, put_answer, put_words, put_kept, clears, clear_answer, clear_words, clear_kept}

-- Memory for so many cells and runs, with nothing in it.
pub record Blank (cells runs : ℕ) (m : SheetMemory) : Type 0 where
  pub no_cells : vec_items m.cells.cells ≡ []
  pub cell_room_is : memory_cell_room m ≡ cells
  pub ids_are : vec_items m.ids ≡ replicate runs 0
  pub id_ends_are : vec_items m.id_ends ≡ replicate runs 0
  pub kinds_are : vec_items m.kinds ≡ replicate runs Other
  pub kind_ends_are : vec_items m.kind_ends ≡ replicate runs 0
  pub run_room_is : memory_run_room m ≡ runs

-- A new sheet keeps no cell and has no box and no runs; the entries of its run memory are those that were handed over.
pub record Made (m : SheetMemory) (s : Sheet) : Type 0 where
  pub no_words : (r c : ℕ) → words s r c ≡ None
  pub none_kept : kept s ≡ 0
  pub room_is : cell_room s ≡ memory_cell_room m
  pub no_box : s.area ≡ None
  pub ids_are : s.ids.marks ≡ m.ids
  pub id_ends_are : s.ids.ends ≡ m.id_ends
  pub no_ids : s.ids.used ≡ 0
  pub kinds_are : s.kinds.marks ≡ m.kinds
  pub kind_ends_are : s.kinds.ends ≡ m.kind_ends
  pub no_kinds : s.kinds.used ≡ 0

-- the box, the runs and the room are as they were: only the cells may differ
pub record SameRuns (s s' : Sheet) : Type 0 where
  pub room_same : cell_room s' ≡ cell_room s
  pub box_same : s'.area ≡ s.area
  pub ids_same : s'.ids ≡ s.ids
  pub kinds_same : s'.kinds ≡ s.kinds

module _ (P : ℕ) (s : Sheet) (row column id : ℕ) where
  pub record PutDone (answer : Result Put PutRefusal) (s' : Sheet) : Type 0 where
    pub is : answer ≡ put_answer P (cell_room s) (words s) (kept s) row column id
    pub words_after : (r c : ℕ) → words s' r c ≡ put_words P (cell_room s) (words s) (kept s) row column id r c
    pub kept_after : kept s' ≡ put_kept P (cell_room s) (words s) (kept s) row column id
    pub rest : SameRuns s s'
    pub unchanged : keeps P (cell_room s) (words s) (kept s) row column id ≡ false → s' ≡ s

module _ (s : Sheet) (row column : ℕ) where
  pub record ClearDone (answer : Result Bool ClearRefusal) (s' : Sheet) : Type 0 where
    pub is : answer ≡ clear_answer (words s) (kept s) row column
    pub words_after : (r c : ℕ) → words s' r c ≡ clear_words (words s) (kept s) row column r c
    pub kept_after : kept s' ≡ clear_kept (words s) (kept s) row column
    pub rest : SameRuns s s'
    pub unchanged : clears (words s) (kept s) row column ≡ false → s' ≡ s
