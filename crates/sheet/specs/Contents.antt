-- What a sheet stands for: the words of its positions now, and the box and the runs of its latest accepted pack.
use Rattle.std.specs.Prelude.{ℕ, min, List, take, vec_items, vec_len, Option}
use Rattle.std.specs.Option.{option_map}
use Rattle.runs.specs.declared.memory.RunMemory.{RunMemory}
use Rattle.runs.specs.declared.run.Run.{Run}
use Rattle.runs.specs.Memory.{runs_of}
use Rattle.formats.specs.declared.CellFormat.{CellFormat}
use Rattle.cells.specs.Area.{Area, extent}
use Rattle.cells.specs.Words.{Words}
use Rattle.cells.specs.Kept as cells
use Rattle.sheet.specs.declared.memory.Sheet.{Sheet}
use Rattle.sheet.specs.declared.memory.SheetMemory.{SheetMemory}

-- the word of each position
abbrev pub words : Sheet → Words
words s = cells.words s.cells

-- how many positions have one
abbrev pub kept : Sheet → ℕ
kept s = cells.kept s.cells

-- C, how many cells there is room for
abbrev pub cell_room : Sheet → ℕ
cell_room s = s.cells.limit

-- how many runs a run memory has room for: as many as the shorter of marks and ends has entries
abbrev pub room : {M : Type 0} → RunMemory M → ℕ
room m = min (vec_len m.marks) (vec_len m.ends)

-- R, how many runs of each kind there is room for
abbrev pub run_room : Sheet → ℕ
run_room s = min (room s.ids) (room s.kinds)

-- the runs that a memory holds
abbrev pub held : {M : Type 0} → RunMemory M → List (Run M)
held m = runs_of (take m.used (vec_items m.marks)) (take m.used (vec_items m.ends))

-- the box of the latest accepted pack
abbrev pub area : Sheet → Option Area
area s = option_map extent s.area

abbrev pub id_runs : Sheet → List (Run ℕ)
id_runs s = held s.ids

abbrev pub kind_runs : Sheet → List (Run CellFormat)
kind_runs s = held s.kinds

-- C and R of memory that is handed to a sheet
abbrev pub memory_cell_room : SheetMemory → ℕ
memory_cell_room m = m.cells.limit

abbrev pub memory_run_room : SheetMemory → ℕ
memory_run_room m = min (min (vec_len m.ids) (vec_len m.id_ends)) (min (vec_len m.kinds) (vec_len m.kind_ends))
