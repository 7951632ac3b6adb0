-- What is still to come where runs are gone through.
use Rattle.std.specs.Prelude.{List}
use Rattle.std.specs.Slice.Iter.{iter_rest}
use Rattle.runs.specs.declared.run.Run.{Run}
use Rattle.runs.specs.declared.runs.Runs.{Runs}
use Rattle.runs.specs.Memory.{runs_of}

abbrev pub rest : {M : Type 0} → Runs M → List (Run M)
rest r = runs_of (iter_rest r.marks) (iter_rest r.ends)
