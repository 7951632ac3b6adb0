-- Where the parts of an item stand in a text.
use Rattle.std.specs.Prelude.{ℕ, List, drop}
use Rattle.attrs.specs.Grammar.{Attribute}
use Rattle.vectors.specs.Fronts.{Starts}

-- the part stands in the text at that place
abbrev pub Stands : List ℕ → ℕ → List ℕ → Type 0
Stands text place part = Starts (drop place text) part

-- the key and the value stand where the item says
abbrev pub Placed : List ℕ → Attribute → Type 0
Placed text item = Stands text item.key_place item.key × Stands text item.value_place item.value
