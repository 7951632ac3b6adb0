-- Widths of whole numbers, and the words of the vector file for them.
use Rattle.std.specs.Prelude.{◌≡◌, ℕ, List, Ok, Err, codes, Result}
use Rattle.vectors.specs.declared.line.NoWidth.{NoWidth}
use Rattle.vectors.specs.declared.line.Width.{Width}
use Rattle.vectors.specs.declared.line.Width.TheVariants.{Bits8, Bits16, Bits32, Bits64}

abbrev pub bits : Width → ℕ
bits Bits8 = 8
bits Bits16 = 16
bits Bits32 = 32
bits Bits64 = 64

abbrev pub width_word : Width → List ℕ
width_word Bits8 = codes "8"
width_word Bits16 = codes "16"
width_word Bits32 = codes "32"
width_word Bits64 = codes "64"

-- the width that a word says, or that it says none
abbrev pub WidthOf : List ℕ → Result Width NoWidth → Type 0
WidthOf word (Ok width) = word ≡ width_word width
WidthOf word (Err e) = (width : Width) → word ≡ width_word width → ⊥
