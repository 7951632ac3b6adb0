-- The words that a line of the vector file begins with.
use Rattle.std.specs.Prelude.{ℕ, List, ◌++◌, codes}
use Rattle.vectors.specs.Widths.{width_word}
use Rattle.vectors.specs.declared.line.Family.{Family}
use Rattle.vectors.specs.declared.line.Family.TheVariants.{Items, Decimal, Whole, Decode}

abbrev pub family_words : Family → List ℕ
family_words Items = codes "items"
family_words Decimal = codes "decimal"
family_words (Whole width) = codes "whole " ++ width_word width
family_words Decode = codes "decode"
