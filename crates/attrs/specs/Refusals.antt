-- The numbers of the refusals of attribute text, and the text that a person reads.
use Rattle.std.specs.Prelude.{ℕ, List, ◌++◌, codes, decimal}
use Rattle.attrs.specs.declared.fault.Flaw.{Flaw}
use Rattle.attrs.specs.declared.fault.Flaw.TheVariants.{BadKey, NoSpace, NoQuote, NotClosed, Repeated}
use Rattle.attrs.specs.declared.fault.Fault.{Fault}

abbrev pub flaw_number : Flaw → ℕ
flaw_number BadKey = 4
flaw_number NoSpace = 4
flaw_number NoQuote = 5
flaw_number NotClosed = 6
flaw_number Repeated = 7

abbrev pub flaw_words : Flaw → List ℕ
flaw_words BadKey = codes "no key with = after it"
flaw_words NoSpace = codes "no white space after the value"
flaw_words NoQuote = codes "no quote after ="
flaw_words NotClosed = codes "the value is not closed"
flaw_words Repeated = codes "the key stands in an earlier item"

-- the number, the place and, in brackets, what is wrong
abbrev pub fault_text : Fault → List ℕ
fault_text f =
    codes "refused " ++ (decimal (flaw_number f.flaw) ++ (codes " at byte " ++ (decimal f.place ++ (codes " (" ++ (flaw_words f.flaw ++ codes ")")))))
