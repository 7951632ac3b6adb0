-- What can be wrong with attribute text, and which fault comes first: items go before later ones, and within an item lower
-- numbers before higher ones.
use Rattle.std.specs.Prelude.{◌≡◌, ℕ, ◌+◌, true, not, ◌⊎◌, List, ◌∷◌, ◌++◌, length}
use Rattle.attrs.specs.Bytes.{white, quote, except, All, Begins}
use Rattle.attrs.specs.Grammar.{Attribute, Keyed, Quoted, Indented, First, Front, Has, Distinct}
use Rattle.attrs.specs.declared.fault.Flaw.{Flaw}
use Rattle.attrs.specs.declared.fault.Flaw.TheVariants.{BadKey, NoSpace, NoQuote, NotClosed, Repeated}
use Rattle.attrs.specs.declared.fault.Fault.{Fault}

-- after the equals sign, and white space, stands no quote
pub record Unquoted (after : List ℕ) : Type 0 where
  pub gap : List ℕ
  pub tail : List ℕ
  pub white_gap : All white gap
  pub spelt : after ≡ gap ++ tail
  pub dark : Begins white tail → ⊥
  pub no_quote : Begins quote tail → ⊥

-- after the equals sign, and white space, stands a quote that does not come again
pub record Unclosed (after : List ℕ) : Type 0 where
  pub gap : List ℕ
  pub mark : ℕ
  pub tail : List ℕ
  pub white_gap : All white gap
  pub is_quote : quote mark ≡ true
  pub spelt : after ≡ gap ++ (mark ∷ tail)
  pub inside : All (except mark) tail

-- after the value stands something other than white space
pub record Joined (after : List ℕ) : Type 0 where
  pub value : List ℕ
  pub rest : List ℕ
  pub quoted : Quoted after value rest
  pub dark : Begins (λ b. not (white b)) rest

-- what is wrong after the equals sign
abbrev pub ValueFlaw : List ℕ → Flaw → Type 0
ValueFlaw after BadKey = ⊥
ValueFlaw after NoSpace = Joined after
ValueFlaw after NoQuote = Unquoted after
ValueFlaw after NotClosed = Unclosed after
ValueFlaw after Repeated = ⊥

-- the item that begins the bytes has a key and its equals sign, and this is wrong after it
abbrev pub AfterKey : List ℕ → Flaw → Type 0
AfterKey bytes flaw = (key : List ℕ) × (after : List ℕ) × Keyed bytes key after × ValueFlaw after flaw

-- What is wrong with the item that begins the bytes, taken by itself. An item has at most one such flaw: the others speak of
-- one that has a key and an equals sign, so BadKey goes before them.
abbrev pub ItemFlaw : List ℕ → Flaw → Type 0
ItemFlaw bytes BadKey = (key : List ℕ) (after : List ℕ) → Keyed bytes key after → ⊥
ItemFlaw bytes NoSpace = AfterKey bytes NoSpace
ItemFlaw bytes NoQuote = AfterKey bytes NoQuote
ItemFlaw bytes NotClosed = AfterKey bytes NotClosed
ItemFlaw bytes Repeated = ⊥

-- the first thing in the bytes is an item with that fault, whose place is where the item begins
pub record Faulty (place : ℕ) (bytes : List ℕ) (fault : Fault) : Type 0 where
  pub space : List ℕ
  pub body : List ℕ
  pub indented : Indented bytes space body
  pub flawed : ItemFlaw body fault.flaw
  pub place_is : fault.place ≡ place + length space

-- the first thing in the bytes is an item that is well-formed by itself, and whose key an earlier item has
pub record Repeats (place : ℕ) (bytes : List ℕ) (earlier : List Attribute) (fault : Fault) : Type 0 where
  pub item : Attribute
  pub next : List ℕ
  pub first : First place bytes item next
  pub again : Has item.key earlier
  pub flaw_is : fault.flaw ≡ Repeated
  pub place_is : fault.place ≡ item.key_place

-- The first fault of attribute text: the items before it are well-formed and have distinct keys, and the next one is
-- faulty by itself, or else repeats a key.
pub record FirstFault (place : ℕ) (bytes : List ℕ) (fault : Fault) : Type 0 where
  pub items : List Attribute
  pub end : ℕ
  pub rest : List ℕ
  pub front : Front place bytes items end rest
  pub distinct : Distinct items
  pub faulty : Faulty end rest fault ⊎ Repeats end rest items fault
