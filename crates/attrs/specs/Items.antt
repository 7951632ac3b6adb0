-- Items as the reader hands them out, and what reading the next one comes to.
use Rattle.std.specs.Prelude.{◌≡◌, ℕ, ◌⊎◌, List, [], ◌∷◌, drop, Some, None, Ok, Err, Option, Result}
use Rattle.attrs.specs.Bytes.{white, All}
use Rattle.attrs.specs.Grammar.{Attribute, First, Front, Has, WellFormed, past}
use Rattle.attrs.specs.Flaws.{Faulty, FirstFault}
use Rattle.attrs.specs.declared.attributes.Attributes.{Attributes}
use Rattle.attrs.specs.declared.item.Item.{Item}
use Rattle.attrs.specs.declared.fault.Fault.{Fault}

-- the bytes of attribute text that are left to read
abbrev pub left : Attributes → List ℕ
left a = drop a.place a.text.now

-- an item by what it holds
abbrev pub attribute_of : Item → Attribute
attribute_of i = record { key = i.key.now; value = i.value.now; key_place = i.key_place; value_place = i.value_place }

-- Reading at a place, with the bytes from there on, gives an answer and leaves the bytes at another place: at the end there
-- is nothing but white space; an item is taken off the front; a faulty item is left where it is.
abbrev pub Next : ℕ → List ℕ → Result (Option Item) Fault → ℕ → List ℕ → Type 0
Next place bytes (Ok None) place' bytes' = All white bytes × (place' ≡ place) × (bytes' ≡ bytes)
Next place bytes (Ok (Some i)) place' bytes' = First place bytes (attribute_of i) bytes' × (place' ≡ past (attribute_of i))
Next place bytes (Err fault) place' bytes' = Faulty place bytes fault × (place' ≡ place) × (bytes' ≡ bytes)

-- One thing at most stands first: white space alone, one item with one rest, or an item with one fault.
pub record OneFirst (place : ℕ) (bytes : List ℕ) : Type 0 where
  pub one_item : (item other : Attribute) (rest rest' : List ℕ) → First place bytes item rest → First place bytes other rest' → (item ≡ other) × (rest ≡ rest')
  pub one_fault : (fault other : Fault) → Faulty place bytes fault → Faulty place bytes other → fault ≡ other
  pub sound_or_faulty : (item : Attribute) (rest : List ℕ) (fault : Fault) → First place bytes item rest → Faulty place bytes fault → ⊥
  pub item_or_blank : (item : Attribute) (rest : List ℕ) → First place bytes item rest → All white bytes → ⊥
  pub fault_or_blank : (fault : Fault) → Faulty place bytes fault → All white bytes → ⊥

-- no further item can be read: there is but white space, or the next item is faulty by itself
abbrev pub Ended : ℕ → List ℕ → Type 0
Ended place bytes = All white bytes ⊎ ((fault : Fault) × Faulty place bytes fault)

-- the first item with the key: items with other keys stand before it
pub record FoundAt (place : ℕ) (bytes key : List ℕ) (item : Attribute) : Type 0 where
  pub earlier : List Attribute
  pub end : ℕ
  pub rest : List ℕ
  pub next : List ℕ
  pub front : Front place bytes earlier end rest
  pub new : Has key earlier → ⊥
  pub first : First end rest item next
  pub key_is : item.key ≡ key

-- none of the items that can be read has the key
pub record NotFound (place : ℕ) (bytes key : List ℕ) : Type 0 where
  pub items : List Attribute
  pub end : ℕ
  pub rest : List ℕ
  pub front : Front place bytes items end rest
  pub ended : Ended end rest
  pub none : Has key items → ⊥

-- what looking for a key comes to
abbrev pub Found : ℕ → List ℕ → List ℕ → Option Item → Type 0
Found place bytes key None = NotFound place bytes key
Found place bytes key (Some i) = FoundAt place bytes key (attribute_of i)

-- the item is one of the items
abbrev pub In : Attribute → List Attribute → Type 0
In item [] = ⊥
In item (i ∷ is) = (i ≡ item) ⊎ In item is

-- look-up of a key among items: the item that has it, or none where no item has it
abbrev pub LookUp : List ℕ → List Attribute → Option Item → Type 0
LookUp key items None = Has key items → ⊥
LookUp key items (Some i) = In (attribute_of i) items × (i.key.now ≡ key)

-- What a check of all items answers: that the text is well-formed, or its first fault.
abbrev pub Checked : ℕ → List ℕ → Result (Unit {0}) Fault → Type 0
Checked place bytes (Ok u) = (items : List Attribute) × WellFormed place bytes items
Checked place bytes (Err fault) = FirstFault place bytes fault

-- No other answer is right: well-formed text has one list of items and no fault, and any other text has one first fault.
pub record Unambiguous (place : ℕ) (bytes : List ℕ) : Type 0 where
  pub one_list : (items others : List Attribute) → WellFormed place bytes items → WellFormed place bytes others → items ≡ others
  pub one_fault : (fault other : Fault) → FirstFault place bytes fault → FirstFault place bytes other → fault ≡ other
  pub not_both : (items : List Attribute) (fault : Fault) → WellFormed place bytes items → FirstFault place bytes fault → ⊥
