-- Look-up of a key, item by item.
use Rattle.std.proofs.Common.{◌≡◌, ℕ, ◌-◌, ◌<◌, ◌⊎◌, List, [], ◌∷◌, ◌++◌, length, drop, sym, ap, ◌∙◌, subst, inl, inr, ⊎_elim, arith}
use Rattle.std.proofs.lemmas.List.{length-drop}
use Rattle.attrs.specs.Bytes.{white, All}
use Rattle.attrs.specs.Grammar.{Attribute, First, Front, Has, WellFormed, past}
use Rattle.attrs.specs.Items.{Ended, FoundAt, NotFound, In}
use Rattle.attrs.proofs.Uniqueness.{first_one, first_forward, value_ends, blank_not_first, faulty_not_first}
use Rattle.attrs.proofs.Fronts.{at_start, follows, front_push, front_forward, has_push}

-- items with other keys stand in front
pub record Passed (place : ℕ) (bytes key : List ℕ) (end : ℕ) (rest : List ℕ) : Type 0 where
  pub items : List Attribute
  pub front : Front place bytes items end rest
  pub none : Has key items → ⊥

pub passed_more : {place : ℕ} {bytes key : List ℕ} {end : ℕ} {rest : List ℕ} {item : Attribute} {next : List ℕ} → Passed place bytes key end rest → First end rest item next
    → (item.key ≡ key → ⊥) → Passed place bytes key (past item) next
passed_more {place} {bytes} {key} {end} {rest} {item} {next} p x other =
    record {
      items = p.items ++ (item ∷ []);
      front = front_push place bytes p.items end rest item next p.front x;
      none = λ h. ⊎_elim p.none other (has_push key p.items item h);
    }

-- past an item that is taken off the front, fewer bytes of the text are left
pub fewer_left : (text : List ℕ) (place place' : ℕ) (item : Attribute) (rest : List ℕ) → First place (drop place text) item rest → place' ≡ past item → length text - place' < length text - place
fewer_left text place place' item rest x at =
    let low = (first_forward x).0 in
    let high = (first_forward x).1 in
    let ends = value_ends x in
    let long = length-drop place text in
    omega (arith, at)

-- ---- among the items of well-formed text

in_front : (place : ℕ) (bytes : List ℕ) (items : List Attribute) (end : ℕ) (rest : List ℕ) (others : List Attribute) (end' : ℕ) (rest' : List ℕ) (item : Attribute) (next : List ℕ)
    → Front place bytes items end rest → All white rest → Front place bytes others end' rest' → First end' rest' item next → In item items
in_front place bytes [] end rest [] end' rest' item next f blank g x =
    absurd (blank_not_first x (subst (All white) (sym f.1 ∙ g.1) blank))
in_front place bytes [] end rest (j ∷ js) end' rest' item next f blank g x = absurd (blank_not_first g.1 (subst (All white) (sym f.1) blank))
in_front place bytes (i ∷ is) end rest [] end' rest' item next f blank g x =
    inl (first_one f.1 (at_start g x)).0
in_front place bytes (i ∷ is) end rest (j ∷ js) end' rest' item next f blank g x =
    inr (in_front (past i) f.0 is end rest js end' rest' item next f.2 blank (follows js end' rest' f.1 g.1 g.2) x)

ended_not_first : {place : ℕ} {bytes : List ℕ} {item : Attribute} {rest : List ℕ} → Ended place bytes → First place bytes item rest → ⊥
ended_not_first ended x = ⊎_elim (blank_not_first x) (λ f. faulty_not_first x f.1) ended

-- where the one front has the key, so has the other, which goes as far as can be read
has_too : (key : List ℕ) (place : ℕ) (bytes : List ℕ) (items : List Attribute) (end : ℕ) (rest : List ℕ) (others : List Attribute) (end' : ℕ) (rest' : List ℕ)
    → Front place bytes items end rest → Front place bytes others end' rest' → Ended end' rest' → Has key items → Has key others
has_too key place bytes [] end rest others end' rest' f g ended h = absurd h
has_too key place bytes (i ∷ is) end rest [] end' rest' f g ended h =
    absurd (ended_not_first (subst (λ p. Ended p bytes) (sym g.0) (subst (λ b. Ended end' b) (sym g.1) ended)) f.1)
has_too key place bytes (i ∷ is) end rest (j ∷ js) end' rest' f g ended h =
    let same = first_one f.1 g.1 in
    ⊎_elim (λ e. inl (ap (λ y. y.key) (sym same.0) ∙ e)) (λ more. inr (has_too key (past i) f.0 is end rest js end' rest' f.2 (follows js end' rest' f.1 g.1 g.2) ended more)) h

pub found_among : {place : ℕ} {bytes key : List ℕ} {item : Attribute} {items : List Attribute} → FoundAt place bytes key item → WellFormed place bytes items → In item items
found_among {place} {bytes} {key} {item} {items} f w =
    in_front place bytes items w.end w.rest f.earlier f.end f.rest item f.next w.front w.blank f.front f.first

pub none_among : {place : ℕ} {bytes key : List ℕ} {items : List Attribute} → NotFound place bytes key → WellFormed place bytes items → Has key items → ⊥
none_among {place} {bytes} {key} {items} f w h =
    f.none (has_too key place bytes items w.end w.rest f.items f.end f.rest w.front f.front f.ended h)

-- ---- the first item with a key tells whether an item repeats it

pub repeated_or_first : (key : List ℕ) (place : ℕ) (bytes : List ℕ) (items : List Attribute) (end : ℕ) (rest : List ℕ) (item : Attribute) (next : List ℕ)
    (others : List Attribute) (end' : ℕ) (rest' : List ℕ) (found : Attribute) (next' : List ℕ)
    → Front place bytes items end rest → First end rest item next → item.key ≡ key
    → Front place bytes others end' rest' → (Has key others → ⊥) → First end' rest' found next' → found.key ≡ key
    → (Has key items × (found.key_place < item.key_place)) ⊎ ((Has key items → ⊥) × (found ≡ item))
repeated_or_first key place bytes [] end rest item next [] end' rest' found next' f x is g new y is' =
    inr ((λ h. h), (first_one (at_start g y) (at_start f x)).0)
repeated_or_first key place bytes [] end rest item next (j ∷ js) end' rest' found next' f x is g new y is' =
    absurd (new (inl (ap (λ i. i.key) (first_one g.1 (at_start f x)).0 ∙ is)))
repeated_or_first key place bytes (i ∷ is) end rest item next [] end' rest' found next' f x e g new y e' =
    let same = (first_one f.1 (at_start g y)).0 in
    let at = ap (λ a. a.key_place) same in
    let later = front_forward (past i) f.0 is end rest f.2 in
    inl (inl (ap (λ a. a.key) same ∙ e'), omega (arith, at, (first_forward f.1).1, later, (first_forward x).0))
repeated_or_first key place bytes (i ∷ is) end rest item next (j ∷ js) end' rest' found next' f x e g new y e' =
    let same = first_one f.1 g.1 in
    ⊎_elim
    (λ r. inl (inr r.0, r.1))
    (λ r. inr ((λ h. ⊎_elim (λ k. new (inl (ap (λ z. z.key) (sym same.0) ∙ k))) r.0 h), r.1))
    (repeated_or_first key (past i) f.0 is end rest item next js end' rest' found next' f.2 x e (follows js end' rest' f.1 g.1 g.2) (λ h. new (inr h)) y e')

-- an item that can be read is found
pub not_missing : (key : List ℕ) (place : ℕ) (bytes : List ℕ) (items : List Attribute) (end : ℕ) (rest : List ℕ) (item : Attribute) (next : List ℕ)
    → Front place bytes items end rest → First end rest item next → item.key ≡ key → NotFound place bytes key → ⊥
not_missing key place bytes items end rest item next f x is n =
    n.none (has_too key place bytes (items ++ (item ∷ [])) (past item) next n.items n.end n.rest (front_push place bytes items end rest item next f x) n.front n.ended (last items))
  where
    last : (is : List Attribute) → Has key (is ++ (item ∷ []))
    last [] = inl is
    last (i ∷ is') = inr (last is')
