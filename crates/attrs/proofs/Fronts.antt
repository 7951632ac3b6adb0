-- Items at the front of attribute text, one after the other.
use Rattle.std.proofs.Common.{◌≡◌, ℕ, ◌≤◌, ◌⊎◌, List, [], ◌∷◌, ◌++◌, sym, refl, ap, ◌∙◌, subst, inl, inr, ⊎_elim, arith}
use Rattle.std.proofs.lemmas.List.{append-nil}
use Rattle.attrs.specs.Bytes.{white, All}
use Rattle.attrs.specs.Grammar.{Attribute, First, Front, Has, Distinct, WellFormed, past}
use Rattle.attrs.specs.Flaws.{Faulty, Repeats, FirstFault}
use Rattle.attrs.specs.declared.fault.Fault.{Fault}
use Rattle.attrs.proofs.Uniqueness.{first_one, first_forward, blank_not_first, faulty_not_first, blank_not_faulty, faulty_one, same_fault}

-- ---- where two fronts of the same bytes have come

-- with no item in front, what stands first after it stands first
pub at_start : {place : ℕ} {bytes : List ℕ} {end : ℕ} {rest : List ℕ} {item : Attribute} {next : List ℕ} → (place ≡ end) × (bytes ≡ rest) → First end rest item next → First place bytes item next
at_start {place} {bytes} {end} {rest} {item} {next} f x = subst (λ b. First place b item next) (sym f.1) (subst (λ p. First p rest item next) (sym f.0) x)

-- what follows the first item in the one follows it in the other
pub follows : {place : ℕ} {bytes : List ℕ} {i j : Attribute} {next next' : List ℕ} (items : List Attribute) (end : ℕ) (rest : List ℕ)
    → First place bytes i next → First place bytes j next' → Front (past j) next' items end rest → Front (past i) next items end rest
follows {place} {bytes} {i} {j} {next} {next'} items end rest x y f =
    let same = first_one x y in
    subst (λ k. Front (past k) next items end rest) (sym same.0) (subst (λ n. Front (past j) n items end rest) (sym same.1) f)

-- ---- one item more

pub front_push : (place : ℕ) (bytes : List ℕ) (items : List Attribute) (end : ℕ) (rest : List ℕ) (item : Attribute) (next : List ℕ)
    → Front place bytes items end rest → First end rest item next → Front place bytes (items ++ (item ∷ [])) (past item) next
front_push place bytes [] end rest item next f x = (next, at_start f x, (refl, refl))
front_push place bytes (i ∷ is) end rest item next f x = (f.0, f.1, front_push (past i) f.0 is end rest item next f.2 x)

pub has_push : (key : List ℕ) (items : List Attribute) (item : Attribute) → Has key (items ++ (item ∷ [])) → Has key items ⊎ (item.key ≡ key)
has_push key [] item (inl e) = inr e
has_push key [] item (inr h) = absurd h
has_push key (i ∷ is) item (inl e) = inl (inl e)
has_push key (i ∷ is) item (inr h) = ⊎_elim (λ g. inl (inr g)) (λ e. inr e) (has_push key is item h)

pub distinct_push : (items : List Attribute) (item : Attribute) → Distinct items → (Has item.key items → ⊥) → Distinct (items ++ (item ∷ []))
distinct_push [] item d new = (λ h. h, tt)
distinct_push (i ∷ is) item d new = (
  λ h. ⊎_elim d.0 (λ e. new (inl (sym e))) (has_push i.key is item h),
  distinct_push is item d.1 (λ h. new (inr h)),
)

-- an item with a key that an earlier one has makes the keys not distinct
distinct_later : (items : List Attribute) (item : Attribute) (more : List Attribute) → Distinct (items ++ (item ∷ more)) → Has item.key items → ⊥
distinct_later [] item more d h = h
distinct_later (i ∷ is) item more d (inl e) = d.0 (later is)
  where
    later : (is : List Attribute) → Has i.key (is ++ (item ∷ more))
    later [] = inl (sym e)
    later (j ∷ js) = inr (later js)
distinct_later (i ∷ is) item more d (inr h) = distinct_later is item more d.1 h

-- ---- places rise

pub front_forward : (place : ℕ) (bytes : List ℕ) (items : List Attribute) (end : ℕ) (rest : List ℕ) → Front place bytes items end rest → place ≤ end
front_forward place bytes [] end rest f = omega (arith, f.0)
front_forward place bytes (i ∷ is) end rest f = omega (arith, (first_forward f.1).0, (first_forward f.1).1, front_forward (past i) f.0 is end rest f.2)

-- ---- two fronts of the same bytes: one goes on where the other stops

abbrev Longer : ℕ → List ℕ → List Attribute → List Attribute → ℕ → List ℕ → Type 0
Longer end rest items others end' rest' = (more : List Attribute) × (others ≡ items ++ more) × Front end rest more end' rest'

fronts : (place : ℕ) (bytes : List ℕ) (items : List Attribute) (end : ℕ) (rest : List ℕ) (others : List Attribute) (end' : ℕ) (rest' : List ℕ)
    → Front place bytes items end rest → Front place bytes others end' rest'
    → Longer end rest items others end' rest' ⊎ Longer end' rest' others items end rest
fronts place bytes [] end rest others end' rest' f g =
    inl (others, refl, subst (λ p. Front p rest others end' rest') f.0 (subst (λ b. Front place b others end' rest') f.1 g))
fronts place bytes (i ∷ is) end rest [] end' rest' f g =
    inr ((i ∷ is), refl, subst (λ p. Front p rest' (i ∷ is) end rest) g.0 (subst (λ b. Front place b (i ∷ is) end rest) g.1 f))
fronts place bytes (i ∷ is) end rest (j ∷ js) end' rest' f g =
    let same = first_one f.1 g.1 in
    ⊎_elim
    (λ m. inl (m.0, (ap (λ x. x ∷ js) (sym same.0) ∙ ap (λ xs. i ∷ xs) m.1), m.2))
    (λ m. inr (m.0, (ap (λ x. x ∷ is) same.0 ∙ ap (λ xs. j ∷ xs) m.1), m.2))
    (fronts (past i) f.0 is end rest js end' rest' f.2 (follows js end' rest' f.1 g.1 g.2))

-- ---- well-formed text has one list of items

-- nothing goes on where there is but white space
stops_blank : (end : ℕ) (rest : List ℕ) (more : List Attribute) (end' : ℕ) (rest' : List ℕ) → All white rest → Front end rest more end' rest' → more ≡ []
stops_blank end rest [] end' rest' blank f = refl
stops_blank end rest (i ∷ is) end' rest' blank f = absurd (blank_not_first f.1 blank)

pub items_one : {place : ℕ} {bytes : List ℕ} {items others : List Attribute} → WellFormed place bytes items → WellFormed place bytes others → items ≡ others
items_one {place} {bytes} {items} {others} x y =
    ⊎_elim
    (λ m. sym (m.1 ∙ ap (λ more. items ++ more) (stops_blank x.end x.rest m.0 y.end y.rest x.blank m.2) ∙ append-nil items))
    (λ m. m.1 ∙ ap (λ more. others ++ more) (stops_blank y.end y.rest m.0 x.end x.rest y.blank m.2) ∙ append-nil others)
    (fronts place bytes items x.end x.rest others y.end y.rest x.front y.front)

-- ---- and no fault

Bad : ℕ → List ℕ → List Attribute → Fault → Type 0
Bad end rest items fault = Faulty end rest fault ⊎ Repeats end rest items fault

-- where the next item is bad, no item follows that keeps the keys distinct
bad_stops : (end : ℕ) (rest : List ℕ) (items more : List Attribute) (end' : ℕ) (rest' : List ℕ) (fault : Fault)
    → Bad end rest items fault → Front end rest more end' rest' → Distinct (items ++ more) → more ≡ []
unfolding Bad
bad_stops end rest items [] end' rest' fault bad f d = refl
bad_stops end rest items (i ∷ is) end' rest' fault (inl faulty) f d = absurd (faulty_not_first f.1 faulty)
bad_stops end rest items (i ∷ is) end' rest' fault (inr repeats) f d =
    let same = first_one repeats.first f.1 in
    absurd (distinct_later items i is d (subst (λ x. Has x.key items) same.0 repeats.again))

bad_not_blank : (end : ℕ) (rest : List ℕ) (items : List Attribute) (fault : Fault) → Bad end rest items fault → All white rest → ⊥
unfolding Bad
bad_not_blank end rest items fault (inl faulty) blank = blank_not_faulty blank faulty
bad_not_blank end rest items fault (inr repeats) blank = blank_not_first repeats.first blank

pub fault_not_formed : {place : ℕ} {bytes : List ℕ} {items : List Attribute} {fault : Fault} → FirstFault place bytes fault → WellFormed place bytes items → ⊥
unfolding Bad
fault_not_formed {place} {bytes} {items} {fault} x y =
    ⊎_elim
    (λ m.
    let none = bad_stops x.end x.rest x.items m.0 y.end y.rest fault x.faulty m.2 (subst Distinct m.1 y.distinct) in
    let same : Front x.end x.rest [] y.end y.rest = subst (λ more. Front x.end x.rest more y.end y.rest) none m.2 in
    bad_not_blank x.end x.rest x.items fault x.faulty (subst (All white) (sym same.1) y.blank))
    (λ m.
    let none = stops_blank y.end y.rest m.0 x.end x.rest y.blank m.2 in
    let same : Front y.end y.rest [] x.end x.rest = subst (λ more. Front y.end y.rest more x.end x.rest) none m.2 in
    bad_not_blank x.end x.rest x.items fault x.faulty (subst (All white) same.1 y.blank))
    (fronts place bytes x.items x.end x.rest items y.end y.rest x.front y.front)

bad_one : (end : ℕ) (rest : List ℕ) (items : List Attribute) (f g : Fault) → Bad end rest items f → Bad end rest items g → f ≡ g
unfolding Bad
bad_one end rest items f g (inl x) (inl y) = faulty_one x y
bad_one end rest items f g (inl x) (inr y) = absurd (faulty_not_first y.first x)
bad_one end rest items f g (inr x) (inl y) = absurd (faulty_not_first x.first y)
bad_one end rest items f g (inr x) (inr y) =
    same_fault f g (x.flaw_is ∙ sym y.flaw_is) (x.place_is ∙ ap (λ i. i.key_place) (first_one x.first y.first).0 ∙ sym y.place_is)

-- two first faults, where the items before the one go on to those before the other
level : (f g : Fault) (end : ℕ) (rest : List ℕ) (items others : List Attribute) (end' : ℕ) (rest' : List ℕ) → Bad end rest items f → Bad end' rest' others g → Distinct others
    → Longer end rest items others end' rest' → f ≡ g
level f g end rest items others end' rest' x y d m =
    let none = bad_stops end rest items m.0 end' rest' f x m.2 (subst Distinct m.1 d) in
    let same : Front end rest [] end' rest' = subst (λ more. Front end rest more end' rest') none m.2 in
    let others_are : others ≡ items = m.1 ∙ ap (λ more. items ++ more) none ∙ append-nil items in
    bad_one end rest items f g x
    (subst (λ p. Bad p rest items g) (sym same.0) (subst (λ b. Bad end' b items g) (sym same.1) (subst (λ is. Bad end' rest' is g) others_are y)))

pub fault_one : {place : ℕ} {bytes : List ℕ} {f g : Fault} → FirstFault place bytes f → FirstFault place bytes g → f ≡ g
unfolding Bad
fault_one {place} {bytes} {f} {g} x y =
    ⊎_elim
    (level f g x.end x.rest x.items y.items y.end y.rest x.faulty y.faulty y.distinct)
    (λ m. sym (level g f y.end y.rest y.items x.items x.end x.rest y.faulty x.faulty x.distinct m))
    (fronts place bytes x.items x.end x.rest y.items y.end y.rest x.front y.front)
