-- What stands first in attribute text is one thing, and so its items and its first fault are.
use Rattle.std.proofs.Common.{◌≡◌, ℕ, ◌+◌, ◌<◌, ◌≤◌, Bool, true, not, List, [], ◌∷◌, ◌++◌, length, sym, refl, ap, ◌∙◌, subst, arith}
use Rattle.std.proofs.lemmas.Bool.{true≢false}
use Rattle.std.proofs.lemmas.List.{length-append}
use Rattle.attrs.specs.Bytes.{white, quote, except, All, Begins}
use Rattle.attrs.specs.Grammar.{Attribute, Keyed, Quoted, Apart, Indented, First, past}
use Rattle.attrs.specs.Flaws.{Unquoted, Unclosed, Joined, ValueFlaw, ItemFlaw, Faulty}
use Rattle.attrs.specs.Items.{OneFirst}
use Rattle.attrs.specs.declared.fault.Flaw.{Flaw}
use Rattle.attrs.specs.declared.fault.Flaw.TheVariants.{BadKey, NoSpace, NoQuote, NotClosed, Repeated}
use Rattle.attrs.specs.declared.fault.Fault.{Fault}
use Rattle.attrs.proofs.Splits.{munch, keyed_one, quoted_one, quote_begins_dark, opened, mark_excepted}

-- ---- white space in front

dark_begins : (body : List ℕ) → Begins (λ b. not (white b)) body → Begins white body → ⊥
dark_begins [] d w = d
dark_begins (b ∷ bs) d w = true≢false (sym d ∙ ap not w)

indented_one : {bytes space body space' body' : List ℕ} → Indented bytes space body → Indented bytes space' body' → (space ≡ space') × (body ≡ body')
indented_one {bytes} {space} {body} {space'} {body'} i i' =
    munch white space space' body body' i.white_space i'.white_space (dark_begins body i.dark) (dark_begins body' i'.dark) (sym i.spelt ∙ i'.spelt)

all_later : (p : ℕ → Bool) (xs ys : List ℕ) → All p (xs ++ ys) → All p ys
all_later p [] ys a = a
all_later p (x ∷ xs) ys a = all_later p xs ys a.1

all_begins : (ys : List ℕ) → All white ys → Begins (λ b. not (white b)) ys → ⊥
all_begins [] a d = d
all_begins (y ∷ ys) a d = true≢false (sym d ∙ ap not a.0)

-- where there is but white space, nothing stands first
blank_not_indented : {bytes space body : List ℕ} → All white bytes → Indented bytes space body → ⊥
blank_not_indented {bytes} {space} {body} blank i = all_begins body (all_later white space body (subst (All white) i.spelt blank)) i.dark

all_here : (p : ℕ → Bool) (xs : List ℕ) (y : ℕ) (ys : List ℕ) → All p (xs ++ (y ∷ ys)) → p y ≡ true
all_here p [] y ys a = a.0
all_here p (x ∷ xs) y ys a = all_here p xs y ys a.1

apart_dark : (rest : List ℕ) → Apart rest → Begins (λ b. not (white b)) rest → ⊥
apart_dark [] a d = d
apart_dark (b ∷ bs) a d = true≢false (sym d ∙ ap not a)

-- ---- after the equals sign there is one thing

module _ {after : List ℕ} where
  unquoted_quote : (u : Unquoted after) (gap tail : List ℕ) (mark : ℕ) → All white gap → quote mark ≡ true → after ≡ gap ++ (mark ∷ tail) → ⊥
  unquoted_quote u gap tail mark a q e =
      let same = munch white u.gap gap u.tail (mark ∷ tail) u.white_gap a u.dark (quote_begins_dark mark tail q) (sym u.spelt ∙ e) in
      u.no_quote (subst (Begins quote) (sym same.1) q)

  unclosed_quoted : {value rest : List ℕ} → Unclosed after → Quoted after value rest → ⊥
  unclosed_quoted {value} {rest} u q =
      let same = opened u.gap q.gap u.mark q.mark u.tail (value ++ (q.mark ∷ rest)) u.white_gap q.white_gap u.is_quote q.is_quote (sym u.spelt ∙ q.spelt) in
      let inside : All (except q.mark) (value ++ (q.mark ∷ rest)) = subst (λ m. All (except m) (value ++ (q.mark ∷ rest))) same.0 (subst (All (except u.mark)) same.1 u.inside) in
      mark_excepted q.mark rest (all_here (except q.mark) value q.mark rest inside)

  joined_unquoted : Joined after → Unquoted after → ⊥
  joined_unquoted j u =
      let q = j.quoted in
      unquoted_quote u q.gap (j.value ++ (q.mark ∷ j.rest)) q.mark q.white_gap q.is_quote q.spelt

  joined_unclosed : Joined after → Unclosed after → ⊥
  joined_unclosed j u = unclosed_quoted u j.quoted

  unquoted_unclosed : Unquoted after → Unclosed after → ⊥
  unquoted_unclosed u o = unquoted_quote u o.gap o.tail o.mark o.white_gap o.is_quote o.spelt

pub value_flaw_quoted : (after : List ℕ) (flaw : Flaw) {value rest : List ℕ} → ValueFlaw after flaw → Quoted after value rest → Apart rest → ⊥
value_flaw_quoted after BadKey v q a = v
value_flaw_quoted after NoSpace {value} {rest} j q a = apart_dark rest a (subst (Begins (λ b. not (white b))) (quoted_one j.quoted q).1 j.dark)
value_flaw_quoted after NoQuote {value} {rest} u q a = unquoted_quote u q.gap (value ++ (q.mark ∷ rest)) q.mark q.white_gap q.is_quote q.spelt
value_flaw_quoted after NotClosed u q a = unclosed_quoted u q
value_flaw_quoted after Repeated v q a = v

value_flaw_one : (after : List ℕ) (f g : Flaw) → ValueFlaw after f → ValueFlaw after g → f ≡ g
value_flaw_one after BadKey g x y = absurd x
value_flaw_one after Repeated g x y = absurd x
value_flaw_one after NoSpace BadKey x y = absurd y
value_flaw_one after NoSpace NoSpace x y = refl
value_flaw_one after NoSpace NoQuote x y = absurd (joined_unquoted x y)
value_flaw_one after NoSpace NotClosed x y = absurd (joined_unclosed x y)
value_flaw_one after NoSpace Repeated x y = absurd y
value_flaw_one after NoQuote BadKey x y = absurd y
value_flaw_one after NoQuote NoSpace x y = absurd (joined_unquoted y x)
value_flaw_one after NoQuote NoQuote x y = refl
value_flaw_one after NoQuote NotClosed x y = absurd (unquoted_unclosed x y)
value_flaw_one after NoQuote Repeated x y = absurd y
value_flaw_one after NotClosed BadKey x y = absurd y
value_flaw_one after NotClosed NoSpace x y = absurd (joined_unclosed y x)
value_flaw_one after NotClosed NoQuote x y = absurd (unquoted_unclosed y x)
value_flaw_one after NotClosed NotClosed x y = refl
value_flaw_one after NotClosed Repeated x y = absurd y

-- ---- what is wrong with one item

-- the flaws of an item that has a key and an equals sign
after_key : (bytes key after : List ℕ) (flaw : Flaw) → Keyed bytes key after → ItemFlaw bytes flaw → ValueFlaw after flaw
after_key bytes key after BadKey k f = absurd (f key after k)
after_key bytes key after NoSpace k f = subst (λ a. ValueFlaw a NoSpace) (keyed_one f.2 k).1 f.3
after_key bytes key after NoQuote k f = subst (λ a. ValueFlaw a NoQuote) (keyed_one f.2 k).1 f.3
after_key bytes key after NotClosed k f = subst (λ a. ValueFlaw a NotClosed) (keyed_one f.2 k).1 f.3
after_key bytes key after Repeated k f = f

item_flaw_one : (bytes : List ℕ) (f g : Flaw) → ItemFlaw bytes f → ItemFlaw bytes g → f ≡ g
item_flaw_one bytes BadKey BadKey x y = refl
item_flaw_one bytes BadKey NoSpace x y = absurd (x y.0 y.1 y.2)
item_flaw_one bytes BadKey NoQuote x y = absurd (x y.0 y.1 y.2)
item_flaw_one bytes BadKey NotClosed x y = absurd (x y.0 y.1 y.2)
item_flaw_one bytes BadKey Repeated x y = absurd y
item_flaw_one bytes NoSpace g x y = value_flaw_one x.1 NoSpace g x.3 (after_key bytes x.0 x.1 g x.2 y)
item_flaw_one bytes NoQuote g x y = value_flaw_one x.1 NoQuote g x.3 (after_key bytes x.0 x.1 g x.2 y)
item_flaw_one bytes NotClosed g x y = value_flaw_one x.1 NotClosed g x.3 (after_key bytes x.0 x.1 g x.2 y)
item_flaw_one bytes Repeated g x y = absurd x

-- ---- what stands first

same_attribute : (i j : Attribute) → i.key ≡ j.key → i.value ≡ j.value → i.key_place ≡ j.key_place → i.value_place ≡ j.value_place → i ≡ j
same_attribute i j a b c d = λ x. record { key = a x; value = b x; key_place = c x; value_place = d x }

pub same_fault : (f g : Fault) → f.flaw ≡ g.flaw → f.place ≡ g.place → f ≡ g
same_fault f g a b = λ x. record { flaw = a x; place = b x }

pub faulty_one : {place : ℕ} {bytes : List ℕ} {f g : Fault} → Faulty place bytes f → Faulty place bytes g → f ≡ g
faulty_one {place} {bytes} {f} {g} x y =
    let same = indented_one x.indented y.indented in
    let flaw : f.flaw ≡ g.flaw = item_flaw_one y.body f.flaw g.flaw (subst (λ b. ItemFlaw b f.flaw) same.1 x.flawed) y.flawed in
    let at : f.place ≡ g.place = x.place_is ∙ ap (λ s. place + length s) same.0 ∙ sym y.place_is in
    same_fault f g flaw at

pub blank_not_faulty : {place : ℕ} {bytes : List ℕ} {f : Fault} → All white bytes → Faulty place bytes f → ⊥
blank_not_faulty blank x = blank_not_indented blank x.indented

module _ {place : ℕ} {bytes : List ℕ} {item : Attribute} {rest : List ℕ} (x : First place bytes item rest) where
  -- what stands in the bytes, by its length
  pub lengths : length bytes ≡ length x.space + (length item.key + (length x.keyed.gap + (length x.quoted.gap + (length item.value + length rest + 2) + 1)))
  lengths =
      let k = x.keyed in
      let q = x.quoted in
      let bytes_long : length bytes ≡ length x.space + length x.body = ap length x.indented.spelt ∙ length-append x.space x.body in
      let body_long : length x.body ≡ length item.key + (length k.gap + (length x.after + 1)) = ap length k.spelt ∙ simp length-append (omega arith) in
      let after_long : length x.after ≡ length q.gap + (length item.value + (length rest + 1) + 1) = ap length q.spelt ∙ simp length-append (omega arith) in
      omega arith

  -- the value, its closing quote and what follows go to the end of the bytes
  pub value_ends : item.value_place + length item.value + 1 + length rest ≡ place + length bytes
  value_ends = omega (arith, x.key_at, x.value_at, lengths)

  -- an item takes bytes
  pub first_forward : (place ≤ item.key_place) × (item.key_place < past item)
  first_forward = let some = x.keyed.some in (omega (arith, x.key_at), omega (arith, x.value_at))

module _ {place : ℕ} {bytes : List ℕ} {item : Attribute} {rest : List ℕ} (x : First place bytes item rest) where
  pub blank_not_first : All white bytes → ⊥
  blank_not_first blank = blank_not_indented blank x.indented

  pub faulty_not_first : {f : Fault} → Faulty place bytes f → ⊥
  faulty_not_first {f} y =
      let same = indented_one y.indented x.indented in
      let flawed : ItemFlaw x.body f.flaw = subst (λ b. ItemFlaw b f.flaw) same.1 y.flawed in
      value_flaw_quoted x.after f.flaw (after_key x.body item.key x.after f.flaw x.keyed flawed) x.quoted x.apart

  pub first_one : {item' : Attribute} {rest' : List ℕ} → First place bytes item' rest' → (item ≡ item') × (rest ≡ rest')
  first_one {item'} {rest'} y =
      let spaces = indented_one x.indented y.indented in
      let keys = keyed_one (subst (λ b. Keyed b item.key x.after) spaces.1 x.keyed) y.keyed in
      let values = quoted_one (subst (λ a. Quoted a item.value rest) keys.1 x.quoted) y.quoted in
      let key : item.key ≡ item'.key = keys.0 in
      let value : item.value ≡ item'.value = values.0 in
      let key_place : item.key_place ≡ item'.key_place = x.key_at ∙ ap (λ s. place + length s) spaces.0 ∙ sym y.key_at in
      let value_place : item.value_place ≡ item'.value_place = omega (arith, ap length value, ap length values.1, value_ends x, value_ends y) in
      (same_attribute item item' key value key_place value_place, values.1)

pub one_first : (place : ℕ) (bytes : List ℕ) → OneFirst place bytes
one_first place bytes =
    record {
      one_item = λ item other rest rest' x y. first_one x y;
      one_fault = λ fault other x y. faulty_one x y;
      sound_or_faulty = λ item rest fault x y. faulty_not_first x y;
      item_or_blank = λ item rest x blank. blank_not_first x blank;
      fault_or_blank = λ fault x blank. blank_not_faulty blank x;
    }
