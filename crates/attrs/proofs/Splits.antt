-- Attribute text can be taken apart in one way only.
use Rattle.std.proofs.Common.{◌≡◌, ℕ, Bool, true, false, not, ◌||◌, eqb, List, [], ◌∷◌, ◌++◌, sym, refl, ap, ◌∙◌, subst, inl, inr}
use Rattle.std.proofs.lemmas.Bool.{true≢false, eqb-true, eq-eqb, or_cases, not-false, false_from_ne_true}
use Rattle.attrs.specs.Bytes.{white, quote, key_byte, except, All, Begins}
use Rattle.attrs.specs.Grammar.{Keyed, Quoted}

-- The longest front whose bytes pass a test is one.
pub munch : (p : ℕ → Bool) (xs xs' ys ys' : List ℕ) → All p xs → All p xs' → (Begins p ys → ⊥) → (Begins p ys' → ⊥)
    → xs ++ ys ≡ xs' ++ ys' → (xs ≡ xs') × (ys ≡ ys')
munch p [] [] ys ys' a a' n n' e = (refl, e)
munch p [] (x' ∷ xs') ys ys' a a' n n' e = absurd (n (subst (Begins p) (sym e) a'.0))
munch p (x ∷ xs) [] ys ys' a a' n n' e = absurd (n' (subst (Begins p) e a.0))
munch p (x ∷ xs) (x' ∷ xs') ys ys' a a' n n' e =
    let head : x ≡ x' = cc in
    let tail : xs ++ ys ≡ xs' ++ ys' = cc in
    let rest = munch p xs xs' ys ys' a.1 a'.1 n n' tail in
    let first = rest.0 in (cc, rest.1)

pub head_same : (x y : ℕ) (xs ys : List ℕ) → x ∷ xs ≡ y ∷ ys → (x ≡ y) × (xs ≡ ys)
head_same x y xs ys e = (cc, cc)

-- ---- kinds of bytes that exclude one another

white_no_key : (b : ℕ) → white b ≡ true → key_byte b ≡ true → ⊥
white_no_key b w k = true≢false (sym k ∙ ap (λ x. not (x || (quote b || eqb b 61))) w)

-- a quote is no white space
pub quote_dark : (b : ℕ) → quote b ≡ true → white b ≡ false
quote_dark b q =
    elim (or_cases (eqb b 34) (eqb b 39) q) [
      | inl e ↦ ap white (eqb-true b 34 e)
      | inr e ↦ ap white (eqb-true b 39 e)
    ]

pub gap_no_key : (gap after : List ℕ) → All white gap → Begins key_byte (gap ++ (61 ∷ after)) → ⊥
gap_no_key [] after a b = true≢false (sym b)
gap_no_key (x ∷ gap) after a b = white_no_key x a.0 b

pub equals_dark : (after : List ℕ) → Begins white (61 ∷ after) → ⊥
equals_dark after b = true≢false (sym b)

pub quote_begins_dark : (mark : ℕ) (rest : List ℕ) → quote mark ≡ true → Begins white (mark ∷ rest) → ⊥
quote_begins_dark mark rest q b = true≢false (sym b ∙ quote_dark mark q)

pub mark_excepted : (mark : ℕ) (rest : List ℕ) → Begins (except mark) (mark ∷ rest) → ⊥
mark_excepted mark rest b = true≢false (sym b ∙ ap not (eq-eqb mark mark refl))

-- the byte that ends a run of all bytes but one is that one
pub excepted : (mark b : ℕ) → (except mark b ≡ true → ⊥) → b ≡ mark
excepted mark b h = eqb-true b mark (not-false (eqb b mark) (false_from_ne_true (except mark b) h))

-- ---- a key and its equals sign

pub keyed_is : (bytes run rest run' rest' : List ℕ) → bytes ≡ run ++ rest → All key_byte run → (Begins key_byte rest → ⊥)
    → rest ≡ run' ++ rest' → All white run' → (Begins white rest' → ⊥)
    → (key after : List ℕ) → Keyed bytes key after → (key ≡ run) × (rest' ≡ 61 ∷ after)
keyed_is bytes run rest run' rest' e a n e' a' n' key after k =
    let one = munch key_byte key run (k.gap ++ (61 ∷ after)) rest k.key_bytes a (gap_no_key k.gap after k.white_gap) n (sym k.spelt ∙ e) in
    let two = munch white k.gap run' (61 ∷ after) rest' k.white_gap a' (equals_dark after) n' (one.1 ∙ e') in
    (one.0, sym two.1)

pub keyed_one : {bytes key after key' after' : List ℕ} → Keyed bytes key after → Keyed bytes key' after' → (key ≡ key') × (after ≡ after')
keyed_one {bytes} {key} {after} {key'} {after'} k k' =
    let is = keyed_is bytes key' (k'.gap ++ (61 ∷ after')) k'.gap (61 ∷ after') k'.spelt k'.key_bytes (gap_no_key k'.gap after' k'.white_gap)
    refl k'.white_gap (equals_dark after') key after k in
    (is.0, sym (head_same 61 61 after' after is.1).1)

-- ---- a quoted value

-- white space before a quote is one part, and so is the quote
pub opened : (gap gap' : List ℕ) (mark mark' : ℕ) (tail tail' : List ℕ) → All white gap → All white gap' → quote mark ≡ true → quote mark' ≡ true
    → gap ++ (mark ∷ tail) ≡ gap' ++ (mark' ∷ tail') → (mark ≡ mark') × (tail ≡ tail')
opened gap gap' mark mark' tail tail' a a' q q' e =
    head_same mark mark' tail tail' (munch white gap gap' (mark ∷ tail) (mark' ∷ tail') a a' (quote_begins_dark mark tail q) (quote_begins_dark mark' tail' q') e).1

pub quoted_one : {bytes value rest value' rest' : List ℕ} → Quoted bytes value rest → Quoted bytes value' rest' → (value ≡ value') × (rest ≡ rest')
quoted_one {bytes} {value} {rest} {value'} {rest'} q q' =
    let opening = opened q.gap q'.gap q.mark q'.mark (value ++ (q.mark ∷ rest)) (value' ++ (q'.mark ∷ rest')) q.white_gap q'.white_gap q.is_quote q'.is_quote (sym q.spelt ∙ q'.spelt) in
    let inside : All (except q.mark) value' = subst (λ m. All (except m) value') (sym opening.0) q'.inside in
    let tails : value ++ (q.mark ∷ rest) ≡ value' ++ (q.mark ∷ rest') = opening.1 ∙ ap (λ m. value' ++ (m ∷ rest')) (sym opening.0) in
    let parts = munch (except q.mark) value value' (q.mark ∷ rest) (q.mark ∷ rest') q.inside inside (mark_excepted q.mark rest) (mark_excepted q.mark rest') tails in
    (parts.0, (head_same q.mark q.mark rest rest' parts.1).1)
