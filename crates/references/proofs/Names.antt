-- What may stand between `&` and `;`: its bytes, its length, and that it means one character.
use Rattle.std.proofs.Common.{◌≡◌, ℕ, zero, suc, ◌+◌, ◌<◌, ◌≤◌, cond, eqb, ◌⊎◌, List, [], ◌∷◌, ◌++◌, length, get_or, Some, None, IsAscii, Option, sym, refl, ap, ◌∙◌, subst, inl, inr, arith, lit<, lit≤, rules, MatchOption}
use Rattle.std.specs.Str.Parse.{AllDigits}
use Rattle.std.specs.Char.{digit_value}
use Rattle.std.specs.Int.{IsInRange}
use Rattle.references.specs.Xml.{Numbered, Entity, lt, gt, amp, apos, quot, Means, entity, decimal, hexadecimal}

-- a byte of a name: a letter, a digit or `#`
abbrev pub NameByte : ℕ → Type 0
NameByte b = (b < 59) ⊎ IsInRange 60 127 b

abbrev pub NameBytes : List ℕ → Type 0
NameBytes [] = Unit {0}
NameBytes (b ∷ bs) = NameByte b × NameBytes bs

digit_byte : (b radix : ℕ) → radix ≤ 36 → digit_value b < radix → NameByte b
digit_byte b radix small h = search rules

digits_bytes : (radix : ℕ) (ds : List ℕ) → radix ≤ 36 → AllDigits radix ds → NameBytes ds
digits_bytes radix [] small all = tt
digits_bytes radix (d ∷ ds) small all = (digit_byte d radix small all.0, digits_bytes radix ds small all.1)

pub name_bytes : {name : List ℕ} {c : ℕ} → Means name c → NameBytes name
name_bytes (entity lt) = search rules
name_bytes (entity gt) = search rules
name_bytes (entity amp) = search rules
name_bytes (entity apos) = search rules
name_bytes (entity quot) = search rules
name_bytes (decimal {digits} n) = (inl (lit< tt), digits_bytes 10 digits (lit≤ tt) n.numeral.1)
name_bytes (hexadecimal {digits} n) = (inl (lit< tt), (inr (lit≤ tt, lit≤ tt), digits_bytes 16 digits (lit≤ tt) n.numeral.1))

-- a name has two bytes at least
pub name_length : {name : List ℕ} {c : ℕ} → Means name c → 2 ≤ length name
name_length (entity lt) = lit≤ tt
name_length (entity gt) = lit≤ tt
name_length (entity amp) = lit≤ tt
name_length (entity apos) = lit≤ tt
name_length (entity quot) = lit≤ tt
name_length (decimal n) = omega (arith, n.numeral.0)
name_length (hexadecimal n) = omega (arith, n.numeral.0)

-- the character of an entity, by its first two letters
by_letters : List ℕ → ℕ
by_letters name = cond (eqb (get_or name 0 0 + get_or name 1 0) 224) 60 (cond (eqb (get_or name 0 0 + get_or name 1 0) 219) 62 (cond (eqb (get_or name 0 0 + get_or name 1 0) 206) 38 (cond (eqb (get_or name 0 0 + get_or name 1 0) 209) 39 34)))

entity_letters : {name : List ℕ} {c : ℕ} → Entity name c → c ≡ by_letters name
unfolding by_letters
entity_letters lt = refl
entity_letters gt = refl
entity_letters amp = refl
entity_letters apos = refl
entity_letters quot = refl

pub entity_first : {name : List ℕ} {c : ℕ} → Entity name c → 97 ≤ get_or name 0 0
entity_first lt = lit≤ tt
entity_first gt = lit≤ tt
entity_first amp = lit≤ tt
entity_first apos = lit≤ tt
entity_first quot = lit≤ tt

-- what a name without `#` means is an entity
pub means_entity : {name : List ℕ} {c : ℕ} → Means name c → ((rest : List ℕ) → name ≡ 35 ∷ rest → ⊥) → Entity name c
means_entity (entity e) none = e
means_entity (decimal {digits} n) none = absurd (none digits refl)
means_entity (hexadecimal {digits} n) none = absurd (none (120 ∷ digits) refl)

entity_hash : {name : List ℕ} {c : ℕ} (rest : List ℕ) → Entity name c → name ≡ 35 ∷ rest → ⊥
entity_hash {name} rest e is = let first : get_or name 0 0 ≡ 35 = ap (λ l. get_or l 0 0) is in let low = entity_first e in omega arith

-- what `#x` and digits mean is their hexadecimal number
pub means_hexadecimal : {name : List ℕ} {c : ℕ} (digits : List ℕ) → Means name c → name ≡ 35 ∷ 120 ∷ digits → Numbered 16 digits c
means_hexadecimal digits (entity e) is = absurd (entity_hash (120 ∷ digits) e is)
means_hexadecimal {name} {c} digits (decimal {digits = ds} n) is =
    let same : ds ≡ 120 ∷ digits = cc in
    let low : digit_value 120 < 10 = (subst (AllDigits 10) same n.numeral.1).0 in
    absurd (omega arith)
means_hexadecimal {name} {c} digits (hexadecimal {digits = ds} n) is =
    let same : ds ≡ digits = cc in subst (λ l. Numbered 16 l c) same n

-- what `#` and no `x` mean is a decimal number
pub means_decimal : {name : List ℕ} {c : ℕ} (number : List ℕ) → Means name c → name ≡ 35 ∷ number → ((rest : List ℕ) → number ≡ 120 ∷ rest → ⊥) → Numbered 10 number c
means_decimal number (entity e) is none = absurd (entity_hash number e is)
means_decimal {name} {c} number (decimal {digits = ds} n) is none =
    let same : ds ≡ number = cc in subst (λ l. Numbered 10 l c) same n
means_decimal {name} {c} number (hexadecimal {digits = ds} n) is none =
    let same : number ≡ 120 ∷ ds = cc in absurd (none ds same)

no_x : (digits rest : List ℕ) → AllDigits 10 digits → digits ≡ 120 ∷ rest → ⊥
no_x digits rest all is = let low : digit_value 120 < 10 = (subst (AllDigits 10) is all).0 in omega arith

-- a name means one character
pub means_one : {name : List ℕ} {c d : ℕ} → Means name c → Means name d → c ≡ d
means_one (entity e) m =
    entity_letters e ∙ sym (entity_letters (means_entity m (λ rest is. entity_hash rest e is)))
means_one (decimal {digits} n) m =
    sym n.number ∙ (means_decimal digits m refl (λ rest is. no_x digits rest n.numeral.1 is)).number
means_one (hexadecimal {digits} n) m = sym n.number ∙ (means_hexadecimal digits m refl).number

bytes_without : (name : List ℕ) (i : ℕ) → NameBytes name → i < length name → get_or name i 0 ≡ 59 → ⊥
bytes_without [] i all h e = omega arith
bytes_without (b ∷ bs) zero (inl l, all) h e = omega arith
bytes_without (b ∷ bs) zero (inr l, all) h e = omega arith
bytes_without (b ∷ bs) (suc i) all h e = bytes_without bs i all.1 (omega arith) e

-- no name holds a `;`
pub no_semicolon : {name : List ℕ} {c : ℕ} → Means name c → (i : ℕ) → i < length name → get_or name i 0 ≡ 59 → ⊥
no_semicolon {name} m i h e = bytes_without name i (name_bytes m) h e

-- two names that end at the first `;` are one
pub first_semicolon : (xs ys r t : List ℕ) → NameBytes xs → NameBytes ys → xs ++ (59 ∷ r) ≡ ys ++ (59 ∷ t) → (xs ≡ ys) × (r ≡ t)
first_semicolon [] [] r t a b e = (refl, cc)
first_semicolon [] (y ∷ ys) r t a b e = let same : 59 ≡ y = cc in absurd (bytes_without (y ∷ ys) 0 b (omega arith) (sym same))
first_semicolon (x ∷ xs) [] r t a b e = let same : x ≡ 59 = cc in absurd (bytes_without (x ∷ xs) 0 a (omega arith) same)
first_semicolon (x ∷ xs) (y ∷ ys) r t a b e =
    let tails : xs ++ (59 ∷ r) ≡ ys ++ (59 ∷ t) = cc in
    let rest = first_semicolon xs ys r t a.1 b.1 tails in
    let head : x ≡ y = cc in
    let body : xs ≡ ys = rest.0 in
    (cc, rest.1)

-- every byte of a name is ASCII
pub ascii_name : (name : List ℕ) → NameBytes name → IsAscii name
ascii_name [] all i = omega arith
ascii_name (b ∷ bs) (inl l, all) zero = omega arith
ascii_name (b ∷ bs) (inr l, all) zero = omega arith
ascii_name (b ∷ bs) all (suc i) = ascii_name bs all.1 i

-- what a numeral's reader answers, as the answer for the name that it stands in
pub hexadecimal_answers : (number digits bytes : List ℕ) (r : Option ℕ) → number ≡ 120 ∷ digits → bytes ≡ digits → MatchOption r ((c : ℕ) → Numbered 16 bytes c → ⊥) (λ c. Numbered 16 bytes c) → MatchOption r ((c : ℕ) → Means (35 ∷ number) c → ⊥) (λ c. Means (35 ∷ number) c)
hexadecimal_answers number digits bytes None is same none = λ c m. none c (subst (λ l. Numbered 16 l c) (sym same) (means_hexadecimal digits m (ap (λ l. 35 ∷ l) is)))
hexadecimal_answers number digits bytes (Some c) is same n =
    subst (λ l. Means (35 ∷ l) c) (sym is) (hexadecimal (subst (λ l. Numbered 16 l c) same n))

pub decimal_answers : (number bytes : List ℕ) (r : Option ℕ) → ((rest : List ℕ) → number ≡ 120 ∷ rest → ⊥) → bytes ≡ number → MatchOption r ((c : ℕ) → Numbered 10 bytes c → ⊥) (λ c. Numbered 10 bytes c) → MatchOption r ((c : ℕ) → Means (35 ∷ number) c → ⊥) (λ c. Means (35 ∷ number) c)
decimal_answers number bytes None no_letter same none = λ c m. none c (subst (λ l. Numbered 10 l c) (sym same) (means_decimal number m refl no_letter))
decimal_answers number bytes (Some c) no_letter same n = decimal (subst (λ l. Numbered 10 l c) same n)

pub entity_answers : (name : List ℕ) (r : Option ℕ) → ((rest : List ℕ) → name ≡ 35 ∷ rest → ⊥) → MatchOption r ((c : ℕ) → Entity name c → ⊥) (λ c. Entity name c) → MatchOption r ((c : ℕ) → Means name c → ⊥) (λ c. Means name c)
entity_answers name None no_hash none = λ c m. none c (means_entity m no_hash)
entity_answers name (Some c) no_hash e = entity e
