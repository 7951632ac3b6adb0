-- The piece at the front of a raw text: it is determined, it is UTF-8, and it is no shorter than its character.
use Rattle.std.proofs.Common.{◌≡◌, ℕ, ◌+◌, ◌<◌, ◌≤◌, true, List, [], ◌∷◌, ◌++◌, length, get_or, codes, IsUtf8, sym, refl, ap, ◌∙◌, subst, inl, inr, ⊎_elim, arith, rules}
use lib.Utf8.{encode, scalar, low_scalar}
use Rattle.std.proofs.lemmas.List.{append_assoc, length-append}
use Rattle.std.proofs.lemmas.Str.{encode_same, char_from_byte, IsUtf8-append, IsUtf8-encode, IsUtf8-from_ascii, length-encode, len_utf8_bounds}
use Rattle.references.specs.Xml.{Char, Reference, Refers, Means, entity, decimal, hexadecimal, lt, gt, amp, apos, quot}
use Rattle.references.specs.Decoding.{Itself, Piece, Begins, NoPiece}
use Rattle.references.specs.Answers.{Step}
use Rattle.references.proofs.Names.{means_one, first_semicolon, name_bytes, name_length, ascii_name}

-- what follows the `&`
after_ampersand : {raw : List ℕ} {c : ℕ} {rest : List ℕ} → (b : Begins raw c rest) (r : Reference b.piece c) → raw ≡ 38 ∷ (r.name ++ (59 ∷ rest))
after_ampersand {raw} {c} {rest} b r =
    b.split ∙ (ap (λ p. p ++ rest) r.written ∙ ap (λ l. 38 ∷ l) (append_assoc r.name (59 ∷ []) rest))

-- a character that stands for itself is no `&`
not_ampersand : {piece : List ℕ} {c : ℕ} (raw rest tail : List ℕ) → Itself piece c → raw ≡ piece ++ rest → raw ≡ 38 ∷ tail → ⊥
not_ampersand {piece} {c} raw rest tail i split is =
    let first : get_or raw 0 0 ≡ 38 = ap (λ l. get_or l 0 0) is in
    let some : length raw ≡ length (38 ∷ tail) = ap length is in
    i.plain (char_from_byte raw rest c (split ∙ ap (λ p. p ++ rest) i.encoded) (omega arith) (omega arith) ∙ first)

-- the piece at the front is determined, with its character and what follows
pub begins_one : {raw : List ℕ} {c d : ℕ} {rest tail : List ℕ} → Begins raw c rest → Begins raw d tail → (c ≡ d) × (rest ≡ tail)
begins_one {raw} {c} {d} {rest} {tail} a b =
    ⊎_elim
    (λ i. ⊎_elim
    (λ j. encode_same c d rest tail (sym (a.split ∙ ap (λ p. p ++ rest) i.encoded) ∙ (b.split ∙ ap (λ p. p ++ tail) j.encoded)))
    (λ j. absurd (not_ampersand raw rest _ i a.split (after_ampersand b j)))
    b.stands)
    (λ i. ⊎_elim
    (λ j. absurd (not_ampersand raw tail _ j b.split (after_ampersand a i)))
    (λ j. let same : 38 ∷ (i.name ++ (59 ∷ rest)) ≡ 38 ∷ (j.name ++ (59 ∷ tail)) = sym (after_ampersand a i) ∙ after_ampersand b j in
    let inner : i.name ++ (59 ∷ rest) ≡ j.name ++ (59 ∷ tail) = cc in
    let parts = first_semicolon i.name j.name rest tail (name_bytes i.means) (name_bytes j.means) inner in
    (means_one i.means (subst (λ n. Means n d) (sym parts.0) j.means), parts.1))
    b.stands)
    a.stands

-- a text that begins with `&` begins with a piece just if it begins with a reference
pub begins_from_refers : {after : List ℕ} {c : ℕ} {rest : List ℕ} → Refers after c rest → Begins (38 ∷ after) c rest
begins_from_refers {after} {c} {rest} r =
    record { piece = 38 ∷ (r.name ++ (59 ∷ [])); split = ap (λ l. 38 ∷ l) (r.split ∙ sym (append_assoc r.name (59 ∷ []) rest)); stands = inr (record { name = r.name; written = refl; means = r.means }) }

pub refers_from_begins : (after : List ℕ) {c : ℕ} {rest : List ℕ} → Begins (38 ∷ after) c rest → Refers after c rest
refers_from_begins after {c} {rest} b =
    ⊎_elim
    (λ i. absurd (not_ampersand (38 ∷ after) rest after i b.split refl))
    (λ r. let whole : 38 ∷ after ≡ 38 ∷ (r.name ++ (59 ∷ rest)) = after_ampersand b r in record { name = r.name; split = cc; means = r.means })
    b.stands

scalar_char : (c : ℕ) → Char c → scalar c ≡ true
scalar_char c (inl e) = low_scalar c (omega arith)
scalar_char c (inr (inl e)) = low_scalar c (omega arith)
scalar_char c (inr (inr (inl e))) = low_scalar c (omega arith)
scalar_char c (inr (inr (inr (inl e)))) = low_scalar c (omega arith)
scalar_char c (inr (inr (inr (inr (inl e))))) = search rules
scalar_char c (inr (inr (inr (inr (inr e))))) = search rules

scalar_means : {name : List ℕ} {c : ℕ} → Means name c → scalar c ≡ true
scalar_means (entity lt) = refl
scalar_means (entity gt) = refl
scalar_means (entity amp) = refl
scalar_means (entity apos) = refl
scalar_means (entity quot) = refl
scalar_means {name} {c} (decimal n) = scalar_char c n.allowed
scalar_means {name} {c} (hexadecimal n) = scalar_char c n.allowed

-- what a piece stands for is a Unicode scalar value
pub piece_scalar : {piece : List ℕ} {c : ℕ} → Piece piece c → scalar c ≡ true
piece_scalar (inl i) = i.scalar_value
piece_scalar (inr r) = scalar_means r.means

-- a piece is UTF-8
pub piece_text : {piece : List ℕ} {c : ℕ} → Piece piece c → IsUtf8 piece
unfolding encode
piece_text {piece} {c} (inl i) = subst IsUtf8 (sym i.encoded) (IsUtf8-encode c i.scalar_value)
piece_text {piece} {c} (inr r) =
    subst IsUtf8 (sym r.written)
    (IsUtf8-append (codes "&") (r.name ++ codes ";") (IsUtf8-encode 38 refl)
    (IsUtf8-append r.name (codes ";") (IsUtf8-from_ascii r.name (ascii_name r.name (name_bytes r.means))) (IsUtf8-encode 59 refl)))

-- a piece is no shorter than its character's bytes
pub piece_room : {piece : List ℕ} {c : ℕ} → Piece piece c → length (encode c) ≤ length piece
piece_room {piece} {c} (inl i) = let e : length piece ≡ length (encode c) = ap length i.encoded in omega arith
piece_room {piece} {c} (inr r) =
    let e : length piece ≡ length (codes "&" ++ (r.name ++ codes ";")) = ap length r.written in
    omega (arith, e, length-append r.name (codes ";"), name_length r.means, length-encode c, len_utf8_bounds c)

-- what is left after a step
pub begins_room : {raw : List ℕ} {c : ℕ} {rest : List ℕ} → Begins raw c rest → length (encode c) + length rest ≤ length raw
begins_room {raw} {c} {rest} b = omega (arith, ap length b.split, length-append b.piece rest, piece_room b.stands)

pub begins_falls : {raw : List ℕ} {c : ℕ} {rest : List ℕ} → Begins raw c rest → length rest < length raw
begins_falls {raw} {c} {rest} b = omega (arith, begins_room b, length-encode c, len_utf8_bounds c)

step : {raw : List ℕ} {c : ℕ} {rest : List ℕ} → Begins raw c rest → Step raw c rest
step b = record { begins = b; room = begins_room b; falls = begins_falls b }

-- the first character of a text, and what is left of it
pub first_split : {raw whole left after : List ℕ} (c : ℕ) → whole ≡ raw → whole ≡ encode c ++ left → after ≡ left → raw ≡ encode c ++ after
first_split c a b e = sym a ∙ (b ∙ ap (λ l. encode c ++ l) (sym e))

ampersand : (raw after : List ℕ) (c : ℕ) → raw ≡ encode c ++ after → c ≡ 38 → raw ≡ 38 ∷ after
unfolding encode
ampersand raw after c split is = split ∙ ap (λ d. encode d ++ after) is

-- a step over a reference
pub step_reference : (raw after rest : List ℕ) (first c : ℕ) → raw ≡ encode first ++ after → first ≡ 38 → Refers after c rest → Step raw c rest
step_reference raw after rest first c split is r =
    step (subst (λ l. Begins l c rest) (sym (ampersand raw after first split is)) (begins_from_refers r))

-- an `&` that begins no reference begins no piece
pub no_piece : (raw after : List ℕ) (first : ℕ) → raw ≡ encode first ++ after → first ≡ 38 → ((c : ℕ) (rest : List ℕ) → Refers after c rest → ⊥) → (0 < length raw) × NoPiece raw
no_piece raw after first split is none =
    let whole = ampersand raw after first split is in
    (omega (arith, ap length whole), λ c rest b. none c rest (refers_from_begins after (subst (λ l. Begins l c rest) whole b)))
