-- Reading a raw text character by character. A loop over the next character keeps `Reads raw done rest`: it goes on with
-- `reads_more`, and where it is stuck there is `reads_stuck`.
use Rattle.std.proofs.Common.{◌≡◌, ℕ, ◌<◌, true, List, [], ◌∷◌, ◌++◌, length, Ok, IsUtf8, Err, Option, Result, sym, refl, ap, ◌∙◌, subst, arith}
use lib.Utf8.{scalars}
use Rattle.std.proofs.lemmas.List.{append-nil}
use Rattle.std.proofs.lemmas.Bool.{and_from}
use Rattle.std.proofs.lemmas.Str.{IsUtf8-append, IsUtf8-nil}
use Rattle.std.specs.Result.{IsOk}
use Rattle.references.specs.declared.refusals.Malformed.{Malformed}
use Rattle.references.specs.Decoding.{Begins, Reads, Decodes, NoPiece, Laws}
use Rattle.references.specs.Answers.{Undecodable, Next}
use Rattle.references.proofs.Pieces.{begins_one, begins_falls, piece_scalar, piece_text}

-- a call is not refused, where a piece stands next or nothing is left
pub next_ok : (rest rest' : List ℕ) (r : Result (Option ℕ) Malformed) → Next rest r rest' → (0 < length rest → NoPiece rest → ⊥) → IsOk r
next_ok rest rest' (Ok o) h never = refl
next_ok rest rest' (Err e) h never = absurd (never h.0 h.1)

-- one character more is read
pub reads_more : (raw cs rest rest' : List ℕ) (c : ℕ) → Reads raw cs rest → Begins rest c rest' → Reads raw (cs ++ (c ∷ [])) rest'
reads_more raw [] rest rest' c r b = (rest', subst (λ l. Begins l c rest') (sym r) b, refl)
reads_more raw (d ∷ cs) rest rest' c r b = (r.0, r.1, reads_more r.0 cs rest rest' c r.2 b)

-- if the whole decodes, what is left decodes into the characters that are left
pub reads_rest : (raw cs rest ds : List ℕ) → Reads raw cs rest → Decodes raw ds → (es : List ℕ) × (ds ≡ cs ++ es) × Decodes rest es
reads_rest raw [] rest ds r whole = (ds, refl, subst (λ l. Decodes l ds) r whole)
reads_rest raw (c ∷ cs) rest [] r whole =
    let falls = begins_falls r.1 in let none : length raw ≡ length {A = ℕ} [] = ap length whole in absurd (omega arith)
reads_rest raw (c ∷ cs) rest (d ∷ ds) r whole =
    let same = begins_one r.1 whole.1 in
    let more = reads_rest r.0 cs rest ds r.2 (subst (λ l. Decodes l ds) (sym same.1) whole.2) in
    let head : c ≡ d = same.0 in
    let tail : ds ≡ cs ++ more.0 = more.1 in
    (more.0, cc, more.2)

-- what decodes and is not empty begins with a piece
pub decodes_begins : (raw cs : List ℕ) → Decodes raw cs → 0 < length raw → NoPiece raw → ⊥
decodes_begins raw [] whole some none = let e : length raw ≡ length {A = ℕ} [] = ap length whole in omega arith
decodes_begins raw (c ∷ cs) whole some none = none c whole.0 whole.1

-- where no piece stands next, the whole does not decode
pub reads_stuck : (raw cs rest : List ℕ) → Reads raw cs rest → 0 < length rest → NoPiece rest → Undecodable raw
reads_stuck raw cs rest r some none ds whole =
    let left = reads_rest raw cs rest ds r whole in decodes_begins rest left.0 left.2 some none

none_left : (es : List ℕ) → Decodes [] es → es ≡ []
none_left [] e = refl
none_left (c ∷ es) r = let falls = begins_falls r.1 in absurd (omega arith)

-- a text decodes in one way
pub decodes_one : (raw cs ds : List ℕ) → Decodes raw cs → Decodes raw ds → cs ≡ ds
decodes_one raw cs ds a b =
    let left = reads_rest raw cs [] ds a b in
    sym (left.1 ∙ (ap (λ l. cs ++ l) (none_left left.0 left.2) ∙ append-nil cs))

-- what decodes is UTF-8
pub decodes_text : (raw cs : List ℕ) → Decodes raw cs → IsUtf8 raw
decodes_text raw [] e = subst IsUtf8 (sym e) IsUtf8-nil
decodes_text raw (c ∷ cs) r =
    subst IsUtf8 (sym r.1.split) (IsUtf8-append r.1.piece r.0 (piece_text r.1.stands) (decodes_text r.0 cs r.2))

-- the characters are Unicode scalar values
pub decodes_scalars : (raw cs : List ℕ) → Decodes raw cs → scalars cs ≡ true
decodes_scalars raw [] e = refl
decodes_scalars raw (c ∷ cs) r = and_from _ _ (piece_scalar r.1.stands) (decodes_scalars r.0 cs r.2)

pub laws : Laws
laws =
    record { one_piece = λ raw c d rest tail x y. begins_one x y; one_way = decodes_one; raw_text = decodes_text; decoded_text = λ raw cs r. (cs, (decodes_scalars raw cs r, refl)) }
