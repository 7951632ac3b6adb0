-- The two passes over a raw text: the first counts the decoded bytes, the second writes them.
use Rattle.std.proofs.Common.{◌≡◌, ℕ, ◌+◌, ◌<◌, ◌≤◌, List, [], ◌∷◌, ◌++◌, length, take, drop, sym, refl, ap, ◌∙◌, subst, arith}
use lib.Utf8.{encode, encodes}
use Rattle.std.proofs.lemmas.List.{append_assoc, append-nil, length-append, length-drop, take_at}
use Rattle.std.proofs.lemmas.Slice.{drop-append-drop}
use Rattle.std.proofs.lemmas.Str.{encodes-append}
use Rattle.references.specs.Decoding.{Begins, Reads, Decodes, NoPiece}
use Rattle.references.specs.Answers.{Step, Sized, Undecodable}
use Rattle.references.proofs.Pieces.{begins_one, begins_falls}
use Rattle.references.proofs.Reading.{reads_more, reads_stuck, decodes_begins}

-- one character more at the end
pub encodes_more : (cs : List ℕ) (c : ℕ) → encodes (cs ++ (c ∷ [])) ≡ encodes cs ++ encode c
encodes_more cs c = encodes-append cs (c ∷ []) ∙ ap (λ l. encodes cs ++ l) (append-nil (encode c))

pub size_more : (cs : List ℕ) (c : ℕ) → length (encodes (cs ++ (c ∷ []))) ≡ length (encodes cs) + length (encode c)
size_more cs c = ap length (encodes_more cs c) ∙ length-append (encodes cs) (encode c)

-- The first pass: the characters so far have `size` bytes, and with what is left these are no more than the raw bytes.
pub record Counted (raw rest : List ℕ) (size : ℕ) : Type 0 where
  pub characters : List ℕ
  pub reads : Reads raw characters rest
  pub counted : size ≡ length (encodes characters)
  pub bound : size + length rest ≤ length raw

pub counted_more : {raw rest rest' : List ℕ} {size c more : ℕ} → Counted raw rest size → Step rest c rest' → more ≡ length (encode c) → Counted raw rest' (size + more)
counted_more {raw} {rest} {rest'} {size} {c} k s e =
    record { characters = k.characters ++ (c ∷ []); reads = reads_more raw k.characters rest rest' c k.reads s.begins; counted = omega (arith, k.counted, e, size_more k.characters c); bound = omega (arith, k.bound, s.room, e) }

pub counted_stuck : {raw rest : List ℕ} {size : ℕ} → Counted raw rest size → 0 < length rest → NoPiece rest → Undecodable raw
counted_stuck {raw} {rest} k some none = reads_stuck raw k.characters rest k.reads some none

-- if a text decodes, what follows its first piece decodes into the other characters
pub decodes_step : {rest rest' : List ℕ} {c : ℕ} (cs : List ℕ) → Decodes rest cs → Begins rest c rest' → (ds : List ℕ) × (cs ≡ c ∷ ds) × Decodes rest' ds
decodes_step {rest} [] whole b =
    let falls = begins_falls b in let e : length rest ≡ length {A = ℕ} [] = ap length whole in absurd (omega arith)
decodes_step {c} (d ∷ ds) whole b =
    let same = begins_one b whole.1 in
    let head : c ≡ d = same.0 in
    (ds, cc, subst (λ l. Decodes l ds) (sym same.1) whole.2)

-- The second pass: the bytes of the characters so far are over the front of the memory, and those to come have room.
pub record Writing (raw rest memory memory' : List ℕ) (place : ℕ) : Type 0 where
  pub done : List ℕ
  pub left : List ℕ
  pub reads : Reads raw done rest
  pub decodes : Decodes rest left
  pub at : place ≡ length (encodes done)
  pub room : place + length (encodes left) ≤ length memory
  pub after : memory' ≡ encodes done ++ drop place memory

pub writing_none : {raw rest memory : List ℕ} {n : ℕ} → rest ≡ raw → Sized raw n → n ≤ length memory → Writing raw rest memory memory 0
writing_none e s fits =
    record { done = []; left = s.characters; reads = sym e; decodes = subst (λ l. Decodes l s.characters) (sym e) s.decodes; at = refl; room = omega (arith, s.size, fits); after = refl }

-- there is room for the next character
pub writing_room : {raw rest rest' memory memory' : List ℕ} {place c : ℕ} → Writing raw rest memory memory' place → Step rest c rest' → place + length (encode c) ≤ length memory'
writing_room {memory} {memory'} {place} {c} w s =
    let more = decodes_step w.left w.decodes s.begins in
    let size : length (encodes w.left) ≡ length (encode c) + length (encodes more.0) = ap (λ l. length (encodes l)) more.1 ∙ length-append (encode c) (encodes more.0) in
    let all : length memory' ≡ length (encodes w.done) + length (drop place memory) = ap length w.after ∙ length-append (encodes w.done) (drop place memory) in
    omega (arith, w.room, w.at, size, all, length-drop place memory)

pub writing_more : {raw rest rest' memory memory' memory'' : List ℕ} {place c more : ℕ} → Writing raw rest memory memory' place → Step rest c rest' → memory'' ≡ take place memory' ++ (encode c ++ drop (place + length (encode c)) memory') → more ≡ length (encode c) → Writing raw rest' memory memory'' (place + more)
writing_more {raw} {rest} {rest'} {memory} {memory'} {place} {c} w s wrote e =
    let step = decodes_step w.left w.decodes s.begins in
    let size : length (encodes w.left) ≡ length (encode c) + length (encodes step.0) = ap (λ l. length (encodes l)) step.1 ∙ length-append (encode c) (encodes step.0) in
    let front : take place memory' ≡ encodes w.done = ap (take place) w.after ∙ take_at (encodes w.done) (drop place memory) place (sym w.at) in
    let back : drop (place + length (encode c)) memory' ≡ drop (place + length (encode c)) memory = ap (drop (place + length (encode c))) w.after ∙ drop-append-drop place memory (encodes w.done) (place + length (encode c)) (omega arith) (sym w.at) in
    let whole : take place memory' ++ (encode c ++ drop (place + length (encode c)) memory') ≡ encodes (w.done ++ (c ∷ [])) ++ drop (place + length (encode c)) memory = ap (λ l. l ++ (encode c ++ drop (place + length (encode c)) memory')) front ∙ (ap (λ l. encodes w.done ++ (encode c ++ l)) back ∙ (sym (append_assoc (encodes w.done) (encode c) (drop (place + length (encode c)) memory)) ∙ ap (λ l. l ++ drop (place + length (encode c)) memory) (sym (encodes_more w.done c)))) in
    record { done = w.done ++ (c ∷ []); left = step.0; reads = reads_more raw w.done rest rest' c w.reads s.begins; decodes = step.2; at = omega (arith, w.at, e, size_more w.done c); room = omega (arith, w.room, size, e); after = wrote ∙ (whole ∙ ap (λ n. encodes (w.done ++ (c ∷ [])) ++ drop (place + n) memory) (sym e)) }

pub writing_stuck : {raw rest memory memory' : List ℕ} {place : ℕ} → Writing raw rest memory memory' place → 0 < length rest → NoPiece rest → ⊥
writing_stuck {rest} w some none = decodes_begins rest w.left w.decodes some none
