-- What decoding into a buffer that was filled with one byte came to.
use Rattle.std.specs.Prelude.{◌≡◌, ℕ, ◌<◌, ◌≤◌, List, length, replicate, Ok, Err, vec_items, slice_index}
use Rattle.references.specs.declared.refusals.DecodeRefusal.{DecodeRefusal}
use Rattle.vectors.specs.Fronts.{Starts}
use Rattle.vectors.specs.Texts.{DecodedText}
use Rattle.vectors.specs.declared.reference_texts.Attempt.{Attempt}

-- the text was decoded into a buffer of that length
abbrev pub Attempted : List ℕ → ℕ → Attempt → Type 0
Attempted text size attempt = DecodedText text (replicate size 0xA5) attempt.answer (vec_items attempt.buffer)

-- from that index on, the buffer holds what it was filled with
abbrev pub Untouched : List ℕ → ℕ → Type 0
Untouched buffer index = (k : ℕ) → index ≤ k → k < length buffer → slice_index buffer k ≡ 0xA5

-- the text was written over the front, and nothing after it
pub record Wrote (text : List ℕ) (attempt : Attempt) : Type 0 where
  pub answer : attempt.answer ≡ Ok (length text)
  pub front : Starts (vec_items attempt.buffer) text
  pub rest : Untouched (vec_items attempt.buffer) (length text)

-- the part was refused for that, and nothing was written
pub record WasRefused (refusal : DecodeRefusal) (attempt : Attempt) : Type 0 where
  pub answer : attempt.answer ≡ Err refusal
  pub nothing : Untouched (vec_items attempt.buffer) 0
