-- What comparing a text of a line adds to the counts.
use Rattle.std.specs.Prelude.{◌≡◌, ℕ, ◌⊎◌, List}
use Rattle.vectors.specs.Counts.{with_misread, with_text}
use Rattle.vectors.specs.Fields.{FieldOf}
use Rattle.vectors.specs.Outcomes.{Justified}
use Rattle.vectors.specs.declared.given.Given.{Given}
use Rattle.vectors.specs.declared.line.Line.{Line}
use Rattle.vectors.specs.declared.outcome.Outcome.{Outcome}
use Rattle.vectors.specs.declared.tallies.Tallies.{Tallies}

-- the field is that of a text, to which an answer was given, whose outcome is counted
pub record Judged (line : Line) (field : List ℕ) (before after : Tallies) : Type 0 where
  pub text : List ℕ
  pub is_text : FieldOf field text
  pub given : Given
  pub outcome : Outcome
  pub justified : Justified given line.answer.now outcome
  pub counted : after ≡ with_text before line.family outcome

-- the field is that of no text
pub record Misread (field : List ℕ) (before after : Tallies) : Type 0 where
  pub no_text : (text : List ℕ) → FieldOf field text → ⊥
  pub counted : after ≡ with_misread before

abbrev pub Compared : Line → List ℕ → Tallies → Tallies → Type 0
Compared line field before after = Judged line field before after ⊎ Misread field before after
