-- Texts that are cut at a character.
use Rattle.std.proofs.Common.{◌≡◌, ℕ, ◌<◌, List, ◌∷◌, ◌++◌, drop, sym, ap, ◌∙◌}
use Rattle.std.specs.Str.Pattern.{RFindsChar, SplitsAroundMatch}
use Rattle.std.proofs.lemmas.List.{append_assoc, take-append-drop}
use Rattle.std.proofs.lemmas.Str.Pattern.{drop_at_char}

-- what `rsplit_once` gives at a character of one byte
pub cut_last : (c : ℕ) (text front back : List ℕ) → SplitsAroundMatch (RFindsChar c) text front back → c < 128 → text ≡ front ++ c ∷ back
cut_last c text front back s low =
    let i = s.0 in
    let j = s.1 in
    let after : drop i text ≡ c ∷ back = drop_at_char c text i j s.2.1 low ∙ ap (λ b. c ∷ b) (sym s.4) in
    sym (take-append-drop i text) ∙ (ap (λ f. f ++ drop i text) (sym s.3) ∙ ap (λ b. front ++ b) after)

-- a text of three parts
pub three_parts : (text front first middle last : List ℕ) (c : ℕ) → text ≡ front ++ c ∷ last → front ≡ first ++ c ∷ middle → text ≡ first ++ c ∷ (middle ++ c ∷ last)
three_parts text front first middle last c outer inner =
    outer ∙ (ap (λ f. f ++ c ∷ last) inner ∙ append_assoc first (c ∷ middle) (c ∷ last))
