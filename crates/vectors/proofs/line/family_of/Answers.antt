use Rattle.std.proofs.Common.{◌≡◌, ◌++◌, ◌∷◌, Some, codes, subst, lit<}
use Rattle.std.proofs.lemmas.Str.Pattern.{split_parts}
use Rattle.vectors.proofs.line.family_of.Goals as goal

pub returns-in-decimal : goal.returns-in-decimal
returns-in-decimal c =
    let parts = split_parts 32 c.args.front.now (Some (c.in_ok-word.word, c.in_ok-word.rest)) c.in_ok-word.ensures.cases (lit< tt) in
    let word : c.in_ok-word.word.now ≡ codes "decimal" = c.in-decimal.is in
    subst (λ w. c.args.front.now ≡ w ++ 32 ∷ c.in_ok-word.rest.now) word parts.0
