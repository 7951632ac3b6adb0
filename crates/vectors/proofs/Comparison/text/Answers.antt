use Rattle.std.proofs.Common.{vec_items, inl, rules}
use Rattle.vectors.proofs.Comparison.text.Goals as goal

pub returns-clause-compared : goal.returns-clause-compared
returns-clause-compared c =
    inl (record {
      text = vec_items c.in-Some.text;
      is_text = search rules;
      given = c.in_ok-given.given;
      outcome = c.in_ok-outcome.outcome;
      justified = search rules;
      counted = c.note.ensures.noted;
    })
