use Rattle.std.proofs.Common.{subst, sym}
use Rattle.std.proofs.lemmas.List.{take_rest}
use Rattle.std.proofs.lemmas.Bool.Decides.{Decides-eqb}
use Rattle.std.proofs.lemmas.Slice.Eq.{slice_eq-Decides}
use Rattle.vectors.specs.Fronts.{Starts}
use Rattle.vectors.proofs.attribute_texts.stands_at.Goals as goal

pub returns-then-place-text : goal.returns-then-place-text
returns-then-place-text c =
    let same = slice_eq-Decides Decides-eqb _ _ c.starts_with.result c.starts_with.ensures.value in
    let rest = take_rest c.args.text.now c.args.place in (
      λ e. (c.if-place-text.true, subst (λ text. Starts text c.args.part.now) rest (sym (same.0 e))),
      λ stands. same.1 (sym (subst (λ text. Starts text c.args.part.now) (sym rest) stands.1)),
    )
