use Rattle.std.proofs.Common.{◌≡◌, [], length, codes, vec_items, sym, subst, inr, ⊎_elim}
use Rattle.std.specs.Bool.{Decides}
use Rattle.std.proofs.lemmas.Bool.Decides.{Decides-eqb, Decides-at, not_from_Decides}
use Rattle.std.proofs.lemmas.Slice.Eq.{slice_eq-Decides}
use Rattle.vectors.specs.Fields.{Spells, FieldOf}
use Rattle.vectors.proofs.Spelling.{passed_more, passed_all, left_more, none_left, by_test}
use Rattle.vectors.proofs.field.decoded.Goals as goal

pub loop-byte-preserved : goal.loop-byte-preserved
loop-byte-preserved c = (
  passed_more _ _ _ _ _ c.in-Some.byte c.in_ok-push.ensures.items c.loop-byte.invariant.0 c.in-Some.ensures,
  left_more _ _ _ _ c.in-Some.ensures c.loop-byte.invariant.1,
)

pub returns : goal.returns
returns c =
    let test : Decides c.is_empty.result (length c.loop-byte.rest.now ≡ 0) = Decides-at _ _ c.is_empty.ensures (Decides-eqb _ 0) in
    let field = c.as_bytes-rest.ensures.value in
    by_test (λ text. FieldOf c.args.field.now (vec_items text)) c.loop-byte.text c.then_some.result c.is_empty.result c.then_some.ensures
    (λ e. inr (subst (λ f. Spells f (vec_items c.loop-byte.text)) field (passed_all _ _ _ (test.0 e) c.loop-byte.invariant.0)))
    (λ e text. ⊎_elim
    (λ (lone : (c.args.field.now ≡ codes "-") × (text ≡ [])). absurd (not_from_Decides _ (slice_eq-Decides Decides-eqb _ _ c.eq.result c.eq.ensures) c.if-eq.false lone.0))
    (λ spells. let left = c.loop-byte.invariant.1 text (subst (λ f. Spells f text) (sym field) spells) in
    none_left c.loop-byte.rest.now (not_from_Decides _ test e) c.in_default.ensures left.0 left.1))
