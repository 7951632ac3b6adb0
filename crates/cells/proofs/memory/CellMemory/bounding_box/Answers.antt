use Rattle.std.proofs.Common.{◌≡◌, List, [], ◌∷◌, ◌++◌, rules, sym, ◌∙◌, ap, subst}
use Rattle.std.proofs.lemmas.Fn.{fold_over, slice_gives, fronts}
use Rattle.cells.specs.declared.cell.Cell.{Cell}
use Rattle.cells.specs.Area.{extent}
use Rattle.cells.specs.Words.{words_of, Least}
use Rattle.cells.proofs.Around.{least_first, least_more}
use Rattle.cells.proofs.memory.CellMemory.bounding_box.Goals as goal

pub returns : goal.returns
returns c =
    let x = c.in_ok-first.first.now in
    let all : x ∷ c.iter.result.rest.now ≡ c.args.self.now.cells.items = ap (λ (ys : List Cell). x ∷ ys) c.iter.ensures.rest ∙ sym (c.in_ok-first.ensures.cases.0) ∙ c.deref.ensures.value in
    subst (λ (ys : List Cell). Least (words_of ys) (extent c.fold-area.result)) all
    (fold_over fronts (λ y. y.now) _ (λ ys a. Least (words_of (x ∷ ys)) (extent a)) _
    (λ ys a y b f k j. (subst (Least (words_of (x ∷ (ys ++ y.now ∷ [])))) (search rules) (least_more (x ∷ ys) (extent a) y.now k), search rules))
    _ _ _ _ (slice_gives c.iter.result) (subst (Least (words_of (x ∷ []))) (sym c.around-around.ensures) (least_first x)) c.fold-area.ensures.ran)
