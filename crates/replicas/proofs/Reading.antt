-- What packing's lists for a box answer, position by position.
use Rattle.std.proofs.Common.{◌≡◌, ℕ, true, false, cond, ltb, List, is_some, Some, None, Option, unwrap_or, sym, refl, ap, ◌∙◌, ap₂, ⊎_elim}
use Rattle.std.proofs.lemmas.Bool.{cases_Bool, cond-true, cond-false, ltb-true}
use Rattle.runs.specs.declared.run.Run.{Run}
use Rattle.runs.specs.Runs.{mark_at}
use Rattle.runs.proofs.Laws.{spells_mark_at}
use Rattle.cells.specs.Area.{Area, inside, size, place_in, row_at, column_at}
use Rattle.cells.specs.Words.{Words, Bounds}
use Rattle.cells.proofs.Places.{inside_true, true_inside, place_below, row_place, column_place, inside_at, place_at}
use Rattle.sheet.specs.declared.xf.Xf.{Xf}
use Rattle.sheet.specs.Packs.{spot, Packs}
use Rattle.sheet.specs.Reads.{Seen, mark_there, styled, walked_from}
use Rattle.replicas.specs.Promise.{step, In}
use Rattle.replicas.proofs.Boxes.{rows_ordered, columns_ordered}

-- inside the box a position has the mark of its word, or of id 0 for none
pub mark_inside : {M : Type 0} (mark : ℕ → M) (words : Words) (box : Option Area) (runs : List (Run M)) → Packs mark words box runs → (r c : ℕ) → In box r c → mark_there box runs r c ≡ Some (mark (unwrap_or (words r c) 0))
mark_inside mark words None runs packs r c i = absurd i
mark_inside mark words (Some a) runs packs r c i =
    cond-true _ _ _ (true_inside a r c i)
    ∙ spells_mark_at (spot mark words a) (size a) runs packs.spells (place_in a r c) (place_below a r c i)
    ∙ ap₂ (λ x y. Some (mark (unwrap_or (words x y) 0))) (row_place a r c i) (column_place a r c i)

pub mark_outside : {M : Type 0} (box : Option Area) (runs : List (Run M)) (r c : ℕ) → (In box r c → ⊥) → mark_there box runs r c ≡ None
mark_outside None runs r c out = refl
mark_outside (Some a) runs r c out = ⊎_elim
    (λ (t : inside a r c ≡ true). absurd (out (inside_true a r c t)))
    (λ (f : inside a r c ≡ false). cond-false _ _ _ f)
    (cases_Bool (inside a r c))

-- outside the box there is no word
pub word_outside : (words : Words) (box : Option Area) → Bounds words box → (r c : ℕ) → (In box r c → ⊥) → words r c ≡ None
word_outside words None bounds r c out = bounds r c
word_outside words (Some a) bounds r c out = none_of (words r c) (λ e. out (bounds.holds r c e))
  where
    none_of : (o : Option ℕ) → (is_some o ≡ true → ⊥) → o ≡ None
    none_of None no_word = refl
    none_of (Some n) no_word = absurd (no_word refl)

-- the walk gives each position of the box with the style that get gives it
pub walk_steps : {S : Type 0} (palette : List (Xf S)) (words : Words) (box : Option Area) (runs : List (Run ℕ)) → Bounds words box → (k : ℕ) → walked_from palette box runs k ≡ step (λ r c. styled palette (mark_there box runs r c)) box k
walk_steps palette words None runs bounds k = refl
walk_steps {S} palette words (Some a) runs bounds k = ⊎_elim
    (λ (t : ltb k (size a) ≡ true).
    let i = inside_at a k (rows_ordered words a bounds) (columns_ordered words a bounds) (ltb-true k (size a) t) in
    let there : mark_there (Some a) runs (row_at a k) (column_at a k) ≡ mark_at runs k =
    cond-true _ _ _ (true_inside a (row_at a k) (column_at a k) i) ∙ ap (mark_at runs) (place_at a k) in
    ap (λ (m : Option ℕ). cond (ltb k (size a)) (Some (the_seen a k (styled palette m))) None) (sym there))
    (λ (f : ltb k (size a) ≡ false). cond-false _ _ _ f ∙ sym (cond-false _ _ _ f))
    (cases_Bool (ltb k (size a)))
  where
    the_seen : Area → ℕ → Option S → Seen S
    the_seen a k style = record { row = row_at a k; column = column_at a k; style = style }
