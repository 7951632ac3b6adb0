-- A walk's place in the runs beside its place in the box.
use Rattle.std.proofs.Common.{◌≡◌, ℕ, ◌+◌, ◌<◌, ◌≤◌, true, false, ltb, List, [], ◌∷◌, is_some, Some, None, MatchOption, Option, Bor, sym, refl, ap, ◌∙◌, ⊎_elim, arith}
use Rattle.std.specs.Option.{option_map}
use Rattle.std.proofs.lemmas.Bool.{cases_Bool, cond-true, cond-false, lt-ltb, le-ltb, ltb-false, true≢false}
use Rattle.runs.specs.declared.run.Run.{Run}
use Rattle.runs.specs.Runs.{mark_at}
use Rattle.cells.specs.Area.{Area, size, row_at, column_at}
use Rattle.sheet.specs.declared.xf.Xf.{Xf}
use Rattle.sheet.specs.Palette.{style_at}
use Rattle.sheet.specs.Reads.{Seen, seen_at, styled}

-- where the runs have ended, they have ended further on
ended_later : {M : Type 0} (runs : List (Run M)) (q p : ℕ) → q ≤ p → is_some (mark_at runs q) ≡ false → is_some (mark_at runs p) ≡ false
ended_later [] q p h e = refl
ended_later (r ∷ rs) q p h e = ⊎_elim
    (λ (t : ltb q r.end ≡ true). absurd (true≢false (sym (ap is_some (cond-true _ _ _ t)) ∙ e)))
    (λ (f : ltb q r.end ≡ false).
    let past = ltb-false q r.end f in
    ap is_some (cond-false _ _ _ (le-ltb p r.end (omega arith))) ∙ ended_later rs q p h (sym (ap is_some (cond-false _ _ _ f)) ∙ e))
    (cases_Bool (ltb q r.end))

none_from_test : {M : Type 0} (o : Option M) → is_some o ≡ false → o ≡ None
none_from_test None e = refl
none_from_test (Some x) e = absurd (true≢false e)

-- two places that are the same as long as there are runs have the same mark
pub level_mark : {M : Type 0} (runs : List (Run M)) (q p : ℕ) → q ≤ p → (is_some (mark_at runs q) ≡ true → q ≡ p) → mark_at runs q ≡ mark_at runs p
level_mark runs q p h level = ⊎_elim
    (λ (t : is_some (mark_at runs q) ≡ true). ap (mark_at runs) (level t))
    (λ (f : is_some (mark_at runs q) ≡ false). none_from_test _ f ∙ sym (none_from_test _ (ended_later runs q p h f)))
    (cases_Bool (is_some (mark_at runs q)))

-- what stands at a place inside the box
pub seen_there : {S : Type 0} (palette : List (Xf S)) (a : Area) (runs : List (Run ℕ)) (p row column : ℕ) (style : Option S) → p < size a → row ≡ row_at a p → column ≡ column_at a p → style ≡ styled palette (mark_at runs p)
    → Some (record { row = row; column = column; style = style }) ≡ seen_at palette a runs (p + 0)
seen_there {S} palette a runs p row column style h r c s =
    let cell : ◌≡◌ {A = Seen S} (record { row = row; column = column; style = style }) (record { row = row_at a p; column = column_at a p; style = styled palette (mark_at runs p) }) =
    λ i. record { row = r i; column = c i; style = s i } in
    let here : p ≡ p + 0 = omega arith in
    ap Some cell ∙ sym (cond-true _ _ _ (lt-ltb p (size a) h)) ∙ ap (seen_at palette a runs) here

-- what is made of an id, if there is one, is its style
pub styled_by : {S : Type 0} {P : ℕ → Type 0} (palette : List (Xf S)) (id : Option ℕ) (style : Option (Bor S)) → MatchOption id (style ≡ None) P → ((n : ℕ) → P n → option_map (λ x. x.now) style ≡ style_at palette n) → option_map (λ x. x.now) style ≡ styled palette id
styled_by palette None style is by = ap (option_map (λ x. x.now)) is
styled_by palette (Some n) style is by = by n is
