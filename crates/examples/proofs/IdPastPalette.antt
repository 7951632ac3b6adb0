-- The example of a style id past the palette, worked out.
use Rattle.std.proofs.Common.{◌≡◌, ℕ, zero, suc, ◌<◌, ◌≤◌, true, false, ◌&&◌, eqb, ◌⊎◌, is_some, Some, None, sym, refl, ap, ◌∙◌, inl, inr, ⊎_elim, arith}
use Rattle.std.proofs.lemmas.Bool.{cases_Bool, and_parts, eqb-true, cond-false, true≢false}
use Rattle.runs.specs.Runs.{Packing}
use Rattle.cells.specs.Area.{Inside, size}
use Rattle.cells.specs.Words.{Words, Least, reworded}
use Rattle.sheet.specs.Packs.{spot}
use Rattle.replicas.specs.History.{after}
use Rattle.examples.specs.Table.{words, box, runs, IdPastPalette}

-- a word is the newest one there, or an earlier one
newest : (w : Words) (row column id r c : ℕ) → is_some (reworded w row column (Some id) r c) ≡ true → ((row ≡ r) × (column ≡ c)) ⊎ (is_some (w r c) ≡ true)
newest w row column id r c e = ⊎_elim
    (λ (t : (eqb row r && eqb column c) ≡ true). let p = and_parts (eqb row r) (eqb column c) t in inl (eqb-true row r p.0, eqb-true column c p.1))
    (λ (f : (eqb row r && eqb column c) ≡ false). inr (sym (ap is_some (cond-false _ _ _ f)) ∙ e))
    (cases_Bool (eqb row r && eqb column c))

abbrev no_words : Words
no_words r c = None

-- the words of the three puts
abbrev one : Words
one = reworded no_words 5 2 (Some 2)

abbrev two : Words
two = reworded one 5 3 (Some 2)

held : (r c : ℕ) → is_some (reworded two 6 2 (Some 1) r c) ≡ true → Inside box r c
held r c e = ⊎_elim
    (λ (at : (6 ≡ r) × (2 ≡ c)). (omega arith, omega arith, omega arith, omega arith))
    (λ (e2 : is_some (two r c) ≡ true). ⊎_elim
    (λ (at : (5 ≡ r) × (3 ≡ c)). (omega arith, omega arith, omega arith, omega arith))
    (λ (e3 : is_some (one r c) ≡ true). ⊎_elim
    (λ (at : (5 ≡ r) × (2 ≡ c)). (omega arith, omega arith, omega arith, omega arith))
    (λ (none : is_some (no_words r c) ≡ true). absurd (true≢false (sym none)))
    (newest no_words 5 2 2 r c e3))
    (newest one 5 3 2 r c e2))
    (newest two 6 2 1 r c e)

least : Least words box
unfolding after
least = record { holds = held; on_top = (2, refl); on_left = (5, refl); on_bottom = (2, refl); on_right = (5, refl) }

packing : Packing (spot (λ id. id) words box) (size box) runs
unfolding after
packing =
    record {
      spells = (omega arith, first, (omega arith, second, (omega arith, third, refl)));
      apart = (λ e. omega arith, (λ e. omega arith, tt));
    }
  where
    first : (p : ℕ) → 0 ≤ p → p < 2 → spot (λ id. id) words box p ≡ 2
    first zero h l = refl
    first (suc zero) h l = refl
    first (suc (suc p)) h l = absurd (omega arith)

    second : (p : ℕ) → 2 ≤ p → p < 3 → spot (λ id. id) words box p ≡ 1
    second p h l = let e : 2 ≡ p = omega arith in ap (spot (λ id. id) words box) (sym e)

    third : (p : ℕ) → 3 ≤ p → p < 4 → spot (λ id. id) words box p ≡ 0
    third p h l = let e : 3 ≡ p = omega arith in ap (spot (λ id. id) words box) (sym e)

pub id_past_palette : IdPastPalette
unfolding after
id_past_palette =
    record {
      ignored = refl;
      bounds = least;
      packed = packing;
      gap = refl;
      outside = refl;
      refused = λ kinds. refl;
      refusal_number = refl;
    }
