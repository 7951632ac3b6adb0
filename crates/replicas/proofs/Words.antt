-- What is known of every last word: it is an id above 0 and below P. And the cells of a sheet count its words.
use Rattle.std.proofs.Common.{◌≡◌, ℕ, ◌<◌, true, false, not, ◌&&◌, eqb, leb, List, [], ◌∷◌, length, get_or, Some, sym, ◌∙◌, ⊎_elim, arith}
use Rattle.std.proofs.lemmas.Option.{same_Some, none-some}
use Rattle.std.proofs.lemmas.Bool.{cases_Bool, cases_order, and_parts, or_parts, not-true, cond-true, cond-false, eqb-false, leb-false}
use Rattle.cells.specs.declared.cell.Cell.{Cell}
use Rattle.cells.specs.Words.{Ordered, words_of}
use Rattle.cells.proofs.Order.{ordered_at}
use Rattle.cells.proofs.Words.{word_cell, cell_word}
use Rattle.sheet.specs.Rules.{on_sheet, ignored, room_for, keeps, clears}
use Rattle.replicas.specs.declared.call.Call.{Call}
use Rattle.replicas.specs.declared.call.Call.TheVariants.{Put, Clear, Pack}
use Rattle.replicas.specs.History.{after, last_words, Counts}

abbrev Listed : ℕ → ℕ → Type 0
Listed P n = (0 < n) × (n < P)

not_ignored : (P id : ℕ) → ignored P id ≡ false → Listed P id
not_ignored P id e =
    let parts = or_parts (eqb id 0) (leb P id) e in
    let some = eqb-false id 0 parts.0 in
    (omega (arith, some), leb-false P id parts.1)

pub word_listed : (P C : ℕ) (h : List Call) (r c n : ℕ) → last_words P C h r c ≡ Some n → Listed P n
unfolding after
word_listed P C [] r c n e = absurd (none-some n e)
word_listed P C (Put row column id ∷ h) r c n e = ⊎_elim
    (λ (kept : keeps P C (after P C h).words (after P C h).count row column id ≡ true).
    let test = (and_parts (on_sheet row column) (not (ignored P id) && room_for C (after P C h).words (after P C h).count row column) kept).1 in
    let listed = not_ignored P id (not-true _ (and_parts (not (ignored P id)) (room_for C (after P C h).words (after P C h).count row column) test).0) in
    let e' = sym (cond-true _ _ _ kept) ∙ e in
    ⊎_elim
    (λ (here : (eqb row r && eqb column c) ≡ true). let same = same_Some id n (sym (cond-true _ _ _ here) ∙ e') in (omega (arith, listed.0), omega (arith, listed.1)))
    (λ (else : (eqb row r && eqb column c) ≡ false). word_listed P C h r c n (sym (cond-false _ _ _ else) ∙ e'))
    (cases_Bool (eqb row r && eqb column c)))
    (λ (not_kept : keeps P C (after P C h).words (after P C h).count row column id ≡ false). word_listed P C h r c n (sym (cond-false _ _ _ not_kept) ∙ e))
    (cases_Bool (keeps P C (after P C h).words (after P C h).count row column id))
word_listed P C (Clear row column ∷ h) r c n e = ⊎_elim
    (λ (cleared : clears (after P C h).words (after P C h).count row column ≡ true).
    let e' = sym (cond-true _ _ _ cleared) ∙ e in
    ⊎_elim
    (λ (here : (eqb row r && eqb column c) ≡ true). absurd (none-some n (sym (cond-true _ _ _ here) ∙ e')))
    (λ (else : (eqb row r && eqb column c) ≡ false). word_listed P C h r c n (sym (cond-false _ _ _ else) ∙ e'))
    (cases_Bool (eqb row r && eqb column c)))
    (λ (kept : clears (after P C h).words (after P C h).count row column ≡ false). word_listed P C h r c n (sym (cond-false _ _ _ kept) ∙ e))
    (cases_Bool (clears (after P C h).words (after P C h).count row column))
word_listed P C (Pack ∷ h) r c n e = word_listed P C h r c n e

-- ordered cells number the positions of their words
pub counts_cells : (cells : List Cell) (d : Cell) → Ordered cells → Counts (words_of cells) (length cells)
counts_cells cells d o =
    record {
      row = λ k. (get_or cells k d).at.row;
      column = λ k. (get_or cells k d).at.column;
      have = λ k h. cell_word cells k d h;
      all = λ r c e. let found = word_cell cells r c e in (found.0, (found.1, (found.2 d).0, (found.2 d).1));
      once = λ j k hj hk rows columns. ⊎_elim
          (λ (same : j ≡ k). same)
          (⊎_elim
          (λ (less : j < k). let l = ordered_at cells o j k d less hk in absurd (omega arith))
          (λ (more : k < j). let l = ordered_at cells o k j d more hj in absurd (omega arith)))
          (cases_order j k);
    }

pub counts_none : Counts (words_of []) 0
counts_none =
    record {
      row = λ k. 0;
      column = λ k. 0;
      have = λ k h. absurd (omega arith);
      all = λ r c e. absurd (let z : ◌≡◌ {A = ℕ} 0 1 = cc in omega arith);
      once = λ j k hj hk rows columns. absurd (omega arith);
    }
