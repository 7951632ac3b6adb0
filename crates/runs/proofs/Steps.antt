-- One step of packing: one more run at the end, or a longer last one.
use Rattle.std.proofs.Common.{◌≡◌, ℕ, ◌+◌, ◌<◌, ◌≤◌, ◌⊎◌, List, [], ◌∷◌, ◌++◌, map, length, set, sym, refl, ap, ◌∙◌, subst, ⊎_elim, arith}
use Rattle.std.proofs.lemmas.List.{length-map, length_push, map_push, nil_from_length}
use Rattle.std.proofs.lemmas.Bool.{cases_lt}
use Rattle.runs.specs.declared.run.Run.{Run}
use Rattle.runs.specs.Runs.{Spells, Apart, Packing}
use Rattle.runs.specs.Memory.{overlay, Packed}
use Rattle.runs.specs.Written.{Written}
use Rattle.runs.proofs.Fronts.{overlay_push, overlay_last}
use Rattle.runs.proofs.Laws.{run, shortest}

-- every position from `from` up to `upto` has that mark
abbrev pub Marked : {M : Type 0} → (ℕ → M) → ℕ → ℕ → M → Type 0
Marked spot from upto mark = (p : ℕ) → from ≤ p → p < upto → spot p ≡ mark

-- how the index of the run to write is chosen: the last one's where it has the same mark, else the next
abbrev pub Chosen : {M : Type 0} → ℕ → M → M → ℕ → Type 0
Chosen count last mark index =
    ((index + 1 ≡ count) × (last ≡ mark)) ⊎ ((index ≡ count) × (0 < count → last ≡ mark → ⊥))

pub spells_push : {M : Type 0} (spot : ℕ → M) (from mid upto : ℕ) (mark : M) (runs : List (Run M)) → Spells spot from runs mid → mid < upto → Marked spot mid upto mark → Spells spot from (runs ++ (run mark upto ∷ [])) upto
spells_push spot from mid upto mark [] spelt forward marked =
    (omega arith, (λ p from_p p_end. marked p (omega arith) p_end), refl)
spells_push spot from mid upto mark (r ∷ rs) spelt forward marked =
    (spelt.0, spelt.1, spells_push spot r.end mid upto mark rs spelt.2 forward marked)

pub spells_longer : {M : Type 0} (spot : ℕ → M) (from mid upto : ℕ) (mark : M) (runs : List (Run M)) → Spells spot from (runs ++ (run mark mid ∷ [])) mid → mid < upto → Marked spot mid upto mark → Spells spot from (runs ++ (run mark upto ∷ [])) upto
spells_longer spot from mid upto mark [] spelt forward marked =
    (omega arith, (λ p from_p p_end. ⊎_elim (λ early. spelt.1 p from_p early) (λ late. marked p late p_end) (cases_lt p mid)), refl)
spells_longer spot from mid upto mark (r ∷ rs) spelt forward marked =
    (spelt.0, spelt.1, spells_longer spot r.end mid upto mark rs spelt.2 forward marked)

pub apart_push : {M : Type 0} (runs : List (Run M)) (last new : Run M) → Apart (runs ++ (last ∷ [])) → (last.mark ≡ new.mark → ⊥) → Apart ((runs ++ (last ∷ [])) ++ (new ∷ []))
apart_push [] last new apart differs = (differs, tt)
apart_push (r ∷ []) last new apart differs = (apart.0, (differs, tt))
apart_push (r ∷ (s ∷ rs)) last new apart differs = (apart.0, apart_push (s ∷ rs) last new apart.1 differs)

pub apart_longer : {M : Type 0} (runs : List (Run M)) (mark : M) (end end' : ℕ) → Apart (runs ++ (run mark end ∷ [])) → Apart (runs ++ (run mark end' ∷ []))
apart_longer [] mark end end' apart = tt
apart_longer (r ∷ []) mark end end' apart = (apart.0, tt)
apart_longer (r ∷ (s ∷ rs)) mark end end' apart = (apart.0, apart_longer (s ∷ rs) mark end end' apart.1)

-- memory over which a field of one run more is written
overlay_field : {M X : Type 0} (field : Run M → X) (runs : List (Run M)) (new : Run M) (old memory : List X) (index : ℕ) → index ≡ length runs → memory ≡ overlay (map field runs) old → set memory index (field new) ≡ overlay (map field (runs ++ (new ∷ []))) old
overlay_field field runs new old memory index counted before =
    ap (λ l. set l index (field new)) before
    ∙ ap (λ k. set (overlay (map field runs) old) k (field new)) (counted ∙ sym (length-map runs field))
    ∙ sym (overlay_push (map field runs) (field new) old)
    ∙ ap (λ l. overlay l old) (sym (map_push field runs new))

-- memory in which a field of the last run is written again
overlay_field_last : {M X : Type 0} (field : Run M → X) (runs : List (Run M)) (last new : Run M) (old memory : List X) (index : ℕ) → index ≡ length runs → memory ≡ overlay (map field (runs ++ (last ∷ []))) old → set memory index (field new) ≡ overlay (map field (runs ++ (new ∷ []))) old
overlay_field_last field runs last new old memory index counted before =
    ap (λ l. set l index (field new)) (before ∙ ap (λ l. overlay l old) (map_push field runs last))
    ∙ ap (λ k. set (overlay (map field runs ++ (field last ∷ [])) old) k (field new)) (counted ∙ sym (length-map runs field))
    ∙ overlay_last (map field runs) (field last) (field new) old
    ∙ ap (λ l. overlay l old) (sym (map_push field runs new))

module _ {M : Type 0} {spot : ℕ → M} {end count upto : ℕ} {last mark : M} {marks0 marks : List M} {ends0 ends : List ℕ} (forward : end < upto) (marked : Marked spot end upto mark) (written : Written spot end count last marks0 marks ends0 ends) where
  apart_new : (0 < count → last ≡ mark → ⊥) → Apart (written.runs ++ (run mark upto ∷ []))
  apart_new differs =
      let EndsApart : List (Run M) → Type 0 = λ l. Apart (l ++ (run mark upto ∷ [])) in
      ⊎_elim
      (λ some.
      let before = (written.last some).0 in
      let is = (written.last some).1 in
      let apart = subst Apart is written.packing.apart in
      subst EndsApart (sym is) (apart_push before (run last end) (run mark upto) apart (differs some)))
      (λ none.
      let counted = written.counted in
      subst EndsApart (sym (nil_from_length written.runs (omega arith))) tt)
      (cases_lt 0 count)

  -- a run of its own, where there is none yet or the last has another mark
  written_push : (0 < count → last ≡ mark → ⊥) → Written spot upto (count + 1) mark marks0 (set marks count mark) ends0 (set ends count upto)
  written_push differs = record {
    runs = written.runs ++ (run mark upto ∷ []);
    packing = record {
      spells = spells_push spot 0 end upto mark written.runs written.packing.spells forward marked;
      apart = apart_new differs;
    };
    counted = ap (λ k. k + 1) written.counted ∙ sym (length_push written.runs (run mark upto));
    last = λ _. (written.runs, refl);
    marks_are = overlay_field (λ r. r.mark) written.runs (run mark upto) marks0 marks count written.counted written.marks_are;
    ends_are = overlay_field (λ r. r.end) written.runs (run mark upto) ends0 ends count written.counted written.ends_are;
  }

  -- a longer last run, where it has the same mark
  written_longer : (index : ℕ) → index + 1 ≡ count → last ≡ mark → Written spot upto (index + 1) mark marks0 (set marks index mark) ends0 (set ends index upto)
  written_longer index is_last same =
      let tail = written.last (omega arith) in
      let before = tail.0 in
      let is : written.runs ≡ before ++ (run mark end ∷ []) = tail.1 ∙ ap (λ m. before ++ (run m end ∷ [])) same in
      let packing = subst (Packing spot end) is written.packing in
      let counted : index ≡ length before =
      omega (arith, written.counted, ap length is, length_push before (run mark end)) in
      record {
        runs = before ++ (run mark upto ∷ []);
        packing = record {
          spells = spells_longer spot 0 end upto mark before packing.spells forward marked;
          apart = apart_longer before mark end upto packing.apart;
        };
        counted = ap (λ k. k + 1) counted ∙ sym (length_push before (run mark upto));
        last = λ _. (before, refl);
        marks_are = overlay_field_last (λ r. r.mark) before (run mark end) (run mark upto) marks0 marks index counted (written.marks_are ∙ ap (λ l. overlay (map (λ r. r.mark) l) marks0) is);
        ends_are = overlay_field_last (λ r. r.end) before (run mark end) (run mark upto) ends0 ends index counted (written.ends_are ∙ ap (λ l. overlay (map (λ r. r.end) l) ends0) is);
      }

  -- one step: the positions up to `upto` are packed too
  pub written_more : (index : ℕ) → Chosen count last mark index → Written spot upto (index + 1) mark marks0 (set marks index mark) ends0 (set ends index upto)
  written_more index chosen =
      let After : ℕ → Type 0 = λ k. Written spot upto (k + 1) mark marks0 (set marks k mark) ends0 (set ends k upto) in
      ⊎_elim
      (λ joins. written_longer index joins.0 joins.1)
      (λ differs. subst After (sym differs.0) (written_push differs.1))
      chosen

-- before the first position there is nothing to write
pub written_none : {M : Type 0} (spot : ℕ → M) (mark : M) (marks : List M) (ends : List ℕ) → Written spot 0 0 mark marks marks ends ends
written_none spot mark marks ends = record {
  runs = [];
  packing = record { spells = refl; apart = tt };
  counted = refl;
  last = λ some. absurd (omega arith);
  marks_are = refl;
  ends_are = refl;
}

-- at the last position all is packed
pub written_all : {M : Type 0} {spot : ℕ → M} {n end count : ℕ} {mark : M} {marks0 marks : List M} {ends0 ends : List ℕ} → Written spot end count mark marks0 marks ends0 ends → end ≡ n → Packed spot n marks0 marks ends0 ends count
written_all {spot = spot} {n = n} written ended =
    let packing = subst (λ e. Packing spot e written.runs) ended written.packing in
    record {
      runs = written.runs;
      packing = packing;
      shortest = shortest spot n written.runs packing;
      length_is = written.counted;
      marks_after = written.marks_are;
      ends_after = written.ends_are;
    }
