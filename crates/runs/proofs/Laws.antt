-- Lists of runs: packing's list exists, is the only one and the shortest, and gives each position its mark.
use Rattle.std.proofs.Common.{◌≡◌, ℕ, zero, suc, ◌+◌, ◌<◌, ◌≤◌, Bool, ltb, ◌⊎◌, List, [], ◌∷◌, length, Some, None, Decides, sym, refl, ap, ◌∙◌, subst, inl, inr, ⊎_elim, arith}
use Rattle.std.proofs.lemmas.Bool.{cases_lt, cases_eq, cases_order, cases_Bool, lt-ltb, le-ltb, cond-true, cond-false}
use Rattle.std.proofs.lemmas.Bool.Decides.{not_from_Decides}
use Rattle.runs.specs.declared.run.Run.{Run}
use Rattle.runs.specs.Runs.{Spells, Apart, Packing, Shortest, mark_at}
pub use Rattle.runs.proofs.Fronts.{length-overlay, front_runs}

-- What a list that spells the positions from `from` up to n says of these two numbers.
pub spells_forward : {M : Type 0} (spot : ℕ → M) (from n : ℕ) (runs : List (Run M)) → Spells spot from runs n → from ≤ n
spells_forward spot from n [] spelt = omega arith
spells_forward spot from n (r ∷ rs) spelt = let rest = spells_forward spot r.end n rs spelt.2 in omega arith

pub spells_length : {M : Type 0} (spot : ℕ → M) (from n : ℕ) (runs : List (Run M)) → Spells spot from runs n → from + length runs ≤ n
spells_length spot from n [] spelt = omega arith
spells_length spot from n (r ∷ rs) spelt = let rest = spells_length spot r.end n rs spelt.2 in omega arith

-- there are at most as many runs as positions
pub length_runs : {M : Type 0} (spot : ℕ → M) (n : ℕ) (runs : List (Run M)) → Spells spot 0 runs n → length runs ≤ n
length_runs spot n runs spelt = let all = spells_length spot 0 n runs spelt in omega arith

-- the first position has the first run's mark
spells_first : {M : Type 0} (spot : ℕ → M) (from n : ℕ) (r : Run M) (rs : List (Run M)) → Spells spot from (r ∷ rs) n → spot from ≡ r.mark
spells_first spot from n r rs spelt = spelt.1 from (omega arith) spelt.0

abbrev pub run : {M : Type 0} → M → ℕ → Run M
run m e = record { mark = m; end = e }

same_run : {M : Type 0} (r s : Run M) → r.mark ≡ s.mark → r.end ≡ s.end → r ≡ s
same_run {M} r s marks ends = ap (λ m. run m r.end) marks ∙ ap (run s.mark) ends

-- Where the first of the runs ends before the first of the others, the next run has the same mark.
not_joined : {M : Type 0} (spot : ℕ → M) (from n : ℕ) (r : Run M) (rs : List (Run M)) (o : Run M) (os : List (Run M)) → Spells spot from (r ∷ rs) n → Apart (r ∷ rs) → Spells spot from (o ∷ os) n → r.end < o.end → ⊥
not_joined spot from n r [] o os spelt apart other before =
    let rest = spells_forward spot o.end n os other.2 in omega arith
not_joined spot from n r (s ∷ rs) o os spelt apart other before =
    let next = spells_first spot r.end n s rs spelt.2 in
    let here = spells_first spot from n r (s ∷ rs) spelt in
    let one = other.1 from (omega arith) other.0 in
    let two = other.1 r.end (omega arith) before in
    apart.0 (cc)

-- the tail of a list with no two neighbours alike
apart_tail : {M : Type 0} (r : Run M) (rs : List (Run M)) → Apart (r ∷ rs) → Apart rs
apart_tail r [] apart = tt
apart_tail r (s ∷ rs) apart = apart.1

shortest_from : {M : Type 0} (spot : ℕ → M) (from n : ℕ) (runs others : List (Run M)) → Spells spot from runs n → Apart runs → Spells spot from others n → (others ≡ runs) ⊎ (length runs < length others)
shortest_from spot from n [] [] spelt apart other = inl refl
shortest_from spot from n [] (o ∷ os) spelt apart other = inr (omega arith)
shortest_from spot from n (r ∷ rs) [] spelt apart other =
    let rest = spells_forward spot r.end n rs spelt.2 in absurd (omega arith)
shortest_from spot from n (r ∷ rs) (o ∷ os) spelt apart other =
    ⊎_elim
    (λ level.
    let P : ℕ → Type 0 = λ e. Spells spot e os n in
    let marks : o.mark ≡ r.mark = sym (spells_first spot from n o os other) ∙ spells_first spot from n r rs spelt in
    ⊎_elim
    (λ same. inl (let first = same_run o r marks level in cc))
    (λ more. inr (omega arith))
    (shortest_from spot r.end n rs os spelt.2 (apart_tail r rs apart) (subst P level other.2)))
    (⊎_elim
    (λ before.
    let rest : Spells spot o.end (r ∷ rs) n = (before, (λ p from_p p_end. spelt.1 p (omega arith) p_end), spelt.2) in
    ⊎_elim
    (λ same. inr (let lengths = ap length same in omega arith))
    (λ more. inr (omega arith))
    (shortest_from spot o.end n (r ∷ rs) os rest apart other.2))
    (λ after. absurd (not_joined spot from n r rs o os spelt apart other after)))
    (cases_order o.end r.end)

-- Packing's list is the shortest that spells the positions, and no other is as short.
pub shortest : {M : Type 0} (spot : ℕ → M) (n : ℕ) (runs : List (Run M)) → Packing spot n runs → Shortest spot n runs
shortest spot n runs packing others spelt = shortest_from spot 0 n runs others packing.spells packing.apart spelt

-- Two lists of packing's for the same positions are one.
pub one_packing : {M : Type 0} (spot : ℕ → M) (n : ℕ) (a b : List (Run M)) → Packing spot n a → Packing spot n b → a ≡ b
one_packing spot n a b first second =
    ⊎_elim
    (λ same. same)
    (λ longer.
    ⊎_elim
    (λ same. sym same)
    (λ shorter. absurd (omega arith))
    (shortest spot n a first b second.spells))
    (shortest spot n b second a first.spells)

-- One position in front of the runs that pack the rest: in the first run where the marks are equal, else in its own.
packing_front : {M : Type 0} (same : M → M → Bool) → ((a b : M) → Decides (same a b) (a ≡ b)) → (spot : ℕ → M) (from n : ℕ) (runs : List (Run M)) → Spells spot (from + 1) runs n → Apart runs → (all : List (Run M)) × (Spells spot from all n × Apart all)
packing_front same decides spot from n [] spelt apart =
    (run (spot from) (from + 1) ∷ [], ((omega arith, (λ p from_p p_end. ap spot (omega arith)), spelt), tt))
packing_front same decides spot from n (r ∷ rs) spelt apart =
    ⊎_elim
    (λ yes.
    let mark = (decides (spot from) r.mark).0 yes in
    let marked : (p : ℕ) → from ≤ p → p < r.end → spot p ≡ r.mark =
    λ p from_p p_end. ⊎_elim (λ here. ap spot here ∙ mark) (λ later. spelt.1 p (omega arith) p_end) (cases_eq p from) in
    (r ∷ rs, ((omega arith, marked, spelt.2), apart)))
    (λ no.
    let differs = not_from_Decides (same (spot from) r.mark) (decides (spot from) r.mark) no in
    (run (spot from) (from + 1) ∷ (r ∷ rs), ((omega arith, (λ p from_p p_end. ap spot (omega arith)), spelt), (differs, apart))))
    (cases_Bool (same (spot from) r.mark))

packing_from : {M : Type 0} (same : M → M → Bool) → ((a b : M) → Decides (same a b) (a ≡ b)) → (spot : ℕ → M) (k from n : ℕ) → from + k ≡ n → (runs : List (Run M)) × (Spells spot from runs n × Apart runs)
packing_from same decides spot zero from n end = ([], (omega arith, tt))
packing_from same decides spot (suc k) from n end =
    let rest = packing_from same decides spot k (from + 1) n (omega arith) in
    packing_front same decides spot from n rest.0 rest.1.0 rest.1.1

-- Every row of positions has a list of packing's, where marks can be compared.
pub packing_exists : {M : Type 0} (same : M → M → Bool) → ((a b : M) → Decides (same a b) (a ≡ b)) → (spot : ℕ → M) (n : ℕ) → (runs : List (Run M)) × Packing spot n runs
packing_exists same decides spot n =
    let all = packing_from same decides spot n 0 n (omega arith) in
    (all.0, record { spells = all.1.0; apart = all.1.1 })

mark_at_from : {M : Type 0} (spot : ℕ → M) (from n : ℕ) (runs : List (Run M)) → Spells spot from runs n → (p : ℕ) → from ≤ p → p < n → mark_at runs p ≡ Some (spot p)
mark_at_from spot from n [] spelt p from_p p_n = absurd (omega arith)
mark_at_from spot from n (r ∷ rs) spelt p from_p p_n =
    ⊎_elim
    (λ here. cond-true (ltb p r.end) (Some r.mark) (mark_at rs p) (lt-ltb p r.end here) ∙ ap Some (sym (spelt.1 p from_p here)))
    (λ later. cond-false (ltb p r.end) (Some r.mark) (mark_at rs p) (le-ltb p r.end later) ∙ mark_at_from spot r.end n rs spelt.2 p later p_n)
    (cases_lt p r.end)

-- A list that spells the positions gives each its mark, and none to any past them.
pub spells_mark_at : {M : Type 0} (spot : ℕ → M) (n : ℕ) (runs : List (Run M)) → Spells spot 0 runs n → (p : ℕ) → p < n → mark_at runs p ≡ Some (spot p)
spells_mark_at spot n runs spelt p within = mark_at_from spot 0 n runs spelt p (omega arith) within

mark_at_past : {M : Type 0} (spot : ℕ → M) (from n : ℕ) (runs : List (Run M)) → Spells spot from runs n → (p : ℕ) → n ≤ p → mark_at runs p ≡ None
mark_at_past spot from n [] spelt p past = refl
mark_at_past spot from n (r ∷ rs) spelt p past =
    let rest = spells_forward spot r.end n rs spelt.2 in
    cond-false (ltb p r.end) (Some r.mark) (mark_at rs p) (le-ltb p r.end (omega arith)) ∙ mark_at_past spot r.end n rs spelt.2 p past

pub spells_past : {M : Type 0} (spot : ℕ → M) (n : ℕ) (runs : List (Run M)) → Spells spot 0 runs n → (p : ℕ) → n ≤ p → mark_at runs p ≡ None
spells_past spot n runs spelt p past = mark_at_past spot 0 n runs spelt p past

spells_same : {M : Type 0} (spot spot' : ℕ → M) (from n : ℕ) (runs : List (Run M)) → ((p : ℕ) → p < n → spot p ≡ spot' p) → Spells spot from runs n → Spells spot' from runs n
spells_same spot spot' from n [] alike spelt = spelt
spells_same spot spot' from n (r ∷ rs) alike spelt =
    let rest = spells_forward spot r.end n rs spelt.2 in
    (spelt.0, (λ p from_p p_end. sym (alike p (omega arith)) ∙ spelt.1 p from_p p_end), spells_same spot spot' r.end n rs alike spelt.2)

-- Packing's list depends only on the marks of the positions that it spells.
pub packing_same : {M : Type 0} (spot spot' : ℕ → M) (n : ℕ) (runs : List (Run M)) → ((p : ℕ) → p < n → spot p ≡ spot' p) → Packing spot n runs → Packing spot' n runs
packing_same spot spot' n runs alike packing =
    record { spells = spells_same spot spot' 0 n runs alike packing.spells; apart = packing.apart }
