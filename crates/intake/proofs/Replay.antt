-- Two sheets that had the same calls, with the same room, hold the same box and the same runs.
use Rattle.std.proofs.Common.{◌≡◌, ℕ, Bool, true, false, List, [], ◌∷◌, ◌++◌, reverse, length, is_ok, Some, Decides, MatchBool, Option, sym, refl, ap, ◌∙◌, subst, ap₂}
use Rattle.std.proofs.lemmas.List.{reverse-append}
use Rattle.std.proofs.lemmas.Bool.{true≢false}
use Rattle.cells.specs.Words.{Words}
use Rattle.sheet.specs.declared.xf.Xf.{Xf}
use Rattle.sheet.specs.declared.memory.Sheet.{Sheet}
use Rattle.sheet.specs.Palette.{kind_at}
use Rattle.sheet.specs.Packs.{Packs, PackOf, pack_answer}
use Rattle.replicas.specs.declared.call.Call.{Call}
use Rattle.replicas.specs.declared.call.Answer.{Answer}
use Rattle.replicas.specs.declared.call.Call.TheVariants.{Put, Clear, Pack}
use Rattle.replicas.specs.History.{last_words}
use Rattle.replicas.specs.Latest.{Latest, words_at}
use Rattle.replicas.specs.Stands.{Applied, Stands}
use Rattle.replicas.specs.Promise.{Replica, SameRuns}
use Rattle.replicas.proofs.Boxes.{one_box}
use Rattle.replicas.proofs.Steps.{applied_stands}
use Rattle.replicas.proofs.Promise.{one_list, replica, alike_from_words}

-- where both ways are the same way, so are their ends
same_way : {X : Type 0} (P : X → Type 0) (z x y : X) (b c : Bool) → b ≡ c → (P x → P y → x ≡ y) → MatchBool b (x ≡ z) (P x) → MatchBool c (y ≡ z) (P y) → x ≡ y
same_way P z x y true true e f p q = p ∙ sym q
same_way P z x y true false e f p q = absurd (true≢false e)
same_way P z x y false true e f p q = absurd (true≢false (sym e))
same_way P z x y false false e f p q = f p q

module _ {S : Type 0} (palette : List (Xf S)) (C R : ℕ) where
  one_answer : (words : Words) (m n : PackOf palette words) → pack_answer R (length m.ids) (length m.kinds) ≡ pack_answer R (length n.ids) (length n.kinds)
  one_answer words m n =
      let box = one_box words m.box n.box m.bounds n.bounds in
      let ids = one_list (λ id. id) words n.box m.ids n.ids (subst (λ b. Packs (λ id. id) words b m.ids) box m.ids_packed) n.ids_packed in
      let kinds = one_list (kind_at palette) words n.box m.kinds n.kinds (subst (λ b. Packs (kind_at palette) words b m.kinds) box m.kinds_packed) n.kinds_packed in
      ap₂ (λ i k. pack_answer R (length i) (length k)) ids kinds

  -- a history has one latest accepted pack
  one_latest : (h : List Call) (x y : Option (List Call)) → Latest palette C R h x → Latest palette C R h y → x ≡ y
  one_latest [] x y p q = p ∙ sym q
  one_latest (Put row column id ∷ h) x y p q = one_latest h x y p q
  one_latest (Clear row column ∷ h) x y p q = one_latest h x y p q
  one_latest (Pack ∷ h) x y p q =
      same_way (Latest palette C R h) (Some h) x y _ _ (ap is_ok (one_answer (last_words (length palette) C h) p.0 q.0)) (one_latest h x y) p.1 q.1

  replayed_same : (calls : List Call) (s t : Sheet) → Stands palette C R (reverse calls) s → Replica palette C R calls t → SameRuns s t
  replayed_same calls s t st other =
      let one = replica palette C R calls (reverse calls) s refl st in
      let same = one_latest (reverse calls) one.latest other.latest one.is_latest other.is_latest in
      (alike_from_words palette C R calls s C R calls t one other (λ r c. ap (λ l. words_at palette C l r c) same)).held

-- A sheet that stands for some calls stands for one more after that call.
pub one_more : {S : Type 0} (palette : List (Xf S)) (C R : ℕ) (calls calls' : List Call) (call : Call) (answer : Answer) (s s' : Sheet) → calls' ≡ calls ++ call ∷ []
    → Applied palette s call answer s' → Stands palette C R (reverse calls) s → Stands palette C R (reverse calls') s'
one_more palette C R calls calls' call answer s s' more applied st =
    subst (λ h. Stands palette C R h s') (sym (ap reverse more ∙ reverse-append calls (call ∷ []))) (applied_stands palette C R (reverse calls) s s' call answer st applied)

-- The sheet of a desk and one that its calls were played at anew, over memory of the same room.
pub replayed : {S : Type 0} (palette : List (Xf S)) (C R C' R' : ℕ) (calls calls' : List Call) (s t : Sheet) → C' ≡ C → R' ≡ R → calls' ≡ calls
    → Stands palette C R (reverse calls) s → Replica palette C' R' calls' t → SameRuns s t
replayed palette C R C' R' calls calls' s t cells runs same st other =
    let one = subst (λ n. Replica palette n R' calls' t) cells other in
    let two = subst (λ n. Replica palette C n calls' t) runs one in
    replayed_same palette C R calls s t st (subst (λ cs. Replica palette C R cs t) same two)

same_runs_back : (s t : Sheet) → SameRuns s t → SameRuns t s
same_runs_back s t e = record { box = sym e.box; ids = sym e.ids; kinds = sym e.kinds }

same_runs_on : (s t u : Sheet) → SameRuns s t → SameRuns t u → SameRuns s u
same_runs_on s t u e f = record { box = e.box ∙ f.box; ids = e.ids ∙ f.ids; kinds = e.kinds ∙ f.kinds }

-- what is decided of two sheets is decided of two others with the same runs
pub decided_of_same : (agree : Bool) (s t u v : Sheet) → SameRuns u s → SameRuns v t → Decides agree (SameRuns s t) → Decides agree (SameRuns u v)
decided_of_same agree s t u v us vt d = (
  λ yes. same_runs_on u s v us (same_runs_on s t v (d.0 yes) (same_runs_back v t vt)),
  λ same. d.1 (same_runs_on s u t (same_runs_back u s us) (same_runs_on u v t same vt)),
)
