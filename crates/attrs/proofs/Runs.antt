-- Parts of a list whose bytes all pass a test.
use Rattle.std.proofs.Common.{◌≡◌, ℕ, zero, suc, ◌+◌, ◌-◌, ◌<◌, ◌≤◌, Bool, true, false, List, [], ◌∷◌, ◌++◌, length, get_or, take, drop, sym, ap, ◌∙◌, subst, arith}
use Rattle.std.proofs.lemmas.Bool.{true≢false}
use Rattle.std.proofs.lemmas.List.{take_more, get_or-drop, length-drop, take-append-drop, drop-drop}
use Rattle.attrs.specs.Bytes.{All, Begins}

pub all_push : (p : ℕ → Bool) (xs : List ℕ) (b : ℕ) → All p xs → p b ≡ true → All p (xs ++ (b ∷ []))
all_push p [] b h e = (e, tt)
all_push p (x ∷ xs) b h e = (h.0, all_push p xs b h.1 e)

pub run_more : (p : ℕ → Bool) (xs : List ℕ) (from at : ℕ) → from ≤ at → at < length xs
    → All p (take (at - from) (drop from xs)) → p (get_or xs at 0) ≡ true → All p (take (at + 1 - from) (drop from xs))
run_more p xs from at low high run e =
    let n : at + 1 - from ≡ (at - from) + 1 = omega arith in
    let inside : at - from < length (drop from xs) = omega (arith, length-drop from xs) in
    let here : get_or (drop from xs) (at - from) 0 ≡ get_or xs at 0 = get_or-drop from xs (at - from) 0 ∙ ap (λ k. get_or xs k 0) (omega arith) in
    subst (λ k. All p (take k (drop from xs))) (sym n)
    (subst (All p) (sym (take_more (drop from xs) (at - from) 0 inside)) (all_push p (take (at - from) (drop from xs)) (get_or (drop from xs) (at - from) 0) run (ap p here ∙ e)))

-- where the byte at an index fails, or there is none, no byte that passes begins the rest
pub stops : (p : ℕ → Bool) (xs : List ℕ) (at : ℕ) → (at < length xs → p (get_or xs at 0) ≡ false) → Begins p (drop at xs) → ⊥
stops p [] zero fails begins = begins
stops p [] (suc at) fails begins = begins
stops p (x ∷ xs) zero fails begins =
    true≢false (sym begins ∙ fails (omega arith))
stops p (x ∷ xs) (suc at) fails begins = stops p xs at (λ inside. fails (omega arith)) begins

-- a list from one index on is a part of it, and what follows
pub split : (xs : List ℕ) (from to : ℕ) → from ≤ to → drop from xs ≡ take (to - from) (drop from xs) ++ drop to xs
split xs from to order =
    sym (take-append-drop (to - from) (drop from xs)) ∙ ap (λ ys. take (to - from) (drop from xs) ++ ys) (drop-drop (to - from) from xs ∙ ap (λ k. drop k xs) (omega arith))
