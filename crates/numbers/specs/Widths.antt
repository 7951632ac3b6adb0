-- What a number converts into, at the widths of whole numbers.
use Rattle.std.specs.Prelude.{◌≡◌, ℕ, ◌^◌, Some, Ok, Err, pos, Result, unsigned_abs}
use Rattle.std.specs.Int.{FitsUnsignedBits}
use Rattle.std.specs.Option.{option_map}
use Rattle.std.specs.Result.{OkIff, result_ok}
use Rattle.std.proofs.Common.{sym, ap, ◌∙◌, inl, inr}
use Rattle.std.proofs.lemmas.Bool.{lt-ltb, le-ltb, cond-true, cond-false, cases_lt}
use Rattle.numbers.specs.Numerals.{below}

-- a conversion that gives the number itself just if it fits so many bits gives what is below their limit
pub narrows_to : (bits : ℕ) {E : Type 0} (n : ℕ) (r : Result ℕ E) → OkIff r (FitsUnsignedBits bits (pos n)) (unsigned_abs (pos n)) → option_map (λ m. m) (result_ok r) ≡ below (2 ^ bits) n
narrows_to bits n (Ok m) h = sym (cond-true _ _ _ (lt-ltb n (2 ^ bits) h.0) ∙ ap Some (sym h.1))
narrows_to bits n (Err e) h = elim (cases_lt n (2 ^ bits)) [ inl l ↦ absurd (h l) | inr l ↦ sym (cond-false _ _ _ (le-ltb n (2 ^ bits) l)) ]
