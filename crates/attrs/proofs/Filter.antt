-- Bits that are set stay set.
use Rattle.std.proofs.Common.{◌≡◌, ℕ, ◌<◌, List, length, get_or, set, bit_or, sym, ap, ◌∙◌, subst, inl, inr, arith}
use Rattle.std.specs.Int.Bits.{or_self}
use Rattle.std.proofs.lemmas.Nat.{or_comm}
use Rattle.std.proofs.lemmas.Nat.Bits.{bit_at_or, same_from_bits}
use Rattle.std.proofs.lemmas.List.{length-set, get_or-set_same, get_or-set_other}
use Rattle.std.proofs.lemmas.Bool.Decides.{eqb_tells}
use Rattle.attrs.specs.Seen.{bits_of, word_of, Marked}

or_assoc : (a b c : ℕ) → bit_or (bit_or a b) c ≡ bit_or a (bit_or b c)
or_assoc a b c =
    same_from_bits (bit_or (bit_or a b) c) (bit_or a (bit_or b c))
    (λ i. omega (arith, bit_at_or (bit_or a b) c i, bit_at_or a b i, bit_at_or a (bit_or b c) i, bit_at_or b c i))

or_again : (w m : ℕ) → bit_or (bit_or w m) m ≡ bit_or w m
or_again w m = or_assoc w m m ∙ ap (bit_or w) (or_self m)

-- what is set in w is set in w and more
or_keeps : (w m b : ℕ) → bit_or w b ≡ w → bit_or (bit_or w m) b ≡ bit_or w m
or_keeps w m b h = or_assoc w m b ∙ ap (bit_or w) (or_comm m b) ∙ sym (or_assoc w b m) ∙ ap (λ x. bit_or x m) h

module _ (words : List ℕ) (n : ℕ) (inside : word_of n (length words) < length words) where
  abbrev more : ℕ
  more = bit_or (get_or words (word_of n (length words)) 0) (bits_of n)

  abbrev words' : List ℕ
  words' = set words (word_of n (length words)) more

  long : length words' ≡ length words
  long = length-set words (word_of n (length words)) more

  here : get_or words' (word_of n (length words)) 0 ≡ more
  here = get_or-set_same words (word_of n (length words)) more 0 inside

  pub now_marked : Marked words' n
  now_marked =
      subst (λ k. bit_or (get_or words' (word_of n k) 0) (bits_of n) ≡ get_or words' (word_of n k) 0) (sym long)
      (subst (λ w. bit_or w (bits_of n) ≡ w) (sym here) (or_again (get_or words (word_of n (length words)) 0) (bits_of n)))

  pub still_marked : (other : ℕ) → Marked words other → Marked words' other
  still_marked other m =
      subst (λ k. bit_or (get_or words' (word_of other k) 0) (bits_of other) ≡ get_or words' (word_of other k) 0) (sym long)
      (elim (eqb_tells (word_of other (length words)) (word_of n (length words))) [
        | inl same ↦
            let at : get_or words' (word_of other (length words)) 0 ≡ bit_or (get_or words (word_of other (length words)) 0) (bits_of n) =
            ap (λ k. get_or words' k 0) same.1 ∙ here ∙ ap (λ k. bit_or (get_or words k 0) (bits_of n)) (sym same.1) in
            subst (λ w. bit_or w (bits_of other) ≡ w) (sym at) (or_keeps (get_or words (word_of other (length words)) 0) (bits_of n) (bits_of other) m)
        | inr differs ↦
            subst (λ w. bit_or w (bits_of other) ≡ w)
            (sym (get_or-set_other words (word_of n (length words)) (word_of other (length words)) more 0 differs.1)) m
      ])
