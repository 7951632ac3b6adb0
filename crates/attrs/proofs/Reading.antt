-- What the bounds that are read say of the bytes.
use Rattle.std.proofs.Common.{◌≡◌, ℕ, ◌+◌, ◌-◌, ◌<◌, ◌≤◌, true, false, not, List, ◌∷◌, ◌++◌, length, get_or, take, drop, sym, ap, ◌∙◌, subst, arith}
use Rattle.std.proofs.lemmas.Bool.{not_from_false, false_from_ne_true}
use Rattle.std.proofs.lemmas.List.{drop_more, take_rest, length-take, length-drop, length-append}
use Rattle.attrs.specs.Bytes.{white, quote, key_byte, except, All, Begins, Run}
use Rattle.attrs.specs.Grammar.{Keyed, Quoted, Apart, Indented, First}
use Rattle.attrs.specs.Flaws.{Unquoted, Unclosed, Joined, ValueFlaw, ItemFlaw, Faulty}
use Rattle.attrs.specs.declared.fault.Flaw.{Flaw}
use Rattle.attrs.specs.declared.fault.Flaw.TheVariants.{BadKey, NoSpace, NoQuote, NotClosed, Repeated}
use Rattle.attrs.specs.declared.fault.Fault.{Fault}
use Rattle.attrs.proofs.Runs.{split, stops}
use Rattle.attrs.proofs.Splits.{keyed_is, excepted}

module _ (xs : List ℕ) (start end equals : ℕ) (key : Run key_byte xs start end) (gap : Run white xs end equals) where
  pub key_there : start < end → equals < length xs → get_or xs equals 0 ≡ 61 → Keyed (drop start xs) (take (end - start) (drop start xs)) (drop (equals + 1) xs)
  key_there some inside is =
      let long : length (take (end - start) (drop start xs)) ≡ end - start = length-take (end - start) (drop start xs) ∙ omega (arith, length-drop start xs, key.high) in
      record {
        gap = take (equals - end) (drop end xs);
        some = omega (arith, long);
        key_bytes = key.run;
        white_gap = gap.run;
        spelt =
            split xs start end key.low
            ∙ ap (λ ys. take (end - start) (drop start xs) ++ ys)
            (split xs end equals gap.low
            ∙ ap (λ ys. take (equals - end) (drop end xs) ++ ys) (drop_more xs equals 0 inside ∙ ap (λ b. b ∷ drop (equals + 1) xs) is));
      }

  pub key_read : (k after : List ℕ) → Keyed (drop start xs) k after → (k ≡ take (end - start) (drop start xs)) × (drop equals xs ≡ 61 ∷ after)
  key_read k after keyed =
      keyed_is (drop start xs) (take (end - start) (drop start xs)) (drop end xs) (take (equals - end) (drop end xs)) (drop equals xs) (split xs start end key.low) key.run key.stop
      (split xs end equals gap.low) gap.run gap.stop k after keyed

  -- with no byte there is no key
  pub no_key : end ≡ start → (k after : List ℕ) → Keyed (drop start xs) k after → ⊥
  no_key none k after keyed =
      let long = ap length (key_read k after keyed).0 in
      let some = keyed.some in
      omega (arith, long, length-take (end - start) (drop start xs))

  -- and with no equals sign after the key there is none
  pub no_equals : (equals < length xs → get_or xs equals 0 ≡ 61 → ⊥) → (k after : List ℕ) → Keyed (drop start xs) k after → ⊥
  no_equals differs k after keyed =
      let read = (key_read k after keyed).1 in
      let inside : equals < length xs = omega (arith, ap length read, length-drop equals xs, gap.high) in
      let same : get_or xs equals 0 ∷ drop (equals + 1) xs ≡ 61 ∷ after = sym (drop_more xs equals 0 inside) ∙ read in
      differs inside cc

module _ (xs : List ℕ) (from opening : ℕ) (gap : Run white xs from opening) where
  pub unquoted : (opening < length xs → quote (get_or xs opening 0) ≡ false) → Unquoted (drop from xs)
  unquoted plain =
      record {
        gap = take (opening - from) (drop from xs);
        tail = drop opening xs;
        white_gap = gap.run;
        spelt = split xs from opening gap.low;
        dark = gap.stop;
        no_quote = stops quote xs opening plain;
      }

  module _ (mark end : ℕ) (inside : opening < length xs) (mark_is : mark ≡ get_or xs opening 0) (is_quote : quote mark ≡ true) (value : Run (except mark) xs (opening + 1) end) where
    opened : drop from xs ≡ take (opening - from) (drop from xs) ++ (mark ∷ drop (opening + 1) xs)
    opened =
        split xs from opening gap.low
        ∙ ap (λ ys. take (opening - from) (drop from xs) ++ ys) (drop_more xs opening 0 inside ∙ ap (λ b. b ∷ drop (opening + 1) xs) (sym mark_is))

    pub unclosed : end ≡ length xs → Unclosed (drop from xs)
    unclosed at_end =
        record {
          gap = take (opening - from) (drop from xs);
          mark = mark;
          tail = drop (opening + 1) xs;
          white_gap = gap.run;
          is_quote = is_quote;
          spelt = opened;
          inside = subst (All (except mark)) (ap (λ n. take (n - (opening + 1)) (drop (opening + 1) xs)) at_end ∙ take_rest xs (opening + 1)) value.run;
        }

    pub quoted : end < length xs → Quoted (drop from xs) (take (end - (opening + 1)) (drop (opening + 1) xs)) (drop (end + 1) xs)
    quoted closed =
        let closing : get_or xs end 0 ≡ mark = excepted mark (get_or xs end 0) (λ h. value.stop (subst (Begins (except mark)) (sym (drop_more xs end 0 closed)) h)) in
        record {
          gap = take (opening - from) (drop from xs);
          mark = mark;
          white_gap = gap.run;
          is_quote = is_quote;
          inside = value.run;
          spelt =
              opened
              ∙ ap (λ ys. take (opening - from) (drop from xs) ++ (mark ∷ ys))
              (split xs (opening + 1) end value.low
              ∙ ap (λ ys. take (end - (opening + 1)) (drop (opening + 1) xs) ++ ys) (drop_more xs end 0 closed ∙ ap (λ b. b ∷ drop (end + 1) xs) closing));
        }

    -- and where something other than white space follows the closing quote
    pub joined : end + 1 < length xs → white (get_or xs (end + 1) 0) ≡ false → Joined (drop from xs)
    joined more dark =
        record {
          value = take (end - (opening + 1)) (drop (opening + 1) xs);
          rest = drop (end + 1) xs;
          quoted = quoted (omega arith);
          dark = subst (Begins (λ b. not (white b))) (sym (drop_more xs (end + 1) 0 more)) (ap not dark);
        }

-- ---- the first thing in a text from a place on

pub blank : (xs : List ℕ) (from to : ℕ) → Run white xs from to → to ≡ length xs → All white (drop from xs)
blank xs from to space at_end = subst (All white) (ap (λ n. take (n - from) (drop from xs)) at_end ∙ take_rest xs from) space.run

pub indented : (xs : List ℕ) (from to : ℕ) → Run white xs from to → to < length xs → Indented (drop from xs) (take (to - from) (drop from xs)) (drop to xs)
indented xs from to space inside =
    record {
      white_space = space.run;
      spelt = split xs from to space.low;
      dark =
          subst (Begins (λ b. not (white b))) (sym (drop_more xs to 0 inside))
          (not_from_false (white (get_or xs to 0)) (false_from_ne_true (white (get_or xs to 0)) (λ h. space.stop (subst (Begins white) (sym (drop_more xs to 0 inside)) h))));
    }

long : (xs : List ℕ) (from to : ℕ) → from ≤ to → to ≤ length xs → length (take (to - from) (drop from xs)) ≡ to - from
long xs from to low high = length-take (to - from) (drop from xs) ∙ omega (arith, length-drop from xs)

pub faulty : (xs : List ℕ) (from : ℕ) (fault : Fault) → Run white xs from fault.place → fault.place < length xs → ItemFlaw (drop fault.place xs) fault.flaw
    → Faulty from (drop from xs) fault
faulty xs from fault space inside flawed =
    record {
      space = take (fault.place - from) (drop from xs);
      body = drop fault.place xs;
      indented = indented xs from fault.place space inside;
      flawed = flawed;
      place_is = omega (arith, long xs from fault.place space.low space.high, space.low);
    }

pub value_flaw : (bytes key after : List ℕ) (flaw : Flaw) → Keyed bytes key after → ValueFlaw after flaw → ItemFlaw bytes flaw
value_flaw bytes key after BadKey keyed flawed = absurd flawed
value_flaw bytes key after NoSpace keyed flawed = (key, after, keyed, flawed)
value_flaw bytes key after NoQuote keyed flawed = (key, after, keyed, flawed)
value_flaw bytes key after NotClosed keyed flawed = (key, after, keyed, flawed)
value_flaw bytes key after Repeated keyed flawed = flawed

pub first : (xs : List ℕ) (from place key_end equals start end : ℕ) → Run white xs from place → place < length xs
    → Keyed (drop place xs) (take (key_end - place) (drop place xs)) (drop (equals + 1) xs)
    → Quoted (drop (equals + 1) xs) (take (end - start) (drop start xs)) (drop (end + 1) xs)
    → Apart (drop (end + 1) xs) → start ≤ end → end < length xs
    → First from (drop from xs) (record { key = take (key_end - place) (drop place xs); value = take (end - start) (drop start xs); key_place = place; value_place = start }) (drop (end + 1) xs)
first xs from place key_end equals start end space inside keyed quoted apart order closed =
    let key = take (key_end - place) (drop place xs) in
    let value = take (end - start) (drop start xs) in
    let keyed_length : length (drop place xs) ≡ length key + (length keyed.gap + (length (drop (equals + 1) xs) + 1)) = ap length keyed.spelt ∙ simp length-append (omega arith) in
    let quoted_length : length (drop (equals + 1) xs) ≡ length quoted.gap + (length value + (length (drop (end + 1) xs) + 1) + 1) = ap length quoted.spelt ∙ simp length-append (omega arith) in
    record {
      space = take (place - from) (drop from xs);
      body = drop place xs;
      after = drop (equals + 1) xs;
      indented = indented xs from place space inside;
      keyed = keyed;
      quoted = quoted;
      apart = apart;
      key_at = omega (arith, long xs from place space.low space.high, space.low);
      value_at =
          omega (
            arith,
            long xs start end order (omega arith),
            length-drop (end + 1) xs,
            length-drop place xs,
            length-drop (equals + 1) xs,
            keyed_length,
            quoted_length,
          );
    }

pub past_is : (xs : List ℕ) (start end : ℕ) → start ≤ end → end ≤ length xs → end + 1 ≡ start + length (take (end - start) (drop start xs)) + 1
past_is xs start end low high = omega (arith, long xs start end low high)
