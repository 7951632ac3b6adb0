-- The latest accepted pack of a history, and the words that it packed.
use Rattle.std.specs.Prelude.{◌≡◌, ℕ, List, [], ◌∷◌, length, is_ok, Some, None, MatchBool, Option}
use Rattle.cells.specs.Words.{Words}
use Rattle.sheet.specs.declared.xf.Xf.{Xf}
use Rattle.sheet.specs.Packs.{PackOf, pack_answer}
use Rattle.replicas.specs.declared.call.Call.{Call}
use Rattle.replicas.specs.declared.call.Call.TheVariants.{Put, Clear, Pack}
use Rattle.replicas.specs.History.{last_words}

module _ {S : Type 0} (palette : List (Xf S)) (C R : ℕ) where
  -- `latest` is the history before the latest accepted pack, or none where no pack was accepted. Whether a pack is accepted
  -- is what its answer says, with the lengths of packing's lists for the words at that time.
  abbrev pub Latest : List Call → Option (List Call) → Type 0
  Latest [] latest = latest ≡ None
  Latest (Put row column id ∷ h) latest = Latest h latest
  Latest (Clear row column ∷ h) latest = Latest h latest
  Latest (Pack ∷ h) latest =
      (made : PackOf palette (last_words (length palette) C h))
      × MatchBool (is_ok (pack_answer R (length made.ids) (length made.kinds))) (latest ≡ Some h) (Latest h latest)

-- the last words at that pack; before the first there are none
abbrev pub words_at : {S : Type 0} → List (Xf S) → ℕ → Option (List Call) → Words
words_at palette C None r c = None
words_at palette C (Some h) r c = last_words (length palette) C h r c
