-- The promise about two desks, each with a replica of a sheet, over one palette and after any list of calls at each.
use Rattle.std.specs.Prelude.{◌≡◌, ℕ, ◌<◌, Bool, cond, ◌⊎◌, List, reverse, length, is_err, Some, None, Decides, Option, nat_lt}
use Rattle.std.specs.Option.{unwrap_or}
use Rattle.runs.specs.declared.run.Run.{Run}
use Rattle.runs.specs.Runs.{Packing, Shortest}
use Rattle.cells.specs.Area.{Area, Inside, size, row_at, column_at}
use Rattle.cells.specs.Words.{Bounds}
use Rattle.sheet.specs.declared.xf.Xf.{Xf}
use Rattle.sheet.specs.declared.memory.Sheet.{Sheet}
use Rattle.sheet.specs.Palette.{style_at, kind_at}
use Rattle.sheet.specs.Contents.{area, id_runs, kind_runs}
use Rattle.sheet.specs.Packs.{Packs, pack_answer}
use Rattle.sheet.specs.Reads.{Seen, got, kind_there, walked}
use Rattle.replicas.specs.declared.call.Call.{Call}
use Rattle.replicas.specs.History.{last_words, kept_after, Counts}
use Rattle.replicas.specs.Latest.{Latest, words_at}

-- Two sheets have the same box and the same runs of each kind.
pub record SameRuns (s t : Sheet) : Type 0 where
  pub box : area s ≡ area t
  pub ids : id_runs s ≡ id_runs t
  pub kinds : kind_runs s ≡ kind_runs t

-- What walk gives at step k where get answers by `style`: the k-th position of the box in row order with get's style, and none
-- after the last.
abbrev pub step : {S : Type 0} → (ℕ → ℕ → Option S) → Option Area → ℕ → Option (Seen S)
step style None k = None
step style (Some a) k =
    cond (nat_lt k (size a)) (Some (record { row = row_at a k; column = column_at a k; style = style (row_at a k) (column_at a k) })) None

-- a position lies in the box, if there is one
abbrev pub In : Option Area → ℕ → ℕ → Type 0
In None r c = ⊥
In (Some a) r c = Inside a r c

module _ {S : Type 0} (palette : List (Xf S)) where
  -- A position in the box answers with the style and the date kind of xf n, and there is such an xf.
  pub record Answers (s : Sheet) (r c n : ℕ) : Type 0 where
    pub listed : n < length palette
    pub style : got palette s r c ≡ style_at palette n
    pub kind : kind_there s r c ≡ Some (kind_at palette n)

  -- One replica, with room for C cells and R runs, after a list of calls: what it holds and answers.
  pub record Replica (C R : ℕ) (calls : List Call) (s : Sheet) : Type 0 where
    pub latest : Option (List Call)
    pub is_latest : Latest palette C R (reverse calls) latest
    -- as many cells count against C as positions have a word
    pub counted : Counts (last_words (length palette) C (reverse calls)) (kept_after (length palette) C (reverse calls))
    -- the box is the least around the cells kept at the latest accepted pack, and the tables hold packing's lists for it
    pub bounds : Bounds (words_at palette C latest) (area s)
    pub ids : Packs (λ id. id) (words_at palette C latest) (area s) (id_runs s)
    pub kinds : Packs (kind_at palette) (words_at palette C latest) (area s) (kind_runs s)
    -- get and kind answer inside the box by the last word, or 0 for none, and none outside; walk gives the box with get's styles
    pub inside : (r c : ℕ) → In (area s) r c → Answers s r c (unwrap_or (words_at palette C latest r c) 0)
    pub outside : (r c : ℕ) → (In (area s) r c → ⊥) → (got palette s r c ≡ None) × (kind_there s r c ≡ None)
    pub walks : (k : ℕ) → walked palette s k ≡ step (got palette s) (area s) k

  -- Two sheets hold and answer the same.
  pub record Alike (s t : Sheet) : Type 0 where
    pub held : SameRuns s t
    pub gets : (r c : ℕ) → got palette s r c ≡ got palette t r c
    pub kind_answers : (r c : ℕ) → kind_there s r c ≡ kind_there t r c
    pub walks : (k : ℕ) → walked palette s k ≡ walked palette t k

  -- every last word at the latest accepted pack of one is that of the other
  abbrev pub SameWords : (C C' : ℕ) → Option (List Call) → Option (List Call) → Type 0
  SameWords C C' latest latest' = (r c : ℕ) → words_at palette C latest r c ≡ words_at palette C' latest' r c

-- The promise about two replicas, whole. M is any kind of mark with a lawful comparison.
pub record Promise {S : Type 0} (M : Type 0) (palette : List (Xf S)) (C R : ℕ) (calls : List Call) (s : Sheet) (C' R' : ℕ) (calls' : List Call) (t : Sheet) (agree : Bool) : Type 0 where
  -- what each desk holds and answers, and that its tables hold packing's lists
  pub loader : Replica palette C R calls s
  pub floor : Replica palette C' R' calls' t
  -- the desks are alike if their last words are the same, and only then; and the call says whether they are
  pub alike : SameWords palette C C' loader.latest floor.latest → Alike palette s t
  pub unlike : SameRuns s t → SameWords palette C C' loader.latest floor.latest
  pub answer : Decides agree (SameRuns s t)
  -- for every kind of mark, and whatever marks the positions have, there is packing's list, and every other list that spells
  -- them is longer; a pack is refused exactly if one of its lists has more runs than there is room for
  pub shortest : (spot : ℕ → M) (n : ℕ) → (runs : List (Run M)) × (Packing spot n runs × Shortest spot n runs)
  pub refused : (room ids kinds : ℕ) → Decides (is_err (pack_answer room ids kinds)) ((room < ids) ⊎ (room < kinds))
