-- Each call takes a sheet that stands for a history to one that stands for the history with the call in front.
use Rattle.std.proofs.Common.{◌≡◌, ℕ, ◌+◌, ◌<◌, ◌≤◌, min, Bool, true, false, List, [], ◌∷◌, ◌++◌, reverse, length, get_or, take, is_ok, Some, None, vec_items, vec_len, MatchBool, Option, Result, sym, refl, ap, ◌∙◌, subst, ap₂, ⊎_elim}
use mathlib.Core.Path.{fun_ext}
use Rattle.std.specs.Option.{option_map}
use Rattle.std.proofs.lemmas.List.{take_more, take_all, reverse-append}
use Rattle.std.proofs.lemmas.Bool.{cases_Bool}
use Rattle.runs.specs.declared.memory.RunMemory.{RunMemory}
use Rattle.runs.specs.Memory.{runs_of}
use Rattle.cells.specs.Area.{extent}
use Rattle.cells.specs.Words.{Words, Bounds}
use Rattle.sheet.specs.declared.xf.Xf.{Xf}
use Rattle.sheet.specs.declared.memory.Sheet.{Sheet}
use Rattle.sheet.specs.declared.memory.SheetMemory.{SheetMemory}
use Rattle.sheet.specs.declared.answers.RunCounts.{RunCounts}
use Rattle.sheet.specs.declared.answers.PackRefusal.{PackRefusal}
use Rattle.sheet.specs.Contents.{words, kept, cell_room, room, held, area, id_runs, kind_runs, memory_cell_room, memory_run_room}
use Rattle.sheet.specs.Edits.{Made, SameRuns}
use Rattle.sheet.specs.Palette.{kind_at}
use Rattle.sheet.specs.Packs.{Packs, PackOf, PackDone, pack_answer}
use Rattle.sheet.specs.Rules.{put_words, put_kept, clear_words, clear_kept}
use Rattle.replicas.specs.declared.call.Call.{Call}
use Rattle.replicas.specs.declared.call.Call.TheVariants as call
use Rattle.replicas.specs.declared.call.Answer.{Answer}
use Rattle.replicas.specs.declared.call.Answer.TheVariants as answer
use Rattle.replicas.specs.History.{after, last_words, kept_after}
use Rattle.replicas.specs.Latest.{Latest, words_at}
use Rattle.replicas.specs.Stands.{Applied, Stands}

-- words that are the same at each position are the same
same_words : (v w : Words) → ((r c : ℕ) → v r c ≡ w r c) → v ≡ w
same_words v w f = fun_ext (λ r. fun_ext (λ c. f r c))

when_yes : (b : Bool) (P Q : Type 0) → b ≡ true → P → MatchBool b P Q
when_yes b P Q e p = rw e p

when_no : (b : Bool) (P Q : Type 0) → b ≡ false → Q → MatchBool b P Q
when_no b P Q e q = rw e q

module _ {S : Type 0} (palette : List (Xf S)) (C R : ℕ) where
  -- the box and the runs belong to the words at the latest accepted pack
  record Shows (latest : Option (List Call)) (s : Sheet) : Type 0 where
    bounds : Bounds (words_at palette C latest) (area s)
    ids : Packs (λ id. id) (words_at palette C latest) (area s) (id_runs s)
    kinds : Packs (kind_at palette) (words_at palette C latest) (area s) (kind_runs s)

  shows_same : (latest : Option (List Call)) (s s' : Sheet) → SameRuns s s' → Shows latest s → Shows latest s'
  shows_same latest s s' same shows =
      let box : area s ≡ area s' = ap (option_map extent) (sym same.box_same) in
      let ids : id_runs s ≡ id_runs s' = ap held (sym same.ids_same) in
      let kinds : kind_runs s ≡ kind_runs s' = ap held (sym same.kinds_same) in
      record {
        bounds = subst (λ b. Bounds (words_at palette C latest) b) box shows.bounds;
        ids = subst (λ rs. Packs (λ id. id) (words_at palette C latest) (area s') rs) ids (subst (λ b. Packs (λ id. id) (words_at palette C latest) b (id_runs s)) box shows.ids);
        kinds = subst (λ rs. Packs (kind_at palette) (words_at palette C latest) (area s') rs) kinds (subst (λ b. Packs (kind_at palette) (words_at palette C latest) b (kind_runs s)) box shows.kinds);
      }

  -- what stays of a sheet's standing where the runs stay
  edited : (h : List Call) (next : Call) (s s' : Sheet) → ((latest : Option (List Call)) → Latest palette C R h latest → Latest palette C R (next ∷ h) latest) → Stands palette C R h s → SameRuns s s'
      → words s' ≡ last_words (length palette) C (next ∷ h) → kept s' ≡ kept_after (length palette) C (next ∷ h) → Stands palette C R (next ∷ h) s'
  edited h next s s' passes st same words_now kept_now =
      let shows = shows_same st.latest s s' same (record { bounds = st.bounds; ids = st.ids; kinds = st.kinds }) in
      record {
        cells_fit = same.room_same ∙ st.cells_fit;
        runs_fit = ap₂ (λ i k. min (room i) (room k)) same.ids_same same.kinds_same ∙ st.runs_fit;
        words_are = words_now;
        kept_is = kept_now;
        latest = st.latest;
        is_latest = passes st.latest st.is_latest;
        bounds = shows.bounds;
        ids = shows.ids;
        kinds = shows.kinds;
      }

  pub put_stands : (h : List Call) (s s' : Sheet) (row column id : ℕ) (a : Answer) → Stands palette C R h s → Applied palette s (call.Put row column id) a s' → Stands palette C R (call.Put row column id ∷ h) s'
  unfolding after
  put_stands h s s' row column id (answer.Put r) st done =
      let P = length palette in
      let by : (D : ℕ) → cell_room s ≡ D → (w : Words) → words s ≡ w → (n : ℕ) → kept s ≡ n → put_words P (cell_room s) (words s) (kept s) row column id ≡ put_words P D w n row column id =
      λ D eD w ew n en. ap (λ x. put_words P x (words s) (kept s) row column id) eD ∙ ap₂ (λ x y. put_words P D x y row column id) ew en in
      let count : (D : ℕ) → cell_room s ≡ D → (w : Words) → words s ≡ w → (n : ℕ) → kept s ≡ n → put_kept P (cell_room s) (words s) (kept s) row column id ≡ put_kept P D w n row column id =
      λ D eD w ew n en. ap (λ x. put_kept P x (words s) (kept s) row column id) eD ∙ ap₂ (λ x y. put_kept P D x y row column id) ew en in
      edited h (call.Put row column id) s s' (λ _ l. l) st done.rest
      (same_words (words s') (put_words P (cell_room s) (words s) (kept s) row column id) done.words_after ∙ by C st.cells_fit (last_words P C h) st.words_are (kept_after P C h) st.kept_is)
      (done.kept_after ∙ count C st.cells_fit (last_words P C h) st.words_are (kept_after P C h) st.kept_is)
  put_stands h s s' row column id (answer.Clear r) st done = absurd done
  put_stands h s s' row column id (answer.Pack r) st done = absurd done

  pub clear_stands : (h : List Call) (s s' : Sheet) (row column : ℕ) (a : Answer) → Stands palette C R h s → Applied palette s (call.Clear row column) a s' → Stands palette C R (call.Clear row column ∷ h) s'
  unfolding after
  clear_stands h s s' row column (answer.Put r) st done = absurd done
  clear_stands h s s' row column (answer.Clear r) st done =
      edited h (call.Clear row column) s s' (λ _ l. l) st done.rest
      (same_words (words s') (clear_words (words s) (kept s) row column) done.words_after ∙ ap₂ (λ x y. clear_words x y row column) st.words_are st.kept_is)
      (done.kept_after ∙ ap₂ (λ x y. clear_kept x y row column) st.words_are st.kept_is)
  clear_stands h s s' row column (answer.Pack r) st done = absurd done

  -- what pack makes of the words, for the words of the history
  made_of : (v w : Words) → v ≡ w → PackOf palette v → PackOf palette w
  made_of v w e made =
      record {
        box = made.box;
        bounds = subst (λ u. Bounds u made.box) e made.bounds;
        ids = made.ids;
        ids_packed = subst (λ u. Packs (λ id. id) u made.box made.ids) e made.ids_packed;
        kinds = made.kinds;
        kinds_packed = subst (λ u. Packs (kind_at palette) u made.box made.kinds) e made.kinds_packed;
      }

  module _ (h : List Call) (s s' : Sheet) (r : Result RunCounts PackRefusal) (st : Stands palette C R h s) (done : PackDone palette s r s') where
    made_now : PackOf palette (last_words (length palette) C h)
    made_now = made_of (words s) (last_words (length palette) C h) st.words_are done.made

    -- the answer, by the history's words
    answered : is_ok r ≡ is_ok (pack_answer R (length done.made.ids) (length done.made.kinds))
    answered = ap is_ok (done.is ∙ ap (λ n. pack_answer n (length done.made.ids) (length done.made.kinds)) st.runs_fit)

    pack_accepted : is_ok r ≡ true → Stands palette C R (call.Pack ∷ h) s'
    unfolding after made_now made_of
    pack_accepted yes' =
        let kept_runs = done.accepted yes' in
        let now_made = made_now in
        let box : made_now.box ≡ area s' = sym kept_runs.box_is in
        let ids : made_now.ids ≡ id_runs s' = sym kept_runs.ids_held.held_is in
        let kinds : made_now.kinds ≡ kind_runs s' = sym kept_runs.kinds_held.held_is in
        record {
          cells_fit = ap (λ m. m.limit) kept_runs.cells_same ∙ st.cells_fit;
          runs_fit =
              ap₂ min (ap₂ min kept_runs.ids_held.marks_same kept_runs.ids_held.ends_same) (ap₂ min kept_runs.kinds_held.marks_same kept_runs.kinds_held.ends_same)
              ∙ st.runs_fit;
          words_are = ap (λ m. Rattle.cells.specs.Kept.words m) kept_runs.cells_same ∙ st.words_are;
          kept_is = ap (λ m. Rattle.cells.specs.Kept.kept m) kept_runs.cells_same ∙ st.kept_is;
          latest = Some h;
          is_latest = (made_now, when_yes _ _ _ (sym answered ∙ yes') refl);
          bounds = subst (λ b. Bounds (last_words (length palette) C h) b) box made_now.bounds;
          ids = subst (λ rs. Packs (λ id. id) (last_words (length palette) C h) (area s') rs) ids
              (subst (λ b. Packs (λ id. id) (last_words (length palette) C h) b made_now.ids) box made_now.ids_packed);
          kinds = subst (λ rs. Packs (kind_at palette) (last_words (length palette) C h) (area s') rs) kinds
              (subst (λ b. Packs (kind_at palette) (last_words (length palette) C h) b made_now.kinds) box made_now.kinds_packed);
        }

    pack_refused : is_ok r ≡ false → Stands palette C R (call.Pack ∷ h) s'
    unfolding after made_now made_of
    pack_refused no' =
        subst (λ x. Stands palette C R (call.Pack ∷ h) x) (sym (done.refused no'))
        (record {
          cells_fit = st.cells_fit;
          runs_fit = st.runs_fit;
          words_are = st.words_are;
          kept_is = st.kept_is;
          latest = st.latest;
          is_latest = (made_now, when_no _ _ _ (sym answered ∙ no') st.is_latest);
          bounds = st.bounds;
          ids = st.ids;
          kinds = st.kinds;
        })

  pub pack_stands : (h : List Call) (s s' : Sheet) (a : Answer) → Stands palette C R h s → Applied palette s call.Pack a s' → Stands palette C R (call.Pack ∷ h) s'
  pack_stands h s s' (answer.Put r) st done = absurd done
  pack_stands h s s' (answer.Clear r) st done = absurd done
  pack_stands h s s' (answer.Pack r) st done = ⊎_elim (pack_accepted h s s' r st done) (pack_refused h s s' r st done) (cases_Bool (is_ok r))

  pub applied_stands : (h : List Call) (s s' : Sheet) (next : Call) (a : Answer) → Stands palette C R h s → Applied palette s next a s' → Stands palette C R (next ∷ h) s'
  applied_stands h s s' (call.Put row column id) a st done = put_stands h s s' row column id a st done
  applied_stands h s s' (call.Clear row column) a st done = clear_stands h s s' row column a st done
  applied_stands h s s' call.Pack a st done = pack_stands h s s' a st done

no_runs : {M : Type 0} (m : RunMemory M) → m.used ≡ 0 → held m ≡ []
no_runs m e = ap (λ k. runs_of (take k (vec_items m.marks)) (take k (vec_items m.ends))) e

-- a new sheet stands for no calls
pub made_stands : {S : Type 0} (palette : List (Xf S)) (m : SheetMemory) (s : Sheet) → Made m s → Stands palette (memory_cell_room m) (memory_run_room m) [] s
unfolding after
made_stands palette m s made =
    let none : None ≡ area s = ap (option_map extent) (sym made.no_box) in
    record {
      cells_fit = made.room_is;
      runs_fit =
          ap₂ min (ap₂ min (ap vec_len made.ids_are) (ap vec_len made.id_ends_are)) (ap₂ min (ap vec_len made.kinds_are) (ap vec_len made.kind_ends_are));
      words_are = same_words (words s) (λ r c. None) made.no_words;
      kept_is = made.none_kept;
      latest = None;
      is_latest = refl;
      bounds = subst (λ b. Bounds (λ r c. None) b) none (λ r c. refl);
      ids = subst (λ b. Packs (λ id. id) (λ r c. None) b (id_runs s)) none (no_runs s.ids made.no_ids);
      kinds = subst (λ b. Packs (kind_at palette) (λ r c. None) b (kind_runs s)) none (no_runs s.kinds made.no_kinds);
    }

-- one call more of a list, in the history
pub history_more : (calls h : List Call) (i : ℕ) (d : Call) → i < length calls → get_or calls i d ∷ (reverse (take i calls) ++ h) ≡ reverse (take (i + 1) calls) ++ h
history_more calls h i d within =
    sym (ap (λ xs. reverse xs ++ h) (take_more calls i d within) ∙ ap (λ xs. xs ++ h) (reverse-append (take i calls) (get_or calls i d ∷ [])))

pub history_all : (calls h : List Call) (i : ℕ) → length calls ≤ i → reverse (take i calls) ++ h ≡ reverse calls ++ h
history_all calls h i past = ap (λ xs. reverse xs ++ h) (take_all i calls past)
