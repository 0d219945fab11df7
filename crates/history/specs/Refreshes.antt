-- Index stores in a history (document 02, change 2): "An index store that was not new when this table first took it since its
-- latest opening, or that another has written since, joins the unsound stores". All others are sound whenever they are lent, and a
-- refresh over them has the effect of the plain table's refresh. Assumes nothing.
use Rattle.refresh_spec.specs.declared.Refreshed.{Refreshed}
use Rattle.refusals.specs.declared.Refusal.{Refusal}
use Rattle.std.specs.Prelude.{ℕ, ◌<◌, ◌≡◌, true, List, [], ◌∷◌, ◌++◌, map, length, Result}
use Rattle.lists.specs.Lists.{splice, filter, flatten}
use Rattle.refusals.specs.Refusals.{reply, answer_view}
use Rattle.plain_table.specs.Staged.{Opening}
use Rattle.plain_table.specs.Plain.{Plain, live_rows, opened}
use Rattle.plain_table.specs.Refreshing.{Refresh, mentions}
use Rattle.plain_table.specs.Calls.{refreshing, records_of, refusal, LentCall, after_all}
use Rattle.table.specs.Stores.{record_words}
use Rattle.table.specs.Outcomes.{Stores, Body, CompactionWords, compaction_words, lengths_lent}
use Rattle.refresh_spec.specs.Index.{is_new, looked_up, IndexSound, Current}
use Rattle.refresh_spec.specs.Refreshes.{answered, Refreshing}
use Rattle.history.specs.Histories.{lent_call, refreshed_stores, behind, Step, History}

-- A history, the stores after it, and an index store that was new when the table took it. Other calls leave the index store
-- unchanged, also refreshes over other index stores. A refresh over it may be lent any first part of it, as of the row and pending
-- stores.
pub data OwnIndex (o : Opening) (generation : ℕ) : List LentCall → Stores → List ℕ → Type 0 where
  adopted : {calls : List LentCall} {s : Stores} (index : List ℕ) → History o generation calls s → is_new index ≡ true → OwnIndex o generation calls s index
  other_call : {calls : List LentCall} {t u : Stores} {index : List ℕ} {c : LentCall} → OwnIndex o generation calls t index → Step t c u
      → OwnIndex o generation (calls ++ (c ∷ [])) u index
  refreshes : {calls : List LentCall} (t : Stores) (rest : Body) (pending lent more : List ℕ) (w : CompactionWords) (r : Refresh) (answer : Result Refreshed Refusal) (pending' lent' : List ℕ)
      → OwnIndex o generation calls (behind t rest pending) (lent ++ more) → Refreshing t.header t.rows t.pending lent r answer pending' lent'
      → OwnIndex o generation (calls ++ (lent_call (refreshing r (length lent)) t w ∷ [])) (behind (refreshed_stores t answer pending') rest pending) (lent' ++ more)

-- the numbers, rising, of the live rows that hold a value in one of these columns
abbrev pub holding : Plain → List ℕ → ℕ → List ℕ
holding p columns value = map (λ row. row.number) (filter (λ row. mentions columns (value ∷ []) row.cells) (live_rows p))

-- The effect of a refresh over such a store, on a table that represents the plain table p: "the plain table stages these records of
-- its own rows", or refuses with the same number.
module _ (p : Plain) (t : Stores) (r : Refresh) (lent : List ℕ) where
  abbrev pub own_refusal : ℕ
  own_refusal = refusal p (lengths_lent t (compaction_words [] [])) (refreshing r (length lent))

  pub record RefreshesOwn (answer : Result Refreshed Refusal) (pending' lent' : List ℕ) : Type 0 where
    pub answers : answer_view answer ≡ reply own_refusal (answered t.header (records_of p r))
    pub unchanged : 0 < own_refusal → (pending' ≡ t.pending) × (lent' ≡ lent)
    pub staged : own_refusal ≡ 0 → pending' ≡ splice t.pending t.header.pending (flatten (map (record_words t.header.keys) (records_of p r)))
    -- it leaves "such an index of the version last seen", in which a lookup finds the rows that hold a value
    pub current : own_refusal ≡ 0 → Current t.header t.rows r.columns lent'
    pub looked_up_rows : own_refusal ≡ 0 → (value : ℕ) → looked_up t.header t.rows lent' value ≡ holding p r.columns value

-- what holds for every such store
pub record OwnIndexesSound : Type 0 where
  -- It is sound, whatever part of the stores is lent and whichever columns are named. So the calls are those of a history.
  pub sound : (o : Opening) (generation : ℕ) (calls : List LentCall) (t : Stores) (rest : Body) (pending lent more columns : List ℕ)
      → OwnIndex o generation calls (behind t rest pending) (lent ++ more) → IndexSound t.header t.rows columns lent
  pub history : (o : Opening) (generation : ℕ) (calls : List LentCall) (s : Stores) (index : List ℕ)
      → OwnIndex o generation calls s index → History o generation calls s
  pub refreshed : (o : Opening) (generation : ℕ) (calls : List LentCall) (t : Stores) (rest : Body) (pending lent more : List ℕ)
      (r : Refresh) (answer : Result Refreshed Refusal) (pending' lent' : List ℕ)
      → OwnIndex o generation calls (behind t rest pending) (lent ++ more) → Refreshing t.header t.rows t.pending lent r answer pending' lent'
      → RefreshesOwn (after_all (opened o generation) calls) t r lent answer pending' lent'
