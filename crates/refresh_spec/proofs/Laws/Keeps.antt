-- The table after a refresh, from its contract alone. "The table stays sound whatever it holds", of the index store. Over a sound
-- index store the refresh stages what the plain table stages. Assumes nothing.
use Rattle.refresh_spec.specs.declared.Refreshed.{Refreshed}
use Rattle.refusals.specs.declared.Refusal.{Refusal}
use Rattle.std.specs.Prelude.{Result}
use Rattle.refresh_spec.proofs.Laws.Prelude.{ℕ, ◌+◌, ◌*◌, ◌≤◌, ◌<◌, ◌≡◌, sym, ◌∙◌, inl, inr, Bool, true, List, [], map, ltb, eqb, length, ltb-false, or_no_left, or_no_right, splice_nil, split, filter_all, all_of, all_filter_of, some_number, Staged, words_all, first_refusal_no, first_refusal_rest, Whole, openable_bounds, live_wide, refreshed_whole, Header, opening_of, record_words, Stores, stores, body_of, joined, Represents, of_rows, reply_refused, reply_accepted, header_inside, largest_view_largest_of, live_shown, records_represent, SoundTable, represented_sound_table, shows_plain}
use Rattle.lists.specs.Lists.{splice, flatten}
use Rattle.refusals.specs.Refusals.{refused, accepted, first_refusal, if_accepted, answer_view}
use Rattle.plain_table.specs.Plain.{Plain, live_rows}
use Rattle.plain_table.specs.Refusing.{Lengths, overfull}
use Rattle.plain_table.specs.Refreshing.{Refresh, mentions, mentioning, index_short, refresh_checks}
use Rattle.plain_table.specs.Calls.{refreshing, records_of, stage_all, refusal}
use Rattle.table.specs.Refusing.{outside, pending_outside}
use Rattle.refresh_spec.specs.Refreshes.{refresh_refusal, records_found, answered, Refreshing}

-- ---- its refusals

-- the tests of the stores pass
pub record Refreshable (h : Header) (rows pending index : ℕ) (r : Refresh) (records : List Staged) : Type 0 where
  pub pending_fits : h.pending ≤ pending
  pub rows_long : h.capacity * h.columns ≤ rows
  pub index_long : 16 + 3 * (h.capacity * length r.columns) ≤ index
  pub free : h.pending + words_all (opening_of h) records ≤ pending

refresh_accepted : (h : Header) (rows pending index : ℕ) (r : Refresh) (records : List Staged) → refresh_refusal h rows pending index r records ≡ 0 → Refreshable h rows pending index r records
unfolding refresh_refusal refresh_checks pending_outside index_short overfull
refresh_accepted h rows pending index r records e =
    let b = first_refusal_rest _ 0 _ e in
    let c = first_refusal_rest _ 5 _ (first_refusal_rest _ 11 _ (first_refusal_rest _ 1 _ b)) in
    let d = first_refusal_rest _ 8 _ (first_refusal_rest _ 1 _ c) in
    record {
      pending_fits = ltb-false _ _ (or_no_right (outside h) _ (first_refusal_no _ 0 _ e));
      rows_long = ltb-false _ _ (first_refusal_no _ 1 _ b);
      index_long = ltb-false _ _ (first_refusal_no _ 1 _ c);
      free = ltb-false _ _ (or_no_left (ltb pending (h.pending + words_all (opening_of h) records)) _ (first_refusal_no _ 6 _ d));
    }

-- the checks on a header give the same refusal as those on the plain table that it shows, if the records are the same whenever the
-- row store lent is long enough
pub refresh_refusal_same : {p : Plain} {s : Stores} → Represents p s → (l : Lengths) (index : ℕ) (q : Refresh) (records : List Staged)
    → (s.header.capacity * s.header.columns ≤ l.rows → records ≡ records_of p q)
    → refresh_refusal s.header l.rows l.pending index q records ≡ refusal p l (refreshing q index)
unfolding refresh_refusal refusal refresh_checks pending_outside first_refusal
refresh_refusal_same {p} {s} r l index q records same =
    elim (split (ltb l.rows (s.header.capacity * s.header.columns))) [
      | inl e ↦ let f = rw r.shown.header at e in rw (r.shown.header, header_inside r.proper, f)
      | inr e ↦ rw (same (ltb-false _ _ e), r.shown.header, header_inside r.proper, largest_view_largest_of p.largest)
    ]

-- ---- the records

module _ {p : Plain} {s : Stores} (r : Represents p s) (q : Refresh) where
  -- the live rows of the lent row store are the plain table's
  mentioning_shown : mentioning q (of_rows s.header s.rows) ≡ mentioning q p
  unfolding mentioning live_rows
  mentioning_shown = rw (live_shown r)

  -- if all rows are found, the records are the plain table's own
  pub records_all : (found : ℕ → Bool) → ((row : ℕ) → found row ≡ true) → records_found s.header s.rows q found ≡ records_of p q
  unfolding records_found
  records_all found all =
      rw (mentioning_shown, filter_all (λ row. found row.number) (mentioning q p) (all_of (λ row. found row.number) (record { number = 0; cells = [] }) (mentioning q p) (λ i h. all _)), r.shown.header)

  -- whichever rows are found, the records are whole
  pub records_whole : (found : ℕ → Bool) → Whole p.opening (records_found s.header s.rows q found)
  unfolding records_found
  records_whole found =
      let o = p.opening in
      rw (mentioning_shown, r.shown.header)
      (refreshed_whole o q.stamp _ (openable_bounds o r.proper.numbers).keys_few
      (all_filter_of (λ row. eqb (length row.cells) o.columns) (λ row. found row.number) (mentioning q p)
      (unfold mentioning live_rows in all_filter_of (λ row. eqb (length row.cells) o.columns) (λ row. mentions q.columns q.values row.cells) (live_rows p) (live_wide o 0 p.rows r.proper.widths))))

-- ---- its outcome

module _ {h : Header} {rows pending index pending' index' : List ℕ} {q : Refresh} {answer : Result Refreshed Refusal} (m : Refreshing h rows pending index q answer pending' index') where
  -- the records that it finds, and its refusal number
  abbrev pub found_records : List Staged
  found_records = records_found h rows q m.found

  abbrev pub number : ℕ
  number = refresh_refusal h (length rows) (length pending) (length index) q found_records

  pub view_accepted : number ≡ 0 → answer_view answer ≡ accepted (answered h found_records)
  view_accepted e = m.effect.answers ∙ reply_accepted number (answered h found_records) e

  pub view_refused : 0 < number → answer_view answer ≡ refused number
  view_refused some = m.effect.answers ∙ reply_refused number (answered h found_records) some

  pub passed : number ≡ 0 → Refreshable h (length rows) (length pending) (length index) q found_records
  passed e = refresh_accepted h (length rows) (length pending) (length index) q found_records e

  -- if accepted, it has staged the records that it found
  pub refreshing_done : {p : Plain} {keys sorts : List ℕ} → number ≡ 0 → Represents p (stores h rows keys sorts pending)
      → Represents (stage_all p found_records) (stores (if_accepted (answer_view answer) (λ a. a.header) h) rows keys sorts pending')
  unfolding if_accepted
  refreshing_done e r =
      rw (view_accepted e)
      (records_represent found_records pending' r (records_whole r q m.found) (passed e).free (m.effect.written e))

  pub refreshing_refused : {keys sorts : List ℕ} → 0 < number → stores (if_accepted (answer_view answer) (λ a. a.header) h) rows keys sorts pending' ≡ stores h rows keys sorts pending
  unfolding if_accepted
  refreshing_refused some = rw (view_refused some, m.effect.unchanged some)

  -- "it is fed the records that the call staged"
  pub fed_accepted : number ≡ 0 → if_accepted (answer_view answer) (λ a. found_records) [] ≡ found_records
  unfolding if_accepted
  fed_accepted e = rw (view_accepted e)

  pub fed_refused : 0 < number → if_accepted (answer_view answer) (λ a. found_records) [] ≡ []
  unfolding if_accepted
  fed_refused some = rw (view_refused some)

  -- these records are what was written
  pub fed_written : pending' ≡ splice pending h.pending (flatten (map (record_words h.keys) (if_accepted (answer_view answer) (λ a. found_records) [])))
  unfolding flatten
  fed_written =
      elim (some_number number) [
        | inl e ↦ rw (fed_accepted e) (m.effect.written e)
        | inr some ↦ rw (fed_refused some) (m.effect.unchanged some ∙ sym (splice_nil pending h.pending))
      ]

-- "the table stays sound whatever it holds"
pub refreshing_keeps : {s : Stores} {index pending' index' : List ℕ} {q : Refresh} {answer : Result Refreshed Refusal} → Refreshing s.header s.rows s.pending index q answer pending' index'
    → SoundTable s → SoundTable (joined (if_accepted (answer_view answer) (λ a. a.header) s.header) (body_of s) pending')
refreshing_keeps m t =
    elim (some_number (number m)) [
      | inl none ↦ represented_sound_table (refreshing_done m none (shows_plain t).1)
      | inr some ↦ rw (refreshing_refused m some) t
    ]
