-- Every call keeps a sound table sound: "Opening makes a sound table and every operation keeps one sound". There is a law for each
-- call, from its contract alone, for accepted, refused and stopped calls. Before them come laws about the plain table after each
-- call. Assumes nothing.
use Rattle.sort_entries.specs.declared.Range.{Range}
use Rattle.refusals.specs.declared.Refusal.{Refusal}
use Rattle.std.specs.Prelude.{Result, Option as Optional}
use Rattle.table.proofs.Laws.Prelude.{ℕ, ◌≤◌, ◌<◌, ◌≡◌, sym, ap, ◌∙◌, ⊎_elim, Option·map, List, [], length, get_or, Reply, refused, accepted, some_number, ruled_refused, Constraint, Opening, Staged, Plain, lookup, opened, stage, merged, compacted, cleared, open_refusal, Header, Merge, range_view, stage_refusal, merge_refusal, compact_refusal, clear_refusal, lookup_refusal, cell_refusal, fast_refusal, header_of, Sound}
use Rattle.table.specs.Outcomes.{Stores, stores, lengths, Represents, Opened, Staging, Merging, Compacting, Clearing, of_rows, LookedUp, CellRead, fast_subset, RangeRead, Body, body, body_of, joined, CompactionWords, lengths_lent}
use Rattle.table.proofs.Laws.Replies.{reply_refused, reply_accepted, accepted_number, accepted_same}
use Rattle.table.proofs.Laws.Staging.{staging_represents}
use Rattle.table.proofs.Laws.Sound.{represents_sound, sound_represents}
use Rattle.refusals.specs.Refusals.{if_accepted, answer_view, found_view}

-- ---- the plain table that the stores show after each call

-- the header after a refused call, and after an accepted one
pub after_refused : (h : Header) (r : Reply Header) (n : ℕ) → r ≡ refused n → if_accepted r (λ h. h) h ≡ h
unfolding if_accepted
after_refused h r n e = rw e

pub after_accepted : (h : Header) (r : Reply Header) (h' : Header) → r ≡ accepted h' → if_accepted r (λ h. h) h ≡ h'
unfolding if_accepted
after_accepted h r h' e = rw e

merged_refused : (h : Header) (r : Reply Merge) (n : ℕ) → r ≡ refused n → if_accepted r (λ m. m.header) h ≡ h
unfolding if_accepted
merged_refused h r n e = rw e

merged_accepted : (h : Header) (r : Reply Merge) (m : Merge) → r ≡ accepted m → if_accepted r (λ m. m.header) h ≡ m.header
unfolding if_accepted
merged_accepted h r m e = rw e

-- *Open*
pub opening_done : {o : Opening} {generation : ℕ} {b : Body} {pending keys' : List ℕ} {answer : Result Header Refusal} → Opened o generation b pending answer keys'
    → (h : Header) → answer_view answer ≡ accepted h → Represents (opened o generation) (stores h b.rows keys' b.sorts pending)
opening_done {o} {generation} m h e =
    let a = sym e ∙ m.answers in
    rw (← accepted_same _ h (header_of (opened o generation)) a) at (m.represents (accepted_number _ h (header_of (opened o generation)) a))

-- *Stage*
module _ {h : Header} {rows keys sorts pending pending' : List ℕ} {q : Staged} {answer : Result Header Refusal} (m : Staging h pending q answer pending') where
  pub staging_done : {p : Plain} → stage_refusal h (length pending) q ≡ 0 → Represents p (stores h rows keys sorts pending)
      → Represents (stage p q) (stores (if_accepted (answer_view answer) (λ h. h) h) rows keys sorts pending')
  staging_done e r =
      rw (after_accepted h (answer_view answer) _ (m.answers ∙ reply_accepted (stage_refusal h (length pending) q) _ e)) (staging_represents q pending' r e (m.written e))

  pub staging_refused : 0 < stage_refusal h (length pending) q → stores (if_accepted (answer_view answer) (λ h. h) h) rows keys sorts pending' ≡ stores h rows keys sorts pending
  staging_refused some =
      rw (after_refused h (answer_view answer) (stage_refusal h (length pending) q) (m.answers ∙ reply_refused (stage_refusal h (length pending) q) _ some), m.unchanged some)

-- *Merge*, stopped or not
module _ {s : Stores} {w w' : CompactionWords} {b' : Body} {answer : Result Merge Refusal} (m : Merging s w answer b' w') where
  pub merging_done : {p : Plain} → merge_refusal s.header (lengths_lent s w) ≡ 0 → Represents p s
      → Represents (merged p).table (joined (if_accepted (answer_view answer) (λ m. m.header) s.header) b' s.pending)
  merging_done {p} e r = let t = m.table e p r in rw (merged_accepted s.header (answer_view answer) _ t.answers) t.represents

  pub merging_refused : 0 < merge_refusal s.header (lengths_lent s w) → joined (if_accepted (answer_view answer) (λ m. m.header) s.header) b' s.pending ≡ s
  merging_refused some =
      rw (merged_refused s.header (answer_view answer) _ (ruled_refused (answer_view answer) _ m.refusal some), (m.unchanged some).0)

-- *Compact*
module _ {h : Header} {b b' : Body} {w w' : CompactionWords} {pending : List ℕ} {answer : Result Header Refusal} (m : Compacting h b w answer b' w') where
  pub compacting_done : {p : Plain} → compact_refusal h (lengths_lent (joined h b []) w) ≡ 0 → Represents p (joined h b pending)
      → Represents (compacted p) (joined (if_accepted (answer_view answer) (λ h. h) h) b' pending)
  compacting_done {p} e r = let t = m.table e pending p r in rw (after_accepted h (answer_view answer) _ t.answers) t.represents

  pub compacting_refused : 0 < compact_refusal h (lengths_lent (joined h b []) w) → joined (if_accepted (answer_view answer) (λ h. h) h) b' pending ≡ joined h b pending
  compacting_refused some =
      rw (after_refused h (answer_view answer) _ (ruled_refused (answer_view answer) _ m.refusal some), (m.unchanged some).0)

-- *Clear*
module _ {h : Header} {rows keys keys' sorts pending : List ℕ} {answer : Result Header Refusal} (m : Clearing h keys answer keys') where
  pub clearing_done : {p : Plain} → clear_refusal h (length keys) ≡ 0 → Represents p (stores h rows keys sorts pending)
      → Represents (cleared p) (stores (if_accepted (answer_view answer) (λ h. h) h) rows keys' sorts pending)
  clearing_done {p} e r = let t = m.table e rows sorts pending p r in rw (after_accepted h (answer_view answer) _ t.answers) t.represents

  pub clearing_refused : 0 < clear_refusal h (length keys) → stores (if_accepted (answer_view answer) (λ h. h) h) rows keys' sorts pending ≡ stores h rows keys sorts pending
  clearing_refused some =
      rw (after_refused h (answer_view answer) _ (ruled_refused (answer_view answer) _ m.refusal some), m.unchanged some)

-- ---- a sound table stays sound

-- sound, with some staged records; the generation is a u32, like every number of a header
pub record SoundTable (s : Stores) : Type 0 where
  pub staged : List Staged
  pub sound : Sound s.header s.rows s.keys s.sorts s.pending staged
  pub generation_fits : s.header.generation ≤ 4294967295

-- stores are sound exactly if they represent a plain table
pub represented_sound_table : {p : Plain} {s : Stores} → Represents p s → SoundTable s
represented_sound_table {p} r =
    record {
      staged = p.staged;
      sound = represents_sound r;
      generation_fits = rw (ap (λ (h : Header). h.generation) r.shown.header) r.proper.generation_fits;
    }

pub shows_plain : {s : Stores} → SoundTable s → (p : Plain) × Represents p s
shows_plain t = let r = sound_represents t.sound t.generation_fits in (r.0, r.1)

-- a call is refused and changes nothing, or it is accepted
kept : {s s' : Stores} (n : ℕ) → (0 < n → s' ≡ s) → (n ≡ 0 → (p : Plain) → Represents p s → SoundTable s') → SoundTable s → SoundTable s'
kept n same done t =
    ⊎_elim (λ none. let p = shows_plain t in done none p.0 p.1) (λ some. rw (same some) t) (some_number n)

-- *Open* makes a sound table, whatever the stores held; a refused one leaves them unchanged
pub opening_makes : {o : Opening} {generation : ℕ} {b : Body} {pending keys' : List ℕ} {answer : Result Header Refusal} → Opened o generation b pending answer keys'
    → (h : Header) → answer_view answer ≡ accepted h → SoundTable (stores h b.rows keys' b.sorts pending)
opening_makes m h e = represented_sound_table (opening_done m h e)

pub opening_keeps : {o : Opening} {generation : ℕ} {b : Body} {pending keys' : List ℕ} {answer : Result Header Refusal} → Opened o generation b pending answer keys'
    → (h : Header) → SoundTable (joined h b pending) → SoundTable (stores (if_accepted (answer_view answer) (λ h. h) h) b.rows keys' b.sorts pending)
opening_keeps {o} {generation} {b} {pending} {keys'} {answer} m h t =
    let n : ℕ = open_refusal o (lengths b.rows b.keys b.sorts pending [] []) in
    kept n
    (λ some. rw (after_refused h (answer_view answer) n (m.answers ∙ reply_refused n _ some), m.unchanged some))
    (λ none p r. rw (after_accepted h (answer_view answer) _ (m.answers ∙ reply_accepted n _ none)) (represented_sound_table (m.represents none)))
    t

-- *Stage insert, removal by key, removal by row*
pub staging_keeps : {s : Stores} {q : Staged} {answer : Result Header Refusal} {pending' : List ℕ} → Staging s.header s.pending q answer pending'
    → SoundTable s → SoundTable (joined (if_accepted (answer_view answer) (λ h. h) s.header) (body_of s) pending')
staging_keeps {s} {q} m =
    kept (stage_refusal s.header (length s.pending) q) (λ some. staging_refused m some) (λ none p r. represented_sound_table (staging_done m none r))

-- *Merge*, stopped or not
pub merging_keeps : {s : Stores} {w w' : CompactionWords} {answer : Result Merge Refusal} {b' : Body} → Merging s w answer b' w'
    → SoundTable s → SoundTable (joined (if_accepted (answer_view answer) (λ m. m.header) s.header) b' s.pending)
merging_keeps {s} {w} m =
    kept (merge_refusal s.header (lengths_lent s w)) (λ some. merging_refused m some) (λ none p r. represented_sound_table (merging_done m none r))

-- *Compact*
pub compacting_keeps : {s : Stores} {w w' : CompactionWords} {answer : Result Header Refusal} {b' : Body} → Compacting s.header (body_of s) w answer b' w'
    → SoundTable s → SoundTable (joined (if_accepted (answer_view answer) (λ h. h) s.header) b' s.pending)
compacting_keeps {s} {w} m =
    kept (compact_refusal s.header (lengths_lent (joined s.header (body_of s) []) w)) (λ some. compacting_refused m some) (λ none p r. represented_sound_table (compacting_done m none r))

-- *Clear*
pub clearing_keeps : {s : Stores} {answer : Result Header Refusal} {keys' : List ℕ} → Clearing s.header s.keys answer keys'
    → SoundTable s → SoundTable (joined (if_accepted (answer_view answer) (λ h. h) s.header) (body s.rows keys' s.sorts) s.pending)
clearing_keeps {s} m =
    kept (clear_refusal s.header (length s.keys)) (λ some. clearing_refused m some) (λ none p r. represented_sound_table (clearing_done m none r))

-- ---- reads of a sound table

module _ {s : Stores} (t : SoundTable s) where
  -- *Key lookup, one cell*: in the rows as stored
  pub sound_looked_up : {key : List ℕ} {answer : Result (Optional ℕ) Refusal} → LookedUp s.header s.rows s.keys key answer
      → lookup_refusal s.header (length s.rows) (length s.keys) (length key) ≡ 0
      → found_view answer ≡ accepted (Option·map (λ row. row.number) (lookup (of_rows s.header s.rows) key))
  sound_looked_up m passed = m.table passed t.sound.keys_sound t.sound.contents.keys_differ

  pub sound_cell_read : {key : List ℕ} {column : ℕ} {answer : Result (Optional ℕ) Refusal} → CellRead s.header s.rows s.keys key column answer
      → cell_refusal s.header (length s.rows) (length s.keys) (length key) column ≡ 0
      → found_view answer ≡ accepted (Option·map (λ row. get_or row.cells column 0) (lookup (of_rows s.header s.rows) key))
  sound_cell_read m passed = m.table passed t.sound.keys_sound t.sound.contents.keys_differ

  -- *Fast range*
  pub sound_range_read : {c : Constraint} {answer : Result (Optional Range) Refusal} → RangeRead s.header s.sorts c answer
      → fast_refusal s.header (length s.sorts) c ≡ 0 → range_view answer ≡ accepted (fast_subset s.header s.sorts c)
  sound_range_read m passed = m.table passed t.sound.contents.entries_rise
