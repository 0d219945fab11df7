-- The contract of a line that changes a table. Functions that borrow only some of the stores meet it for any content of the others.
-- Assumes nothing.
use Rattle.refusals.specs.declared.Refusal.TheVariants.{NoListing}
use Rattle.refusals.specs.declared.Refusal.{Refusal}
use Rattle.std.specs.Prelude.{ℕ, ◌-◌, ◌≤◌, ◌<◌, ◌≡◌, cond, List, length, take, drop, get_or, Result, Ok, Err}
use Rattle.std.proofs.Math.Path.{refl}
use Rattle.lists.specs.Laws.Parts.{part_to_end}
use Rattle.plain_table.specs.Staged.{insert, remove_key, remove_row, opening_in}
use Rattle.table.specs.declared.Header.{Header}
use Rattle.table.specs.declared.Merge.{Merge}
use Rattle.refusals.specs.Refusals.{answer_view, if_accepted}
use Rattle.table.specs.Outcomes.{Stores, stores, body, compaction_words, Opened, Staging, Merging, Compacting, Clearing}
use Rattle.levels_spec.specs.declared.Response.TheVariants.{Nothing, Refused, Merged}
use Rattle.levels_spec.specs.declared.Served.{Served}
use Rattle.levels_spec.specs.inner.Responses.{response_of, nothing_response, merge_response, ServedWith, Serving}
use Rattle.levels_spec.specs.Laws.Letters.{result_open, result_insert, result_by_key, result_by_row, result_merge, result_clear, result_compact}
use Rattle.levels_spec.specs.Laws.Results.{does_respond}
use Rattle.levels_spec.specs.Laws.Opening.{opening_responds, large_responds}
use Rattle.levels_spec.specs.Laws.Calls.{staging_does, clearing_does, compacting_does, merging_does}

-- borrows the pending store
pub record OnPending (letter : ℕ) (ns : List ℕ) (h : Header) (pending : List ℕ) (r : Served) (pending' : List ℕ) : Type 0 where
  pub serving : (rows keys sorts : List ℕ) → Serving letter ns (stores h rows keys sorts pending) (stores r.header rows keys sorts pending') r.response

-- borrows the key store; the line has no numbers
pub record OnKeys (letter : ℕ) (h : Header) (keys : List ℕ) (r : Served) (keys' : List ℕ) : Type 0 where
  pub serving : (ns rows sorts pending : List ℕ) → Serving letter ns (stores h rows keys sorts pending) (stores r.header rows keys' sorts pending) r.response

-- borrows all stores but the pending store
pub record OnBody (letter : ℕ) (h : Header) (rows keys sorts : List ℕ) (r : Served) (rows' keys' sorts' : List ℕ) : Type 0 where
  pub serving : (ns pending : List ℕ) → Serving letter ns (stores h rows keys sorts pending) (stores r.header rows' keys' sorts' pending) r.response

-- borrows all stores
pub record OnAll (letter : ℕ) (s s' : Stores) (r : Served) : Type 0 where
  pub serving : (ns : List ℕ) → Serving letter ns s s' r.response

-- ---- the response to an answer of the library

module _ (h : Header) (answer : Result Header Refusal) where
  pub served_refused : (refusal : Refusal) → answer ≡ Err refusal → ServedWith (if_accepted (answer_view answer) (λ h. h) h) (response_of nothing_response answer) (record { header = h; response = Refused refusal })
  unfolding if_accepted answer_view response_of
  served_refused refusal e = rw e (record { header_same = refl; response_same = refl })

  pub served_table : (after : Header) → answer ≡ Ok after → ServedWith (if_accepted (answer_view answer) (λ h. h) h) (response_of nothing_response answer) (record { header = after; response = Nothing })
  unfolding if_accepted answer_view response_of
  served_table after e = rw e (record { header_same = refl; response_same = refl })

module _ (h : Header) (answer : Result Merge Refusal) where
  pub merge_refused : (refusal : Refusal) → answer ≡ Err refusal → ServedWith (if_accepted (answer_view answer) (λ m. m.header) h) (response_of merge_response answer) (record { header = h; response = Refused refusal })
  unfolding if_accepted answer_view response_of
  merge_refused refusal e = rw e (record { header_same = refl; response_same = refl })

  pub merge_table : (m : Merge) (digit : ℕ) → answer ≡ Ok m → digit ≡ cond m.added 1 0
      → ServedWith (if_accepted (answer_view answer) (λ m. m.header) h) (response_of merge_response answer) (record { header = m.header; response = Merged m.status digit m.place })
  unfolding if_accepted answer_view response_of
  merge_table m digit e d = rw (e, d) (record { header_same = refl; response_same = refl })

-- ---- from the library's contracts to the contracts of lines

module _ {h : Header} {answer : Result Header Refusal} {r : Served} (k : ServedWith (if_accepted (answer_view answer) (λ h. h) h) (response_of nothing_response answer) r) where
  module _ {ns pending pending' : List ℕ} where
    pub insert_served : Staging h pending (insert ns) answer pending' → OnPending 73 ns h pending r pending'
    insert_served m = record { serving = λ rows keys sorts. record { answers = λ t held. rw (result_insert _ t ns refl) (does_respond (staging_does k rows keys sorts m) t held) } }

    pub by_key_served : Staging h pending (remove_key ns) answer pending' → OnPending 82 ns h pending r pending'
    by_key_served m = record { serving = λ rows keys sorts. record { answers = λ t held. rw (result_by_key _ t ns refl) (does_respond (staging_does k rows keys sorts m) t held) } }

  -- the cells of the key are all numbers after the row number
  pub by_row_served : {pending pending' : List ℕ} (ns : List ℕ) → Staging h pending (remove_row (get_or ns 0 0) (take (length ns - 1) (drop 1 ns))) answer pending'
      → OnPending 75 ns h pending r pending'
  by_row_served {pending} {pending'} ns m =
      let m' : Staging h pending (remove_row (get_or ns 0 0) (drop 1 ns)) answer pending' = rw (← part_to_end ns 1) m in
      record { serving = λ rows keys sorts. record { answers = λ t held. rw (result_by_row _ t ns refl) (does_respond (staging_does k rows keys sorts m') t held) } }

  pub clear_served : {keys keys' : List ℕ} → Clearing h keys answer keys' → OnKeys 67 h keys r keys'
  clear_served m = record { serving = λ ns rows sorts pending. record { answers = λ t held. rw (result_clear _ t ns refl) (does_respond (clearing_does k rows sorts pending m) t held) } }

  pub compact_served : {rows keys sorts rows' keys' sorts' live base live' base' : List ℕ} → length live ≡ 16 → length base ≡ 16
      → Compacting h (body rows keys sorts) (compaction_words live base) answer (body rows' keys' sorts') (compaction_words live' base')
      → OnBody 71 h rows keys sorts r rows' keys' sorts'
  compact_served a b m =
      record { serving = λ ns pending. record { answers = λ t held. rw (result_compact _ t ns refl) (does_respond (compacting_does k a b pending m) t held) } }

  pub open_served : {rows keys sorts pending keys' : List ℕ} (ns : List ℕ) → get_or ns 4 0 ≤ 1024 → Opened (opening_in ns) (get_or ns 5 0) (body rows keys sorts) pending answer keys'
      → Serving 79 ns (stores h rows keys sorts pending) (stores r.header rows keys' sorts pending) r.response
  open_served ns small m = record { answers = λ t held. rw (result_open _ t ns refl) (opening_responds small m k t held) }

-- a capacity above 1,024
pub large_served : (s : Stores) (ns : List ℕ) → 1024 < get_or ns 4 0 → Serving 79 ns s s (Refused NoListing)
large_served s ns large = record { answers = λ t held. rw (result_open _ t ns refl) (large_responds _ s (opening_in ns) (get_or ns 5 0) large t held) }

pub merge_served : {h : Header} {answer : Result Merge Refusal} {r : Served} {rows keys sorts pending rows' keys' sorts' live base live' base' : List ℕ}
    → ServedWith (if_accepted (answer_view answer) (λ m. m.header) h) (response_of merge_response answer) r → length live ≡ 16 → length base ≡ 16
    → Merging (stores h rows keys sorts pending) (compaction_words live base) answer (body rows' keys' sorts') (compaction_words live' base')
    → OnAll 77 (stores h rows keys sorts pending) (stores r.header rows' keys' sorts' pending) r
merge_served k a b m = record { serving = λ ns. record { answers = λ t held. rw (result_merge _ t ns refl) (does_respond (merging_does k a b m) t held) } }
