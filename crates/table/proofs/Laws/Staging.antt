-- Staged records: stores that show a plain table show it with new records staged, too. Assumes nothing.
use Rattle.table.proofs.Laws.Prelude.{ℕ, ◌+◌, ◌≤◌, ◌≡◌, sym, ap, ◌∙◌, false, List, [], ◌∷◌, map, append-nil, add-zero, arith, ltb, length, ltb-false, or_no_left, first_refusal_no, first_refusal_rest, Whole, stage_all_proper, Header, opening_of, Stores, stores, Represents, with_pending}
use Rattle.lists.specs.Lists.{splice, all, flatten}
use Rattle.plain_table.specs.Staged.{Staged, words_of, words_all}
use Rattle.plain_table.specs.Calls.{stage_all}
use Rattle.plain_table.specs.Plain.{Plain, dead, stage}
use Rattle.plain_table.specs.Refusing.{wrong_width, no_such_row, stores_short, stage_checks, overfull}
use Rattle.table.specs.Refusing.{pending_outside, stage_refusal}
use Rattle.table.specs.Stores.{entries, header_of, record_words}
use Rattle.table.proofs.Laws.Pending.{words_all_append, holds_more}

-- the tests of *Stage* pass
pub record Stageable (h : Header) (pending : ℕ) (r : Staged) : Type 0 where
  pub inside : pending_outside h pending ≡ false
  pub right_width : wrong_width (opening_of h) r ≡ false
  pub row_there : no_such_row h.rows r ≡ false
  pub free : h.pending + words_of (opening_of h) r ≤ pending

-- an accepted record passes the tests
pub stage_accepted : (h : Header) (pending : ℕ) (r : Staged) → stage_refusal h pending r ≡ 0 → Stageable h pending r
unfolding stage_refusal stage_checks overfull
stage_accepted h pending r e =
    let b = first_refusal_rest _ 0 _ e in
    let c = first_refusal_rest _ 2 _ b in
    let d = first_refusal_rest _ 4 _ c in
    record {
      inside = first_refusal_no _ 0 _ e;
      right_width = first_refusal_no _ 2 _ b;
      row_there = first_refusal_no _ 4 _ c;
      free = ltb-false _ _ (or_no_left (ltb pending (h.pending + words_of (opening_of h) r)) _ (first_refusal_no _ 6 _ d));
    }

-- the header after more records are staged
header_more : (p : Plain) (rs : List Staged) → with_pending (header_of p) (words_all p.opening p.staged + words_all p.opening rs) ≡ header_of (stage_all p rs)
unfolding stage_all dead entries
header_more p rs = ap (with_pending (header_of p)) (sym (words_all_append p.opening p.staged rs))

-- after whole records are written behind the others, the stores show the plain table with these records staged
pub records_represent : {p : Plain} {s : Stores} (rs : List Staged) (pending' : List ℕ) → Represents p s → Whole p.opening rs
    → s.header.pending + words_all (opening_of s.header) rs ≤ length s.pending
    → pending' ≡ splice s.pending s.header.pending (flatten (map (record_words s.header.keys) rs))
    → Represents (stage_all p rs) (stores (with_pending s.header (s.header.pending + words_all (opening_of s.header) rs)) s.rows s.keys s.sorts pending')
unfolding stage_all stores_short
records_represent {p} {s} rs pending' t whole free w =
    let fits : words_all p.opening p.staged + words_all p.opening rs ≤ length s.pending = rw t.shown.header at free in
    record {
      proper = stage_all_proper rs t.proper whole;
      long_enough = t.long_enough;
      shown =
          record {
            header = rw t.shown.header (header_more p rs);
            rows_shown = t.shown.rows_shown;
            entries_shown = unfold entries in t.shown.entries_shown;
            pending_held = rw (w, t.shown.header) (holds_more rs t.shown.pending_held whole fits);
          };
      keys_sound = t.keys_sound;
    }

-- an accepted record
pub staging_represents : {p : Plain} {s : Stores} (r : Staged) (pending' : List ℕ) → Represents p s → stage_refusal s.header (length s.pending) r ≡ 0
    → pending' ≡ splice s.pending s.header.pending (record_words s.header.keys r)
    → Represents (stage p r) (stores (with_pending s.header (s.header.pending + words_of (opening_of s.header) r)) s.rows s.keys s.sorts pending')
unfolding stage stage_all words_all all flatten
staging_represents {p} {s} r pending' t e w =
    let a = stage_accepted s.header (length s.pending) r e in
    let width : wrong_width p.opening r ≡ false = rw t.shown.header at a.right_width in
    rw (add-zero (words_of (opening_of s.header) r)) at
    (records_represent (r ∷ []) pending' t (rw width) (omega (arith, a.free)) (w ∙ ap (splice s.pending s.header.pending) (sym (append-nil (record_words s.header.keys r)))))
