-- An opening and a clear: afterwards the stores show the empty plain table, or the same table without staged records. Assumes
-- nothing.
use Rattle.refusals.specs.Laws.Numbers.{err_replies, err_outcome, number_some}
use Rattle.refusals.specs.declared.Refusal.{Refusal}
use Rattle.std.specs.Prelude.{Ok, Err, None}
use Rattle.table.proofs.Laws.Prelude.{ℕ, ◌+◌, ◌*◌, ◌≤◌, ◌<◌, ◌≡◌, refl, sym, ap, ap₂, ◌∙◌, ⊎_elim, true, false, List, [], ℕ_discrete, arith, length, length-replicate, lt-ltb, le-ltb, not-false, length_splice, some_number, zeros, EmptyIs, size_class_for, emptied, empty_sound, size_class_most, past_size_class, first_refusal_no, first_refusal_rest, opened_proper, unstaged_proper, Header, clear_refusal, Stores, stores, lengths, Represents, Opened, with_pending, Clearing, body}
use Rattle.lists.specs.Lists.{all, count, rows_of, flatten}
use Rattle.refusals.specs.Refusals.{accepted, reply, outcome, number}
use Rattle.sort_entries.specs.Entries.{entries_of, rebuilt_from, rebuilt}
use Rattle.plain_table.specs.Staged.{Opening, openable, words_all}
use Rattle.plain_table.specs.Plain.{Plain, dead, opened, unstaged, cleared}
use Rattle.plain_table.specs.Refusing.{stores_short, open_refusal}
use Rattle.refusals.specs.Refusals.{answer_view}
use Rattle.table.specs.Numbers.{opening_of, largest_of}
use Rattle.table.specs.Stores.{entries, header_of, stored}
use Rattle.table.proofs.Laws.Shown.{stores_long, long_stores, rows_counted}
use Rattle.table.proofs.Laws.Refusals.{clear_accepted}

-- ---- an empty table

-- the header of an empty table
abbrev pub empty_header : Opening → ℕ → Header
empty_header o generation =
    record {
      columns = o.columns;
      keys = o.keys;
      sort = o.sort;
      rule = o.rule;
      capacity = o.capacity;
      rows = 0;
      dead = 0;
      entries = 0;
      pending = 0;
      generation = generation;
      largest = None;
    }

pub header_opened : (o : Opening) (generation : ℕ) → empty_header o generation ≡ header_of (opened o generation)
unfolding opened dead count entries rebuilt rebuilt_from words_all largest_of
header_opened o generation = refl

-- the length of the key store does not change when slots are freed
pub empty_length : (room : ℕ) (keys keys' : List ℕ) → 2 * room ≤ length keys → EmptyIs room keys keys' → length keys' ≡ length keys
empty_length room keys keys' long e =
    let r : length (zeros (2 * room)) ≡ 2 * room = length-replicate (2 * room) 0 in
    ap length e.free ∙ length_splice keys (zeros (2 * room)) 0 (omega arith)

module _ (o : Opening) (generation : ℕ) (rows keys keys' sorts pending : List ℕ) where
  -- if the slots are free, the stores show an empty table
  pub empty_represents : openable o ≡ true → generation ≤ 4294967295 → stores_short o (lengths rows keys sorts pending [] []) ≡ false
      → EmptyIs (size_class_for o.capacity 0) keys keys' → Represents (opened o generation) (stores (header_of (opened o generation)) rows keys' sorts pending)
  unfolding opened entries rebuilt rebuilt_from entries_of stored rows_of all words_all flatten
  empty_represents bounds fits long e =
      let l = stores_long o (lengths rows keys sorts pending [] []) long in
      let room = size_class_for o.capacity 0 in
      let long : 2 * room ≤ length keys = omega (arith, size_class_most o.capacity 0, l.keys_long) in
      let n = empty_length room keys keys' long e in
      record {
        proper = opened_proper o generation bounds fits;
        long_enough = long_stores o (lengths rows keys' sorts pending [] []) (record { rows_long = l.rows_long; keys_long = omega (arith, l.keys_long); sorts_long = l.sorts_long });
        shown = record { header = refl; rows_shown = λ i k. absurd (omega arith); entries_shown = refl; pending_held = record { whole = refl; in_order = refl } };
        keys_sound = empty_sound _ rows keys' (λ i live. absurd (omega (arith, live.0))) (emptied room keys keys' long e);
      }

-- ---- *Open*

module _ (o : Opening) (generation : ℕ) (rows keys sorts pending : List ℕ) where
  -- a refused opening
  pub opened_refused : (r : Refusal) → number r ≡ open_refusal o (lengths rows keys sorts pending [] []) → Opened o generation (body rows keys sorts) pending (Err r) keys
  opened_refused r e =
      record {
        answers = err_replies r _ e;
        unchanged = λ k. refl;
        past = refl;
        represents = λ z. absurd (number_some r (e ∙ z));
      }

  -- an accepted opening
  pub opened_done : (keys' : List ℕ) → open_refusal o (lengths rows keys sorts pending [] []) ≡ 0 → generation ≤ 4294967295 → EmptyIs (size_class_for o.capacity 0) keys keys'
      → Opened o generation (body rows keys sorts) pending (Ok (empty_header o generation)) keys'
  unfolding answer_view reply open_refusal
  opened_done keys' e fits free =
      record {
        answers = rw e (ap accepted (header_opened o generation));
        unchanged = λ k. absurd (omega arith);
        past = past_size_class o.capacity 0 keys keys' free.tail;
        represents = λ z. empty_represents o generation rows keys keys' sorts pending (not-false _ (first_refusal_no _ 0 _ e)) fits (first_refusal_no _ 1 _ (first_refusal_rest _ 0 _ e)) free;
      }

-- ---- *Clear*

-- with rows, the result is an empty table of the next generation; without rows, the table with nothing staged
cleared_some : (p : Plain) → 0 < length p.rows → cleared p ≡ opened p.opening (p.generation + 1)
unfolding cleared
cleared_some p h = rw (lt-ltb 0 (length p.rows) h)

cleared_none : (p : Plain) → length p.rows ≡ 0 → cleared p ≡ unstaged p
unfolding cleared
cleared_none p e = rw (le-ltb 0 (length p.rows) (omega arith))

-- in both cases no row is left, and the opening's numbers do not change
pub cleared_rows : (p : Plain) → length (cleared p).rows ≡ 0
unfolding opened unstaged
cleared_rows p = ⊎_elim (λ e. rw (cleared_none p e) e) (λ h. rw (cleared_some p h)) (some_number (length p.rows))

pub cleared_opening : (p : Plain) → (cleared p).opening ≡ p.opening
unfolding opened unstaged
cleared_opening p = ⊎_elim (λ e. rw (cleared_none p e)) (λ h. rw (cleared_some p h)) (some_number (length p.rows))

-- the header of a table with nothing staged
header_unstaged : (p : Plain) → with_pending (header_of p) 0 ≡ header_of (unstaged p)
unfolding unstaged dead entries words_all
header_unstaged p = refl

pub unstaged_represents : {p : Plain} {s : Stores} → Represents p s → Represents (unstaged p) (stores (with_pending s.header 0) s.rows s.keys s.sorts s.pending)
unfolding unstaged entries all words_all flatten
unstaged_represents {p} {s} t =
    record {
      proper = unstaged_proper t.proper;
      long_enough = t.long_enough;
      shown =
          record {
            header = ap (λ (h : Header). with_pending h 0) t.shown.header ∙ header_unstaged p;
            rows_shown = t.shown.rows_shown;
            entries_shown = t.shown.entries_shown;
            pending_held = record { whole = refl; in_order = refl };
          };
      keys_sound = t.keys_sound;
    }

-- if only a table without rows may have the last generation, a table with rows has a next one
pub next_fits : (generation rows : ℕ) → generation ≤ 4294967295 → (generation ≡ 4294967295 → rows ≡ 0) → 0 < rows → generation + 1 ≤ 4294967295
next_fits generation rows fits last some = elim (ℕ_discrete generation 4294967295) [ yes e ↦ absurd (omega (arith, last e)) | no ne ↦ omega arith ]

module _ (h : Header) (keys : List ℕ) where
  -- a refused clear
  pub clear_refused : (r : Refusal) → number r ≡ clear_refusal h (length keys) → Clearing h keys (Err r) keys
  clear_refused r e =
      record {
        refusal = err_outcome _ r e;
        unchanged = λ k. refl;
        past = refl;
        table = λ z. absurd (number_some r (e ∙ z));
      }

  -- a clear of a table without rows
  pub clear_pending : clear_refusal h (length keys) ≡ 0 → h.rows ≡ 0 → Clearing h keys (Ok (with_pending h 0)) keys
  unfolding answer_view outcome reply
  clear_pending e none =
      record {
        refusal = rw e;
        unchanged = λ k. refl;
        past = refl;
        table = λ z rows sorts pending p t.
            let q : cleared p ≡ unstaged p = cleared_none p (sym (rows_counted t) ∙ none) in
            let u = unstaged_represents t in
            record { answers = rw q (ap accepted u.shown.header); represents = rw (q, ← u.shown.header) u };
      }

  -- a clear of a table with rows
  pub clear_all : (keys' : List ℕ) → clear_refusal h (length keys) ≡ 0 → 0 < h.rows → EmptyIs (size_class_for h.capacity 0) keys keys'
      → Clearing h keys (Ok (empty_header (opening_of h) (h.generation + 1))) keys'
  unfolding answer_view outcome reply
  clear_all keys' e some free =
      let a = clear_accepted h (length keys) e in
      record {
        refusal = rw e;
        unchanged = λ k. absurd (omega arith);
        past = past_size_class h.capacity 0 keys keys' free.tail;
        table = λ z rows sorts pending p t.
            let q : cleared p ≡ opened p.opening (p.generation + 1) = cleared_some p (omega (arith, rows_counted t)) in
            let g : h.generation ≡ p.generation = ap (λ (x : Header). x.generation) t.shown.header in
            let o : opening_of h ≡ p.opening = ap opening_of t.shown.header in
            let k : h.capacity ≡ p.opening.capacity = ap (λ (x : Header). x.capacity) t.shown.header in
            let fits : p.generation + 1 ≤ 4294967295 = next_fits p.generation h.rows t.proper.generation_fits (rw g at a.last_empty) some in
            record {
              answers = rw q (ap₂ (λ (x : Opening) (n : ℕ). accepted (empty_header x (n + 1))) o g ∙ ap accepted (header_opened p.opening (p.generation + 1)));
              represents = rw q (empty_represents p.opening (p.generation + 1) rows keys keys' sorts pending t.proper.numbers fits t.long_enough (rw k at free));
            };
      }
