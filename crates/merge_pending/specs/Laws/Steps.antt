-- Laws of the steps of a merge: steps compose, where the pending records are and what their words are, and which removals of the
-- plain table the passes make. Assumes nothing.
use Rattle.std.specs.Prelude.{◌+◌, ◌*◌, ◌≤◌, ◌<◌, ◌≡◌, ◌∷◌, ◌++◌}
use Rattle.merge_pending.specs.Laws.Prelude.{ℕ, refl, sym, ap, ap₂, ◌∙◌, inl, inr, true, false, not, List, [], map, dec_lt, add-zero, zero-add, mul-le-mul_right, arith, length, take, drop, get_or, length-take, take_at, drop_at, take-take, drop-drop, get_or-take, get_or-drop, set-set, ext_get_or, not-true, split, all_head, all_tail, take_drop, splice_over, splice_front, widths, length_rows_of, get_d_rows_of, length_flatten, rows_of_put_flatten, flatten_rows_of, entry_words, length_words, words_entries_of, rebuilt_front, Plain, wrong_width, row_of, live_below_lem, Header, opening_of, Stores, Represents, length_stored, stored_widths, stored_at_live, stored_at_dead, stored_at_new, entries_few, rows_in_lem, wide_rows, represents_long, rows_stored, rows_counted, live_cells_lem, length_record_words, sort_cells, length_sort_cells, get_d_sort_cells}
use Rattle.lists.specs.Lists.{rows_of, flatten}
use Rattle.plain_table.specs.Staged.{Opening, Staged, insert, remove_key, remove_row, words_of, words_all}
use Rattle.table.specs.Stores.{entries, marked, stored, row_store, sort_store, record_words}
use Rattle.merge_pending.specs.inner.Becoming.{Later, Becomes, with_counts, Recounted, Waiting, kind_of, hash_of}

-- ---- rows that die and rows that are appended

pub later_refl : (p : Plain) → Later p p
later_refl p =
    record { opening = refl; generation = refl; staged = refl; grows = omega arith; cells = λ i h. refl; dies = λ i h e. e }

pub later_then : {p q r : Plain} → Later p q → Later q r → Later p r
later_then {p} {q} {r} a b =
    record {
      opening = b.opening ∙ a.opening;
      generation = b.generation ∙ a.generation;
      staged = b.staged ∙ a.staged;
      grows = omega arith;
      cells = λ i h. b.cells i (inside i h) ∙ a.cells i h;
      dies = λ i h e. a.dies i h (b.dies i (inside i h) e);
    }
  where
    inside : (i : ℕ) → i < length p.rows → i < length q.rows
    inside i h = omega (arith, a.grows)

-- ---- the rows as stored, step by step

module _ {p p₁ p₂ : Plain} (a : Later p p₁) (b : Later p₁ p₂) (before : List (List ℕ)) (n : length before ≡ length p.rows)
    (shown : (i : ℕ) → (row_of p i).live ≡ true → (row_of p i).cells ≡ get_or before i []) where
  -- marking a row that was stored before the first step gives the same cells before and after that step
  marked_old : (i : ℕ) → i < length p.rows → marked (get_or (stored p₁.rows before) i []) ≡ marked (get_or before i [])
  marked_old i h =
      elim (split (row_of p₁ i).live) [
        | inl e ↦ ap marked (stored_at_live p₁.rows before i e ∙ a.cells i h ∙ shown i (a.dies i h e))
        | inr e ↦
            ap marked (stored_at_dead p₁.rows before i (omega (arith, a.grows)) (omega arith) e)
            ∙ set-set (get_or before i []) 0 4294967295 4294967295
      ]

  -- marking a row that the first step appended gives its appended cells with the mark
  marked_new : (i : ℕ) → length p.rows ≤ i → i < length p₁.rows → marked (get_or (stored p₁.rows before) i []) ≡ marked (row_of p₂ i).cells
  marked_new i h k =
      elim (split (row_of p₁ i).live) [
        | inl e ↦ ap marked (stored_at_live p₁.rows before i e ∙ sym (b.cells i k))
        | inr e ↦
            ap marked (stored_at_new p₁.rows before i k (omega arith) e)
            ∙ set-set (row_of p₁ i).cells 0 4294967295 4294967295
            ∙ ap marked (sym (b.cells i k))
      ]

  -- so the second step does not depend on what the first step stored
  pub stored_then : stored p₂.rows (stored p₁.rows before) ≡ stored p₂.rows before
  stored_then =
      ext_get_or [] (stored p₂.rows (stored p₁.rows before)) (stored p₂.rows before)
      (length_stored p₂.rows (stored p₁.rows before) ∙ sym (length_stored p₂.rows before)) each
    where
      dead_row_lem : (i : ℕ) → i < length p₂.rows → (row_of p₂ i).live ≡ false
          → get_or (stored p₂.rows (stored p₁.rows before)) i [] ≡ get_or (stored p₂.rows before) i []
      dead_row_lem i h e =
          let m = length_stored p₁.rows before in
          let g = a.grows in
          elim (dec_lt i (length p₁.rows)) [
            | yes k ↦
                stored_at_dead p₂.rows (stored p₁.rows before) i h (omega arith) e
                ∙ elim (dec_lt i (length p.rows)) [
                  | yes j ↦ marked_old i j ∙ sym (stored_at_dead p₂.rows before i h (omega arith) e)
                  | no j ↦ marked_new i (omega arith) k ∙ sym (stored_at_new p₂.rows before i h (omega arith) e)
                ]
            | no k ↦
                stored_at_new p₂.rows (stored p₁.rows before) i h (omega arith) e
                ∙ sym (stored_at_new p₂.rows before i h (omega arith) e)
          ]

      each : (i : ℕ) → i < length (stored p₂.rows (stored p₁.rows before))
          → get_or (stored p₂.rows (stored p₁.rows before)) i [] ≡ get_or (stored p₂.rows before) i []
      each i h =
          elim (split (row_of p₂ i).live) [
            | inl e ↦ stored_at_live p₂.rows (stored p₁.rows before) i e ∙ sym (stored_at_live p₂.rows before i e)
            | inr e ↦ dead_row_lem i (omega (arith, length_stored p₂.rows (stored p₁.rows before))) e
          ]

-- ---- the sort entries, step by step

-- the sort cells of the earlier table come first
sort_cells_front : {p p' : Plain} → Later p p' → sort_cells p ≡ take (length p.rows) (sort_cells p')
sort_cells_front {p} {p'} l =
    let n = length_sort_cells p in
    let m = length_sort_cells p' in
    let g = l.grows in
    ext_get_or 0 (sort_cells p) (take (length p.rows) (sort_cells p')) (simp length-take (omega arith)) each
  where
    each : (i : ℕ) → i < length (sort_cells p) → get_or (sort_cells p) i 0 ≡ get_or (take (length p.rows) (sort_cells p')) i 0
    each i h =
        let k : i < length p.rows = omega (arith, length_sort_cells p) in
        get_d_sort_cells p i k
        ∙ sym (ap₂ (λ (cells : List ℕ) (o : Opening). get_or cells o.sort 0) (l.cells i k) l.opening)
        ∙ sym (get_d_sort_cells p' i (omega (arith, l.grows)))
        ∙ sym (get_or-take (length p.rows) (sort_cells p') i 0 k)

-- no entry is removed
pub entries_grow : {p p' : Plain} → Later p p' → length (entries p) ≤ length (entries p')
unfolding entries
entries_grow {p} {p'} l = rw (sort_cells_front l) (rebuilt_front (length p.rows) (sort_cells p'))

-- ---- steps

module _ {p : Plain} {s : Stores} (r : Represents p s) where
  columns_shown : s.header.columns ≡ p.opening.columns
  columns_shown = ap (λ (h : Header). h.columns) r.shown.header

  cells_in : length p.rows * p.opening.columns ≤ length s.rows
  cells_in = rows_in_lem r.proper (length s.rows) (represents_long r).rows_long

  -- the words of the entries fit
  pub words_fit : length (entry_words (entries p)) ≤ length s.sorts
  words_fit = omega (arith, length_words (entries p), entries_few p, r.proper.rows_fit, (represents_long r).sorts_long)

  -- no change is a step
  pub steps_refl : Becomes p p s s
  unfolding row_store sort_store
  steps_refl =
      let w : ℕ = s.header.columns in
      let n : s.header.rows * w ≤ length s.rows = rw (columns_shown, rows_counted r) cells_in in
      let e : s.header.entries ≡ length (entries p) = ap (λ (h : Header). h.entries) r.shown.header in
      let k : 2 * s.header.entries ≤ length s.sorts = omega (arith, length_words (entries p), words_fit) in
      record {
        later = later_refl p;
        rows_after = sym (rw (rows_stored r, flatten_rows_of w s.header.rows s.rows) (splice_front s.rows (s.header.rows * w) n));
        sorts_after = sym (rw (← r.shown.entries_shown, words_entries_of s.header.entries s.sorts k) (splice_front s.sorts (2 * s.header.entries) k));
        represents = r;
      }

-- the rows in the stores
abbrev rows_before : Stores → List (List ℕ)
rows_before s = rows_of s.header.columns s.header.rows s.rows

module _ {p p₁ p₂ : Plain} {s s₁ s₂ : Stores} (r : Represents p s) (a : Becomes p p₁ s s₁) (b : Becomes p₁ p₂ s₁ s₂) where
  before_wide : widths p.opening.columns (rows_before s) ≡ true
  before_wide = rw (columns_shown r, rows_counted r) (wide_rows r.proper s.rows (represents_long r).rows_long)

  -- the rows after the first step have the width of a row
  first_wide : widths p.opening.columns (stored p₁.rows (rows_before s)) ≡ true
  first_wide = stored_widths p.opening.columns p₁.rows (rows_before s) (rw a.later.opening at a.represents.proper.widths) before_wide

  -- they are the rows that the second step finds stored
  pub first_stored : rows_of s₁.header.columns s₁.header.rows s₁.rows ≡ stored p₁.rows (rows_before s)
  unfolding row_store
  first_stored =
      let c : s₁.header.columns ≡ p.opening.columns = columns_shown a.represents ∙ ap (λ (o : Opening). o.columns) a.later.opening in
      let n : s₁.header.rows ≡ length (stored p₁.rows (rows_before s)) = rows_counted a.represents ∙ sym (length_stored p₁.rows (rows_before s)) in
      rw (c, n, a.rows_after) (rows_of_put_flatten p.opening.columns (stored p₁.rows (rows_before s)) s.rows first_wide)

  old_cells : (i : ℕ) → (row_of p i).live ≡ true → (row_of p i).cells ≡ get_or (rows_before s) i []
  old_cells i e =
      live_cells_lem r i e
      ∙ sym (get_d_rows_of s.header.columns s.header.rows s.rows i (omega (arith, live_below_lem p.rows i e, rows_counted r)))

  rows_then : stored p₂.rows (stored p₁.rows (rows_before s)) ≡ stored p₂.rows (rows_before s)
  rows_then =
      stored_then a.later b.later (rows_before s)
      (length_rows_of s.header.columns s.header.rows s.rows ∙ rows_counted r) old_cells

  -- two steps compose
  pub steps_then : Becomes p p₂ s s₂
  unfolding row_store sort_store
  steps_then =
      let v : List (List ℕ) = stored p₁.rows (rows_before s) in
      let w : List (List ℕ) = stored p₂.rows (rows_before s) in
      let l : length (flatten v) ≡ length p₁.rows * p.opening.columns = length_flatten p.opening.columns v first_wide ∙ ap (λ (n : ℕ). n * p.opening.columns) (length_stored p₁.rows (rows_before s)) in
      let m : length (flatten w) ≡ length p₂.rows * p.opening.columns =
      length_flatten p.opening.columns w (stored_widths p.opening.columns p₂.rows (rows_before s) (rw (b.later.opening, a.later.opening) at b.represents.proper.widths) before_wide)
      ∙ ap (λ (n : ℕ). n * p.opening.columns) (length_stored p₂.rows (rows_before s)) in
      let g = mul-le-mul_right p.opening.columns b.later.grows in
      let c : length p₁.rows ≤ p.opening.capacity = rw a.later.opening at a.represents.proper.rows_fit in
      let f = mul-le-mul_right p.opening.columns c in
      let k = (represents_long r).rows_long in
      record {
        later = later_then a.later b.later;
        rows_after =
            b.rows_after
            ∙ rw (first_stored, rows_then, a.rows_after) (splice_over s.rows (flatten v) (flatten w) 0 (omega arith) (omega arith));
        sorts_after =
            b.sorts_after
            ∙ rw a.sorts_after
            (splice_over s.sorts (entry_words (entries p₁)) (entry_words (entries p₂)) 0
            (omega (arith, length_words (entries p₁), entries_few p₁, c, (represents_long r).sorts_long))
            (omega (arith, length_words (entries p₁), length_words (entries p₂), entries_grow b.later)));
        represents = b.represents;
      }

-- ---- the pending records

-- at the start all records remain
pub waiting_start : {p : Plain} {s : Stores} → Represents p s → Waiting (opening_of s.header) s.pending s.header.pending 0 p.staged
waiting_start {p} {s} r =
    record {
      held = rw r.shown.header r.shown.pending_held;
      counted = rw r.shown.header (zero-add (words_all p.opening p.staged));
    }

-- a record has at least two words
pub words_some : (o : Opening) (r : Staged) → 2 ≤ words_of o r
unfolding words_of
words_some o (insert cells) = omega arith
words_some o (remove_key key) = omega arith
words_some o (remove_row row key) = omega arith

module _ {o : Opening} {pending : List ℕ} {used at : ℕ} {r : Staged} {rest : List Staged} (w : Waiting o pending used at (r ∷ rest)) where
  right_width : wrong_width o r ≡ false
  right_width = not-true _ (all_head (λ q. not (wrong_width o q)) r rest w.held.whole)

  here_length : length (record_words o.keys r) ≡ words_of o r
  here_length = length_record_words o r right_width

  -- the words from this place on
  from_here : take (words_of o r + words_all o rest) (drop at pending) ≡ record_words o.keys r ++ flatten (map (record_words o.keys) rest)
  from_here = unfold words_all flatten in w.held.in_order

  -- the record at the place is within the words in use
  pub waiting_inside : at + words_of o r + words_all o rest ≡ used
  waiting_inside = let e : at + (words_of o r + words_all o rest) ≡ used = unfold words_all in w.counted in omega arith

  -- the words of the record
  pub waiting_here : take (words_of o r) (drop at pending) ≡ record_words o.keys r
  waiting_here =
      let k : words_of o r ≤ words_of o r + words_all o rest = omega arith in
      sym (take-take (words_of o r) (words_of o r + words_all o rest) (drop at pending) k)
      ∙ ap (take (words_of o r)) from_here
      ∙ take_at (record_words o.keys r) (flatten (map (record_words o.keys) rest)) (words_of o r) here_length

  -- one of its words
  pub waiting_word : (i : ℕ) → i < words_of o r → get_or pending (at + i) 0 ≡ get_or (record_words o.keys r) i 0
  waiting_word i h =
      sym (get_or-drop at pending i 0)
      ∙ sym (get_or-take (words_of o r) (drop at pending) i 0 h)
      ∙ ap (λ (l : List ℕ). get_or l i 0) waiting_here

  -- its words from one on
  pub waiting_part : (i n : ℕ) → i + n ≡ words_of o r → take n (drop (at + i) pending) ≡ drop i (record_words o.keys r)
  waiting_part i n e =
      ap (take n) (sym (drop-drop i at pending))
      ∙ take_drop i n (drop at pending)
      ∙ ap (λ (k : ℕ). drop i (take k (drop at pending))) e
      ∙ ap (drop i) waiting_here

  -- after it the other records remain
  pub waiting_next : Waiting o pending used (at + words_of o r) rest
  waiting_next =
      record {
        held =
            record {
              whole = all_tail (λ q. not (wrong_width o q)) r rest w.held.whole;
              in_order =
                  ap (take (words_all o rest)) (sym (drop-drop (words_of o r) at pending))
                  ∙ take_drop (words_of o r) (words_all o rest) (drop at pending)
                  ∙ ap (drop (words_of o r)) from_here
                  ∙ drop_at (record_words o.keys r) (flatten (map (record_words o.keys) rest)) (words_of o r) here_length;
            };
        counted = waiting_inside;
      }

-- the words at the place of a record: its kind
pub waiting_kind : {o : Opening} {pending : List ℕ} {used at : ℕ} {r : Staged} {rest : List Staged} → Waiting o pending used at (r ∷ rest) → get_or pending at 0 ≡ kind_of r
waiting_kind {o} {pending} {used} {at} {r} w =
    ap (λ (k : ℕ). get_or pending k 0) (sym (add-zero at)) ∙ waiting_word w 0 (omega (arith, words_some o r)) ∙ first r
  where
    first : (r : Staged) → get_or (record_words o.keys r) 0 0 ≡ kind_of r
    first (insert cells) = unfold record_words kind_of in refl
    first (remove_key key) = unfold record_words kind_of in refl
    first (remove_row row key) = unfold record_words kind_of in refl

-- the hash of its key
pub waiting_hash : {o : Opening} {pending : List ℕ} {used at : ℕ} {r : Staged} {rest : List Staged} → Waiting o pending used at (r ∷ rest)
    → get_or pending (at + 1) 0 ≡ hash_of o.keys r
waiting_hash {o} {pending} {used} {at} {r} w = waiting_word w 1 (omega (arith, words_some o r)) ∙ second r
  where
    second : (r : Staged) → get_or (record_words o.keys r) 1 0 ≡ hash_of o.keys r
    second (insert cells) = unfold record_words hash_of in refl
    second (remove_key key) = unfold record_words hash_of in refl
    second (remove_row row key) = unfold record_words hash_of in refl

-- the cells of an insert
pub waiting_cells : {o : Opening} {pending : List ℕ} {used at : ℕ} {cells : List ℕ} {rest : List Staged} → Waiting o pending used at (insert cells ∷ rest)
    → take o.columns (drop (at + 2) pending) ≡ cells
unfolding words_of record_words
waiting_cells {o} w = waiting_part w 2 o.columns (omega arith)

-- the key of a removal by key
pub waiting_key : {o : Opening} {pending : List ℕ} {used at : ℕ} {key : List ℕ} {rest : List Staged} → Waiting o pending used at (remove_key key ∷ rest)
    → take o.keys (drop (at + 2) pending) ≡ key
unfolding words_of record_words
waiting_key {o} w = waiting_part w 2 o.keys (omega arith)

-- the row of a removal by row, and its key
pub waiting_row : {o : Opening} {pending : List ℕ} {used at row : ℕ} {key : List ℕ} {rest : List Staged} → Waiting o pending used at (remove_row row key ∷ rest)
    → get_or pending (at + 2) 0 ≡ row
unfolding words_of record_words
waiting_row w = waiting_word w 2 (omega arith)

pub waiting_row_key : {o : Opening} {pending : List ℕ} {used at row : ℕ} {key : List ℕ} {rest : List Staged} → Waiting o pending used at (remove_row row key ∷ rest)
    → take o.keys (drop (at + 3) pending) ≡ key
unfolding words_of record_words
waiting_row_key {o} w = waiting_part w 3 o.keys (omega arith)

-- ---- other counts

pub recounted_refl : (h : Header) → h.rows ≤ h.capacity → h.entries ≤ h.rows → Recounted h h
recounted_refl h a b = record { counts = refl; rows_fit = a; rows_grow = omega arith; entries_fit = b; dead_fit = omega arith }

pub recounted_capacity : {h n : Header} → Recounted h n → n.capacity ≡ h.capacity
recounted_capacity r = ap (λ (x : Header). x.capacity) r.counts

pub recounted_then : {h n m : Header} → Recounted h n → Recounted n m → Recounted h m
recounted_then {h} {n} {m} a b =
    record {
      counts = b.counts ∙ ap (λ (x : Header). with_counts x m.rows m.dead m.entries m.largest) a.counts;
      rows_fit = omega (arith, recounted_capacity a, b.rows_fit);
      rows_grow = omega (arith, a.rows_grow, b.rows_grow);
      entries_fit = b.entries_fit;
      dead_fit = omega (arith, a.dead_fit, b.dead_fit);
    }

-- the pending records are those of the previous header
pub recounted_waiting : {h n : Header} {pending : List ℕ} {at : ℕ} {rest : List Staged} → Recounted h n → Waiting (opening_of h) pending h.pending at rest
    → Waiting (opening_of n) pending n.pending at rest
recounted_waiting r w = rw r.counts w
