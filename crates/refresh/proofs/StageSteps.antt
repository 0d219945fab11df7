-- The records of marked rows, row after row: how many words they take, and the turns of the loops that write them. Assumes nothing.
use Rattle.refresh.proofs.Prelude.{ℕ, zero, suc, ◌+◌, ◌-◌, ◌*◌, ◌/◌, ◌%◌, ◌^◌, ◌≤◌, ◌<◌, ◌≡◌, refl, sym, ap, ap₂, ◌∙◌, inl, inr, Bool, true, false, List, [], ◌∷◌, ◌++◌, map, map-append, append-nil, zero-add, add-zero, mul-le-mul_right, dec_lt, add-one, arith, bit_and, count_trailing_zeros, length, get_or, length-append, eq-eqb, all_snoc, split, filter_append, splice_nil, splice_then, length_splice, iota_snoc, flatten_append, bit_of, word_bits, bitmap_word_none, onward, onward_all, Next, next_bit, no_more, Numbered, Wide, refreshed_whole, Header, opening_of, record_words, length_records, outside_inside}
use Rattle.lists.specs.Lists.{splice, filter, all, flatten, iota}
use Rattle.row_buffer.specs.Ranks.{bitmap_word, count_to}
use Rattle.plain_table.specs.Staged.{Staged, words_of, words_all}
use Rattle.plain_table.specs.Refreshing.{restamping, refreshed}
use Rattle.refresh.specs.inner.Staging.{RowInStore, numbered, marked_rows, rows_words, row_words, RecordsFit, Written, Block, BlockWritten, Group, GroupWritten, Stageable}
use Rattle.refresh.proofs.WriteSteps.{here_wide}

-- ---- marked rows

module _ (h : Header) (rows : List ℕ) (test : ℕ → Bool) where
  -- one row more: marked, or not
  marked_next : (n : ℕ) → marked_rows h rows test (suc n) ≡ marked_rows h rows test n ++ map (numbered h rows) (filter test (n ∷ []))
  unfolding marked_rows
  marked_next n =
      let e : iota 0 (suc n) ≡ iota 0 n ++ (n ∷ []) = rw (← add-one n) (iota_snoc 0 n ∙ rw zero-add) in
      rw (e, filter_append test (iota 0 n) (n ∷ [])) (map-append (numbered h rows) (filter test (iota 0 n)) (filter test (n ∷ [])))

  marked_yes : (n : ℕ) → test n ≡ true → marked_rows h rows test (suc n) ≡ marked_rows h rows test n ++ (numbered h rows n ∷ [])
  unfolding filter
  marked_yes n e = marked_next n ∙ rw e

  marked_no : (n : ℕ) → test n ≡ false → marked_rows h rows test (suc n) ≡ marked_rows h rows test n
  unfolding filter
  marked_no n e = marked_next n ∙ rw e (append-nil (marked_rows h rows test n))

  count_yes : (n : ℕ) → test n ≡ true → count_to test (suc n) ≡ count_to test n + 1
  unfolding count_to
  count_yes n e = rw e

  count_no : (n : ℕ) → test n ≡ false → count_to test (suc n) ≡ count_to test n
  unfolding count_to
  count_no n e = rw e (add-zero (count_to test n))

  -- as many as are counted
  pub length_marked : (n : ℕ) → length (marked_rows h rows test n) ≡ count_to test n
  unfolding marked_rows
  length_marked zero = unfold filter iota count_to in refl
  length_marked (suc n) =
      let k = length_marked n in
      elim (split (test n)) [
        | inl e ↦ ap length (marked_yes n e) ∙ length-append (marked_rows h rows test n) _ ∙ rw k (sym (count_yes n e))
        | inr e ↦ ap length (marked_no n e) ∙ k ∙ sym (count_no n e)
      ]

  -- rows that are not marked
  unmarked : (n k : ℕ) → ((i : ℕ) → n ≤ i → i < n + k → test i ≡ false)
      → (marked_rows h rows test (n + k) ≡ marked_rows h rows test n) × (count_to test (n + k) ≡ count_to test n)
  unmarked n zero f = rw (add-zero n) (refl, refl)
  unmarked n (suc k) f =
      let e : n + suc k ≡ suc (n + k) = omega arith in
      let u = unmarked n k (λ i a b. f i a (omega arith)) in
      let z = f (n + k) (omega arith) (omega arith) in
      rw e (marked_no (n + k) z ∙ u.0, count_no (n + k) z ∙ u.1)

  count_grows : (n k : ℕ) → count_to test n ≤ count_to test (n + k)
  count_grows n zero = rw add-zero (omega arith)
  count_grows n (suc k) =
      let e : n + suc k ≡ suc (n + k) = omega arith in
      let g = count_grows n k in
      rw e (elim (split (test (n + k))) [ inl q ↦ omega (arith, count_yes (n + k) q) | inr q ↦ omega (arith, count_no (n + k) q) ])

  none_counted : (n : ℕ) → count_to test n ≡ 0 → (i : ℕ) → i < n → test i ≡ false
  none_counted zero z i k = absurd (omega arith)
  none_counted (suc n) z i k =
      elim (split (test n)) [
        | inl e ↦ absurd (omega (arith, count_yes n e))
        | inr e ↦ elim (dec_lt i n) [
          | yes b ↦ none_counted n (omega (arith, count_no n e, z)) i b
          | no b ↦ let same : i ≡ n = omega arith in rw same e
        ]
      ]

  -- where none from the count on is marked
  pub all_marked : ((i : ℕ) → test i ≡ true → i < h.rows) → (n : ℕ) → h.rows ≤ n
      → (marked_rows h rows test n ≡ marked_rows h rows test h.rows) × (count_to test n ≡ count_to test h.rows)
  all_marked only n k =
      let e : n ≡ h.rows + (n - h.rows) = omega arith in
      rw e (unmarked h.rows (n - h.rows) (λ i a b. elim (split (test i)) [ inl t ↦ absurd (omega (arith, only i t)) | inr t ↦ t ]))

-- ---- their records' words

module _ (h : Header) (stamp : ℕ) where
  words_append : (xs ys : List Numbered) → rows_words h stamp (xs ++ ys) ≡ rows_words h stamp xs ++ rows_words h stamp ys
  unfolding rows_words refreshed
  words_append xs ys =
      let o = opening_of h in
      let e : flatten (map (restamping o stamp) (xs ++ ys)) ≡ flatten (map (restamping o stamp) xs) ++ flatten (map (restamping o stamp) ys) =
      ap flatten (map-append (restamping o stamp) xs ys) ∙ flatten_append (map (restamping o stamp) xs) (map (restamping o stamp) ys) in
      ap (λ (rs : List Staged). flatten (map (record_words h.keys) rs)) e
      ∙ ap flatten (map-append (record_words h.keys) (refreshed o stamp xs) (refreshed o stamp ys))
      ∙ flatten_append (map (record_words h.keys) (refreshed o stamp xs)) (map (record_words h.keys) (refreshed o stamp ys))

  pub words_of_lem : (rows : List Numbered) → words_all (opening_of h) (refreshed (opening_of h) stamp rows) ≡ length rows * row_words h
  unfolding refreshed restamping flatten words_all words_of
  words_of_lem [] = omega arith
  words_of_lem (row ∷ rows) = let k = words_of_lem rows in omega arith

  -- two records to a row
  pub length_refreshed : (rows : List Numbered) → length (refreshed (opening_of h) stamp rows) ≡ 2 * length rows
  unfolding refreshed restamping flatten
  length_refreshed [] = refl
  length_refreshed (row ∷ rows) = let k = length_refreshed rows in omega arith

  length_words : (rows : List Numbered) → h.keys ≤ h.columns → Wide (opening_of h) rows → length (rows_words h stamp rows) ≡ length rows * row_words h
  unfolding rows_words
  length_words rows few wide = length_records (opening_of h) (refreshed (opening_of h) stamp rows) (refreshed_whole (opening_of h) stamp rows few wide) ∙ words_of_lem rows

-- ---- rows written one after another

module _ {h : Header} {rows pending : List ℕ} {test : ℕ → Bool} (room : RecordsFit h rows pending test) where
  pub row_in_store : (i : ℕ) → test i ≡ true → RowInStore h rows i
  row_in_store i e = record { inside = room.inside; rows_long = room.rows_long; row_below = room.rows_only i e }

  count_most : (n : ℕ) → count_to test n ≤ count_to test h.rows
  count_most n = elim (dec_lt n h.rows) [
    | yes k ↦ let e : h.rows ≡ n + (h.rows - n) = omega arith in rw e (count_grows h rows test n (h.rows - n))
    | no k ↦ omega (arith, (all_marked h rows test room.rows_only n (omega arith)).1)
  ]

  words_fit : (n : ℕ) → (h.pending + count_to test n * row_words h ≤ length pending) × (h.pending + count_to test n * row_words h ≤ 4294967295)
  words_fit n = let k = mul-le-mul_right (row_words h) (count_most n) in (omega (arith, room.free), omega (arith, room.counted))

  marked_wide : (n : ℕ) → Wide (opening_of h) (marked_rows h rows test n)
  marked_wide zero = unfold marked_rows filter iota all in refl
  marked_wide (suc n) =
      let k = marked_wide n in
      elim (split (test n)) [
        | inl e ↦ rw (marked_yes h rows test n e) (all_snoc _ (marked_rows h rows test n) (numbered h rows n) k (eq-eqb _ _ (here_wide (row_in_store n e))))
        | inr e ↦ rw (marked_no h rows test n e) k
      ]

  length_written : (stamp n : ℕ) → length (rows_words h stamp (marked_rows h rows test n)) ≡ count_to test n * row_words h
  length_written stamp n =
      length_words h stamp (marked_rows h rows test n) (outside_inside h room.inside).bounds.keys_few (marked_wide n)
      ∙ ap (λ (k : ℕ). k * row_words h) (length_marked h rows test n)

  pub written_begin : {stamp : ℕ} → Written h rows pending test stamp pending h.pending 0
  written_begin =
      record {
        words_used = unfold count_to in omega arith;
        words = unfold rows_words marked_rows filter iota refreshed flatten in sym (splice_nil pending h.pending);
      }

  module _ {stamp : ℕ} {pending' : List ℕ} {used n : ℕ} (w : Written h rows pending test stamp pending' used n) where
    pub written_length : length pending' ≡ length pending
    written_length =
        ap length w.words ∙ length_splice pending (rows_words h stamp (marked_rows h rows test n)) h.pending (omega (arith, length_written stamp n, (words_fit n).0))

    pub written_skip : (k : ℕ) → ((i : ℕ) → n ≤ i → i < n + k → test i ≡ false) → Written h rows pending test stamp pending' used (n + k)
    written_skip k f =
        let u = unmarked h rows test n k f in
        record { words_used = rw u.1 w.words_used; words = rw u.0 w.words }

    pub written_all : h.rows ≤ n → Written h rows pending test stamp pending' used h.rows
    written_all k =
        let u = all_marked h rows test room.rows_only n k in
        record { words_used = rw (← u.1) w.words_used; words = rw (← u.0) w.words }

    module _ (e : test n ≡ true) where
      more : count_to test (suc n) * row_words h ≡ count_to test n * row_words h + row_words h
      more = rw (count_yes h rows test n e) (omega arith)

      -- one more row fits
      pub one_fits : (used + row_words h ≤ length pending') × (used + row_words h ≤ 4294967295)
      one_fits =
          (omega (arith, more, (words_fit (suc n)).0, w.words_used, written_length), omega (arith, more, (words_fit (suc n)).1, w.words_used))

      pub written_more : {pending'' : List ℕ} → pending'' ≡ splice pending' used (rows_words h stamp (numbered h rows n ∷ []))
          → Written h rows pending test stamp pending'' (used + row_words h) (n + 1)
      written_more {pending''} q =
          let v = rows_words h stamp (marked_rows h rows test n) in
          let m = rows_words h stamp (numbered h rows n ∷ []) in
          let long : length v ≡ count_to test n * row_words h = length_written stamp n in
          let both : rows_words h stamp (marked_rows h rows test (suc n)) ≡ v ++ m = ap (rows_words h stamp) (marked_yes h rows test n e) ∙ words_append h stamp (marked_rows h rows test n) (numbered h rows n ∷ []) in
          let here : used ≡ h.pending + length v = omega (arith, w.words_used) in
          rw (add-one n)
          (record {
            words_used = omega (arith, more, w.words_used);
            words =
                q
                ∙ ap₂ (λ (l : List ℕ) (at : ℕ). splice l at m) w.words here
                ∙ splice_then pending v m h.pending (omega (arith, (words_fit (suc n)).0, sym (length-append v m) ∙ ap length (sym both) ∙ length_written stamp (suc n)))
                ∙ ap (splice pending h.pending) (sym both);
          })

-- ---- the rows of a bitmap word

module _ {h : Header} {rows pending : List ℕ} {before first marked stamp : ℕ} (b : Block h rows pending before first marked stamp) where
  abbrev lives : ℕ → Bool
  lives bit = b.test (first + bit)

  -- what holds at the loop's head: the rows before `place` are written, and the word has the others
  pub record Going (pending' : List ℕ) (used word : ℕ) : Type 0 where
    pub place : ℕ
    pub few : place ≤ 64
    pub others : word ≡ bitmap_word (onward lives place) 64
    pub written : Written h rows b.pending₀ b.test stamp pending' used (first + place)

  pub going_begin : Going pending before marked
  going_begin =
      record { place = 0; few = omega arith; others = b.marked ∙ onward_all lives 64; written = rw add-zero b.written }

  module _ {pending' : List ℕ} {used word : ℕ} (s : Going pending' used word) where
    pub going_length : length pending' ≡ length pending
    going_length = written_length b.room s.written ∙ sym (written_length b.room b.written)

    passed : (to : ℕ) → s.place ≤ to → ((k : ℕ) → s.place ≤ k → k < to → lives k ≡ false)
        → Written h rows b.pending₀ b.test stamp pending' used (first + to)
    passed to low none =
        let e : first + s.place + (to - s.place) ≡ first + to = omega arith in
        rw e at (written_skip b.room s.written (to - s.place) (λ i p q.
        let f : first + (i - first) ≡ i = omega arith in
        sym (ap b.test f) ∙ none (i - first) (omega arith) (omega arith)))

    pub going_end : word ≡ 0 → Written h rows b.pending₀ b.test stamp pending' used (first + 64)
    going_end z = passed 64 s.few (no_more lives s.place 64 word s.others z)

    module _ (some : word ≡ 0 → ⊥) where
      abbrev bit : ℕ
      bit = count_trailing_zeros 64 word

      next : Next lives s.place 64 word bit
      next = next_bit lives s.place 64 word s.others (omega arith) some

      at_row : Written h rows b.pending₀ b.test stamp pending' used (first + bit)
      at_row = passed bit next.after next.none

      pub row_below : first + bit < 65536
      row_below =
          let i = outside_inside h b.room.inside in
          omega (arith, b.room.rows_only (first + bit) next.set, i.rows_fit, i.bounds.capacity_few)

      pub going_row : RowInStore h rows (first + bit) × (used + row_words h ≤ length pending')
      going_row = (row_in_store b.room (first + bit) next.set, (one_fits b.room at_row next.set).0)

      pub used_few : used + row_words h ≤ 4294967295
      used_few = (one_fits b.room at_row next.set).1

      pub going_on : {pending'' : List ℕ} → pending'' ≡ splice pending' used (rows_words h stamp (numbered h rows (first + bit) ∷ []))
          → Going pending'' (used + row_words h) (bit_and word (word - 1))
      going_on q =
          let e : first + bit + 1 ≡ first + (bit + 1) = omega arith in
          record {
            place = bit + 1;
            few = omega (arith, next.below);
            others = next.rest;
            written = rw e at (written_more b.room at_row next.set q);
          }

-- ---- the words of a group

-- the group of a row's word, and the word's place in it
word_place : (group from to i : ℕ) → group * 4096 + from * 64 ≤ i → i < group * 4096 + to * 64 → to ≤ 64
    → (i / 64 / 64 ≡ group) × (from ≤ i / 64 % 64) × (i / 64 % 64 < to)
word_place group from to i p q few =
    let low : group * 64 + from ≤ i / 64 = omega (arith, p) in
    let high : i / 64 < group * 64 + to = omega (arith, q) in
    in_group (i / 64) low high
  where
    in_group : (w : ℕ) → group * 64 + from ≤ w → w < group * 64 + to → (w / 64 ≡ group) × (from ≤ w % 64) × (w % 64 < to)
    in_group w low high =
        let same : w / 64 ≡ group = omega (arith, low, high, few) in
        let whole : 64 * (w / 64) + w % 64 ≡ w = omega arith in
        (same, omega (arith, same, whole, low), omega (arith, same, whole, high))

module _ {h : Header} {rows pending words : List ℕ} {before group stamp : ℕ} (g : Group h rows pending words before group stamp) where
  abbrev summary : ℕ
  summary = get_or words (1024 + group) 0

  abbrev flagged : ℕ → Bool
  flagged k = bit_of summary k

  -- what holds at the loop's head: the rows of the words before `place` are written, and the flags are those of the others
  pub record Grouped (pending' : List ℕ) (used flags : ℕ) : Type 0 where
    pub place : ℕ
    pub few : place ≤ 64
    pub others : flags ≡ bitmap_word (onward flagged place) 64
    pub written : Written h rows g.pending₀ g.test stamp pending' used (group * 4096 + place * 64)

  pub grouped_begin : summary < 2 ^ 64 → Grouped pending before summary
  grouped_begin small =
      let e : group * 4096 + 0 * 64 ≡ group * 4096 = omega arith in
      record { place = 0; few = omega arith; others = word_bits summary small ∙ onward_all flagged 64; written = rw e g.written }

  -- a row of a word without a flag
  unflagged : (i : ℕ) → i < 65536 → i / 64 / 64 ≡ group → flagged (i / 64 % 64) ≡ false → g.test i ≡ false
  unflagged i b same off =
      let few : i / 64 < 1024 = omega arith in
      let z = g.summarised.empty (i / 64) few (ap (λ (n : ℕ). bit_of (get_or words (1024 + n) 0) (i / 64 % 64)) same ∙ off) in
      let e : 64 * (i / 64) + i % 64 ≡ i = omega arith in
      sym (ap g.test e) ∙ bitmap_word_none (λ bit. g.test (64 * (i / 64) + bit)) 64 (sym (g.bitmap.marked (i / 64) few) ∙ z) (i % 64) (omega arith)

  module _ {pending' : List ℕ} {used flags : ℕ} (s : Grouped pending' used flags) where
    pub grouped_length : length pending' ≡ length pending
    grouped_length = written_length g.room s.written ∙ sym (written_length g.room g.written)

    skipped : (to : ℕ) → s.place ≤ to → to ≤ 64 → ((k : ℕ) → s.place ≤ k → k < to → flagged k ≡ false)
        → Written h rows g.pending₀ g.test stamp pending' used (group * 4096 + to * 64)
    skipped to low high none =
        let below = g.below in
        let e : group * 4096 + s.place * 64 + (to - s.place) * 64 ≡ group * 4096 + to * 64 = omega arith in
        rw e at (written_skip g.room s.written ((to - s.place) * 64) (λ i p q.
        let r : i < group * 4096 + to * 64 = rw e at q in
        let w = word_place group s.place to i p r high in
        unflagged i (omega (arith, r, below, high)) w.0 (none (i / 64 % 64) w.1 w.2)))

    pub grouped_end : flags ≡ 0 → Written h rows g.pending₀ g.test stamp pending' used (group * 4096 + 4096)
    grouped_end z = skipped 64 s.few (omega arith) (no_more flagged s.place 64 flags s.others z)

    module _ (some : flags ≡ 0 → ⊥) where
      abbrev flag : ℕ
      flag = count_trailing_zeros 64 flags

      next_word : Next flagged s.place 64 flags flag
      next_word = next_bit flagged s.place 64 flags s.others (omega arith) some

      pub at_below : group * 64 + flag < 1024
      at_below = omega (arith, next_word.below, g.below)

      pub grouped_block : Block h rows pending' used ((group * 64 + flag) * 64) (get_or words (group * 64 + flag) 0) stamp
      grouped_block =
          let e : 64 * (group * 64 + flag) ≡ (group * 64 + flag) * 64 = omega arith in
          let f : group * 4096 + flag * 64 ≡ (group * 64 + flag) * 64 = omega arith in
          record {
            pending₀ = g.pending₀;
            test = g.test;
            room = g.room;
            marked = rw e at (g.bitmap.marked (group * 64 + flag) at_below);
            written = rw f at (skipped flag next_word.after (omega (arith, next_word.below)) next_word.none);
          }

      pub grouped_on : {pending'' : List ℕ} {r : ℕ} → BlockWritten h rows pending' used ((group * 64 + flag) * 64) (get_or words (group * 64 + flag) 0) stamp r pending''
          → Grouped pending'' r (bit_and flags (flags - 1))
      unfolding grouped_block
      grouped_on w =
          let e : (group * 64 + flag) * 64 + 64 ≡ group * 4096 + (flag + 1) * 64 = omega arith in
          record { place = flag + 1; few = omega (arith, next_word.below); others = next_word.rest; written = rw e at (w.on grouped_block) }

-- ---- all groups

module _ {h : Header} {rows pending words : List ℕ} {count : ℕ} (stamp : ℕ) (s : Stageable h rows pending words count) where
  -- there is none
  pub written_none : count ≡ 0 → Written h rows pending s.test stamp pending h.pending h.rows
  written_none z =
      rw zero-add at (written_skip s.room (written_begin s.room {stamp = stamp}) h.rows (λ i a b. none_counted h rows s.test h.rows (s.counted ∙ z) i (omega (arith, b))))

  -- what holds at the loop's head
  pub record Iteration (pending' : List ℕ) (used group : ℕ) : Type 0 where
    pub few : group ≤ 16
    pub written : Written h rows pending s.test stamp pending' used (group * 4096)

  pub iteration_begin : Iteration pending h.pending 0
  iteration_begin = record { few = omega arith; written = written_begin s.room }

  module _ {pending' : List ℕ} {used group : ℕ} (t : Iteration pending' used group) where
    pub iteration_length : length pending' ≡ length pending
    iteration_length = written_length s.room t.written

    pub iteration_end : 16 ≤ group → Written h rows pending s.test stamp pending' used h.rows
    iteration_end past =
        let i = outside_inside h s.room.inside in
        written_all s.room t.written (omega (arith, past, i.rows_fit, i.bounds.capacity_few))

    module _ (more : group < 16) where
      pub iteration_group : Group h rows pending' words used group stamp
      iteration_group =
          record {
            pending₀ = pending;
            test = s.test;
            bitmap = s.bitmap;
            summarised = s.summarised;
            room = s.room;
            below = more;
            written = t.written;
          }

      pub iteration_on : {pending'' : List ℕ} {r : ℕ} → GroupWritten h rows pending' words used group stamp r pending'' → Iteration pending'' r (group + 1)
      unfolding iteration_group
      iteration_on w =
          let e : group * 4096 + 4096 ≡ (group + 1) * 4096 = omega arith in
          record { few = omega (arith, more); written = rw e at (w.on iteration_group) }
