-- Renumbering preserves the soundness of a key store: each key remains in its slot, with its row's new number. The numbers that a
-- compaction assigns meet the premises. Assumes nothing.
use Rattle.std.specs.Prelude.{ℕ, ◌+◌, ◌-◌, ◌*◌, ◌/◌, ◌%◌, ◌^◌, ◌≤◌, ◌<◌, ◌≡◌, true, false, List, [], length, get_or}
use Rattle.std.proofs.Common.{sym, ◌∙◌, le-leb}
use Rattle.std.proofs.Math.Path.{ap}
use Rattle.std.proofs.Math.Decide.{dec_lt, ℕ_discrete}
use native.Mathlib.Omega.{arith}
use Rattle.lists.specs.Lists.{count, row_at, rows_of}
use Rattle.lists.specs.inner.Searching.{map_front}
use Rattle.lists.specs.Laws.Filter.{count_le}
use Rattle.lists.specs.Laws.Rows.{length_rows_of, get_d_rows_of, rows_of_take}
use Rattle.lists.specs.Laws.Front.{get_d_map_front, drop_map_front}
use Rattle.constraints.specs.Constraints.{is_live}
use Rattle.row_buffer.specs.Ranks.{live_at, new_number}
use Rattle.row_buffer.specs.Laws.Rows.{live_at_in, number_live, number_dead, number_rises, number_onto}
use Rattle.key_index.specs.declared.IndexShape.{IndexShape}
use Rattle.key_index.specs.Slots.{LiveAt, key_at, slots, word, home, slot_from, ReachableAt, KeysSound}
use Rattle.key_index.specs.Laws.Ring.{word_row, word_same, word_some, names_none, names_word, slot_below}
use Rattle.key_index.specs.Laws.Lines.{Small}
use Rattle.key_rebuild.specs.inner.Renumbering.{live_below, RenumberedBy, Renumbered, new_row, renumbered}

-- a free slot remains free
pub renumbered_free : (t : IndexShape) (live base : List ℕ) (w : ℕ) → w ≡ 0 → renumbered t live base w ≡ 0
unfolding renumbered
renumbered_free t live base w e = rw (names_none t w (ap (λ (x : ℕ). x % 2 ^ 17) e)) e

-- a word has its row's new number
pub renumbered_word : (t : IndexShape) (live base : List ℕ) → Small t → (key : List ℕ) (row new : ℕ) → row < t.rows → new_row live base row ≡ new → new ≤ 65536
    → renumbered t live base (word key row) ≡ word key new
unfolding renumbered
renumbered_word t live base m key row new h e k =
    let b : row < 2 ^ 17 - 1 = omega (arith, m.count, m.room) in
    let f : get_or base (row / 64) 0 ≤ 65536 = first live base row new e k in
    rw (names_word t key row h b, word_row key row b, le-leb (get_or base (row / 64) 0) 65536 f, e) (put key row new b)
  where
    first : (live base : List ℕ) (row new : ℕ) → new_row live base row ≡ new → new ≤ 65536 → get_or base (row / 64) 0 ≤ 65536
    first live base row new e k = unfold new_row in omega arith

    put : (key : List ℕ) (row new : ℕ) → row < 2 ^ 17 - 1 → word key row / 2 ^ 17 * 2 ^ 17 + (new + 1) ≡ word key new
    put key row new h = unfold word in omega arith

-- Rows get new numbers: each live row has its new number in the table after, with the same key.
pub record Renames (t : IndexShape) (rows : List ℕ) (t' : IndexShape) (rows' : List ℕ) (new : ℕ → ℕ) : Type 0 where
  pub room : t'.room ≡ t.room
  pub forth : (i : ℕ) → LiveAt t rows i → LiveAt t' rows' (new i)
  pub key : (i : ℕ) → LiveAt t rows i → key_at t' rows' (new i) ≡ key_at t rows i
  pub apart : (i j : ℕ) → LiveAt t rows i → LiveAt t rows j → new i ≡ new j → i ≡ j
  pub back : (k : ℕ) → LiveAt t' rows' k → (i : ℕ) × LiveAt t rows i × (new i ≡ k)

module _ (t : IndexShape) (rows : List ℕ) (t' : IndexShape) (rows' store : List ℕ) (new : ℕ → ℕ) (r : Renames t rows t' rows' new) where
  module _ (m : Small t) (few : t'.rows ≤ t'.room) (s : KeysSound t rows store) (after : List ℕ) (a : RenumberedBy t rows store new after) where
    new_small : (i : ℕ) → LiveAt t rows i → new i ≤ 65536
    new_small i l = omega (arith, (r.forth i l).0, few, r.room, m.room)

    -- a slot with a live row's word has the word of its new number
    word_after : (slot i : ℕ) → slot < slots t → LiveAt t rows i → get_or store slot 0 ≡ word (key_at t rows i) i
        → get_or after slot 0 ≡ word (key_at t' rows' (new i)) (new i)
    word_after slot i h l e = a.taken slot i h l e ∙ ap (λ (k : List ℕ). word k (new i)) (sym (r.key i l))

    -- a slot that is not free afterwards was not free before
    held_before : (slot : ℕ) → slot < slots t → 0 < get_or after slot 0 → 0 < get_or store slot 0
    held_before slot h c =
        elim (ℕ_discrete (get_or store slot 0) 0) [
          | yes e ↦ absurd (omega (arith, a.free slot h e))
          | no e ↦ omega arith
        ]

    only_after : (slot : ℕ) → slot < slots t → 0 < get_or after slot 0 → (row : ℕ) × LiveAt t' rows' row × (get_or after slot 0 ≡ word (key_at t' rows' row) row)
    only_after slot h c =
        let o = s.only_live slot h (held_before slot h c) in
        (new o.0, r.forth o.0 o.1, word_after slot o.0 h o.1 o.2)

    once_after : (a b : ℕ) → a < slots t → b < slots t → 0 < get_or after a 0 → get_or after a 0 ≡ get_or after b 0 → a ≡ b
    once_after a b h k c e =
        let d : 0 < get_or after b 0 = omega arith in
        let o = s.only_live a h (held_before a h c) in
        let p = s.only_live b k (held_before b k d) in
        let u : word (key_at t' rows' (new o.0)) (new o.0) ≡ word (key_at t' rows' (new p.0)) (new p.0) =
        sym (word_after a o.0 h o.1 o.2) ∙ e ∙ word_after b p.0 k p.1 p.2 in
        let v : new o.0 ≡ new p.0 = word_same _ _ (new o.0) (new p.0) (omega (arith, new_small o.0 o.1)) (omega (arith, new_small p.0 p.1)) u in
        let i = r.apart o.0 p.0 o.1 p.1 v in
        s.once a b h k (held_before a h c) (o.2 ∙ ap (λ (x : ℕ). word (key_at t rows x) x) i ∙ sym p.2)

    stands_after : (i d : ℕ) → LiveAt t rows i → ReachableAt (slots t) store (key_at t rows i) i d → ReachableAt (slots t) after (key_at t' rows' (new i)) (new i) d
    stands_after i d l p =
        let e = r.key i l in
        let n = slots t in
        let b : (x : ℕ) → slot_from n (home n (key_at t rows i)) x < n = λ x. slot_below n (home n (key_at t rows i)) x (omega (arith, m.some)) in
        record {
          below = p.below;
          there = ap (λ (k : List ℕ). get_or after (slot_from n (home n k) d) 0) e ∙ word_after (slot_from n (home n (key_at t rows i)) d) i (b d) l p.there;
          way = λ x h q.
              let z : get_or after (slot_from n (home n (key_at t rows i)) x) 0 ≡ 0 = ap (λ (k : List ℕ). get_or after (slot_from n (home n k) x) 0) (sym e) ∙ q in
              free_before (slot_from n (home n (key_at t rows i)) x) (b x) z (p.way x h);
        }
      where
        -- a slot that is free afterwards was free before
        free_before : (slot : ℕ) → slot < slots t → get_or after slot 0 ≡ 0 → (get_or store slot 0 ≡ 0 → ⊥) → ⊥
        free_before slot h z ne =
            let o = s.only_live slot h (omega arith) in
            omega (arith, word_after slot o.0 h o.1 o.2, word_some (key_at t' rows' (new o.0)) (new o.0))

    -- the renumbered store leads to exactly the rows after
    pub renames_sound : KeysSound t' rows' after
    renames_sound =
        record {
          only_live = λ slot h c. only_after slot (omega (arith, r.room)) c;
          once = λ a b h k c e. once_after a b (omega (arith, r.room)) (omega (arith, r.room)) c e;
          leads = λ k l.
              let f = r.back k l in
              let d = s.leads f.0 f.1 in
              rw (← f.2) (d.0, rw r.room (stands_after f.0 d.0 f.1 d.1));
        }

-- ---- the numbers that a compaction assigns

module _ (t : IndexShape) (rows : List ℕ) where
  pub live_few : (n : ℕ) → live_below t rows n ≤ n
  live_few n = omega (arith, count_le is_live (rows_of t.columns n rows), length_rows_of t.columns n rows)

  -- the numbers of the compaction bitmap, for the first n rows
  module _ (n : ℕ) where
    abbrev firsts : List (List ℕ)
    firsts = rows_of t.columns n rows

    pub below_number : (i : ℕ) → i ≤ n → live_below t rows i ≡ new_number is_live firsts i
    unfolding new_number
    below_number i h = ap (count is_live) (sym (rows_of_take t.columns n rows i h))

    pub live_among : (i : ℕ) → i < n → live_at is_live firsts i ≡ is_live (row_at t.columns i rows)
    live_among i h =
        let k : i < length firsts = rw length_rows_of h in
        live_at_in is_live firsts i [] k ∙ ap is_live (get_d_rows_of t.columns n rows i h)

  -- one more row, live or dead
  pub live_more : (i : ℕ) → is_live (row_at t.columns i rows) ≡ true → live_below t rows (i + 1) ≡ live_below t rows i + 1
  live_more i e =
      let k : i < i + 1 = omega arith in
      omega (arith, below_number (i + 1) (i + 1) (omega arith), below_number (i + 1) i (omega arith), number_live is_live (firsts (i + 1)) i (live_among (i + 1) i k ∙ e))

  pub live_same : (i : ℕ) → is_live (row_at t.columns i rows) ≡ false → live_below t rows (i + 1) ≡ live_below t rows i
  live_same i e =
      let k : i < i + 1 = omega arith in
      omega (arith, below_number (i + 1) (i + 1) (omega arith), below_number (i + 1) i (omega arith), number_dead is_live (firsts (i + 1)) i (live_among (i + 1) i k ∙ e))

  -- a live row's number is below that of each later row
  pub live_rises : (i j : ℕ) → is_live (row_at t.columns i rows) ≡ true → i < j → live_below t rows i < live_below t rows j
  live_rises i j e h = omega (arith, below_number j i (omega arith), below_number j j (omega arith), number_rises is_live (firsts j) i j h (live_among j i h ∙ e))

  -- each number below the count of live rows among the first n is the number of one of them
  pub live_back : (n k : ℕ) → k < live_below t rows n → (i : ℕ) × (i < n) × (is_live (row_at t.columns i rows) ≡ true) × (live_below t rows i ≡ k)
  live_back n k h =
      let b = number_onto is_live (firsts n) n k (omega (arith, below_number n n (omega arith))) in
      (b.0, b.1, sym (live_among n b.0 b.1) ∙ b.2, below_number n b.0 (omega (arith, b.1)) ∙ b.3)

-- The result of a compaction: each live row is at its new number, and there are no other rows.
pub record Compacted (t : IndexShape) (rows : List ℕ) (t' : IndexShape) (rows' : List ℕ) : Type 0 where
  pub columns : t'.columns ≡ t.columns
  pub keys : t'.keys ≡ t.keys
  pub room : t'.room ≡ t.room
  pub count : t'.rows ≡ live_below t rows t.rows
  pub moved : (i : ℕ) → LiveAt t rows i → row_at t.columns (live_below t rows i) rows' ≡ row_at t.columns i rows

module _ (t : IndexShape) (rows : List ℕ) (t' : IndexShape) (rows' : List ℕ) (c : Compacted t rows t' rows') where
  compacted_row : (i : ℕ) → LiveAt t rows i → row_at t'.columns (live_below t rows i) rows' ≡ row_at t.columns i rows
  compacted_row i l = rw c.columns (c.moved i l)

  pub renames : Renames t rows t' rows' (live_below t rows)
  renames =
      record {
        room = c.room;
        forth = forth;
        key = λ i l. rw (c.keys, compacted_row i l);
        apart = λ i j l k e. elim (dec_lt i j) [
          | yes h ↦ absurd (omega (arith, live_rises t rows i j l.1 h))
          | no h ↦ elim (dec_lt j i) [ yes g ↦ absurd (omega (arith, live_rises t rows j i k.1 g)) | no g ↦ omega arith ]
        ];
        back = λ k l. let f = live_back t rows t.rows k (omega (arith, l.0, c.count)) in (f.0, (f.1, f.2), f.3);
      }
    where
      forth : (i : ℕ) → LiveAt t rows i → LiveAt t' rows' (live_below t rows i)
      forth i l = (omega (arith, live_rises t rows i t.rows l.1 l.0, c.count), rw (compacted_row i l) l.1)

  -- "compaction renumbers": the store leads to exactly the rows that remain
  pub renumber_sound : (store store' : List ℕ) → Small t → KeysSound t rows store → Renumbered t rows store store' → KeysSound t' rows' store'
  renumber_sound store store' m s n =
      let few : t'.rows ≤ t'.room = omega (arith, c.count, c.room, live_few t rows t.rows, m.count) in
      renames_sound t rows t' rows' store (live_below t rows) renames m few s store' (n.numbers s)

-- a compaction bitmap with these numbers gives them to each slot
pub slots_renumbered : (t : IndexShape) (rows store live base : List ℕ) → Small t → slots t ≤ length store
    → ((i : ℕ) → LiveAt t rows i → new_row live base i ≡ live_below t rows i)
    → Renumbered t rows store (map_front (renumbered t live base) (slots t) store)
slots_renumbered t rows store live base m long ranked =
    record {
      numbers = λ _. record {
        free = λ slot h e. slot_after slot h ∙ renumbered_free t live base _ e;
        taken = λ slot i h l e.
            slot_after slot h
            ∙ ap (renumbered t live base) e
            ∙ renumbered_word t live base m (key_at t rows i) i (live_below t rows i) l.0 (ranked i l) (omega (arith, live_few t rows i, l.0, m.count, m.room));
      };
      rest = drop_map_front (renumbered t live base) (slots t) store;
    }
  where
    slot_after : (slot : ℕ) → slot < slots t → get_or (map_front (renumbered t live base) (slots t) store) slot 0 ≡ renumbered t live base (get_or store slot 0)
    slot_after slot h = get_d_map_front (renumbered t live base) (slots t) store slot 0 h (omega arith)
