-- The steps of checking.rt, by the laws of specs/Laws/Checks.antt: one law for each way that a function answers, and what
-- holds at the head of the loop over the pending words. Assumes nothing.
use Rattle.refusals.specs.Laws.Numbers.{err_outcome, ok_outcome}
use Rattle.refusals.specs.declared.Refusal.{Refusal}
use Rattle.std.specs.Prelude.{Ok, Err, Option as Optional, None, Some, MatchOption}
use Rattle.table_check.proofs.Prelude.{ℕ, ◌+◌, ◌-◌, ◌*◌, ◌≤◌, ◌<◌, ◌≡◌, refl, sym, ap, ◌∙◌, Bool, true, false, not, false≢true, List, [], ◌∷◌, add-zero, ℕ_discrete, arith, leb, length, take, drop, get_or, length-drop, get_or-drop, drop-drop, le-leb, leb-true, count_append, count_le, length_rows_of, rows_of_snoc, is_live, live_first, IndexShape, entries_of, entries_sound, Decides, decides_yes, decides_no, cells_sound, cells_live, cells_of, last_entries_of, last_none, sound_climb, last_all, Header, sound_refusal, index_shape_of, Checked, parts_sound, sound_rows, sound_index, sound_whole, begins_words, begins_hash, words_begin, holds_cons, holds_head, holds_tail, holds_none, holds_some, holds_pending, pending_holds, begins_kind}
use mathlib.Core.Option.{Option, none as no_value, some as a-value}
use Rattle.refusals.specs.Refusals.{number}
use Rattle.lists.specs.Lists.{all, count, row_at, rows_of}
use Rattle.cells.specs.Cells.{is_dead, compact_hash, key_hash}
use Rattle.plain_table.specs.Proper.{at_most}
use Rattle.plain_table.specs.Staged.{Opening, Staged, words_of}
use Rattle.refusals.specs.Refusals.{answer_view}
use Rattle.table.specs.Numbers.{opening_of, largest_view}
use Rattle.key_check.specs.inner.Check.{KeyStoreSound}
use Rattle.table_check.specs.inner.Checks.{dead_rows, last_kept, RowsSound, key_place, key_words, Begins, RecordRead, HoldsFrom, PendingWhole, SoundStores}
use Rattle.table.specs.inner.Records.{kind_words}

-- ---- rows

abbrev pub dead_among : ℕ → ℕ → List ℕ → ℕ
dead_among w n rows = count (λ row. not (is_live row)) (rows_of w n rows)

module _ (w n : ℕ) (rows : List ℕ) where
  dead_next : dead_among w (n + 1) rows ≡ dead_among w n rows + count (λ row. not (is_live row)) (row_at w n rows ∷ [])
  dead_next = ap (count (λ row. not (is_live row))) (rows_of_snoc w n rows) ∙ count_append (λ row. not (is_live row)) (rows_of w n rows) (row_at w n rows ∷ [])

  -- one row more, dead or live
  pub dead_more : 0 < w → is_dead (get_or rows (n * w) 0) ≡ true → dead_among w (n + 1) rows ≡ dead_among w n rows + 1
  unfolding count
  dead_more h e = dead_next ∙ rw (live_first w n rows h, e)

  pub dead_same : 0 < w → is_dead (get_or rows (n * w) 0) ≡ false → dead_among w (n + 1) rows ≡ dead_among w n rows
  unfolding count
  dead_same h e = dead_next ∙ rw (live_first w n rows h, e, add-zero)

  pub dead_few : dead_among w n rows ≤ n
  dead_few = omega (arith, count_le (λ row. not (is_live row)) (rows_of w n rows), length_rows_of w n rows)

-- where entries rise, the last one's value decides whether one exceeds the largest

lower_kept : (largest : Option ℕ) (a b : ℕ) → a ≤ b → at_most b largest ≡ true → at_most a largest ≡ true
unfolding at_most
lower_kept no_value a b h e = absurd (false≢true e)
lower_kept (a-value n) a b h e = le-leb a n (omega (arith, leb-true b n e))

kept_last : (h : Header) (sorts : List ℕ) → true ≡ entries_sound (entries_of h.entries sorts) h.rows
    → last_kept h sorts ≡ all (λ e. at_most e.value (largest_view h.largest)) (entries_of h.entries sorts)
kept_last h sorts e =
    last_all (λ v. at_most v (largest_view h.largest)) (lower_kept (largest_view h.largest)) (entries_of h.entries sorts) h.rows
    (sound_climb (entries_of h.entries sorts) h.rows (sym e))

-- the answers of `largest_sound`
module _ (h : Header) (sorts : List ℕ) where
  pub largest_empty : h.entries ≡ 0 → true ≡ last_kept h sorts
  largest_empty e = sym (last_none (λ v. at_most v (largest_view h.largest)) h.entries sorts e)

  last_here : (h.entries ≡ 0 → ⊥) → last_kept h sorts ≡ at_most (get_or sorts (2 * h.entries - 2) 0) (largest_view h.largest)
  last_here ne =
      let e : 2 * h.entries - 2 ≡ 2 * (h.entries - 1) = omega arith in
      rw e (last_entries_of (λ v. at_most v (largest_view h.largest)) h.entries sorts (omega arith))

  compared : (largest : Optional ℕ) (last : ℕ) (answer : Bool) (P : ℕ → Type 0) → MatchOption largest (answer ≡ false) P
      → ((value : ℕ) → P value → answer ≡ leb last value) → answer ≡ at_most last (largest_view largest)
  unfolding at_most largest_view
  compared None last answer P e f = e
  compared (Some value) last answer P e f = f value e

  pub largest_compared : (answer : Bool) → (h.entries ≡ 0 → ⊥) → (P : ℕ → Type 0) → MatchOption h.largest (answer ≡ false) P
      → ((value : ℕ) → P value → answer ≡ leb (get_or sorts (2 * h.entries - 2) 0) value) → answer ≡ last_kept h sorts
  largest_compared answer ne P e f = compared h.largest _ answer P e f ∙ sym (last_here ne)

-- the answers of `rows_sound`
module _ (h : Header) (rows sorts : List ℕ) where
  pub rows_miscounted : (h.dead ≡ dead_rows h rows → ⊥) → Decides (RowsSound h rows sorts) false
  rows_miscounted f = decides_no (λ s. f s.dead_counted)

  pub rows_unsorted : false ≡ entries_sound (entries_of h.entries sorts) h.rows → Decides (RowsSound h rows sorts) false
  rows_unsorted e = decides_no (λ s. false≢true (e ∙ s.entries_rise))

  pub rows_exceeding : true ≡ entries_sound (entries_of h.entries sorts) h.rows
      → false ≡ last_kept h sorts → Decides (RowsSound h rows sorts) false
  rows_exceeding e f = decides_no (λ s. false≢true (f ∙ kept_last h sorts e ∙ s.largest_kept))

  pub rows_decided : h.dead ≡ dead_rows h rows → true ≡ entries_sound (entries_of h.entries sorts) h.rows
      → true ≡ last_kept h sorts
      → (r : Bool) → r ≡ cells_sound rows h.columns h.sort h.rows (entries_of h.entries sorts) → Decides (RowsSound h rows sorts) r
  rows_decided d e m r f =
      record {
        yes = λ q.
            record {
              dead_counted = d;
              entries_rise = sym e;
              sorted = λ i l. cells_live rows h.columns h.sort h.rows (entries_of h.entries sorts) (sym f ∙ q) i l.0 l.1;
              largest_kept = sym (m ∙ kept_last h sorts e);
            };
        no = λ q s.
            false≢true (sym q ∙ f ∙ cells_of rows h.columns h.sort h.rows (entries_of h.entries sorts) (λ i k l. s.sorted i (k, l)));
      }

-- ---- pending records

-- a record has a hash and a key
pub record KeyInside (o : Opening) (kind words : ℕ) : Type 0 where
  pub some : 2 ≤ words
  pub end : key_place kind + o.keys ≤ words

pub key_inside : (o : Opening) (kind : ℕ) {words : ℕ} → words ≡ kind_words o kind → kind ≤ 2 → o.keys ≤ o.columns → KeyInside o kind words
unfolding kind_words key_place
key_inside o kind {words} e known narrow =
    elim (ℕ_discrete kind 0) [
      | yes a ↦ let f : words ≡ o.columns + 2 = rw a at e in rw a (record { some = omega arith; end = omega arith })
      | no a ↦ elim (ℕ_discrete kind 1) [
        | yes b ↦ let f : words ≡ o.keys + 2 = rw b at e in rw b (record { some = omega arith; end = omega arith })
        | no b ↦
            let d : kind ≡ 2 = omega arith in
            let f : words ≡ o.keys + 3 = rw d at e in
            rw d (record { some = omega arith; end = omega arith })
      ]
    ]

-- the answers of `record_words`

first_word : (pending : List ℕ) (at : ℕ) → get_or (drop at pending) 0 0 ≡ get_or pending at 0
first_word pending at = get_or-drop at pending 0 0 ∙ rw add-zero

pub read_no_kind : (o : Opening) (pending : List ℕ) (end at : ℕ) → 2 < get_or pending at 0 → RecordRead o pending end at 0
read_no_kind o pending end at h =
    record { yes = λ k. absurd (omega arith); no = λ _ r b k. omega (arith, begins_kind o (drop at pending) r b, first_word pending at) }

module _ (o : Opening) (pending : List ℕ) (end at words : ℕ) (kind : words ≡ kind_words o (get_or pending at 0)) where
  words_are : (r : Staged) → Begins o (drop at pending) r → words_of o r ≡ words
  words_are r b = begins_words o (drop at pending) r b ∙ ap (kind_words o) (first_word pending at) ∙ sym kind

  pub read_short : end - at < words → RecordRead o pending end at 0
  read_short h =
      record { yes = λ k. absurd (omega arith); no = λ _ r b k. let n = words_are r b in omega arith }

  module _ (narrow : o.keys ≤ o.columns) (place hash : ℕ) (p : place ≡ key_place (get_or pending at 0))
      (h : hash ≡ compact_hash (key_hash (take (at + place + o.keys - (at + place)) (drop (at + place) pending)))) where
    key_hash_lem : hash ≡ compact_hash (key_hash (key_words o (drop at pending)))
    unfolding key_words
    key_hash_lem =
        let n : at + place + o.keys - (at + place) ≡ o.keys = omega arith in
        h ∙ rw (n, first_word pending at, ← p, drop-drop place at pending)

    pub read_other_hash : (get_or pending (at + 1) 0 ≡ hash → ⊥) → RecordRead o pending end at 0
    read_other_hash f =
        record {
          yes = λ k. absurd (omega arith);
          no = λ _ r b k. f (sym (get_or-drop at pending 1 0) ∙ begins_hash o (drop at pending) narrow r b ∙ sym key_hash_lem);
        }

    pub read_whole : get_or pending (at + 1) 0 ≡ hash → get_or pending at 0 ≤ 2 → words ≤ end - at → at < end → end ≤ length pending → RecordRead o pending end at words
    read_whole e known fit inside long =
        let w = key_inside o (get_or pending at 0) kind known narrow in
        let n : words ≡ kind_words o (get_or (drop at pending) 0 0) = kind ∙ ap (kind_words o) (sym (first_word pending at)) in
        let b = words_begin o (drop at pending) (get_or-drop at pending 1 0 ∙ e ∙ key_hash_lem) narrow (omega (arith, first_word pending at)) (simp length-drop (omega arith)) in
        record { yes = λ k. (b.0, b.1, words_are b.0 b.1, omega arith); no = λ z. absurd (omega (arith, w)) }

-- what holds at the loop's head of `pending_whole`: records fill the words from here on exactly if they fill all words
pub record Reached (o : Opening) (pending : List ℕ) (end at : ℕ) : Type 0 where
  pub inside : at ≤ end
  pub back : (staged : List Staged) → HoldsFrom o pending end at staged → (all_hold : List Staged) × HoldsFrom o pending end 0 all_hold
  pub on : (all_hold : List Staged) → HoldsFrom o pending end 0 all_hold → (staged : List Staged) × HoldsFrom o pending end at staged

pub reach_start : (o : Opening) (pending : List ℕ) (end : ℕ) → Reached o pending end 0
reach_start o pending end = record { inside = omega arith; back = λ staged s. (staged, s); on = λ all_hold s. (all_hold, s) }

module _ (o : Opening) (pending : List ℕ) (end at : ℕ) (reached : Reached o pending end at) where
  pub reach_on : (words : ℕ) → RecordRead o pending end at words → (words ≡ 0 → ⊥) → Reached o pending end (at + words)
  reach_on words read some =
      record {
        inside = r.3;
        back = λ staged s. reached.back (r.0 ∷ staged) (holds_cons o pending end at r.0 staged r.1 (rw r.2 s));
        on = λ all_hold s. let g = reached.on all_hold s in rest g.0 g.1;
      }
    where
      r : (q : Staged) × Begins o (drop at pending) q × (words_of o q ≡ words) × (at + words ≤ end)
      r = read.yes (omega arith)

      rest : (staged : List Staged) → HoldsFrom o pending end at staged → (others : List Staged) × HoldsFrom o pending end (at + words) others
      rest [] s = absurd (omega (arith, holds_some o pending end at s, r.3))
      rest (q ∷ staged) s =
          let b = holds_head o pending end at q staged s in
          let n : words_of o q ≡ words = begins_words o (drop at pending) q b ∙ sym (begins_words o (drop at pending) r.0 r.1) ∙ r.2 in
          (staged, rw n at (holds_tail o pending end at q staged s))

module _ (h : Header) (pending : List ℕ) (at : ℕ) (reached : Reached (opening_of h) pending h.pending at) where
  pub reach_broken : at < h.pending → RecordRead (opening_of h) pending h.pending at 0 → Decides (PendingWhole h pending) false
  reach_broken k read = decides_no (λ w. let g = reached.on w.0 (pending_holds h pending w.0 w.1) in none g.0 g.1)
    where
      none : (staged : List Staged) → HoldsFrom (opening_of h) pending h.pending at staged → ⊥
      none [] s = omega (arith, holds_some (opening_of h) pending h.pending at s)
      none (q ∷ staged) s =
          let t = holds_tail (opening_of h) pending h.pending at q staged s in
          read.no refl q (holds_head (opening_of h) pending h.pending at q staged s) (omega (arith, t.counted))

  pub reach_end : h.pending ≤ at → Decides (PendingWhole h pending) true
  reach_end k =
      let g = reached.back [] (holds_none (opening_of h) pending h.pending at (omega (arith, reached.inside))) in
      decides_yes (g.0, holds_pending h pending g.0 g.1)

-- ---- all parts

module _ (h : Header) (rows keys sorts pending : List ℕ) where
  pub stores_rows : (RowsSound h rows sorts → ⊥) → Decides (SoundStores h rows keys sorts pending) false
  stores_rows f = decides_no (λ s. f (sound_rows h rows keys sorts pending s.0 s.1))

  module _ (t : IndexShape) (e : t ≡ index_shape_of h) where
    pub stores_index : (KeyStoreSound t rows keys → ⊥) → Decides (SoundStores h rows keys sorts pending) false
    stores_index f = decides_no (λ s. f (rw e (sound_index h rows keys sorts pending s.0 s.1)))

    pub stores_decided : sound_refusal h (length rows) (length keys) (length sorts) (length pending) ≡ 0 → RowsSound h rows sorts → KeyStoreSound t rows keys
        → (r : Bool) → Decides (PendingWhole h pending) r → Decides (SoundStores h rows keys sorts pending) r
    stores_decided tested a b r w =
        record {
          yes = λ q. let p = w.yes q in (p.0, parts_sound h rows keys sorts pending p.0 tested a (rw e at b) p.1);
          no = λ q s. w.no q (s.0, sound_whole h rows keys sorts pending s.0 s.1);
        }

  -- a refusal, and an answer
  pub checked_refused : (r : Refusal) → number r ≡ sound_refusal h (length rows) (length keys) (length sorts) (length pending) → Checked h rows keys sorts pending (Err r)
  unfolding answer_view
  checked_refused r e =
      record {
        refusal = err_outcome _ r e;
        sound = λ q. absurd (let z : ◌≡◌ {A = ℕ} 0 1 = cc in omega arith);
        unsound = λ q. absurd (let z : ◌≡◌ {A = ℕ} 0 1 = cc in omega arith);
      }

  pub checked_answered : sound_refusal h (length rows) (length keys) (length sorts) (length pending) ≡ 0 → (r : Bool)
      → Decides (SoundStores h rows keys sorts pending) r → Checked h rows keys sorts pending (Ok r)
  unfolding answer_view
  checked_answered accepts r w =
      record {
        refusal = ok_outcome r accepts;
        sound = λ q. let k : r ≡ true = cc in w.yes k;
        unsound = λ q staged s. let k : r ≡ false = cc in w.no k (staged, s);
      }
