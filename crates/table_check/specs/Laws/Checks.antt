-- Laws of the soundness check: its parts imply soundness, and the words of the pending store determine its records. Assumes
-- nothing.
use Rattle.std.specs.Prelude.{ℕ, suc, ◌+◌, ◌≤◌, ◌<◌, ◌≡◌, false, eqb, length, drop}
use Rattle.std.proofs.Math.Path.{refl, sym, ap, ap₂}
use Rattle.std.proofs.Common.{◌∙◌, mul-le-mul_right, length-take, length-drop, drop-drop, get_or-take}
use Rattle.std.proofs.Math.Bool.{not}
use mathlib.Core.List.{List, [], ◌∷◌, ◌++◌}
use Rattle.std.proofs.Math.Decide.{ℕ_discrete}
use native.Mathlib.Omega.{arith}
use Rattle.std.proofs.Math.ListN.{take, get_or}
use Rattle.std.proofs.Math.Seq.{take-take, take-add, take_at, drop_at}
use borrow.Author.Tests.{eq-eqb, not-true}
use Rattle.lists.specs.Lists.{all, flatten}
use Rattle.lists.specs.Laws.Parts.{take_drop}
use Rattle.lists.specs.Laws.All.{all_head, all_tail, all_cons}
use Rattle.cells.specs.Cells.{compact_hash, key_hash}
use Rattle.key_index.specs.inner.Index.{Fits}
use Rattle.key_check.specs.inner.Check.{KeyStoreSound}
use Rattle.sort_entries.specs.inner.Search.{EntriesFit}
use Rattle.sort_entries.specs.inner.Checks.{Cells}
use Rattle.plain_table.specs.Staged.{Opening, Staged, insert, remove_key, remove_row, words_of, words_all}
use Rattle.plain_table.specs.Refusing.{wrong_width}
use Rattle.table.specs.declared.Header.{Header}
use Rattle.table.specs.Numbers.{opening_of}
use Rattle.table.specs.Refusing.{sound_refusal}
use Rattle.table.specs.Stores.{record_words}
use Rattle.table.specs.Sound.{index_shape_of, Sound}
use Rattle.table_check.specs.inner.Checks.{RowsSound, PendingIn, key_place, key_words, Begins, HoldsFrom, Pending}
use Rattle.table.specs.inner.Records.{kind_words}
use Rattle.table.proofs.Laws.Refusals.{Tested, sound_tested, inside_fits}
use Rattle.table.proofs.Laws.Pending.{length_record_words}

-- ---- what tests 1 and 2 provide for the parts

module _ (h : Header) (rows keys sorts pending : List ℕ) (tested : sound_refusal h (length rows) (length keys) (length sorts) (length pending) ≡ 0) where
  facts : Tested h (length rows) (length keys) (length sorts) (length pending)
  facts = sound_tested h (length rows) (length keys) (length sorts) (length pending) tested

  pub sound_fits : Fits (index_shape_of h) rows keys
  sound_fits = let t = facts in inside_fits h rows keys t.inside t.long.rows_long t.long.keys_long

  pub sound_cells : Cells rows h.columns h.sort h.rows
  sound_cells =
      let t = facts in
      let i = t.inside in
      record {
        narrow = i.bounds.columns_few;
        column = i.bounds.sort_column;
        few = omega (arith, i.rows_fit, i.bounds.capacity_few);
        words = omega (arith, t.long.rows_long, mul-le-mul_right h.columns i.rows_fit);
      }

  pub sound_held : EntriesFit sorts h.entries
  sound_held =
      let t = facts in
      let i = t.inside in
      record {
        few = omega (arith, i.entries_fit, i.rows_fit, i.bounds.capacity_few);
        words = omega (arith, i.entries_fit, i.rows_fit, t.long.sorts_long);
      }

  pub sound_pending : PendingIn h pending
  sound_pending =
      let t = facts in
      record { most_columns = t.inside.bounds.columns_few; most_keys = t.inside.bounds.keys_few; fits = t.pending_fits }

-- ---- the parts imply soundness

module _ (h : Header) (rows keys sorts pending : List ℕ) (staged : List Staged) where
  pub parts_sound : sound_refusal h (length rows) (length keys) (length sorts) (length pending) ≡ 0 → RowsSound h rows sorts
      → KeyStoreSound (index_shape_of h) rows keys → Pending h pending staged → Sound h rows keys sorts pending staged
  parts_sound tested a b c =
      record {
        tested = tested;
        contents =
            record {
              dead_counted = a.dead_counted;
              keys_differ = b.keys_differ;
              entries_rise = a.entries_rise;
              sorted = a.sorted;
              largest_kept = a.largest_kept;
              pending_counted = c.pending_counted;
              pending_whole = c.pending_whole;
            };
        keys_sound = b.keys_sound;
      }

  pub sound_rows : Sound h rows keys sorts pending staged → RowsSound h rows sorts
  sound_rows s = let c = s.contents in record { dead_counted = c.dead_counted; entries_rise = c.entries_rise; sorted = c.sorted; largest_kept = c.largest_kept }

  pub sound_index : Sound h rows keys sorts pending staged → KeyStoreSound (index_shape_of h) rows keys
  sound_index s = record { keys_sound = s.keys_sound; keys_differ = s.contents.keys_differ }

  pub sound_whole : Sound h rows keys sorts pending staged → Pending h pending staged
  sound_whole s = record { pending_counted = s.contents.pending_counted; pending_whole = s.contents.pending_whole }

-- ---- one pending record

module _ (o : Opening) (words : List ℕ) where
  -- the words of a record, one by one
  begins_word : (r : Staged) → Begins o words r → (i : ℕ) → i < words_of o r → get_or words i 0 ≡ get_or (record_words o.keys r) i 0
  begins_word r b i h = sym (get_or-take (words_of o r) words i 0 h) ∙ ap (λ (l : List ℕ). get_or l i 0) b.there

  -- the words after the first n
  begins_part : (r : Staged) → Begins o words r → (n m : ℕ) → n + m ≡ words_of o r → take m (drop n words) ≡ drop n (record_words o.keys r)
  begins_part r b n m e = take_drop n m words ∙ ap (drop n) (ap (λ (k : ℕ). take k words) e ∙ b.there)

  -- the first word determines the number of words
  pub begins_words : (r : Staged) → Begins o words r → words_of o r ≡ kind_words o (get_or words 0 0)
  unfolding words_of record_words kind_words
  begins_words (insert cells) b = rw (begins_word (insert cells) b 0 (omega arith))
  begins_words (remove_key key) b = rw (begins_word (remove_key key) b 0 (omega arith))
  begins_words (remove_row row key) b = rw (begins_word (remove_row row key) b 0 (omega arith))

  -- the first word is a kind
  pub begins_kind : (r : Staged) → Begins o words r → get_or words 0 0 ≤ 2
  unfolding words_of record_words
  begins_kind (insert cells) b = omega (arith, begins_word (insert cells) b 0 (omega arith))
  begins_kind (remove_key key) b = omega (arith, begins_word (remove_key key) b 0 (omega arith))
  begins_kind (remove_row row key) b = omega (arith, begins_word (remove_row row key) b 0 (omega arith))

  -- the second is the hash of the key
  pub begins_hash : o.keys ≤ o.columns → (r : Staged) → Begins o words r → get_or words 1 0 ≡ compact_hash (key_hash (key_words o words))
  unfolding words_of record_words key_words key_place
  begins_hash k (insert cells) b =
      let e : take o.columns (drop 2 words) ≡ cells = begins_part (insert cells) b 2 o.columns (omega arith) in
      let f : take o.keys (drop 2 words) ≡ take o.keys cells = sym (take-take o.keys o.columns (drop 2 words) k) ∙ ap (take o.keys) e in
      rw (begins_word (insert cells) b 0 (omega arith), f) (begins_word (insert cells) b 1 (omega arith))
  begins_hash k (remove_key key) b =
      let e : take o.keys (drop 2 words) ≡ key = begins_part (remove_key key) b 2 o.keys (omega arith) in
      rw (begins_word (remove_key key) b 0 (omega arith), e) (begins_word (remove_key key) b 1 (omega arith))
  begins_hash k (remove_row row key) b =
      let e : take o.keys (drop 3 words) ≡ key = begins_part (remove_row row key) b 3 o.keys (omega arith) in
      rw (begins_word (remove_row row key) b 0 (omega arith), e) (begins_word (remove_row row key) b 1 (omega arith))

-- conversely
two_words : (n : ℕ) (words : List ℕ) → n + 2 ≤ length words → take (n + 2) words ≡ get_or words 0 0 ∷ get_or words 1 0 ∷ take n (drop 2 words)
two_words n [] h = absurd (omega arith)
two_words n (a ∷ []) h = absurd (omega arith)
two_words n (a ∷ b ∷ words) h = let z : n + 2 ≡ suc (suc n) = omega arith in rw z

three_words : (n : ℕ) (words : List ℕ) → n + 3 ≤ length words → take (n + 3) words ≡ get_or words 0 0 ∷ get_or words 1 0 ∷ get_or words 2 0 ∷ take n (drop 3 words)
three_words n [] h = absurd (omega arith)
three_words n (a ∷ []) h = absurd (omega arith)
three_words n (a ∷ b ∷ []) h = absurd (omega arith)
three_words n (a ∷ b ∷ c ∷ words) h = let z : n + 3 ≡ suc (suc (suc n)) = omega arith in rw z

right_length : (n k : ℕ) (words : List ℕ) → n + k ≤ length words → not (eqb (length (take n (drop k words))) n) ≡ false
right_length n k words h = let e : length (take n (drop k words)) ≡ n = simp (length-take, length-drop) (omega arith) in rw (eq-eqb _ _ e)

module _ (o : Opening) (words : List ℕ) (hash : get_or words 1 0 ≡ compact_hash (key_hash (key_words o words))) where
  insert_begins : o.keys ≤ o.columns → get_or words 0 0 ≡ 0 → o.columns + 2 ≤ length words → Begins o words (insert (take o.columns (drop 2 words)))
  unfolding words_of record_words wrong_width key_words key_place
  insert_begins narrow e h =
      let f : get_or words 1 0 ≡ compact_hash (key_hash (take o.keys (drop 2 words))) = rw e at hash in
      record {
        right_width = right_length o.columns 2 words h;
        there = two_words o.columns words h ∙ rw (e, f, take-take o.keys o.columns (drop 2 words) narrow);
      }

  remove_key_begins : get_or words 0 0 ≡ 1 → o.keys + 2 ≤ length words → Begins o words (remove_key (take o.keys (drop 2 words)))
  unfolding words_of record_words wrong_width key_words key_place
  remove_key_begins e h =
      let f : get_or words 1 0 ≡ compact_hash (key_hash (take o.keys (drop 2 words))) = rw e at hash in
      record { right_width = right_length o.keys 2 words h; there = two_words o.keys words h ∙ rw (e, f) }

  remove_row_begins : get_or words 0 0 ≡ 2 → o.keys + 3 ≤ length words → Begins o words (remove_row (get_or words 2 0) (take o.keys (drop 3 words)))
  unfolding words_of record_words wrong_width key_words key_place
  remove_row_begins e h =
      let f : get_or words 1 0 ≡ compact_hash (key_hash (take o.keys (drop 3 words))) = rw e at hash in
      record { right_width = right_length o.keys 3 words h; there = three_words o.keys words h ∙ rw (e, f) }

  -- words are the start of a record if the first is a kind, the second is the hash of the key, and there are enough of them
  pub words_begin : o.keys ≤ o.columns → get_or words 0 0 ≤ 2 → kind_words o (get_or words 0 0) ≤ length words → (r : Staged) × Begins o words r
  unfolding kind_words
  words_begin narrow known long =
      elim (ℕ_discrete (get_or words 0 0) 0) [
        | yes e ↦ (insert (take o.columns (drop 2 words)), insert_begins narrow e (rw e at long))
        | no e ↦ elim (ℕ_discrete (get_or words 0 0) 1) [
          | yes f ↦ (remove_key (take o.keys (drop 2 words)), remove_key_begins f (rw f at long))
          | no f ↦
              let g : get_or words 0 0 ≡ 2 = omega arith in
              (remove_row (get_or words 2 0) (take o.keys (drop 3 words)), remove_row_begins g (rw g at long))
        ]
      ]

-- ---- all pending records

module _ (o : Opening) (pending : List ℕ) (end at : ℕ) where
  -- one more record in front
  pub holds_cons : (r : Staged) (staged : List Staged) → Begins o (drop at pending) r → HoldsFrom o pending end (at + words_of o r) staged → HoldsFrom o pending end at (r ∷ staged)
  unfolding words_all flatten
  holds_cons r staged b s =
      record {
        whole = all_cons (λ q. not (wrong_width o q)) r staged (rw b.right_width) s.whole;
        counted = omega (arith, s.counted);
        in_order =
            take-add (words_of o r) (words_all o staged) (drop at pending)
            ∙ ap₂ (λ (x y : List ℕ). x ++ y) b.there (ap (take (words_all o staged)) (drop-drop (words_of o r) at pending) ∙ s.in_order);
      }

  -- the first record
  pub holds_head : (r : Staged) (staged : List Staged) → HoldsFrom o pending end at (r ∷ staged) → Begins o (drop at pending) r
  unfolding words_all flatten
  holds_head r staged s =
      let w = not-true _ (all_head (λ q. not (wrong_width o q)) r staged s.whole) in
      let k : words_of o r ≤ words_of o r + words_all o staged = omega arith in
      record {
        right_width = w;
        there =
            sym (take-take (words_of o r) (words_of o r + words_all o staged) (drop at pending) k)
            ∙ ap (take (words_of o r)) s.in_order
            ∙ take_at (record_words o.keys r) _ (words_of o r) (length_record_words o r w);
      }

  -- the other records
  pub holds_tail : (r : Staged) (staged : List Staged) → HoldsFrom o pending end at (r ∷ staged) → HoldsFrom o pending end (at + words_of o r) staged
  unfolding words_all flatten
  holds_tail r staged s =
      let w = not-true _ (all_head (λ q. not (wrong_width o q)) r staged s.whole) in
      record {
        whole = all_tail (λ q. not (wrong_width o q)) r staged s.whole;
        counted = omega (arith, s.counted);
        in_order =
            ap (take (words_all o staged)) (sym (drop-drop (words_of o r) at pending))
            ∙ take_drop (words_of o r) (words_all o staged) (drop at pending)
            ∙ ap (drop (words_of o r)) s.in_order
            ∙ drop_at (record_words o.keys r) _ (words_of o r) (length_record_words o r w);
      }

  -- no records fill no words
  pub holds_none : at ≡ end → HoldsFrom o pending end at []
  unfolding all words_all flatten
  holds_none e = record { whole = refl; counted = omega arith; in_order = refl }

  pub holds_some : HoldsFrom o pending end at [] → at ≡ end
  unfolding words_all
  holds_some s = omega (arith, s.counted)

-- from the first word on, they are the records in the pending store of a sound table
module _ (h : Header) (pending : List ℕ) (staged : List Staged) where
  pub holds_pending : HoldsFrom (opening_of h) pending h.pending 0 staged → Pending h pending staged
  holds_pending s =
      record { pending_counted = omega (arith, s.counted); pending_whole = record { whole = s.whole; in_order = s.in_order } }

  pub pending_holds : Pending h pending staged → HoldsFrom (opening_of h) pending h.pending 0 staged
  pending_holds s =
      record { whole = s.pending_whole.whole; counted = omega (arith, s.pending_counted); in_order = s.pending_whole.in_order }
