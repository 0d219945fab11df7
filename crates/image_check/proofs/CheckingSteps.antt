-- The steps of the check of an image: one law for each way that a function returns. Assumes nothing.
use Rattle.std.specs.Prelude.{Result, Ok, Err}
use Prim.Native.Nat.{ℕ, ◌≤◌}
use mathlib.Core.Path.{◌≡◌, refl, sym, ap}
use mathlib.Core.Bool.{Bool, true, false, true≢false, false≢true}
use mathlib.Core.List.{List}
use mathlib.Core.Option.{Option, none, some, Option-elim}
use native.Mathlib.Omega.{arith}
use lib.ListN.{length}
use Rattle.refusals.specs.declared.Refusal.{Refusal}
use Rattle.refusals.specs.declared.Refusal.TheVariants.{NoImage, UnsoundImage}
use Rattle.refusals.specs.Refusals.{refused, first_refusal, reply, number, answer_view}
use Rattle.key_index.specs.declared.IndexShape.{IndexShape}
use Rattle.key_index.specs.inner.Index.{RowsFit}
use Rattle.key_index.specs.Laws.SizeClasses.{size_class_most, size_class_some, size_class_enough}
use Rattle.key_rebuild.specs.inner.Rebuilding.{UniqueBuilt}
use Rattle.sort_entries.specs.inner.Search.{EntriesFit}
use Rattle.sort_entries.specs.inner.Checks.{Decides, decides_no, Cells}
use Rattle.table.specs.Sound.{index_shape_of}
use Rattle.table.proofs.Laws.Refusals.{outside_inside}
use Rattle.table_check.specs.inner.Checks.{RowsSound, PendingIn, PendingWhole}
use Rattle.image_spec.specs.Image.{Image, Reads, SoundImage}
use Rattle.image_spec.specs.Outcomes.{Decoded, check_reply, ImageChecked}
use Rattle.image_check.specs.declared.parse.Layout.{Layout}
use Rattle.image_check.specs.inner.Parsed.{part, image_in, IsAt}
use Rattle.image_check.specs.Laws.Images.{Proper, image_in_proper}
use Rattle.image_check.specs.inner.Decoding.{SlotsBuilt, ContentsChecked, DecodingIs}

-- ---- `is_contents_sound`

module _ (words : List ℕ) (l : Layout) (t : IsAt words l) where
  proper : Proper (image_in words l)
  proper = image_in_proper words l t.placed t.counted

  pub contents_cells : Cells (part words l.rows l.sorts) l.header.columns l.header.sort l.header.rows
  unfolding image_in
  contents_cells =
      let i = outside_inside l.header t.placed.inside in
      record {
        narrow = i.bounds.columns_few;
        column = i.bounds.sort_column;
        few = omega (arith, i.rows_fit, i.bounds.capacity_few);
        words = omega (arith, proper.rows_are);
      }

  pub contents_held : EntriesFit (part words l.sorts l.pending) l.header.entries
  unfolding image_in
  contents_held =
      let i = outside_inside l.header t.placed.inside in
      record { few = omega (arith, i.entries_fit, i.rows_fit, i.bounds.capacity_few); words = omega (arith, proper.sorts_are) }

  pub contents_fit : (t' : IndexShape) → t' ≡ index_shape_of l.header → (slots : List ℕ) → 131072 ≤ length slots → RowsFit t' (part words l.rows l.sorts) slots
  unfolding image_in
  contents_fit t' is slots long =
      let h = l.header in
      let i = outside_inside h t.placed.inside in
      let b = i.bounds in
      let most = size_class_most h.capacity h.rows in
      rw is
      (record {
        some_columns = b.columns_some;
        some_keys = b.keys_some;
        within = record {
          most_columns = b.columns_few;
          most_keys = b.keys_few;
          most = omega (arith, most, b.capacity_few);
          count = size_class_enough h.capacity h.rows i.rows_fit b.capacity_few;
          cells = omega (arith, proper.rows_are);
        };
        slots_fit = record { some = size_class_some h.capacity h.rows b.capacity_some; most = omega (arith, most, b.capacity_few); long = omega (arith, most, b.capacity_few) };
      })

  pub contents_pending : PendingIn l.header (part words l.pending l.end)
  unfolding image_in
  contents_pending =
      let i = outside_inside l.header t.placed.inside in
      record { most_columns = i.bounds.columns_few; most_keys = i.bounds.keys_few; fits = omega (arith, proper.pending_are) }

  pub unsound_rows : (RowsSound l.header (part words l.rows l.sorts) (part words l.sorts l.pending) → ⊥)
      → (slots : List ℕ) → ContentsChecked words l false slots
  unfolding image_in
  unsound_rows f slots =
      record {
        decided = decides_no (λ s. let c = s.1 in f (record { dead_counted = c.dead_counted; entries_rise = c.entries_rise; sorted = c.sorted; largest_kept = c.largest_kept }));
        built = λ e. absurd (false≢true e);
      }

  module _ (t' : IndexShape) (is : t' ≡ index_shape_of l.header) (r : Bool) (slots : List ℕ) (u : UniqueBuilt t' (part words l.rows l.sorts) r slots) where
    unique : UniqueBuilt (index_shape_of l.header) (part words l.rows l.sorts) r slots
    unique = rw is at u

    pub unsound_keys : r ≡ false → ContentsChecked words l false slots
    unfolding image_in
    unsound_keys e = record { decided = decides_no (λ s. unique.repeat e s.1.keys_differ); built = λ q. absurd (false≢true q) }

    pub sound_by_pending : r ≡ true → RowsSound l.header (part words l.rows l.sorts) (part words l.sorts l.pending)
        → (whole : Bool) → Decides (PendingWhole l.header (part words l.pending l.end)) whole → ContentsChecked words l whole slots
    unfolding image_in
    sound_by_pending e a whole d =
        record {
          decided =
              record {
                yes = λ q.
                    let w = d.yes q in (
                      w.0,
                      record {
                        dead_counted = a.dead_counted;
                        keys_differ = unique.differ e;
                        entries_rise = a.entries_rise;
                        sorted = a.sorted;
                        largest_kept = a.largest_kept;
                        pending_counted = w.1.pending_counted;
                        pending_whole = w.1.pending_whole;
                      },
                    );
                no = λ q s. d.no q (s.0, record { pending_counted = s.1.pending_counted; pending_whole = s.1.pending_whole });
              };
          built = λ _. unique.sound e;
        }

-- ---- `decode`

module _ (words : List ℕ) where
  pub decoding_none : Reads words none → (slots : List ℕ) → DecodingIs words (Err NoImage) slots
  unfolding check_reply Option-elim
  decoding_none n slots =
      record {
        decoded =
            record {
              image = none;
              reads = n;
              sound = false;
              if_sound = λ e. absurd (false≢true e);
              if_unsound = λ _ i e. absurd (let z : ◌≡◌ {A = ℕ} 0 1 = cc in omega arith);
            };
        refusal = λ m e. let k : NoImage ≡ m = cc in ap (λ (q : Refusal). refused (number q)) k;
        sound_at = λ l e. absurd (let z : ◌≡◌ {A = ℕ} 0 1 = cc in omega arith);
        built = λ l e. absurd (let z : ◌≡◌ {A = ℕ} 0 1 = cc in omega arith);
      }

  module _ (l : Layout) (t : IsAt words l) where
    pub decoding_unsound : (SoundImage (image_in words l) → ⊥) → (slots : List ℕ) → DecodingIs words (Err UnsoundImage) slots
    unfolding check_reply Option-elim reply first_refusal
    decoding_unsound f slots =
        record {
          decoded =
              record {
                image = some (image_in words l);
                reads = t.reads;
                sound = false;
                if_sound = λ e. absurd (false≢true e);
                if_unsound = λ _ i e s. let k : image_in words l ≡ i = cc in f (rw k s);
              };
          refusal = λ m e. let k : UnsoundImage ≡ m = cc in ap (λ (q : Refusal). refused (number q)) k;
          sound_at = λ m e. absurd (let z : ◌≡◌ {A = ℕ} 0 1 = cc in omega arith);
          built = λ m e. absurd (let z : ◌≡◌ {A = ℕ} 0 1 = cc in omega arith);
        }

    that_one : SoundImage (image_in words l) → (i : Image) → ◌≡◌ {A = Option Image} (some (image_in words l)) (some i) → SoundImage i
    that_one s i e = let k : image_in words l ≡ i = cc in rw (← k) s

    abbrev sound_one : SoundImage (image_in words l) → Decoded words
    sound_one s =
        record {
          image = some (image_in words l);
          reads = t.reads;
          sound = true;
          if_sound = λ _. that_one s;
          if_unsound = λ e. absurd (true≢false e);
        }

    pub decoding_sound : SoundImage (image_in words l) → (slots : List ℕ) → SlotsBuilt words l slots → DecodingIs words (Ok l) slots
    decoding_sound s slots b =
        record {
          decoded = sound_one s;
          refusal = λ m e. absurd (let z : ◌≡◌ {A = ℕ} 0 1 = cc in omega arith);
          sound_at = λ m e. let k : l ≡ m = cc in rw (← k) (record { there = t; image_is = refl; sound_is = refl });
          built = λ m e. let k : l ≡ m = cc in rw (← k) b;
        }

-- ---- `check_image`

module _ (words : List ℕ) (r : Result Layout Refusal) (slots : List ℕ) (d : DecodingIs words r slots) where
  pub checked_refused : (refusal : Refusal) → r ≡ Err refusal → ImageChecked words (Err refusal)
  unfolding answer_view
  checked_refused refusal e = record { decoded = d.decoded; answers = sym (d.refusal refusal e) }

  pub checked_sound : (l : Layout) → r ≡ Ok l → ImageChecked words (Ok l.header)
  unfolding answer_view check_reply Option-elim reply first_refusal image_in
  checked_sound l e =
      let s = d.sound_at l e in
      record { decoded = d.decoded; answers = rw (s.image_is, s.sound_is) }
