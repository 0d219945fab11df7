-- The steps of loading an image's table: one law for each way that a function returns. Assumes nothing.
use Rattle.refusals.specs.declared.Refusal.{Refusal}
use Rattle.std.specs.Prelude.{Result, Ok, Err}
use Rattle.image_read.proofs.Prelude.{ℕ, ◌*◌, ◌+◌, ◌-◌, ◌≤◌, ◌<◌, ◌≡◌, refl, sym, ap, ◌∙◌, Bool, true, false, ◌||◌, List, [], Option, none, some, mul-le-mul_right, arith, ltb, length, take, drop, get_or, get_or-take, length-take-le, ltb-false, lt-ltb, le-ltb, eq-eqb, ne_eqb, or_no_left, or_no_right, length_splice, drop_splice, get_d_splice_in, slots_alike, IndexShape, KeysSound, size_class_for, size_class_most, size_class_enough, keys_longer, Fits, RowsIn, past_size_class, Rebuilt, first_refusal_no, first_refusal_rest, Header, index_shape_of, Body, body, lengths, LongEnough, stores_long, Inside, outside_inside, inside_fits, Image, Layout, image_in_proper, DecodingIs}
use mathlib.Core.Option.{Option-elim}
use Rattle.lists.specs.Lists.{splice}
use Rattle.refusals.specs.Refusals.{refused, accepted, first_refusal, reply, number}
use Rattle.plain_table.specs.Refusing.{Lengths, stores_short}
use Rattle.refusals.specs.Refusals.{answer_view}
use Rattle.table.specs.Numbers.{opening_of}
use Rattle.table.specs.Refusing.{outside}
use Rattle.image_spec.specs.Outcomes.{with_capacity, check_reply, read_refusal, ImageRead}
use Rattle.image_check.specs.inner.Parsed.{part, image_in, IsAt}
use Rattle.image_check.specs.inner.Decoding.{SlotsBuilt}
use Rattle.refusals.specs.Laws.Numbers.{err_outcome, ok_outcome, number_some}
use Rattle.image_read.specs.inner.Loading.{load_refusal, stores_refusal, PartsFit, PartsWritten, Built, Loading}

-- ---- `with_capacity`

module _ (h : Header) (capacity : ℕ) where
  pub capacity_kept : capacity ≡ 0 → h ≡ with_capacity h capacity
  capacity_kept e = rw (eq-eqb capacity 0 e)

  pub capacity_changed : (capacity ≡ 0 → ⊥)
      → record { columns = h.columns; keys = h.keys; sort = h.sort; rule = h.rule; capacity = capacity; rows = h.rows; dead = h.dead; entries = h.entries; pending = h.pending; generation = h.generation; largest = h.largest } ≡ with_capacity h capacity
  capacity_changed e = rw (ne_eqb capacity 0 e)

-- ---- `load_refusal`

module _ (h : Header) (l : Lengths) where
  pub load_outside : outside h ≡ true → 1 ≡ load_refusal h l
  unfolding load_refusal first_refusal
  load_outside e = rw e

  module _ (e : outside h ≡ false) where
    pub load_stores : stores_short (opening_of h) l ≡ true → 2 ≡ load_refusal h l
    unfolding load_refusal first_refusal
    load_stores s = rw (e, s)

    module _ (s : stores_short (opening_of h) l ≡ false) where
      pub load_pending : l.pending < h.pending → 2 ≡ load_refusal h l
      unfolding load_refusal first_refusal
      load_pending p = rw (e, s, lt-ltb _ _ p)

      pub load_none : h.pending ≤ l.pending → 0 ≡ load_refusal h l
      unfolding load_refusal first_refusal
      load_none p = rw (e, s, le-ltb _ _ p)

-- what is known where nothing is refused
pub record Loadable (h : Header) (l : Lengths) : Type 0 where
  pub inside : Inside h
  pub long : LongEnough (opening_of h) l.rows l.keys l.sorts
  pub pending_fits : h.pending ≤ l.pending

pub load_accepted : (h : Header) (l : Lengths) → load_refusal h l ≡ 0 → Loadable h l
unfolding load_refusal
load_accepted h l e =
    let b = first_refusal_no (stores_short (opening_of h) l || ltb l.pending h.pending) 1 _ (first_refusal_rest (outside h) 0 _ e) in
    record {
      inside = outside_inside h (first_refusal_no (outside h) 0 _ e);
      long = stores_long (opening_of h) l (or_no_left (stores_short (opening_of h) l) _ b);
      pending_fits = ltb-false _ _ (or_no_right (stores_short (opening_of h) l) _ b);
    }

-- ---- `write_keys`

module _ (t : IndexShape) (capacity : ℕ) (rows slots : List ℕ) (b : Built t capacity rows slots) where
  pub keys_copied : (room : ℕ) → room ≡ size_class_for capacity t.rows → t.room ≡ room → (keys keys' : List ℕ) → Fits t rows keys
      → keys' ≡ splice keys 0 (part slots 0 (2 * room)) → Rebuilt t rows keys keys'
  keys_copied room is same keys keys' f w =
      let n = 2 * t.room in
      let copy = take n slots in
      let copied : length copy ≡ n = length-take-le n slots (omega (arith, f.most, b.long)) in
      let fits : 0 + length copy ≤ length keys = omega (arith, f.long) in
      let width : 2 * room - 0 ≡ n = omega arith in
      let after : keys' ≡ splice keys 0 copy = rw width at w in
      let sound : KeysSound t rows slots = rw (← is, ← same) at b.sound in
      let alike : (slot : ℕ) → slot < n → get_or keys' slot 0 ≡ get_or slots slot 0 = λ slot h.
      let z : 0 + slot ≡ slot = omega arith in
      ap (λ (l : List ℕ). get_or l slot 0) after
      ∙ ap (λ (i : ℕ). get_or (splice keys 0 copy) i 0) (sym z)
      ∙ get_d_splice_in keys copy 0 fits slot 0 (omega arith)
      ∙ get_or-take n slots slot 0 h in
      record {
        sound = slots_alike alike sound;
        rest = ap (drop n) after ∙ drop_splice keys copy 0 fits n (omega arith);
      }

-- ---- `load`

module _ (words : List ℕ) (l : Layout) (capacity : ℕ) (b : Body) (pending : List ℕ) (n : Header) (header : n ≡ with_capacity l.header capacity) where
  refusal_is : load_refusal n (lengths b.rows b.keys b.sorts pending [] []) ≡ stores_refusal l capacity b pending
  refusal_is = ap (λ (h : Header). load_refusal h (lengths b.rows b.keys b.sorts pending [] [])) header

  pub loading_refused : (r : Refusal) → number r ≡ load_refusal n (lengths b.rows b.keys b.sorts pending [] []) → Loading words l capacity b pending (Err r) b pending
  loading_refused r e =
      record {
        refusal = err_outcome _ r (e ∙ refusal_is);
        unchanged = λ _. (refl, refl);
        loaded = λ z. absurd (number_some r (e ∙ refusal_is ∙ z));
      }

  module _ (z : load_refusal n (lengths b.rows b.keys b.sorts pending [] []) ≡ 0) where
    loadable : Loadable (with_capacity l.header capacity) (lengths b.rows b.keys b.sorts pending [] [])
    loadable = load_accepted _ _ (sym refusal_is ∙ z)

    pub parts_fit : IsAt words l → PartsFit words l (length b.rows) (length b.sorts) (length pending)
    parts_fit t =
        let g = loadable in
        record {
          there = t;
          rows_fit = omega (arith, g.long.rows_long, mul-le-mul_right l.header.columns g.inside.rows_fit);
          sorts_fit = omega (arith, g.long.sorts_long, g.inside.rows_fit, g.inside.entries_fit);
          pending_fit = g.pending_fits;
        }

    module _ (t : IsAt words l) (rows' sorts' pending' : List ℕ) (w : PartsWritten words l b.rows b.sorts pending rows' sorts' pending') where
      rows_length : length rows' ≡ length b.rows
      unfolding image_in
      rows_length =
          let p = image_in_proper words l t.placed t.counted in
          ap length w.rows_after ∙ length_splice b.rows (part words l.rows l.sorts) 0 (omega (arith, p.rows_are, (parts_fit t).rows_fit))

      pub keys_fit : (k : IndexShape) → k ≡ index_shape_of n → Fits k rows' b.keys
      keys_fit k is =
          let g = loadable in
          rw (is, header) (inside_fits (with_capacity l.header capacity) rows' b.keys g.inside (omega (arith, g.long.rows_long, rows_length)) g.long.keys_long)

      pub keys_built : (slots : List ℕ) → SlotsBuilt words l slots → 131072 ≤ length slots → (k : IndexShape) → k ≡ index_shape_of n → Built k l.header.capacity rows' slots
      unfolding splice image_in
      keys_built slots sound long k is =
          let i = outside_inside l.header t.placed.inside in
          let p = image_in_proper words l t.placed t.counted in
          let h = l.header in
          let within : RowsIn (index_shape_of h) (part words l.rows l.sorts) =
          record {
            most_columns = i.bounds.columns_few;
            most_keys = i.bounds.keys_few;
            most = omega (arith, size_class_most h.capacity h.rows, i.bounds.capacity_few);
            count = size_class_enough h.capacity h.rows i.rows_fit i.bounds.capacity_few;
            cells = omega (arith, p.rows_are);
          } in
          rw (is, header, w.rows_after)
          (record { long = long; sound = keys_longer (index_shape_of h) (part words l.rows l.sorts) _ within slots sound })

      pub loading_done : (k : IndexShape) → k ≡ index_shape_of n → (keys' : List ℕ) → Rebuilt k rows' b.keys keys' → length keys' ≡ length b.keys → Loading words l capacity b pending (Ok n) (body rows' keys' sorts') pending'
      unfolding answer_view image_in
      loading_done k is keys' s kept =
          let h = with_capacity l.header capacity in
          let r : Rebuilt (index_shape_of h) rows' b.keys keys' = rw (is, header) at s in
          record {
            refusal = ok_outcome n (sym refusal_is ∙ z);
            unchanged = λ k. absurd (omega (arith, refusal_is, z, k));
            loaded = λ _.
                record {
                  answers = ap accepted header;
                  rows_after = w.rows_after;
                  sorts_after = w.sorts_after;
                  pending_after = w.pending_after;
                  keys_sound = r.sound;
                  past = past_size_class h.capacity h.rows b.keys keys' r.rest;
                  slots = kept;
                };
          }

-- ---- `read_image`

-- words that the check refuses are refused with the same number when they are read
refusal_same : (image : Option Image) (sound : Bool) (number : ℕ) (capacity : ℕ) (b : Body) (pending : List ℕ) → check_reply image sound ≡ refused number
    → read_refusal image sound capacity b pending ≡ number
unfolding check_reply read_refusal Option-elim reply first_refusal
refusal_same none sound number capacity b pending e = let k : 19 ≡ number = cc in k
refusal_same (some i) true number capacity b pending e = absurd (let z : ◌≡◌ {A = ℕ} 0 1 = cc in omega arith)
refusal_same (some i) false number capacity b pending e = let k : 20 ≡ number = cc in k

module _ (words : List ℕ) (capacity : ℕ) (b : Body) (pending : List ℕ) (r : Result Layout Refusal) (slots : List ℕ) (d : DecodingIs words r slots) where
  pub read_refused : (refusal : Refusal) → r ≡ Err refusal → ImageRead words capacity b pending (Err refusal) b pending
  read_refused refusal e =
      let s = refusal_same d.decoded.image d.decoded.sound (number refusal) capacity b pending (d.refusal refusal e) in
      record {
        decoded = d.decoded;
        refusal = err_outcome _ refusal (sym s);
        unchanged = λ _. (refl, refl);
        loaded = λ i _ z. absurd (number_some refusal (sym s ∙ z));
      }

  pub read_loaded : (l : Layout) → r ≡ Ok l → (answer : Result Header Refusal) (b' : Body) (pending' : List ℕ) → Loading words l capacity b pending answer b' pending'
      → ImageRead words capacity b pending answer b' pending'
  read_loaded l e answer b' pending' g =
      let s = d.sound_at l e in
      let n : read_refusal d.decoded.image d.decoded.sound capacity b pending ≡ stores_refusal l capacity b pending = rw (s.image_is, s.sound_is) same in
      record {
        decoded = d.decoded;
        refusal = rw n g.refusal;
        unchanged = λ k. g.unchanged (rw n at k);
        loaded = λ i is z. let f : image_in words l ≡ i = some_same (sym s.image_is ∙ is) in rw (← f) (g.loaded (sym n ∙ z));
      }
    where
      same : read_refusal (some (image_in words l)) true capacity b pending ≡ stores_refusal l capacity b pending
      same = unfold read_refusal Option-elim first_refusal load_refusal image_in in refl

      some_same : {i j : Image} → ◌≡◌ {A = Option Image} (some i) (some j) → i ≡ j
      some_same e = cc
