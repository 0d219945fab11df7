-- The checks of *Image size* and *Write image* one by one, and what is known where none refuses. Assumes nothing.
use Rattle.std.specs.Prelude.{◌+◌, ◌*◌, ◌/◌, ◌≤◌, ◌<◌, ◌≡◌}
use Rattle.image_write.specs.Laws.Prelude.{ℕ, true, false, List, mul-le-mul, mul-le-mul_right, le_trans, arith, ltb, length, lt-ltb, le-ltb, ltb-false, or_no_left, or_no_right, first_refusal_no, first_refusal_rest, Header, Inside, outside_inside, words_in_use, Holds}
use Rattle.refusals.specs.Refusals.{first_refusal}
use Rattle.table.specs.Refusing.{outside, pending_outside, rows_short, pairs_short}
use Rattle.image_spec.specs.Image.{image_length}
use Rattle.image_spec.specs.Outcomes.{write_refusal}
use Rattle.image_write.specs.inner.Parts.{size_refusal}

-- the cells in use are within those of the capacity
rows_within : (h : Header) → Inside h → h.rows * h.columns ≤ h.capacity * h.columns
rows_within h i = mul-le-mul_right h.columns i.rows_fit

-- they are few, and so are the sort entries
pub record Few (h : Header) : Type 0 where
  pub cells_few : h.rows * h.columns ≤ 524288
  pub entries_few : h.entries ≤ 65536

pub inside_few : (h : Header) → outside h ≡ false → Few h
inside_few h e =
    let i = outside_inside h e in
    let rows_few : h.rows ≤ 65536 = omega (arith, i.rows_fit, i.bounds.capacity_few) in
    record { cells_few = mul-le-mul rows_few i.bounds.columns_few; entries_few = omega (arith, i.entries_fit) }

pub pending_outside_no : (h : Header) (pending : ℕ) → pending_outside h pending ≡ false → outside h ≡ false
unfolding pending_outside
pending_outside_no h pending e = or_no_left (outside h) _ e

pub length_is : (h : Header) (text : ℕ) → image_length h text ≡ 15 + (text + 3) / 4 + words_in_use h + 1
unfolding image_length
length_is h text = omega arith

-- ---- *Image size*

module _ (h : Header) (text : ℕ) where
  pub size_outside : outside h ≡ true → 1 ≡ size_refusal h text
  unfolding size_refusal first_refusal
  size_outside e = rw e

  pub size_long : outside h ≡ false → 4096 < text → 21 ≡ size_refusal h text
  unfolding size_refusal first_refusal
  size_long e k = rw (e, lt-ltb _ _ k)

  pub size_none : outside h ≡ false → text ≤ 4096 → 0 ≡ size_refusal h text
  unfolding size_refusal first_refusal
  size_none e k = rw (e, le-ltb _ _ k)

  pub size_accepted : size_refusal h text ≡ 0 → (outside h ≡ false) × (text ≤ 4096)
  unfolding size_refusal
  size_accepted e = (first_refusal_no _ 0 _ e, ltb-false _ _ (first_refusal_no _ 20 _ (first_refusal_rest _ 0 _ e)))

-- ---- *Write image*

module _ (h : Header) (rows sorts pending text output : ℕ) where
  pub write_outside : pending_outside h pending ≡ true → 1 ≡ write_refusal h rows sorts pending text output
  unfolding write_refusal first_refusal
  write_outside e = rw e

  module _ (e : pending_outside h pending ≡ false) where
    pub write_rows : rows_short h rows ≡ true → 2 ≡ write_refusal h rows sorts pending text output
    unfolding write_refusal first_refusal
    write_rows r = rw (e, r)

    pub write_sorts : rows_short h rows ≡ false → pairs_short h sorts ≡ true → 2 ≡ write_refusal h rows sorts pending text output
    unfolding write_refusal first_refusal
    write_sorts r s = rw (e, r, s)

    module _ (r : rows_short h rows ≡ false) (s : pairs_short h sorts ≡ false) where
      pub write_long : 4096 < text → 21 ≡ write_refusal h rows sorts pending text output
      unfolding write_refusal first_refusal
      write_long k = rw (e, r, s, lt-ltb _ _ k)

      pub write_short : text ≤ 4096 → output < image_length h text → 2 ≡ write_refusal h rows sorts pending text output
      unfolding write_refusal first_refusal
      write_short k o = rw (e, r, s, le-ltb _ _ k, lt-ltb _ _ o)

      pub write_none : text ≤ 4096 → image_length h text ≤ output → 0 ≡ write_refusal h rows sorts pending text output
      unfolding write_refusal first_refusal
      write_none k o = rw (e, r, s, le-ltb _ _ k, le-ltb _ _ o)

  -- accepted
  pub record Accepted : Type 0 where
    pub inside : outside h ≡ false
    pub rows_held : h.rows * h.columns ≤ rows
    pub sorts_held : 2 * h.entries ≤ sorts
    pub pending_held : h.pending ≤ pending
    pub text_short : text ≤ 4096
    pub room : image_length h text ≤ output

  pub write_accepted : write_refusal h rows sorts pending text output ≡ 0 → Accepted
  unfolding write_refusal pending_outside rows_short pairs_short
  write_accepted e =
      let b = first_refusal_rest _ 0 _ e in
      let c = first_refusal_rest _ 1 _ b in
      let d = first_refusal_rest _ 20 _ c in
      let p = first_refusal_no _ 0 _ e in
      let s = first_refusal_no _ 1 _ b in
      let o = or_no_left (outside h) _ p in
      let i = outside_inside h o in
      let r = ltb-false rows (h.capacity * h.columns) (or_no_left (ltb rows (h.capacity * h.columns)) _ s) in
      let q = ltb-false sorts (2 * h.capacity) (or_no_right (ltb rows (h.capacity * h.columns)) _ s) in
      record {
        inside = o;
        rows_held = le_trans (rows_within h i) r;
        sorts_held = omega (arith, i.entries_fit, i.rows_fit, q);
        pending_held = ltb-false _ _ (or_no_right (outside h) _ p);
        text_short = ltb-false _ _ (first_refusal_no _ 20 _ c);
        room = ltb-false _ _ (first_refusal_no _ 1 _ d);
      }

pub accepted_holds : (h : Header) (rows sorts pending : List ℕ) (text output : ℕ)
    → Accepted h (length rows) (length sorts) (length pending) text output → Holds h rows sorts pending
accepted_holds h rows sorts pending text output a =
    record { rows_held = a.rows_held; sorts_held = a.sorts_held; pending_held = a.pending_held }
