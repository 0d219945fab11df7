-- The slots in use suffice for the rows, and are inside the key store. Assumes nothing.
use Rattle.std.specs.Prelude.{◌+◌, ◌-◌, ◌*◌, ◌≤◌, ◌≡◌}
use Rattle.key_index.specs.Laws.Prelude.{ℕ, sym, ap, ◌∙◌, inl, inr, List, mul-le-mul_right, arith, cond, leb, drop, drop-drop, leb-true, split, IndexShape, Fits}
use Rattle.key_index.specs.Slots.{size_class, size_class_for}

record Step (rows step : ℕ) : Type 0 where
  some : 1 ≤ step
  enough : rows ≤ 65536 → rows ≤ step

step_or : (rows class larger : ℕ) → 1 ≤ class → Step rows larger → Step rows (cond (leb rows class) class larger)
step_or rows class larger some s = elim (split (leb rows class)) [ inl e ↦ rw e (record { some = some; enough = λ _. leb-true rows class e }) | inr e ↦ rw e s ]

step_is : (rows : ℕ) → Step rows (size_class rows)
unfolding size_class
step_is rows =
    let largest : Step rows 65536 = record { some = omega arith; enough = λ e. e } in
    step_or rows 128 _ (omega arith) (step_or rows 512 _ (omega arith) (step_or rows 2048 _ (omega arith) (step_or rows 8192 _ (omega arith) largest)))

module _ (capacity rows : ℕ) where
  pub size_class_most : size_class_for capacity rows ≤ capacity
  unfolding size_class_for
  size_class_most = omega arith

  pub size_class_some : 1 ≤ capacity → 1 ≤ size_class_for capacity rows
  unfolding size_class_for
  size_class_some k = omega (arith, (step_is rows).some)

  pub size_class_enough : rows ≤ capacity → capacity ≤ 65536 → rows ≤ size_class_for capacity rows
  unfolding size_class_for
  size_class_enough k l = omega (arith, (step_is rows).enough (omega arith))

-- if nothing is written past the slots in use, nothing is written past all slots
pub past_size_class : (capacity rows : ℕ) (store store' : List ℕ) → drop (2 * size_class_for capacity rows) store' ≡ drop (2 * size_class_for capacity rows) store
    → drop (2 * capacity) store' ≡ drop (2 * capacity) store
past_size_class capacity rows store store' e =
    let n = 2 * size_class_for capacity rows in
    let k : n + (2 * capacity - n) ≡ 2 * capacity = omega (arith, size_class_most capacity rows) in
    rw (← k) (sym (drop-drop (2 * capacity - n) n store') ∙ ap (drop (2 * capacity - n)) e ∙ drop-drop (2 * capacity - n) n store)

-- if rows and slots for the whole capacity fit, those for fewer rows fit too
pub fits_fewer : (t t' : IndexShape) (rows store : List ℕ) → Fits t rows store → t'.columns ≡ t.columns → t'.keys ≡ t.keys → 1 ≤ t'.room → t'.rows ≤ t'.room
    → t'.room ≤ t.room → Fits t' rows store
fits_fewer t t' rows store f ec ek some count less =
    record {
      some_columns = omega (arith, f.some_columns);
      most_columns = omega (arith, f.most_columns);
      some_keys = omega (arith, f.some_keys);
      most_keys = omega (arith, f.most_keys);
      some = some;
      most = omega (arith, f.most);
      count = count;
      cells = let a : t'.room * t.columns ≤ t.room * t.columns = mul-le-mul_right t.columns less in rw ec (omega (arith, f.cells));
      long = omega (arith, f.long);
    }
