-- "Applying either after the other restores the cells", for two calls: one accepted, then the other on what it wrote.
-- Assumes nothing.
use Rattle.std.specs.Prelude.{◌+◌, ◌%◌, ◌≤◌, ◌<◌, ◌≡◌, ◌∷◌}
use Rattle.vault.specs.Laws.Prelude.{ℕ, zero, suc, refl, ap, ◌∙◌, List, [], dec_lt, arith, ltb, length, take, lt-ltb, le-ltb, eq-eqb, part_splice, Result, Ok, Refusal}
use Rattle.lists.specs.Lists.{splice}
use Rattle.refusals.specs.Refusals.{check, first_refusal, reply, answer_view, Effect}
use Rattle.vault.specs.Columns.{to_columns, from_columns, columns_refusal, Rearranged}
use Rattle.vault.specs.Laws.Differences.{Cells}
use Rattle.vault.specs.Laws.Inverse.{to_columns_length, from_columns_length, from_columns_to_columns, to_columns_from_columns}
use Rattle.vault.specs.Laws.Refusals.{Accepted, accepted}

-- an accepted answer has refusal 0
none_refused : (n : ℕ) → answer_view {A = Unit {0}} (Ok tt) ≡ reply n tt → n ≡ 0
unfolding answer_view reply
none_refused zero e = refl
none_refused (suc n) e = absurd (let z : ◌≡◌ {A = ℕ} 0 1 = cc in omega arith)

module _ {order : ℕ → List ℕ → List ℕ} {width : ℕ} {cells output output' : List ℕ} (x : Rearranged order width cells output (Ok tt) output') where
  not_refused : columns_refusal width (length cells) (length output) ≡ 0
  not_refused = none_refused _ x.effect.answers

  known : Accepted width (length cells) (length output)
  known = accepted width (length cells) (length output) not_refused

  -- what was written
  front : length (order width cells) ≡ length cells → take (length cells) output' ≡ order width cells
  front e =
      let fits : 0 + length (order width cells) ≤ length output = omega (arith, known.room) in
      rw (← e, x.effect.written not_refused) (part_splice output (order width cells) 0 fits)

module _ (cells : List ℕ) (room : ℕ) where
  -- the refusal of the second call: 2 if the output is shorter than the cells, 0 otherwise
  abbrev short : ℕ
  short = first_refusal (check (ltb room (length cells)) 2 ∷ [])

  short_some : room < length cells → 0 < short
  unfolding first_refusal
  short_some less = rw (lt-ltb room (length cells) less) (omega arith)

  -- if the first call was accepted, no other test can refuse the second
  short_only : {width output : ℕ} → Accepted width (length cells) output → columns_refusal width (length cells) room ≡ short
  unfolding columns_refusal first_refusal
  short_only {width} k = rw (le-ltb width 1 k.narrow, le-ltb 8 width k.wide, eq-eqb (length cells % width) 0 k.multiple)

-- The second call is refused with no number but 2, and with 2 exactly if its output is shorter than the cells; accepted, it writes the
-- cells.
abbrev pub Restored : List ℕ → List ℕ → Result (Unit {0}) Refusal → List ℕ → Type 0
Restored cells output answer output' = Effect (short cells (length output)) (answer_view answer) tt output output' (splice output 0 cells)

-- one order after the other, if the second is the inverse of the first
undone : {there back : ℕ → List ℕ → List ℕ} {width : ℕ} {cells output output' second second' : List ℕ} {answer : Result (Unit {0}) Refusal}
    → length (there width cells) ≡ length cells → back width (there width cells) ≡ cells
    → Rearranged there width cells output (Ok tt) output' → Rearranged back width (take (length cells) output') second answer second'
    → Restored cells second answer second'
undone {back = back} {width} {cells} {second = second} long e x y =
    let w = front x long in
    let m = ap length w ∙ long in
    let r = ap (back width) w ∙ e in
    let n = ap (λ (l : ℕ). columns_refusal width l (length second)) m ∙ short_only cells (length second) (known x) in
    record {
      answers = rw (← n) y.effect.answers;
      unchanged = λ some. y.effect.unchanged (rw n some);
      written = λ none. rw (← r) (y.effect.written (n ∙ none));
    }

module _ {width : ℕ} {cells output output' second second' : List ℕ} {answer : Result (Unit {0}) Refusal} (f : Cells cells) where
  pub there_and_back : Rearranged to_columns width cells output (Ok tt) output' → Rearranged from_columns width (take (length cells) output') second answer second'
      → Restored cells second answer second'
  there_and_back x =
      let k = known x in
      undone (to_columns_length width cells k.narrow k.multiple) (from_columns_to_columns width cells k.narrow k.multiple f) x

  pub back_and_there : Rearranged from_columns width cells output (Ok tt) output' → Rearranged to_columns width (take (length cells) output') second answer second'
      → Restored cells second answer second'
  back_and_there x =
      let k = known x in
      undone (from_columns_length width cells k.narrow k.multiple) (to_columns_from_columns width cells k.narrow k.multiple f) x

-- a second call that is accepted has written the cells
pub restored_front : {cells second second' : List ℕ} → Restored cells second (Ok tt) second' → take (length cells) second' ≡ cells
restored_front {cells} {second} r =
    let none = none_refused _ r.answers in
    rw (r.written none) (part_splice second cells 0 (omega (arith, room_enough none)))
  where
    room_enough : short cells (length second) ≡ 0 → length cells ≤ length second
    room_enough e = elim (dec_lt (length second) (length cells)) [ yes h ↦ absurd (omega (arith, short_some cells (length second) h)) | no h ↦ omega arith ]
