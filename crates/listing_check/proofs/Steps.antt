-- The transitions of the scan: its start, one row processed, and its final state. Assumes nothing.
use Rattle.refusals.specs.declared.Refusal.TheVariants.{NoSuchColumn, NoListing}
use Rattle.refusals.specs.declared.Refusal.{Refusal}
use Rattle.std.specs.Prelude.{Result, Ok, Err, Some, None, Option as Optional}
use Rattle.listing_check.proofs.Prelude.{ℕ, suc, ◌+◌, ◌≤◌, ◌<◌, ◌≡◌, refl, sym, ap, ◌∙◌, Bool, true, false, cond, not, Bool·beq, false≢true, List, [], ◌∷◌, dec_lt, ℕ_discrete, arith, lt-ltb, le-ltb, eq-eqb, ne_eqb, eqb-true, length, take, drop, get_or, drop_of_length-le, List·getD-eq-default, drop-cons, Option, none, some, add-one, eqb, above_head, above_cons, above_weaker, Constraint, text_good, listing_in, text_shown, text_wrong, shown_listing, Survey, Mistake, Misplaced, Wrong, CheckScan, misplaced_none, above_kept, right_rising}
use mathlib.Core.Option.{Option-elim}
use Rattle.lists.specs.Lists.{filter, all, above}
use Rattle.refusals.specs.Refusals.{check, first_refusal, accepted, reply}
use Rattle.constraints.specs.Constraints.{known, met, meets}
use Rattle.listing_spec.specs.Listings.{row_numbers}
use Rattle.listing_parse.specs.inner.Surveys.{head_of, Listed}
use Rattle.listing_parse.specs.Laws.Steps.{rows_from, none_from}
use Rattle.listing_check.specs.declared.Row.{Row}
use Rattle.listing_check.specs.Answers.{right_numbers, misplaced, wrong_numbers, lowest, finding_on, check_view, check_reply, AnswersChecked}
use Rattle.listing_check.specs.Laws.Verdicts.{verdict_for}
use Rattle.listing_check.specs.inner.Scanning.{first_apart, right_among, unless_wrong, RowRead, rows_left, Underway, finished_as, Stepped, closed}
use Rattle.listing_check.proofs.Apart.{apart_same, apart_left, apart_right, lowest_first}

-- ---- the final state
pub settle : {columns : ℕ} {text : List ℕ} {conditions : List Constraint} {given : List ℕ} {answer : Result (Optional Mistake) Refusal} → AnswersChecked text conditions given answer
    → Underway columns text conditions given (finished_as answer (length given))
unfolding rows_left right_among row_numbers filter first_apart unless_wrong
settle {given = given} p = record { whole = λ l. absurd (omega arith); due = λ l. absurd (omega arith); comes = rw (drop_of_length-le given {i = length given} (omega arith)) p }

-- ---- the beginning

view_right : (o : Option ℕ) → check_view (unless_wrong (Ok None) o) ≡ accepted (verdict_for none o)
unfolding check_view unless_wrong Option-elim
view_right none = refl
view_right (some n) = refl

-- all rows of the text are left if the scan ends where the text ends
left_from : (text : List ℕ) (at : CheckScan) → at.end ≡ length text → rows_left text at ≡ rows_from text at.start
unfolding rows_left
left_from text at e =
    elim (dec_lt at.start at.end) [
      | yes h ↦ rw (lt-ltb at.start at.end h)
      | no h ↦ rw (le-ltb at.start at.end (omega arith)) (sym (none_from text at.start (omega (arith, e))))
    ]

module _ (text : List ℕ) (conditions : List Constraint) (given : List ℕ) where
  pub no_listing : text_good true text ≡ false → AnswersChecked text conditions given (Err NoListing)
  unfolding check_view check_reply Option-elim
  no_listing e = record { listing = none; shown = text_wrong true text e; answers = refl }

  module _ (s : Survey) (l : Listed true text s) where
    refusal_is : first_refusal (check (not (all (known (get_or (listing_in text).head 0 0)) conditions)) 6 ∷ []) ≡ cond (not (all (known s.columns) conditions)) 6 0
    unfolding first_refusal head_of
    refusal_is = rw l.head

    answered : {answer : Result (Optional Mistake) Refusal} → check_view answer ≡ reply (cond (not (all (known s.columns) conditions)) 6 0) (finding_on given (right_numbers conditions (listing_in text)))
        → AnswersChecked text conditions given answer
    unfolding check_reply Option-elim
    answered e = record { listing = some (listing_in text); shown = text_shown true text l.of_form; answers = rw refusal_is e }

    pub unknown : all (known s.columns) conditions ≡ false → AnswersChecked text conditions given (Err NoSuchColumn)
    unfolding check_view reply
    unknown e = answered (rw e)

    module _ (knows : all (known s.columns) conditions ≡ true) where
      pub out_of_place : {place : ℕ} → misplaced given ≡ some place → AnswersChecked text conditions given (Ok (Some (Misplaced place)))
      unfolding check_view reply finding_on Option-elim
      out_of_place e = answered (rw (knows, e))

      pub begin : misplaced given ≡ none → Underway s.columns text conditions given (record { answer = Ok None; start = s.start; end = length text; place = 0 })
      begin e = record {
        whole = λ h. refl;
        due = λ h. record { narrow = l.narrow; before = h; valid_rows = record { count = s.count; least = 0; left = 65536; good = l.good } };
        comes = answered (view_right (first_apart given (right_among conditions (rows_left text at))) ∙ ap (λ o. accepted (verdict_for none o)) parts ∙ sym reply_is);
      }
        where
          at : CheckScan
          at = record { answer = Ok None; start = s.start; end = length text; place = 0 }

          right : List ℕ
          right = right_numbers conditions (listing_in text)

          rows_are : rows_left text at ≡ (listing_in text).rows
          rows_are = left_from text at refl ∙ unfold rows_from in sym l.rows_there

          parts : first_apart given (right_among conditions (rows_left text at)) ≡ lowest (wrong_numbers given right)
          parts =
              ap (λ (rows : List (List ℕ)). first_apart given (right_among conditions rows)) rows_are
              ∙ unfold right_among right_numbers in sym (lowest_first given right (misplaced_none given e) (right_rising conditions (listing_in text) (shown_listing (text_shown true text l.of_form))))

          reply_is : reply (cond (not (all (known s.columns) conditions)) 6 0) (finding_on given right) ≡ accepted (verdict_for none (lowest (wrong_numbers given right)))
          reply_is = rw knows (unfold reply finding_on in rw e)

-- ---- one row processed

-- the numbers given from a place on
pub get_d_there : (given : List ℕ) (place d e : ℕ) → place < length given → get_or given place d ≡ get_or given place e
get_d_there given place d e h = cc (drop-cons given place d h, drop-cons given place e h)

module _ (given : List ℕ) (place : ℕ) (h : get_or given place 4294967296 < 4294967296) where
  pub is_left : place < length given
  is_left = elim (dec_lt place (length given)) [ yes l ↦ l | no l ↦ absurd (omega (arith, List·getD-eq-default given 4294967296 {n = place} (omega arith))) ]

  some_left : drop place given ≡ get_or given place 4294967296 ∷ drop (suc place) given
  some_left = drop-cons given place 4294967296 is_left

-- one that is below all of the others parts from them
apart_low : (x : ℕ) (xs ys : List ℕ) → above x ys ≡ true → first_apart (x ∷ xs) ys ≡ some x
apart_low x xs [] a = unfold first_apart in refl
apart_low x xs (y ∷ ys) a = apart_left x y xs ys (above_head x y ys a)

-- and one that the next given is above
apart_next : (given : List ℕ) (place n : ℕ) (ys : List ℕ) → n < get_or given place 4294967296 → first_apart (drop place given) (n ∷ ys) ≡ some n
apart_next given place n ys h = elim (dec_lt place (length given)) [
  | yes l ↦ rw (drop-cons given place 4294967296 l) (apart_right (get_or given place 4294967296) n (drop (suc place) given) ys h)
  | no l ↦ rw (drop_of_length-le given {i = place} (omega arith)) (unfold first_apart in refl)
]

right_more : (conditions : List Constraint) (n : ℕ) (cells : List ℕ) (rows : List (List ℕ)) (b : Bool) → b ≡ all (met cells) conditions
    → right_among conditions ((n ∷ cells) ∷ rows) ≡ cond b (n ∷ right_among conditions rows) (right_among conditions rows)
unfolding right_among row_numbers filter
right_more conditions n cells rows true e = rw (sym e)
right_more conditions n cells rows false e = rw (sym e)

-- the scan after a row
abbrev pub onward : CheckScan → Row → ℕ → CheckScan
onward at row place = record { answer = at.answer; start = row.next; end = at.end; place = place }

module _ {columns : ℕ} {text : List ℕ} {conditions : List Constraint} {given : List ℕ} {at : CheckScan} {row : Row} {meets-all : Bool} (w : Underway columns text conditions given at) (l : at.start < at.end)
    (r : RowRead columns text at.start row) (m : meets-all ≡ meets (take columns row.cells) conditions) where
  abbrev n : ℕ
  n = row.number

  abbrev next : ℕ
  next = get_or given at.place 4294967296

  -- the right numbers behind the row, and from it on
  abbrev rest : List ℕ
  rest = right_among conditions (rows_from text row.next)

  abbrev here : List ℕ
  here = cond meets-all (n ∷ rest) rest

  right_here : right_among conditions (rows_left text at) ≡ here
  unfolding meets
  right_here = rw (left_from text at (w.whole l), r.read) (right_more conditions n (take columns row.cells) (rows_from text row.next) meets-all (rw r.live at m))

  rest_above : above n rest ≡ true
  unfolding right_among
  rest_above = above_kept (λ ns. all (met (drop 1 ns)) conditions) n (rows_from text row.next) r.rises

  comes_here : AnswersChecked text conditions given (unless_wrong at.answer (first_apart (drop at.place given) here))
  comes_here = rw right_here at w.comes

  wrong : {x : ℕ} → first_apart (drop at.place given) here ≡ some x → Underway columns text conditions given (finished_as (Ok (Some (Wrong x))) (length given))
  unfolding unless_wrong
  wrong e = settle (rw e at comes_here)

  pub given_wrong : next < n → Underway columns text conditions given (finished_as (Ok (Some (Wrong next))) (length given))
  given_wrong h = wrong (rw (some_left given at.place (omega (arith, r.fits))) (apart_low next (drop (suc at.place) given) here (above_here meets-all)))
    where
      above_here : (b : Bool) → above next (cond b (n ∷ rest) rest) ≡ true
      above_here true = above_cons next n rest h rest_above
      above_here false = above_weaker next n rest (omega arith) rest_above

  further : (place : ℕ) → first_apart (drop at.place given) here ≡ first_apart (drop place given) rest → Underway columns text conditions given (onward at row place)
  further place e = record {
    whole = λ h. w.whole l;
    due = λ h. record { narrow = (w.due l).narrow; before = omega (arith, w.whole l); valid_rows = r.valid_rows };
    comes = rw (left_from text (onward at row place) (w.whole l), ← e) comes_here;
  }

  -- the row's own number is the next given
  next_here : next ≡ n → drop at.place given ≡ next ∷ drop (at.place + 1) given
  next_here e = some_left given at.place (omega (arith, r.fits)) ∙ ap (λ (i : ℕ). next ∷ drop i given) (sym (add-one at.place))

  pub row_wrong : n ≤ next → (eqb next n ≡ meets-all → ⊥) → Underway columns text conditions given (finished_as (Ok (Some (Wrong n))) (length given))
  row_wrong h other = wrong (parts meets-all other (ℕ_discrete next n))
    where
      parts : (b : Bool) → (eqb next n ≡ b → ⊥) → Dec (next ≡ n) → first_apart (drop at.place given) (cond b (n ∷ rest) rest) ≡ some n
      parts true o (yes e) = absurd (o (eq-eqb next n e))
      parts true o (no e) = apart_next given at.place n rest (omega arith)
      parts false o (yes e) = rw (next_here e, e) (apart_low n (drop (at.place + 1) given) rest rest_above)
      parts false o (no e) = absurd (o (ne_eqb next n e))

  pub row_given : eqb next n ≡ true → meets-all ≡ true → Underway columns text conditions given (onward at row (at.place + 1))
  row_given e f =
      let same = eqb-true next n e in
      further (at.place + 1) (rw (f, next_here same) (apart_same next n (drop (at.place + 1) given) rest same))

  pub row_passed : meets-all ≡ false → Underway columns text conditions given (onward at row at.place)
  row_passed f = further at.place (rw f)

-- ---- the ways out of `step`

unlike : (a b : Bool) → not (Bool·beq a b) ≡ true → a ≡ b → ⊥
unlike true b e p = false≢true (rw (sym p) at e)
unlike false b e p = false≢true (rw (sym p) at e)

alike : (a b : Bool) → not (Bool·beq a b) ≡ false → b ≡ a
alike true true e = refl
alike true false e = sym e
alike false true e = e
alike false false e = refl

module _ {given : List ℕ} {at : CheckScan} {row : Row} {meets-all : Bool} {next : ℕ} (e : next ≡ get_or given at.place 4294967296) where
  pub step_given : {at' : CheckScan} → next < row.number → at' ≡ finished_as (Ok (Some (Wrong next))) (length given) → Stepped given at row meets-all at'
  step_given h finished = rw finished (record {
    keeps = λ columns text conditions w l r m. rw e (given_wrong w l r m (omega (arith, e)));
    nearer = λ l f. omega arith;
  })

  pub step_row : {at' : CheckScan} → row.number ≤ next → not (Bool·beq (eqb next row.number) meets-all) ≡ true → at' ≡ finished_as (Ok (Some (Wrong row.number))) (length given) → Stepped given at row meets-all at'
  step_row h o finished = rw finished (record {
    keeps = λ columns text conditions w l r m. row_wrong w l r m (omega (arith, e)) (rw e at (unlike (eqb next row.number) meets-all o));
    nearer = λ l f. omega arith;
  })

  pub step_on : not (Bool·beq (eqb next row.number) meets-all) ≡ false → next ≡ row.number → Stepped given at row meets-all (onward at row (at.place + 1))
  step_on o s = record {
    keeps = λ columns text conditions w l r m.
        let t = eq-eqb next row.number s in
        row_given w l r m (rw e at t) (alike (eqb next row.number) meets-all o ∙ t);
    nearer = λ l f. omega arith;
  }

  pub step_past : not (Bool·beq (eqb next row.number) meets-all) ≡ false → (next ≡ row.number → ⊥) → Stepped given at row meets-all (onward at row at.place)
  step_past o d = record {
    keeps = λ columns text conditions w l r m. row_passed w l r m (alike (eqb next row.number) meets-all o ∙ ne_eqb next row.number d);
    nearer = λ l f. omega arith;
  }

-- ---- the end

pub finish : {columns : ℕ} {text : List ℕ} {conditions : List Constraint} {given : List ℕ} {at : CheckScan} → Underway columns text conditions given at → at.end ≤ at.start
    → AnswersChecked text conditions given (closed at given)
unfolding closed rows_left right_among row_numbers filter
finish {at = at} w h = rw (le-ltb at.start at.end h) at w.comes
