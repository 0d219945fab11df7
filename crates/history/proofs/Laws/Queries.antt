-- Each query, accepted or refused, narrows the ids that it is given by its own condition or subset, if it counts. Assumes nothing.
use Rattle.refusals.specs.declared.Refusal.TheVariants.{OutOfBounds, TooShort, MalformedSubset, PastTheRows, NoSuchColumn}
use Rattle.sort_entries.specs.declared.Range.{Range}
use Rattle.refusals.specs.declared.Refusal.{Refusal}
use Rattle.std.specs.Prelude.{Result, Option as Optional, ◌⊎◌}
use Rattle.history.proofs.Laws.Prelude.{ℕ, ◌+◌, ◌*◌, ◌≤◌, ◌<◌, ◌≡◌, refl, sym, ap, ◌∙◌, inl, inr, Bool, true, not, ◌||◌, and-true, false≢true, Option, some, List, [], ◌∷◌, mul-le-mul_right, arith, length, take, get_or, length-take, take-take, eqb, ltb-false, leb-true, eqb-true, eqb-false, ne_eqb, not-false, split, and_left, length_filter, count_le, elem_at, filter_elem_comm, or_no_left, or_no_right, get_d_rows_of, rows_of_same, Reply, refused, accepted, Constraint, Entry, entries_of, fast_range, fast_range_lem, entries_of_same, Plain, first_refusal_no, first_refusal_rest, Header, range_view, represents_sound, outside_inside, rows_long_of, fast_accepted, outcome_accepted, accepted_number, accepted_same}
use Rattle.lists.specs.Lists.{filter, all, elem, row_at, rising}
use Rattle.offsets.specs.declared.SubsetForm.{SubsetForm}
use Rattle.offsets.specs.Subsets.{Subset, well_formed, members, size, end_of, retain, narrowed}
use Rattle.offsets.specs.Answers.{Answered, subset_view, written}
use Rattle.offsets.specs.Laws.Answers.{written_members, Given, Unanswerable, given_check, given_none, answer_to, answer_given, intersect_accepted}
use Rattle.offsets.specs.Laws.Subsets.{rising_members, length_members, members_below, members_retain, members_narrowed}
use Rattle.constraints.specs.Constraints.{known, compares, met, meets}
use Rattle.table.specs.Outcomes.{Stores, Represents, fast_subset, fast_among, RangeRead}
use Rattle.query_spec.specs.Queries.{matches, past_rows, query_checks, refine_refusal, refine_one_reply, refine_list_reply}
use Rattle.history.specs.Runs.{Query, refines, Outcome, by_reply, Intersected, Queried, one_refined, list_refined, intersected, range_intersected, range_nothing}
use Rattle.history.specs.Claim.{satisfies}
use Rattle.history.proofs.Laws.Narrowing.{alive, alive_of, alive_below, alive_live, Narrows, narrows_not, narrows_filter}
use Rattle.refusals.specs.Refusals.{reply, if_accepted}

-- ---- an answer, read from its output

-- a refused query leaves the ids and counts for nothing, an accepted one narrows them to its value
replied_narrows : {s : Stores} {q : Query} (a : Subset) (r : Reply Subset) → ((v : Subset) → r ≡ accepted v → Narrows s (members a) (members v) (q ∷ []))
    → Narrows s (members a) (members (by_reply a q r).ids) (by_reply a q r).accepted
unfolding by_reply if_accepted
replied_narrows {s} a (refused n) f = narrows_not s (members a)
replied_narrows a (accepted v) f = f v refl

-- the ids that a query leaves are those of its reply, whatever its output holds, but for a reply that no answer can hold
pub by_reply_lem : {s : Stores} (a : Subset) (q : Query) (r : Reply Subset) (output : List ℕ)
    → ((output' : List ℕ) (answer : Result SubsetForm Refusal) → Answered r output answer output' → Queried s a q (by_reply a q (subset_view answer output')))
    → Queried s a q (by_reply a q r) ⊎ Unanswerable r
by_reply_lem a q r output f =
    elim (answer_to r output) [
      | inl t ↦ inl (rw t.1.answers at (f _ t.0 t.1))
      | inr none ↦ inr none
    ]

-- no operation makes such a reply
pub by_reply_given : {s : Stores} (a : Subset) (q : Query) (n : ℕ) (v : Subset) (output : List ℕ) → Given n
    → ((output' : List ℕ) (answer : Result SubsetForm Refusal) → Answered (reply n v) output answer output' → Queried s a q (by_reply a q (subset_view answer output')))
    → Queried s a q (by_reply a q (reply n v))
by_reply_given a q n v output given f = let t = answer_given n v output given in rw t.1.answers at (f _ t.0 t.1)

-- each check of *Refine* has the number of a refusal
pub refine_given : (h : Header) (rows : ℕ) (a : Subset) (cs : List Constraint) (output : ℕ) → Given (refine_refusal h rows a cs output)
unfolding refine_refusal query_checks
refine_given h rows a cs output =
    given_check _ OutOfBounds _ (given_check _ TooShort _ (given_check _ MalformedSubset _ (given_check _ PastTheRows _ (given_check _ NoSuchColumn _ (given_check _ TooShort _ given_none)))))

-- ---- refining

-- the tests of *Refine* pass
pub record Refinable (h : Header) (rows : ℕ) (a : Subset) (output : ℕ) : Type 0 where
  pub rows_fit : h.rows ≤ h.capacity
  pub rows_long : h.capacity * h.columns ≤ rows
  pub formed : well_formed a ≡ true
  pub inside : end_of a ≤ h.rows
  pub space : size a ≤ output

pub refinable : (h : Header) (rows : ℕ) (a : Subset) (cs : List Constraint) (output : ℕ) → refine_refusal h rows a cs output ≡ 0 → Refinable h rows a output
unfolding refine_refusal query_checks past_rows
refinable h rows a cs output e =
    let b = first_refusal_rest _ 0 _ e in
    let c = first_refusal_rest _ 1 _ b in
    let d = first_refusal_rest _ 3 _ c in
    let f = first_refusal_rest _ 4 _ d in
    record {
      rows_fit = (outside_inside h (first_refusal_no _ 0 _ e)).rows_fit;
      rows_long = rows_long_of h rows (first_refusal_no _ 1 _ b);
      formed = not-false _ (first_refusal_no _ 3 _ c);
      inside = ltb-false _ _ (first_refusal_no _ 4 _ d);
      space = ltb-false _ _ (first_refusal_no _ 1 _ (first_refusal_rest _ 5 _ f));
    }

-- its ids are numbers of rows
elem_below : (h : Header) (rows : ℕ) (a : Subset) (output : ℕ) → Refinable h rows a output → (id : ℕ) → elem id (members a) ≡ true → id < h.rows
elem_below h rows a output m id e =
    let p = elem_at id (members a) e in
    omega (arith, members_below a m.formed p.0 (omega (arith, length_members a, p.1)), m.inside, p.2)

-- a row within the first cells of a store can be read from them
row_lent : (w i lent : ℕ) (rows : List ℕ) → (i + 1) * w ≤ lent → row_at w i (take lent rows) ≡ row_at w i rows
row_lent w i lent rows h =
    let k : i < i + 1 = omega arith in
    sym (get_d_rows_of w (i + 1) (take lent rows) i k)
    ∙ ap (λ (l : List (List ℕ)). get_or l i []) (rows_of_same w (i + 1) (take lent rows) rows (take-take ((i + 1) * w) lent rows h))
    ∙ get_d_rows_of w (i + 1) rows i k

module _ (s : Stores) (lent : ℕ) (a : Subset) (cs : List Constraint) (output : ℕ) (m : Refinable s.header (length (take lent s.rows)) a output) where
  abbrev test : ℕ → Bool
  test = matches s.header (take lent s.rows) cs

  test_is : (id : ℕ) → id < s.header.rows → test id ≡ meets (row_at s.header.columns id s.rows) cs
  unfolding matches
  test_is id h =
      let n : id + 1 ≤ s.header.capacity = omega (arith, m.rows_fit) in
      let below : length (take lent s.rows) ≤ lent = simp length-take (omega arith) in
      let k : (id + 1) * s.header.columns ≤ lent = omega (arith, mul-le-mul_right s.header.columns n, m.rows_long, below) in
      ap (λ (row : List ℕ). meets row cs) (row_lent s.header.columns id lent s.rows k)

  -- a refine keeps the ids whose row is live and meets the conditions
  refined_narrows : {q : Query} (v : Subset) → members v ≡ filter test (members a) → ((id : ℕ) (row : List ℕ) → satisfies id row q ≡ all (met row) cs)
      → Narrows s (members a) (members v) (q ∷ [])
  refined_narrows v is satisfies-is =
      narrows_filter test (rising_members a m.formed) is
      (λ id e. rw (satisfies-is id (row_at s.header.columns id s.rows)) (test_is id (alive_below s id e) ∙ (unfold meets in rw (alive_live s id e))))
      (λ r id e q.
      let h = elem_below s.header _ a output m id e in
      alive_of s id h (unfold meets in and_left _ _ (sym (test_is id h) ∙ q)))

-- its answer fits the output
pub refined_fit : {h : Header} {rows : ℕ} (a : Subset) (output : ℕ) → Refinable h rows a output → (test : ℕ → Bool) (v : Subset) → members v ≡ filter test (members a)
    → length (written (accepted v)) ≤ output
refined_fit a output m test v is =
    omega (arith, written_members v, ap length is, length_filter test (members a), count_le test (members a), length_members a, m.space)

-- ---- intersecting

-- intersecting leaves the ids that both subsets have, whichever comes first
intersected_narrows : {s : Stores} {q : Query} (a b : Subset) (output : List ℕ) (answer : Result SubsetForm Refusal) (output' : List ℕ) → Intersected a b output answer output'
    → ((v : Subset) → rising (members a) ≡ true → members v ≡ filter (λ id. elem id (members b)) (members a) → Narrows s (members a) (members v) (q ∷ []))
    → Narrows s (members a) (members (by_reply a q (subset_view answer output')).ids) (by_reply a q (subset_view answer output')).accepted
intersected_narrows a b output answer output' (inl m) f =
    replied_narrows a (subset_view answer output')
    (λ v e.
    let t = intersect_accepted a b (length output) v (sym m.answers ∙ e) in
    f v (rising_members a t.formed) t.ids)
intersected_narrows a b output answer output' (inr m) f =
    replied_narrows a (subset_view answer output')
    (λ v e.
    let t = intersect_accepted b a (length output) v (sym m.answers ∙ e) in
    let up = rising_members a t.formed_other in
    f v up (t.ids ∙ filter_elem_comm (members b) (members a) (rising_members b t.formed) up))

-- ---- ranges

-- the range of a condition, if there is one
record Ranged (h : Header) (sorts : List ℕ) (c : Constraint) (b : Subset) : Type 0 where
  compared : c.kind ≡ 0 → ⊥
  sorted : c.column ≡ h.sort
  is : b ≡ fast_range c.kind c.value (entries_of h.entries sorts) h.rows

ranged : (h : Header) (sorts : List ℕ) (c : Constraint) (b : Subset) → fast_subset h sorts c ≡ some b → Ranged h sorts c b
unfolding fast_subset fast_among
ranged h sorts c b e =
    elim (split (eqb c.kind 0 || not (eqb c.column h.sort))) [
      | inl q ↦ let f = rw q at e in absurd (let z : ◌≡◌ {A = ℕ} 0 1 = cc in omega arith)
      | inr q ↦
          let f = rw q at e in
          record {
            compared = eqb-false _ _ (or_no_left (eqb c.kind 0) _ q);
            sorted = eqb-true _ _ (not-false _ (or_no_right (eqb c.kind 0) _ q));
            is = cc;
          }
    ]

known_kind : (columns : ℕ) (c : Constraint) → known columns c ≡ true → c.kind ≤ 5
unfolding known
known_kind columns c e = leb-true _ _ (and_left _ _ (and_left _ _ e))

met_compared : (row : List ℕ) (c : Constraint) → (c.kind ≡ 0 → ⊥) → met row c ≡ compares c.kind (get_or row c.column 0) c.value
unfolding met
met_compared row c h = rw (ne_eqb c.kind 0 h)

-- entries within the first cells of a store can be read from them
entries_lent : (n lent : ℕ) (sorts : List ℕ) → 2 * n ≤ lent → entries_of n (take lent sorts) ≡ entries_of n sorts
entries_lent n lent sorts h = entries_of_same n (take lent sorts) sorts (take-take (2 * n) lent sorts h)

module _ {p : Plain} {s : Stores} (r : Represents p s) (c : Constraint) (lent : ℕ) (answer : Result (Optional Range) Refusal) (b : Subset) (m : RangeRead s.header (take lent s.sorts) c answer)
    (q : range_view answer ≡ accepted (some b)) where
  -- a live row is in the range exactly if it meets the condition: its sort cell is the value recorded for it
  range_met : (id : ℕ) → alive s id ≡ true → elem id (members b) ≡ met (row_at s.header.columns id s.rows) c
  range_met id e =
      let sound = represents_sound r in
      let n = outcome_accepted (range_view answer) (some b) _ m.refusal q in
      let t = fast_accepted s.header (length (take lent s.sorts)) c n in
      let below : length (take lent s.sorts) ≤ lent = simp length-take (omega arith) in
      let entries-within : 2 * s.header.entries ≤ lent = omega (arith, t.inside.rows_fit, t.inside.entries_fit, t.sorts_long, below) in
      let part = entries_lent s.header.entries lent s.sorts entries-within in
      let k : fast_subset s.header (take lent s.sorts) c ≡ some b = same (sym (m.table n (rw part sound.contents.entries_rise)) ∙ q) in
      let g = ranged s.header (take lent s.sorts) c b k in
      let few = known_kind s.header.columns c t.is_known in
      let is = g.is ∙ ap (λ (es : List Entry). fast_range c.kind c.value es s.header.rows) part in
      let compared = g.compared in
      let above : 1 ≤ c.kind = omega arith in
      rw is
      (fast_range_lem (entries_of s.header.entries s.sorts) s.header.rows c.kind c.value sound.contents.entries_rise above few id (alive_below s id e)
      ∙ rw (met_compared (row_at s.header.columns id s.rows) c compared, g.sorted, sound.contents.sorted id (alive_below s id e, alive_live s id e)))
    where
      same : {x y : Option Subset} → accepted x ≡ accepted y → x ≡ y
      same f = cc

-- ---- the queries

module _ {p : Plain} {s : Stores} (r : Represents p s) where
  pub queried_narrows : {a : Subset} {q : Query} {o : Outcome} → Queried s a q o → Narrows s (members a) (members o.ids) o.accepted
  unfolding refine_one_reply refine_list_reply satisfies refines
  queried_narrows {a = a} (one_refined c lent output output' answer m) =
      let rows = take lent s.rows in
      let number = refine_refusal s.header (length rows) a (c ∷ []) (length output) in
      let kept = retain (matches s.header rows (c ∷ [])) a in
      replied_narrows a (subset_view answer output')
      (λ v e.
      let f = refinable s.header (length rows) a (c ∷ []) (length output) (accepted_number number v kept (sym e ∙ m.answered.answers)) in
      let is = ap members (accepted_same number v kept (sym e ∙ m.answered.answers)) ∙ members_retain (matches s.header rows (c ∷ [])) a in
      refined_narrows s lent a (c ∷ []) (length output) f v is (λ id row. unfold all in sym (and-true (met row c))))
  queried_narrows {a = a} (list_refined cs lent output output' answer m) =
      let rows = take lent s.rows in
      let number = refine_refusal s.header (length rows) a cs (length output) in
      let kept = narrowed (matches s.header rows cs) a in
      replied_narrows a (subset_view answer output')
      (λ v e.
      let f = refinable s.header (length rows) a cs (length output) (accepted_number number v kept (sym e ∙ m.answered.answers)) in
      let is = ap members (accepted_same number v kept (sym e ∙ m.answered.answers)) ∙ members_narrowed (matches s.header rows cs) a in
      refined_narrows s lent a cs (length output) f v is (λ id row. refl))
  queried_narrows {a = a} (intersected b output output' answer m) =
      intersected_narrows a b output answer output' m
      (λ v up is. narrows_filter (λ id. elem id (members b)) up is (λ id _. refl) (λ z. absurd (false≢true z)))
  queried_narrows {a = a} (range_intersected b c lent found output output' answer read is m) =
      intersected_narrows a b output answer output' m
      (λ v up same. narrows_filter (λ id. elem id (members b)) up same (λ id l. range_met r c lent found b read is id l) (λ z. absurd (false≢true z)))
  queried_narrows {a = a} (range_nothing c lent found read is) = narrows_not s (members a)
