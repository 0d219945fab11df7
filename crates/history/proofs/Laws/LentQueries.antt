-- Store lengths differ from query to query: a refine that is lent exactly capacity × columns cells of a longer row store, one that
-- is lent one cell less, which is refused with 2 and counts for nothing, and one that is lent as many as the first. The claim holds
-- for them in every history; and an example. Assumes nothing.
use Rattle.history.proofs.Laws.Prelude.{ℕ, ◌-◌, ◌*◌, ◌<◌, ◌≡◌, refl, sym, ap, ◌∙◌, true, List, [], ◌∷◌, mul-le-mul_right, arith, length, take, length-take, lt-ltb, Constraint, Plain, LentCall, Stores, stores, Represents, body, empty_header, opened_done, outside_inside, represents_inside, wanted}
use Rattle.lists.specs.Lists.{splice, filter, all, any, rising}
use Rattle.refusals.specs.Refusals.{first_refusal, Reply, refused, accepted, reply, if_accepted}
use Rattle.offsets.specs.Subsets.{Subset, range, members, retain}
use Rattle.offsets.specs.Laws.Subsets.{members_retain}
use Rattle.offsets.specs.Laws.Forms.{size_range, end_range, formed_range, length_range}
use Rattle.constraints.specs.Constraints.{known}
use Rattle.key_index.specs.Slots.{size_class, size_class_for}
use Rattle.plain_table.specs.Staged.{Opening, openable}
use Rattle.plain_table.specs.Refusing.{stores_short, open_refusal}
use Rattle.table.specs.Refusing.{outside, rows_short}
use Rattle.query_spec.specs.Queries.{matches, past_rows, query_checks, refine_refusal, refine_one_reply}
use Rattle.history.specs.Histories.{end as no-calls, History}
use Rattle.history.specs.Runs.{refine_one, refines, by_reply, Queried, one_refined, Run, end, next}
use Rattle.history.proofs.Laws.Calls.{history_represents}
use Rattle.history.proofs.Laws.Queries.{by_reply_given, refine_given}
use Rattle.history.proofs.Laws.Theorem.{term_three}
use Rattle.history.proofs.Laws.LentLengths.{example}

-- the row cells that a query needs
abbrev pub needed : Stores → ℕ
needed s = s.header.capacity * s.header.columns

-- the reply of a refine that is lent this many cells
abbrev pub replied : Stores → ℕ → Subset → Constraint → ℕ → Reply Subset
replied s lent a c output = refine_one_reply s.header (take lent s.rows) a c output

-- ---- one cell less

module _ {p : Plain} {s : Stores} (r : Represents p s) where
  less : length (take (needed s - 1) s.rows) < needed s
  less =
      let b = (outside_inside s.header (represents_inside r)).bounds in
      simp length-take (omega (arith, mul-le-mul_right s.header.columns b.capacity_some, b.columns_some))

  pub refused_by_2 : (a : Subset) (c : Constraint) (output : ℕ) → replied s (needed s - 1) a c output ≡ refused 2
  unfolding refine_one_reply refine_refusal query_checks rows_short first_refusal reply
  refused_by_2 a c output = rw (represents_inside r, lt-ltb _ _ less)

-- ---- between two that are accepted

-- a refine with a given reply
queried_by : (s : Stores) (lent : ℕ) (a : Subset) (c : Constraint) (output : List ℕ) (r : Reply Subset) → replied s lent a c (length output) ≡ r
    → Queried s a (refine_one c) (by_reply a (refine_one c) r)
unfolding refine_one_reply
queried_by s lent a c output r e =
    rw (← e) (by_reply_given a (refine_one c) _ _ output (refine_given s.header _ a (c ∷ []) (length output)) (λ output' answer m. one_refined c lent output output' answer (record { answered = m })))

-- b has the ids that are left, in any form
module _ {p : Plain} {s : Stores} (r : Represents p s) (a v b w : Subset) (c : Constraint) (output : List ℕ) (one : replied s (needed s) a c (length output) ≡ accepted v) (same : members b ≡ members v)
    (three : replied s (needed s) b c (length output) ≡ accepted w) where
  pub short_between : Run s a (refine_one c ∷ refine_one c ∷ refine_one c ∷ []) w (refine_one c ∷ refine_one c ∷ [])
  unfolding by_reply if_accepted
  short_between =
      next (queried_by s (needed s) a c output (accepted v) one) same
      (next (queried_by s (needed s - 1) b c output (refused 2) (refused_by_2 r b c (length output))) refl
      (next (queried_by s (needed s) b c output (accepted w) three) refl (end w)))

-- the claim holds for them
pub short_between_claimed : {o : Opening} {generation : ℕ} {calls : List LentCall} {s : Stores} → History o generation calls s
    → (a v b w : Subset) (c : Constraint) (output : List ℕ) → replied s (needed s) a c (length output) ≡ accepted v → members b ≡ members v → replied s (needed s) b c (length output) ≡ accepted w
    → (members w ≡ filter (wanted s (refine_one c ∷ refine_one c ∷ [])) (members a)) × (rising (members w) ≡ true)
short_between_claimed history a v b w c output one same three =
    (term_three _ _ _ _ history).ids_left a _ w _ (short_between (history_represents history) a v b w c output one same three) (unfold refines any in refl)

-- ---- the example: a table of 3 columns and capacity 4 over 13 row cells, of which the refines are lent 12, 11 and 12

abbrev eight : List ℕ
eight = 0 ∷ 0 ∷ 0 ∷ 0 ∷ 0 ∷ 0 ∷ 0 ∷ 0 ∷ []

abbrev pub thirteen : List ℕ
thirteen = 0 ∷ 0 ∷ 0 ∷ 0 ∷ 0 ∷ eight

abbrev pub longer : Stores
longer = stores (empty_header example 0) thirteen eight eight []

pub longer_opened : History example 0 [] longer
unfolding open_refusal openable stores_short first_refusal splice size_class_for size_class
longer_opened =
    record {
      start = longer;
      keys_before = eight;
      opened = opened_done example 0 thirteen eight eight [] eight refl (omega arith) (record { free = refl; tail = refl });
      rest = body [] [] [];
      pending = [];
      steps = no-calls longer;
    }

abbrev at_least_one : Constraint
at_least_one = record { kind = 5; column = 1; value = 1 }

abbrev kept_by : Subset → Subset
kept_by a = retain (matches longer.header (take 12 thirteen) (at_least_one ∷ [])) a

-- lent all 12 cells that it needs, it is accepted
twelve : replied longer 12 (range 0 0) at_least_one 0 ≡ accepted (kept_by (range 0 0))
unfolding refine_one_reply refine_refusal query_checks rows_short past_rows outside openable known all first_refusal reply
twelve = rw (formed_range 0 0 (omega arith), end_range 0 0, size_range 0 0)

no_ids : (l : List ℕ) → length l ≡ 0 → l ≡ []
no_ids [] e = refl
no_ids (id ∷ ids) e = absurd (omega arith)

nothing_kept : members (range 0 0) ≡ members (kept_by (range 0 0))
unfolding filter
nothing_kept =
    let none = no_ids (members (range 0 0)) (length_range 0 0) in
    none ∙ sym (members_retain _ (range 0 0) ∙ ap (filter _) none)

pub lengths_lent_lem : Run longer (range 0 0) (refine_one at_least_one ∷ refine_one at_least_one ∷ refine_one at_least_one ∷ []) (kept_by (range 0 0)) (refine_one at_least_one ∷ refine_one at_least_one ∷ [])
lengths_lent_lem = short_between (history_represents longer_opened) (range 0 0) _ (range 0 0) _ at_least_one [] twelve nothing_kept twelve

pub lengths_lent_claimed : (members (kept_by (range 0 0)) ≡ filter (wanted longer (refine_one at_least_one ∷ refine_one at_least_one ∷ [])) (members (range 0 0)))
    × (rising (members (kept_by (range 0 0))) ≡ true)
lengths_lent_claimed = short_between_claimed longer_opened (range 0 0) _ (range 0 0) _ at_least_one [] twelve nothing_kept twelve
