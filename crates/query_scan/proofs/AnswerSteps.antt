-- The answers of the queries: refused, or by the ids that a scan has kept. Assumes nothing.
use Rattle.refusals.specs.Laws.Numbers.{number_some}
use Rattle.refusals.specs.Refusals.{number}
use Rattle.refusals.specs.declared.Refusal.{Refusal}
use Rattle.std.specs.Prelude.{Result, Ok, Err}
use Rattle.query_scan.proofs.Prelude.{ℕ, ◌+◌, ◌-◌, ◌≤◌, ◌<◌, min, ◌≡◌, refl, sym, ap, ◌∙◌, Bool, true, false, and-true, List, [], ◌∷◌, inl, inr, ℕ_discrete, arith, length, get_or, filter, all, split, filter_all, filter_length_all, length_filter, count_le, refused, accepted, reply, reply_refused, reply_accepted, Constraint, known, Header, matches, visited, refine_one_reply, refine_list_reply, RefinedOne, RefinedList, Queryable, RefineRefused, MatchRefused, PageRefused, Scan, Refine, Match, Page, up_to, places, first_place, room_required, refusal_of, BeginsAt, Finished, ScanBegun, ScanStarts, ScanDone, ScanAnswered, CanWrite, Writes, RefineClosed, ids_visited, QueryKind}
use Rattle.offsets.specs.declared.retain.RetainBuilder.{RetainBuilder}
use Rattle.offsets.specs.Subsets.{Subset, range, list, members, size, retain}
use Rattle.offsets.specs.Answers.{Answered}
use Rattle.offsets.specs.inner.RetainBuilder.{Builds, BuilderEnds}
use Rattle.offsets.specs.Laws.Subsets.{length_members, range_writes_nothing, answered_list}
use Rattle.offsets.specs.Laws.Forms.{length_range, get_d_range, narrowed_all, narrowed_some, narrowed_list}
use Rattle.offsets.specs.declared.SubsetForm.{SubsetForm}
use Rattle.offsets.specs.declared.SubsetForm.TheVariants.{Range, List as Ids}
use Rattle.offsets.specs.inner.Writing.{Wrote}
use Rattle.offsets.specs.Laws.Answers.{answered_refused as refused-answered}
use Rattle.offsets.specs.Laws.Retained.{grown_retains, listed_retains}
use Rattle.query_scan.proofs.Visits.{up_to_all, up_to_one, length_visited, visited_all, visited_end}

-- ---- replies

module _ (n : ℕ) (value : Subset) (output : List ℕ) where
  answered_refused : (r : Refusal) → number r ≡ n → Answered (reply n value) output (Err r) output
  answered_refused r e = let k : reply n value ≡ refused (number r) = sym (reply_refused (refused (number r)) n (number r) value refl e (number_some r)) in rw k (refused-answered r output)

  answered_accepted : (answer : Result SubsetForm Refusal) (output' : List ℕ) → n ≡ 0 → Answered (accepted value) output answer output'
      → Answered (reply n value) output answer output'
  answered_accepted answer output' e a = let k : reply n value ≡ accepted value = sym (reply_accepted (accepted value) n value refl e) in rw k a

-- ---- the beginning

module _ (query : QueryKind) (h : Header) (rows : ℕ) (subset : Subset) (knows : Bool) (output : ℕ)
    (numbered : (conditions : List Constraint) → knows ≡ all (known h.columns) conditions → 0 ≡ refusal_of query h rows subset conditions output) (s : Scan) where
  module _ (a : Queryable h rows subset) (next end most : ℕ) (p : BeginsAt subset next end most s) where
    opened_over : next ≤ end → end ≤ size subset → (next < end → 0 < most) → (1 < most → end - next ≤ output) → next ≡ first_place query
        → ((test : ℕ → Bool) → up_to most test (visited subset next (end - next)) ≡ ids_visited query test subset) → room_required query subset ≤ output → ScanBegun query h rows subset knows output s
    unfolding places
    opened_over o w m r f v u =
        record {
          accepts = λ conditions k. sym (numbered conditions k);
          queryable = a;
          can_start = λ output₀ l.
              record {
                queryable = λ _. a;
                order = omega (arith, p.next_is, p.end_is, o);
                within = omega (arith, p.end_is, w);
                wants = λ q. rw p.most_is (m (omega (arith, p.next_is, p.end_is, q)));
                room = λ q. omega (arith, r (rw p.most_is at q), p.next_is, p.end_is, l);
                id_is = p.id_is;
                none_dead = p.none_dead;
                none_found = p.none_found;
              };
          first_is = p.next_is ∙ f;
          visits_is = λ test. rw (p.next_is, p.end_is, p.most_is) (v test);
          in_room = u;
        }

all_places : (subset : Subset) → visited subset 0 (size subset - 0) ≡ members subset
all_places subset = let k : size subset - 0 ≡ size subset = omega arith in ap (visited subset 0) k ∙ visited_all subset

module _ (h : Header) (rows : ℕ) (subset : Subset) (knows : Bool) where
  -- refused
  pub refine_stopped : (output : ℕ) (r : Refusal) → RefineRefused h rows subset knows output (number r) → ScanStarts Refine h rows subset knows output (Err r)
  unfolding refusal_of
  refine_stopped output r e = e.number_is

  pub match_stopped : (r : Refusal) → MatchRefused h rows subset knows (number r) → (output : ℕ) → ScanStarts Match h rows subset knows output (Err r)
  unfolding refusal_of
  match_stopped r e output = e.number_is

  pub page_stopped : (start n output : ℕ) (r : Refusal) → PageRefused h rows subset start n knows output (number r) → ScanStarts (Page start n) h rows subset knows output (Err r)
  unfolding refusal_of
  page_stopped start n output r e = e.number_is

  -- not refused
  module _ (s : Scan) where
    pub refine_opened : (output : ℕ) → RefineRefused h rows subset knows output 0 → BeginsAt subset 0 (size subset) (size subset) s → ScanStarts Refine h rows subset knows output (Ok s)
    unfolding refusal_of ids_visited first_place room_required
    refine_opened output r p =
        opened_over Refine h rows subset knows output r.number_is s (r.queryable refl) 0 (size subset) (size subset) p (omega arith) (omega arith) (λ q. q) (λ _. omega (arith, r.room refl)) refl
        (λ test. rw (all_places subset) (up_to_all test (size subset) (members subset) (omega (arith, length_members subset)))) (r.room refl)

    pub match_opened : MatchRefused h rows subset knows 0 → BeginsAt subset 0 (size subset) 1 s → (output : ℕ) → ScanStarts Match h rows subset knows output (Ok s)
    unfolding refusal_of ids_visited first_place room_required
    match_opened r p output =
        opened_over Match h rows subset knows output r.number_is s (r.queryable refl) 0 (size subset) 1 p (omega arith) (omega arith) (λ _. omega arith) (λ q. absurd (omega (arith, q))) refl
        (λ test. rw (all_places subset) (up_to_one test (members subset))) (omega arith)

    pub page_opened : (start n output : ℕ) → PageRefused h rows subset start n knows output 0
        → BeginsAt subset start (start + min n (size subset - start)) (min n (size subset - start)) s → ScanStarts (Page start n) h rows subset knows output (Ok s)
    unfolding refusal_of ids_visited first_place room_required
    page_opened start n output r p =
        let few = min n (size subset - start) in
        let k : start + few - start ≡ few = omega arith in
        opened_over (Page start n) h rows subset knows output r.number_is s (r.queryable refl) start (start + few) few p (omega arith) (omega (arith, r.within refl)) (λ q. omega (arith, q)) (λ _. omega (arith, r.room refl)) refl
        (λ test. rw k (up_to_all test few (visited subset start few) (omega (arith, length_visited subset start few (omega (arith, r.within refl)))) ∙ visited_end subset start n)) (r.room refl)

-- ---- all places

-- a query over its places
module _ (query : QueryKind) (h : Header) (rows : List ℕ) (subset : Subset) (conditions : List Constraint) (knows : Bool) (output : List ℕ) (s : Scan) (k : knows ≡ all (known h.columns) conditions)
    (o : ScanBegun query h (length rows) subset knows (length output) s) (s' : Scan) (output' : List ℕ) (f : Finished h rows subset (matches h rows conditions) s output s' output') where
  abbrev wanted : ℕ → Bool
  wanted = matches h rows conditions

  pub scanned_all : ScanAnswered query h rows subset conditions output (Ok s') output'
  scanned_all =
      record {
        accepts = o.accepts conditions k;
        queryable = o.queryable;
        in_room = o.in_room;
        within = let w = o.can_start output refl in omega (arith, w.order, w.within, o.first_is);
        grows = rw (← o.visits_is wanted) f.grows;
        counted = record { next = rw (← o.visits_is wanted, ← o.first_is) f.next_is; dead = rw (← o.visits_is wanted) f.dead_is };
      }

-- ---- refine

module _ (h : Header) (rows : List ℕ) (subset : Subset) (conditions : List Constraint) (output : List ℕ) (s : Scan) (output' : List ℕ) (a : ScanDone Refine h rows subset conditions output s output') where
  abbrev test : ℕ → Bool
  test = matches h rows conditions

  pub kept_all : Builds output output' s.found (filter test (members subset))
  unfolding ids_visited
  kept_all = a.grows

  pub can_write : CanWrite output' s.found
  unfolding room_required
  can_write = record { output₀ = output; kept = _; grows = kept_all; room = omega (arith, length_filter test (members subset), count_le test (members subset), length_members subset, a.in_room) }

-- ---- refine by one

module _ (test : ℕ → Bool) (output output' : List ℕ) where
  pub retained_range : (a b : ℕ) (g : RetainBuilder) (form : SubsetForm) → Builds output output' g (filter test (members (range a b))) → BuilderEnds g form
      → Answered (accepted (retain test (range a b))) output (Ok form) output'
  retained_range a b g form grows ends = grown_retains test a b grows ends

  pub retained_list : (ids : List ℕ) (n : ℕ) → Wrote output (filter test (members (list ids))) n output' → Answered (accepted (retain test (list ids))) output (Ok (Ids n)) output'
  retained_list ids n w = listed_retains test ids w

module _ (h : Header) (rows : List ℕ) (subset : Subset) (c : Constraint) (knows : Bool) (output : List ℕ)
    (k : knows ≡ known h.columns c) where
  one_known : knows ≡ all (known h.columns) (c ∷ [])
  unfolding all
  one_known = k ∙ sym (and-true (known h.columns c))

  pub one_stopped : (r : Refusal) → ScanStarts Refine h (length rows) subset knows (length output) (Err r) → ScanAnswered Refine h rows subset (c ∷ []) output (Err r) output
  one_stopped r o = (o (c ∷ []) one_known, refl)

  pub one_scanned : (s : Scan) → ScanBegun Refine h (length rows) subset knows (length output) s → (s' : Scan) (output' : List ℕ) → Finished h rows subset (matches h rows (c ∷ [])) s output s' output' → ScanAnswered Refine h rows subset (c ∷ []) output (Ok s') output'
  one_scanned s o s' output' f = scanned_all Refine h rows subset (c ∷ []) knows output s one_known o s' output' f

-- and what it answers
module _ (h : Header) (rows : List ℕ) (subset : Subset) (c : Constraint) (output : List ℕ) where
  pub one_refused : (r : Refusal) {output' : List ℕ} → ScanAnswered Refine h rows subset (c ∷ []) output (Err r) output' → RefinedOne h rows subset c output (Err r) output'
  unfolding refine_one_reply refusal_of
  one_refused r a = rw a.1 (record { answered = answered_refused _ _ output r a.0 })

  pub one_answered : (s : Scan) (output' : List ℕ) → ScanDone Refine h rows subset (c ∷ []) output s output' → (answer : Result SubsetForm Refusal) (output'' : List ℕ)
      → Answered (accepted (retain (matches h rows (c ∷ [])) subset)) output answer output'' → RefinedOne h rows subset c output answer output''
  unfolding refine_one_reply refusal_of
  one_answered s output' a answer output'' k = record { answered = answered_accepted _ _ output answer output'' a.accepts k }

-- ---- refine by a list

module _ (test : ℕ → Bool) (a b : ℕ) where
  abbrev ids_of : List ℕ
  ids_of = members (range a b)

  module _ (output₀ output : List ℕ) (g : RetainBuilder) (grows : Builds output₀ output g (filter test ids_of)) where
    all_kept : g.count ≡ b - a → all test ids_of ≡ true
    all_kept n = filter_length_all test ids_of (sym grows.number ∙ n ∙ sym (length_range a b))

    not_all : (g.count ≡ b - a → ⊥) → all test ids_of ≡ false
    not_all f = elim (split (all test ids_of)) [ inl q ↦ absurd (f (grows.number ∙ ap length (filter_all test ids_of q) ∙ length_range a b)) | inr q ↦ q ]

    -- where all is kept the ids are neighbours, and nothing is written
    all_unwritten : all test ids_of ≡ true → output ≡ output₀
    all_unwritten q =
        elim (ℕ_discrete g.written 0) [
          | yes e ↦ (grows.as_range e).unwritten
          | no e ↦ absurd
              (let l = grows.as_list e in
              let k : filter test ids_of ≡ ids_of = filter_all test ids_of q in
              let n : length ids_of ≡ b - a = length_range a b in
              let some : g.written ≡ length ids_of = rw k at l.wrote.number in
              let gap : get_or ids_of 0 0 + length ids_of ≤ get_or ids_of (length ids_of - 1) 0 = rw k at l.gap in
              let first = get_d_range a b 0 0 (omega (arith, e)) in
              let last = get_d_range a b (length ids_of - 1) 0 (omega (arith, e)) in
              omega (arith, e))
        ]

module _ (s : Scan) (output : List ℕ) where
  pub closed_whole : (a b : ℕ) → s.found.count ≡ b - a → RefineClosed (range a b) s output (Range a b) output
  closed_whole a b e =
      record {
        narrows = λ test output₀ _ grows.
            let all_hold = all_kept test a b output₀ output s.found grows e in
            rw (narrowed_all test a b all_hold, all_unwritten test a b output₀ output s.found grows all_hold) (range_writes_nothing a b output₀);
      }

  pub closed_part : (a b n : ℕ) (output' : List ℕ) → (s.found.count ≡ b - a → ⊥) → Writes output s.found n output' → RefineClosed (range a b) s output (Ids n) output'
  closed_part a b n output' e w =
      record {
        narrows = λ test output₀ _ grows.
            rw (narrowed_some test a b (not_all test a b output₀ output s.found grows e)) (answered_list _ output₀ n output' (w.writes output₀ _ grows));
      }

  pub closed_list : (ids : List ℕ) (n : ℕ) (output' : List ℕ) → Writes output s.found n output' → RefineClosed (list ids) s output (Ids n) output'
  closed_list ids n output' w =
      record { narrows = λ test output₀ _ grows. rw (narrowed_list test ids) (answered_list _ output₀ n output' (w.writes output₀ _ grows)) }

-- what a refine by a list answers
module _ (h : Header) (rows : List ℕ) (subset : Subset) (conditions : List Constraint) (output : List ℕ) where
  pub list_refused : (r : Refusal) {output' : List ℕ} → ScanAnswered Refine h rows subset conditions output (Err r) output' → RefinedList h rows subset conditions output (Err r) output'
  unfolding refine_list_reply refusal_of
  list_refused r a = rw a.1 (record { answered = answered_refused _ _ output r a.0 })

  pub list_answered : (s : Scan) (output' : List ℕ) → ScanDone Refine h rows subset conditions output s output' → (form : SubsetForm) (output'' : List ℕ) → RefineClosed subset s output' form output''
      → RefinedList h rows subset conditions output (Ok form) output''
  unfolding refine_list_reply refusal_of
  list_answered s output' a form output'' c =
      record { answered = answered_accepted _ _ output (Ok form) output'' a.accepts (c.narrows (matches h rows conditions) output a.queryable.formed (kept_all h rows subset conditions output s output' a)) }
