-- The contracts of a fast range and of a version imply those of F, V, L and U, for any table that the stores hold. Assumes nothing.
use Rattle.sort_entries.specs.declared.Range.{Range}
use Rattle.refusals.specs.declared.Refusal.{Refusal}
use Rattle.std.specs.Prelude.{◌*◌, ◌≤◌, ◌<◌, ◌≡◌, ◌∷◌, Result, Option as Optional, Ok, Err, Some, None}
use Rattle.levels_spec.specs.Laws.Prelude.{ℕ, refl, ap, ◌∙◌, inl, inr, Bool, true, false, cond, List, [], Option, none, some, arith, length, le-ltb, split, Constraint, known, Plain, Header, Version, represents_inside, represents_long, rows_counted, represents_sound, reply_accepted, ruled_refused, listing_text, stored_plain, text_line, Response}
use Rattle.refusals.specs.Refusals.{first_refusal, accepted, outcome, reply}
use Rattle.offsets.specs.Subsets.{Subset, range, list}
use Rattle.table.specs.Numbers.{range_view}
use Rattle.table.specs.Refusing.{outside, pairs_short, fast_refusal, version_refusal}
use Rattle.table.specs.Outcomes.{Stores, Represents, fast_subset, fast_among, RangeRead, VersionRead}
use Rattle.listing_write.specs.Writing.{stored_text}
use Rattle.levels_spec.specs.declared.Response.TheVariants.{Listing}
use Rattle.levels_spec.specs.Response.{queries, fast_subset_of, range_text, list_text}
use Rattle.levels_spec.specs.inner.Responses.{text_of, response_of, range_response, version_response, listing_response, Refuses, refuses}
use Rattle.levels_spec.specs.Laws.Results.{response_of_refused, response_of_accepted, responds_table, Does, queries_refused, queries_done}
use Rattle.levels_spec.specs.Laws.Calls.{reply_ruled}

-- ---- F

fast_outside : (h : Header) (sorts : ℕ) (c : Constraint) → outside h ≡ true → fast_refusal h sorts c ≡ 1
unfolding fast_refusal first_refusal
fast_outside h sorts c e = rw e

fast_number : {p : Plain} {s : Stores} → Represents p s → (c : Constraint)
    → fast_refusal s.header (length s.sorts) c ≡ cond (known p.opening.columns c) 0 6
unfolding fast_refusal first_refusal pairs_short
fast_number {p} {s} r c =
    let columns : s.header.columns ≡ p.opening.columns = ap (λ (h : Header). h.columns) r.shown.header in
    let capacity : s.header.capacity ≡ p.opening.capacity = ap (λ (h : Header). h.capacity) r.shown.header in
    let long : 2 * s.header.capacity ≤ length s.sorts = omega (arith, (represents_long r).sorts_long) in
    rw (represents_inside r, le-ltb (length s.sorts) (2 * s.header.capacity) long, columns)
    (elim (split (known p.opening.columns c)) [ inl e ↦ rw e | inr e ↦ rw e ])

fast_shown : {p : Plain} {s : Stores} → Represents p s → (c : Constraint) → fast_subset s.header s.sorts c ≡ fast_subset_of p c
unfolding fast_subset fast_among fast_subset_of
fast_shown {p} {s} r c =
    let sort : s.header.sort ≡ p.opening.sort = ap (λ (h : Header). h.sort) r.shown.header in
    rw (sort, r.shown.entries_shown, rows_counted r)

range_responds : (h : Header) (rows : List ℕ) (x : Result (Optional Range) Refusal) (found : Option Subset) → range_view x ≡ accepted found → text_of h rows (response_of range_response x) ≡ range_text found
unfolding text_of response_of range_response range_view range_text
range_responds h rows (Ok None) found e = let same : found ≡ none = cc in rw same
range_responds h rows (Ok (Some r)) found e = let same : found ≡ some (range r.start r.end) = cc in rw same
range_responds h rows (Err r) found e = absurd (let z : ◌≡◌ {A = ℕ} 0 1 = cc in omega arith)

range_refuses : (x : Result (Optional Range) Refusal) (n : ℕ) → outcome (range_view x) ≡ reply n tt → 0 < n → Refuses n (response_of range_response x)
unfolding response_of range_view
range_refuses (Ok None) n e more = absurd (let f = ruled_refused _ n e more in let z : ◌≡◌ {A = ℕ} 0 1 = cc in omega arith)
range_refuses (Ok (Some r)) n e more = absurd (let f = ruled_refused _ n e more in let z : ◌≡◌ {A = ℕ} 0 1 = cc in omega arith)
range_refuses (Err r) n e more = let f = ruled_refused _ n e more in refuses r cc

pub range_does : {s : Stores} {c : Constraint} {answer : Result (Optional Range) Refusal} {response : Response} → response ≡ response_of range_response answer → RangeRead s.header s.sorts c answer
    → Does (λ p. queries p (cond (known p.opening.columns c) 0 6) (range_text (fast_subset_of p c))) s s response (fast_refusal s.header (length s.sorts) c)
range_does {s} {c} {answer} same m =
    let n : ℕ = fast_refusal s.header (length s.sorts) c in
    record {
      outside_first = fast_outside s.header (length s.sorts) c;
      response_refused = λ more. rw same (range_refuses answer n m.refusal more);
      stays = λ more. refl;
      result_refused = λ p r more. queries_refused p _ (range_text (fast_subset_of p c)) n (fast_number r c) more;
      result_done = λ p r zero.
          rw (queries_done p (cond (known p.opening.columns c) 0 6) (range_text (fast_subset_of p c)) n (fast_number r c) zero, same, ← fast_shown r c)
          (responds_table (range_responds s.header s.rows answer (fast_subset s.header s.sorts c) (m.table zero (represents_sound r).contents.entries_rise)) r);
    }

-- ---- V, L and U

version_outside : (h : Header) → outside h ≡ true → version_refusal h ≡ 1
unfolding version_refusal first_refusal
version_outside h e = rw e

version_number : {p : Plain} {s : Stores} → Represents p s → version_refusal s.header ≡ 0
unfolding version_refusal first_refusal
version_number r = rw (represents_inside r)

-- a query that is answered with the version
version_queried : {s : Stores} {answer : Result Version Refusal} {response : Response} (responds : Version → Response) (text : Plain → List ℕ)
    → ((p : Plain) → Represents p s → text_of s.header s.rows (responds (record { generation = s.header.generation; rows = s.header.rows })) ≡ text p)
    → response ≡ response_of responds answer → VersionRead s.header answer → Does (λ p. queries p 0 (text p)) s s response (version_refusal s.header)
version_queried {s} {answer} responds text shows same m =
    let n : ℕ = version_refusal s.header in
    record {
      outside_first = version_outside s.header;
      response_refused = λ more. rw same (response_of_refused responds answer n (rw m.answers (reply_ruled n _)) more);
      stays = λ more. refl;
      result_refused = λ p r more. absurd (omega (arith, version_number r));
      result_done = λ p r zero.
          rw (queries_done p 0 (text p) n zero zero, same, response_of_accepted responds answer _ (m.answers ∙ reply_accepted n _ zero))
          (responds_table (shows p r) r);
    }

version_shown : {p : Plain} {s : Stores} → Represents p s
    → text_of s.header s.rows (version_response (record { generation = s.header.generation; rows = s.header.rows })) ≡ text_line 86 (p.generation ∷ length p.rows ∷ [])
unfolding text_of
version_shown {p} {s} r =
    let generation : s.header.generation ≡ p.generation = ap (λ (h : Header). h.generation) r.shown.header in
    rw (generation, rows_counted r)

pub version_does : {s : Stores} {answer : Result Version Refusal} {response : Response} → response ≡ response_of version_response answer → VersionRead s.header answer
    → Does (λ p. queries p 0 (text_line 86 (p.generation ∷ length p.rows ∷ []))) s s response (version_refusal s.header)
version_does same m = version_queried version_response (λ p. text_line 86 (p.generation ∷ length p.rows ∷ [])) (λ p r. version_shown r) same m

list_shown : {p : Plain} {s : Stores} → Represents p s → stored_text false s.header s.rows ≡ list_text false p
unfolding list_text stored_text
list_shown r = ap (listing_text false) (stored_plain r false)

numbered_shown : {p : Plain} {s : Stores} → Represents p s → stored_text true s.header s.rows ≡ list_text true p
unfolding list_text stored_text
numbered_shown r = ap (listing_text true) (stored_plain r true)

listing_response_lem : (numbered : Bool) (h : Header) (rows : List ℕ) → text_of h rows (Listing numbered) ≡ stored_text numbered h rows
unfolding text_of
listing_response_lem numbered h rows = refl

pub list_does : {s : Stores} {answer : Result Version Refusal} {response : Response} → response ≡ response_of (listing_response false) answer → VersionRead s.header answer
    → Does (λ p. queries p 0 (list_text false p)) s s response (version_refusal s.header)
list_does {s} same m = version_queried (listing_response false) (list_text false) (λ p r. listing_response_lem false s.header s.rows ∙ list_shown r) same m

pub numbered_does : {s : Stores} {answer : Result Version Refusal} {response : Response} → response ≡ response_of (listing_response true) answer → VersionRead s.header answer
    → Does (λ p. queries p 0 (list_text true p)) s s response (version_refusal s.header)
numbered_does {s} same m = version_queried (listing_response true) (list_text true) (λ p r. listing_response_lem true s.header s.rows ∙ numbered_shown r) same m
