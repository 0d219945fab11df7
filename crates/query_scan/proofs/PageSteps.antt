-- A page: what its end requires, and its answer. Assumes nothing.
use Rattle.refusals.specs.Laws.Numbers.{number_some}
use Rattle.refusals.specs.Refusals.{number}
use Rattle.refusals.specs.declared.Refusal.{Refusal}
use Rattle.std.specs.Prelude.{Ok, Err}
use Rattle.query_scan.proofs.Prelude.{ℕ, ◌+◌, ◌-◌, ◌≤◌, ◌<◌, min, ◌≡◌, refl, ap, ap₂, ◌∙◌, false, Option, List, dec_lt, arith, ltb, length, lt-ltb, le-ltb, filter, refused, accepted, reply_refused, reply_accepted, Constraint, Header, Scan, Page, matches, dead_among, page_refusal, visited, next_place, page_ids, PageResult, next_view, page_view, page_of, PageRead, first_place, room_required, refusal_of, ScanDone, ScanAnswered, CanWrite, Writes, next_at, PageClosed, ids_visited, Maybe, None, Some, Read}
use Rattle.offsets.specs.Subsets.{Subset, size}
use Rattle.offsets.specs.inner.RetainBuilder.{Builds}
use Rattle.query_scan.proofs.Visits.{length_visited, visited_end, kept_few}

-- ---- the end

module _ (subset : Subset) (next : ℕ) where
  pub next_some : next < size subset → Some next ≡ next_at subset next
  unfolding next_at
  next_some l = rw (lt-ltb next (size subset) l)

  pub next_none : size subset ≤ next → None ≡ next_at subset next
  unfolding next_at
  next_none l = rw (le-ltb next (size subset) l)

module _ (subset : Subset) (s : Scan) (output : List ℕ) where
  pub page_written : (next : Maybe ℕ) (count : ℕ) (output' : List ℕ) → next ≡ next_at subset s.next → Writes output s.found count output'
      → PageClosed subset s output (record { written = count; dead = s.dead; next = next }) output'
  page_written next count output' e w =
      record {
        pages = λ output₀ kept grows. let u = w.writes output₀ kept grows in
            (ap₂ {C = Read} (λ (c : ℕ) (p : Maybe ℕ). record { written = c; dead = s.dead; next = p }) u.number e, u.cells);
      }

-- ---- the answer

next_is : (subset : Subset) (start n next : ℕ) → start ≤ size subset → next ≡ start + min n (size subset - start) → next_view (next_at subset next) ≡ next_place subset start n
unfolding next_at next_place next_view
next_is subset start n next l e =
    elim (dec_lt (start + n) (size subset)) [
      | yes q ↦ let m : next ≡ start + n = omega arith in rw (m, lt-ltb (start + n) (size subset) q)
      | no q ↦
          let a : ltb next (size subset) ≡ false = le-ltb next (size subset) (omega arith) in
          let b : ltb (start + n) (size subset) ≡ false = le-ltb (start + n) (size subset) (omega arith) in
          rw (a, b)
    ]

module _ (h : Header) (rows : List ℕ) (subset : Subset) (start n : ℕ) (conditions : List Constraint) (output : List ℕ) where
  abbrev ids : List ℕ
  ids = filter (matches h rows conditions) (visited subset start n)

  abbrev read : PageResult
  read = record { written = length ids; dead = dead_among h rows (visited subset start n); next = next_place subset start n }

  -- a refused page writes nothing
  pub page_refused : (r : Refusal) {output' : List ℕ} → ScanAnswered (Page start n) h rows subset conditions output (Err r) output' → PageRead h rows subset start n conditions output (Err r) output'
  unfolding refusal_of page_of page_ids page_view
  page_refused r a =
      record {
        effect = record {
          answers = reply_refused (refused (number r)) (page_refusal h (length rows) subset start n conditions (length output)) (number r) read refl a.0 (number_some r);
          unchanged = λ _. a.1;
          written = λ e. absurd (number_some r (a.0 ∙ e));
        };
      }

  module _ (s : Scan) (output' : List ℕ) (a : ScanDone (Page start n) h rows subset conditions output s output') where
    page_kept : Builds output output' s.found ids
    unfolding ids_visited
    page_kept = a.grows

    -- what the end of a page requires
    pub can_page : CanWrite output' s.found
    unfolding room_required
    can_page =
        let few : length ids ≤ min n (size subset - start) = rw (← visited_end subset start n) (kept_few subset (matches h rows conditions) start (min n (size subset - start))) in
        record { output₀ = output; kept = _; grows = page_kept; room = omega (arith, a.in_room) }

    -- and answers
    pub page_answered : (page : Read) (output'' : List ℕ) → PageClosed subset s output' page output'' → PageRead h rows subset start n conditions output (Ok page) output''
    unfolding page_of page_ids page_view refusal_of
    page_answered page output'' c =
        let q = c.pages output _ page_kept in
        record {
          effect = record {
            answers =
                ap (λ (p : Read). page_view (Ok p)) q.0 ∙ ap₂ (λ (d : ℕ) (m : Option ℕ). accepted (record { written = length ids; dead = d; next = m })) dead_is goes_on
                ∙ reply_accepted (accepted read) (page_refusal h (length rows) subset start n conditions (length output)) read refl a.accepts;
            unchanged = λ m. absurd (omega (arith, a.accepts, m));
            written = λ _. q.1;
          };
        }
      where
        dead_is : s.dead ≡ read.dead
        dead_is = unfold ids_visited in a.counted.dead

        goes_on : next_view (next_at subset s.next) ≡ next_place subset start n
        goes_on = unfold ids_visited first_place in
            let l : start ≤ size subset = a.within in
            let k : length (visited subset start n) ≡ min n (size subset - start) = rw (← visited_end subset start n) (length_visited subset start (min n (size subset - start)) (omega arith)) in
            next_is subset start n s.next l (a.counted.next ∙ ap (λ (i : ℕ). start + i) k)
