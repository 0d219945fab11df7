-- A scan, place by place: ids and rows, and what each step keeps. Assumes nothing.
use Rattle.query_scan.proofs.Prelude.{ℕ, ◌+◌, ◌-◌, ◌*◌, ◌≤◌, ◌<◌, ◌≡◌, refl, sym, ap, ap₂, subst, ◌∙◌, inl, inr, Bool, true, false, and-true, and-false, false≢true, List, [], ◌∷◌, ◌++◌, append_assoc, append-nil, ℕ_discrete, arith, length, take, drop, get_or, ltb-false, splice, filter, count, all, iota, rising, row_at, split, filter_append, Constraint, is_live, met, meets, Header, Scan, matches, past_rows, dead_among, visited, RowInStore, up_to, places, scanned_ids, CanStart, ScanInvariant, Keeps, CanMove, Moves, CanStep, ScanSteps, Finished, CanWrite, Writes, Queryable, part_width, rising_filter, rising_take, rising_drop, row_in, rows_long_of, outside_inside}
use Rattle.offsets.specs.declared.retain.RetainBuilder.{RetainBuilder}
use Rattle.offsets.specs.Subsets.{Subset, range, list, members, size, end_of}
use Rattle.offsets.specs.inner.RetainBuilder.{NextId}
use Rattle.offsets.specs.Laws.Subsets.{rising_members, members_below, formed_short}
use Rattle.offsets.specs.Laws.Forms.{size_range, end_range, get_d_range, size_list, members_list}
use Rattle.query_scan.proofs.Visits.{up_to_nil, up_to_hit, up_to_miss, visited_none, length_visited, visited_more, visited_first, kept_few, dead_more, dead_few}

-- ---- the id at the next place

-- in a range it is one more, and no more than its end
module _ (start end : ℕ) (s : Scan) (m : CanMove (range start end) s) where
  here : s.id ≡ start + s.next
  here = m.id_is ∙ get_d_range start end s.next 0 (omega (arith, m.more, m.within, size_range start end))

  pub next_below : s.id + 1 ≤ end
  next_below = omega (arith, here, m.more, m.within, size_range start end)

  pub next_in_range : s.next + 1 < s.end → s.id + 1 ≡ get_or (members (range start end)) (s.next + 1) 0
  next_in_range l =
      let k : s.id + 1 ≡ start + (s.next + 1) = omega (arith, here) in
      k ∙ sym (get_d_range start end (s.next + 1) 0 (omega (arith, l, m.within, size_range start end)))

module _ (ids : List ℕ) (s : Scan) (m : CanMove (list ids) s) where
  pub place_in_list : s.next + 1 < s.end → s.next + 1 < length ids
  place_in_list l = omega (arith, m.within, size_list ids)

  pub next_in_list : get_or ids (s.next + 1) 0 ≡ get_or (members (list ids)) (s.next + 1) 0
  next_in_list = rw (members_list ids)

-- ---- a row's cells

-- the part of the store that is lent is the row
pub row_part : (columns id : ℕ) (rows : List ℕ) → take (id * columns + columns - id * columns) (drop (id * columns) rows) ≡ row_at columns id rows
unfolding row_at
row_part columns id rows = part_width rows (id * columns) columns

below_of : (h : Header) (subset : Subset) → past_rows h subset ≡ false → end_of subset ≤ h.rows
unfolding past_rows
below_of h subset e = ltb-false _ _ e

-- the id at a place is that of a row, which is within the store
module _ (h : Header) (rows : ℕ) (subset : Subset) (a : Queryable h rows subset) where
  module _ (place : ℕ) (l : place < size subset) where
    abbrev id_of : ℕ
    id_of = get_or (members subset) place 0

    id_below : id_of < h.rows
    id_below = let m = members_below subset a.formed place l in let b = below_of h subset a.below in omega arith

    id_small : id_of < 65536
    id_small = let i = outside_inside h a.inside in omega (arith, id_below, i.rows_fit, i.bounds.capacity_few)

    id_in_store : RowInStore h rows id_of
    id_in_store =
        let i = outside_inside h a.inside in
        let r = row_in id_of h.capacity h.columns (omega (arith, id_below, i.rows_fit)) in
        (omega (arith, i.bounds.columns_some), omega (arith, rows_long_of h rows a.long))

pub size_few : (h : Header) (rows : ℕ) (subset : Subset) → Queryable h rows subset → size subset ≤ 65536
size_few h rows (range a b) q =
    let i = outside_inside h q.inside in
    let e : end_of (range a b) ≤ h.rows = below_of h (range a b) q.below in
    omega (arith, i.rows_fit, i.bounds.capacity_few, size_range a b, end_range a b)
size_few h rows (list ids) q = rw (size_list ids) (formed_short ids q.formed)

-- ---- one row

module _ (h : Header) (rows : List ℕ) (id : ℕ) where
  abbrev live : Bool
  live = is_live (row_at h.columns id rows)

  pub match_unmet : (c : Constraint) → met (row_at h.columns id rows) c ≡ false → false ≡ matches h rows (c ∷ []) id
  unfolding matches meets all
  match_unmet c e = rw e (sym (and-false live))

  pub match_met : (c : Constraint) (r : Bool) → met (row_at h.columns id rows) c ≡ true → r ≡ live → r ≡ matches h rows (c ∷ []) id
  unfolding matches meets all
  match_met c r e q = rw e (q ∙ sym (and-true live))

  pub dead_none : live ≡ true → 0 ≡ dead_among h rows (id ∷ [])
  unfolding dead_among count
  dead_none e = rw e

  pub dead_at_most : dead_among h rows (id ∷ []) ≤ 1
  dead_at_most = dead_few h rows (id ∷ [])

  pub dead_one : live ≡ false → 1 ≡ dead_among h rows (id ∷ [])
  unfolding dead_among count
  dead_one e = rw e

-- ---- a step

module _ (h : Header) (rows : List ℕ) (subset : Subset) (s : Scan) (output : List ℕ) (n : ℕ) (e : n ≡ dead_among h rows (s.id ∷ [])) where
  abbrev counted : Scan
  counted = record { next = s.next; end = s.end; id = s.id; most = s.most; dead = s.dead + n; found = s.found }

  pub steps_miss : (hit : Bool) → hit ≡ false → (s' : Scan) → Moves subset counted s' → ScanSteps h rows subset s hit output s' output
  steps_miss hit z s' m =
      record {
        next_is = m.next_is;
        most_is = m.most_is;
        dead_is = m.dead_is ∙ ap (λ (k : ℕ). s.dead + k) e;
        id_is = m.id_is;
        adds = λ q. absurd (false≢true (sym z ∙ q));
        stops = λ q. absurd (false≢true (sym z ∙ q));
        goes_on = λ q. absurd (false≢true (sym z ∙ q));
        skips = λ _. (m.found_is, refl, m.end_is);
      }

  pub steps_hit : (hit : Bool) → hit ≡ true → (t s' : Scan) (output' : List ℕ) → Keeps counted output t output' → Moves subset t s' → ScanSteps h rows subset s hit output s' output'
  steps_hit hit z t s' output' k m =
      record {
        next_is = m.next_is ∙ ap (λ (i : ℕ). i + 1) k.next_is;
        most_is = m.most_is ∙ k.most_is;
        dead_is = m.dead_is ∙ k.dead_is ∙ ap (λ (i : ℕ). s.dead + i) e;
        id_is = m.id_is;
        adds = λ _. rw m.found_is k.adds;
        stops = λ _ q. m.end_is ∙ k.stops (ap (λ (g : RetainBuilder). g.count) (sym m.found_is) ∙ q);
        goes_on = λ _ q. m.end_is ∙ k.goes_on (λ z. q (ap (λ (g : RetainBuilder). g.count) m.found_is ∙ z));
        skips = λ q. absurd (false≢true (sym q ∙ z));
      }

-- after an id is kept there is a place to move on from
pub keeps_moves : (subset : Subset) (s : Scan) (output : List ℕ) (s' : Scan) (output' : List ℕ) → CanMove subset s → Keeps s output s' output' → CanMove subset s'
keeps_moves subset s output s' output' m k =
    elim (ℕ_discrete s'.found.count s.most) [
      | yes e ↦ let q = k.stops e in record { id_is = here; more = omega (arith, q, k.next_is, m.more); within = omega (arith, q, m.more, m.within) }
      | no n ↦ let q = k.goes_on n in record { id_is = here; more = omega (arith, q, k.next_is, m.more); within = omega (arith, q, m.within) }
    ]
  where
    here : s'.id ≡ get_or (members subset) s'.next 0
    here = k.id_is ∙ m.id_is ∙ ap (λ (i : ℕ). get_or (members subset) i 0) (sym k.next_is)

-- ---- the scan

kept_rising : (subset : Subset) (test : ℕ → Bool) (start k : ℕ) → rising (members subset) ≡ true → rising (filter test (visited subset start k)) ≡ true
unfolding visited
kept_rising subset test start k e = rising_filter test _ (rising_take k _ (rising_drop start _ e))

keep_one : (test : ℕ → Bool) (xs : List ℕ) (x : ℕ) → test x ≡ true → filter test (xs ++ (x ∷ [])) ≡ filter test xs ++ (x ∷ [])
unfolding filter
keep_one test xs x e = filter_append test xs (x ∷ []) ∙ rw e

keep_none : (test : ℕ → Bool) (xs : List ℕ) (x : ℕ) → test x ≡ false → filter test (xs ++ (x ∷ [])) ≡ filter test xs
unfolding filter
keep_none test xs x e = filter_append test xs (x ∷ []) ∙ rw e (append-nil (filter test xs))

-- the beginning
pub scanned_begin : (h : Header) (rows : List ℕ) (subset : Subset) (test : ℕ → Bool) (s : Scan) (output : List ℕ) → CanStart h (length rows) subset s output → ScanInvariant h rows subset test s output s output
unfolding filter dead_among count scanned_ids
scanned_begin h rows subset test s output w =
    let e : visited subset s.next (s.next - s.next) ≡ [] = visited_none subset s.next (s.next - s.next) (omega arith) in
    let n = w.none_found.nothing in
    let m : s.most - s.found.count ≡ s.most = omega arith in
    record {
      most_is = refl;
      from = omega arith;
      upto = w.order;
      within = omega arith;
      wants = λ l. omega (arith, w.wants l);
      id_is = w.id_is;
      visits_is = rw (e, m);
      grows = rw e (w.none_found.begins output);
      dead_is = rw e w.none_dead;
    }

module _ (h : Header) (rows : List ℕ) (subset : Subset) (test : ℕ → Bool) (s₀ : Scan) (output₀ : List ℕ) (w : CanStart h (length rows) subset s₀ output₀)
    (s : Scan) (output : List ℕ) (v : ScanInvariant h rows subset test s₀ output₀ s output) where
  abbrev so_far : List ℕ
  so_far = scanned_ids subset s₀ s

  long : length so_far ≡ s.next - s₀.next
  unfolding scanned_ids
  long = length_visited subset s₀.next (s.next - s₀.next) (omega (arith, v.from, v.upto, v.within, w.within))

  module _ (m : s.next < s.end) where
    queryable : Queryable h (length rows) subset
    queryable = w.queryable (omega (arith, v.from, v.within))

    place_in : s.next < size subset
    place_in = omega (arith, w.within, v.within)

    -- the id at the next place comes after those visited
    with_next : (s' : Scan) → s'.next ≡ s.next + 1 → scanned_ids subset s₀ s' ≡ so_far ++ (s.id ∷ [])
    unfolding scanned_ids
    with_next s' e =
        let n : s'.next - s₀.next ≡ s.next - s₀.next + 1 = omega (arith, e, v.from) in
        let sum : s₀.next + (s.next - s₀.next) ≡ s.next = omega (arith, v.from) in
        let id-here : s.id ≡ get_or (members subset) (s₀.next + (s.next - s₀.next)) 0 = v.id_is m ∙ ap (λ (i : ℕ). get_or (members subset) i 0) (sym sum) in
        rw (n, id-here) (visited_more subset s₀.next (s.next - s₀.next) (omega (arith, place_in, sum)))

    -- and before those that are left
    next_first : places subset s ≡ s.id ∷ visited subset (s.next + 1) (s.end - (s.next + 1))
    unfolding places
    next_first = rw (v.id_is m) (visited_first subset s.next s.end m (omega (arith, v.within, w.within)))

    -- its row is within the store
    pub next_in_store : RowInStore h (length rows) s.id
    next_in_store = subst (RowInStore h (length rows)) (sym (v.id_is m)) (id_in_store h (length rows) subset queryable s.next place_in)

    next_id : test s.id ≡ true → NextId output₀ (filter test so_far) s.id
    next_id e =
        record {
          up = rw (← keep_one test so_far s.id e, ← with_next after refl) (unfold scanned_ids in kept_rising subset test s₀.next (after.next - s₀.next) (rising_members subset queryable.formed));
          room = λ l.
              let few : length (filter test so_far) ≤ s.next - s₀.next = unfold scanned_ids in kept_few subset test s₀.next (s.next - s₀.next) in
              let wants = v.wants m in
              omega (arith, w.room (omega (arith, v.grows.number, v.most_is)), v.within, v.from);
          small = rw (v.id_is m) (omega (arith, id_small h (length rows) subset queryable s.next place_in));
        }
      where
        after : Scan
        after = record { next = s.next + 1; end = 0; id = 0; most = 0; dead = 0; found = s.found }

    pub can_step : (hit : Bool) → hit ≡ test s.id → CanStep h (length rows) subset s hit output
    can_step hit e =
        record {
          lies = next_in_store;
          few = omega (arith, v.dead_is, dead_few h rows so_far, long, size_few h (length rows) subset queryable, place_in);
          can_move = record { id_is = v.id_is m; more = m; within = omega (arith, v.within, w.within) };
          can_add = λ q. record { output₀ = output₀; kept = filter test so_far; grows = v.grows; next = next_id (sym e ∙ q) };
        }

    module _ (hit : Bool) (e : hit ≡ test s.id) (s' : Scan) (output' : List ℕ) (t : ScanSteps h rows subset s hit output s' output') where
      dead_next : s'.dead ≡ dead_among h rows (scanned_ids subset s₀ s')
      dead_next = rw (with_next s' t.next_is) (t.dead_is ∙ ap (λ (n : ℕ). n + dead_among h rows (s.id ∷ [])) v.dead_is ∙ sym (dead_more h rows so_far (s.id ∷ [])))

      -- what is left to visit, once the next place is
      left : (n n' : ℕ) (rest : List ℕ) → up_to n test (places subset s) ≡ s.id ∷ rest → rest ≡ up_to n' test (places subset s') → so_far ++ up_to n test (places subset s) ≡ scanned_ids subset s₀ s' ++ up_to n' test (places subset s')
      left n n' rest p q = rw (p, with_next s' t.next_is, q) (sym (append_assoc so_far (s.id ∷ []) _))

      same_places : s'.end ≡ s.end → visited subset (s.next + 1) (s.end - (s.next + 1)) ≡ places subset s'
      unfolding places
      same_places q = rw (t.next_is, q)

      stepped_miss : hit ≡ false → ScanInvariant h rows subset test s₀ output₀ s' output'
      stepped_miss f =
          let k = t.skips f in
          let no : test s.id ≡ false = sym e ∙ f in
          let n = v.wants m in
          let wanted : s.most - s.found.count ≡ s'.most - s'.found.count = ap₂ (λ (i : ℕ) (g : RetainBuilder). i - g.count) (sym t.most_is) (sym k.0) in
          record {
            most_is = t.most_is ∙ v.most_is;
            from = omega (arith, t.next_is, v.from);
            upto = omega (arith, t.next_is, k.2);
            within = omega (arith, k.2, v.within);
            wants = λ l. rw k.0 (omega (arith, t.most_is));
            id_is = t.id_is;
            visits_is = v.visits_is ∙ left (s.most - s.found.count) (s'.most - s'.found.count) _ (ap (up_to (s.most - s.found.count) test) next_first ∙ up_to_miss test _ s.id _ (omega arith) no) (ap₂ (λ (i : ℕ) (l : List ℕ). up_to i test l) wanted (same_places k.2));
            grows = rw (with_next s' t.next_is, keep_none test so_far s.id no, k.0, k.1) v.grows;
            dead_is = dead_next;
          }

      stepped_hit : hit ≡ true → ScanInvariant h rows subset test s₀ output₀ s' output'
      stepped_hit f =
          let yes-is : test s.id ≡ true = sym e ∙ f in
          let a = t.adds f in
          let n = v.wants m in
          let c = a.one_more in
          record {
            most_is = t.most_is ∙ v.most_is;
            from = omega (arith, t.next_is, v.from);
            upto = ends.0;
            within = ends.1;
            wants = ends.2;
            id_is = t.id_is;
            visits_is = v.visits_is ∙ left (s.most - s.found.count) (s'.most - s'.found.count) _ (ap (up_to (s.most - s.found.count) test) next_first ∙ up_to_hit test _ s.id _ (omega arith) yes-is) rest_is;
            grows = rw (with_next s' t.next_is, keep_one test so_far s.id yes-is) (a.adds output₀ (filter test so_far) v.grows (next_id yes-is));
            dead_is = dead_next;
          }
        where
          ends : (s'.next ≤ s'.end) × (s'.end ≤ s₀.end) × (s'.next < s'.end → s'.found.count < s'.most)
          ends =
              let n = v.wants m in
              let c = (t.adds f).one_more in
              elim (ℕ_discrete s'.found.count s.most) [
                | yes q ↦ let z = t.stops f q in (omega (arith, z, t.next_is), omega (arith, z, v.within), λ l. absurd (omega (arith, z, t.next_is, l)))
                | no q ↦ let z = t.goes_on f q in (omega (arith, z, t.next_is), omega (arith, z, v.within), λ l. omega (arith, q, t.most_is))
              ]

          rest_is : up_to (s.most - s.found.count - 1) test (visited subset (s.next + 1) (s.end - (s.next + 1))) ≡ up_to (s'.most - s'.found.count) test (places subset s')
          rest_is =
              let c = (t.adds f).one_more in
              let k : s'.most - s'.found.count ≡ s.most - s.found.count - 1 = omega (arith, t.most_is) in
              elim (ℕ_discrete s'.found.count s.most) [
                | yes q ↦
                    let z : s.most - s.found.count - 1 ≡ 0 = omega arith in
                    let p : places subset s' ≡ [] = unfold places in visited_none subset s'.next (s'.end - s'.next) (omega (arith, t.stops f q, t.next_is)) in
                    rw (k, z, p) (unfold up_to in refl)
                | no q ↦ rw k (ap (up_to (s.most - s.found.count - 1) test) (same_places (t.goes_on f q)))
              ]

      pub stepped : ScanInvariant h rows subset test s₀ output₀ s' output'
      stepped = elim (split hit) [ inl f ↦ stepped_hit f | inr f ↦ stepped_miss f ]

  -- the end
  pub finished : s.end ≤ s.next → Finished h rows subset test s₀ output₀ s output
  finished l =
      let p : places subset s ≡ [] = unfold places in visited_none subset s.next (s.end - s.next) (omega arith) in
      let all_hold : up_to s₀.most test (places subset s₀) ≡ so_far = v.visits_is ∙ rw (p, up_to_nil test (s.most - s.found.count)) (append-nil so_far) in
      record {
        next_is = rw all_hold (omega (arith, long, v.from));
        grows = rw all_hold v.grows;
        dead_is = rw all_hold v.dead_is;
      }

-- fewer places are left
pub steps_less : (h : Header) (rows : List ℕ) (subset : Subset) (s : Scan) (hit : Bool) (output : List ℕ) (s' : Scan) (output' : List ℕ) → s.next < s.end → ScanSteps h rows subset s hit output s' output'
    → s'.end - s'.next < s.end - s.next
steps_less h rows subset s hit output s' output' m t =
    elim (split hit) [
      | inl f ↦ elim (ℕ_discrete s'.found.count s.most) [
        | yes q ↦ omega (arith, t.stops f q, t.next_is)
        | no q ↦ omega (arith, t.goes_on f q, t.next_is)
      ]
      | inr f ↦ omega (arith, (t.skips f).2, t.next_is)
    ]

-- ---- what is written at the end

module _ (output : List ℕ) (g : RetainBuilder) where
  pub can_fill : CanWrite output g → g.written ≡ 0 → (g.start + g.count < 4294967296) × (g.count ≤ length output)
  can_fill w e = ((w.grows.as_range e).fits, omega (arith, w.grows.number, w.room, w.grows.same))

  pub wrote_range : (output' : List ℕ) → g.written ≡ 0 → output' ≡ splice output 0 (iota g.start g.count) → Writes output g g.count output'
  wrote_range output' e q =
      record {
        writes = λ output₀ kept grows. let a = grows.as_range e in
            record { number = grows.number; cells = rw (a.ids, ← a.unwritten) q };
      }

  pub wrote_list : (g.written ≡ 0 → ⊥) → Writes output g g.count output
  wrote_list e = record { writes = λ output₀ kept grows. record { number = grows.number; cells = (grows.as_list e).wrote.cells } }
