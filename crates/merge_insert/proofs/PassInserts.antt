-- The inserts of a merge: one record's turn, by what the insert answers, and what holds at each turn of the loop over the
-- pending records. Assumes nothing.
use Rattle.merge_insert.proofs.Prelude.{ℕ, ◌+◌, ◌*◌, ◌≤◌, ◌≡◌, refl, sym, ap, ◌∙◌, List, [], ◌∷◌, add-one, arith, length, take, drop, get_or, ne_eqb, refused, accepted, insert_all_accepted, insert_all_refused, Header, Option, None, Some, Ok, Err, unwrap_or, Applied, Stop, Insertion, stop_number, opening_of, Stores, stores, Represents, SamePast, InsertedTable, Insertions, FirstInsert, InsertNext, InsertGoes, InsertStops, InsertedNext, InsertAgrees, Inserting, steps_refl, steps_then, waiting_start, waiting_next, waiting_kind, waiting_hash, waiting_cells, recounted_refl, recounted_capacity, recounted_then, recounted_waiting}
use Rattle.std.proofs.Common.{subst}
use Rattle.lists.specs.Lists.{filter}
use Rattle.plain_table.specs.Staged.{Staged, insert, remove_key, remove_row, words_of, inserts}
use Rattle.plain_table.specs.Plain.{Inserted, inserted, insert_all, Plain, insertion}
use Rattle.merge_pending.specs.inner.Becoming.{Becomes, Recounted, Ready, Waiting, kind_of, RecordAt, RecordLength, of_kind, Remaining, NextRecord}
use Rattle.merge_pending.proofs.PassRecords.{Next, record_long}

-- ---- one insert

-- the result of the inserts continues after an accepted one, and ends at one that stops
goes_accepted : (cells : List ℕ) (rest : List Staged) (place : ℕ) (p p' : Plain) → insertion cells p ≡ accepted p'
    → insert_all (inserts (insert cells ∷ rest)) place p ≡ insert_all (inserts rest) (place + 1) p'
unfolding inserts
goes_accepted cells rest place p p' e = rw (add-one place) (insert_all_accepted cells (inserts rest) place p p' e)

goes_stopped : (cells : List ℕ) (rest : List Staged) (place : ℕ) (p : Plain) (n : ℕ) → insertion cells p ≡ refused n
    → insert_all (inserts (insert cells ∷ rest)) place p ≡ inserted p n place
unfolding inserts
goes_stopped cells rest place p n e = insert_all_refused cells (inserts rest) place p n e

abbrev applied : Header → ℕ → Applied
applied h count = record { header = h; count = count }

module _ {m : Applied} {rows keys sorts pending : List ℕ} {at : ℕ} (a : InsertNext m rows keys sorts pending at) where
  abbrev Before : Stores
  Before = stores m.header rows keys sorts pending

  header_same : Recounted m.header m.header
  header_same = recounted_refl m.header a.ready.fits.count a.ready.entries_fit

  -- a removal is passed over
  pub inserted_other : (get_or pending at 0 ≡ 0 → ⊥) → InsertedNext m rows keys sorts pending at (Ok m) rows keys sorts
  inserted_other ne = record { past = refl; header = header_same; place_fits = omega arith; table = table }
    where
      table : (s : Staged) (rest : List Staged) → Next m.header pending at s rest → (p : Plain) → Represents p Before
          → InsertGoes m m s rest p Before Before
      table (insert cells) rest w p t = absurd (ne (unfold kind_of in waiting_kind w))
      table (remove_key key) rest w p t = record { next = p; steps = steps_refl t; goes_on = unfold inserts in refl }
      table (remove_row row key) rest w p t = record { next = p; steps = steps_refl t; goes_on = unfold inserts in refl }

  module _ (k : get_or pending at 0 ≡ 0) where
    -- the record here is an insert
    an_insert : (G : Staged → List Staged → Plain → Type 0)
        → ((cells : List ℕ) (rest : List Staged) → Next m.header pending at (insert cells) rest → (p : Plain) → Represents p Before → G (insert cells) rest p)
        → (s : Staged) (rest : List Staged) → Next m.header pending at s rest → (p : Plain) → Represents p Before → G s rest p
    an_insert G f (insert cells) rest w p t = f cells rest w p t
    an_insert G f (remove_key key) rest w p t = let e : get_or pending at 0 ≡ 1 = unfold kind_of in waiting_kind w in absurd (omega arith)
    an_insert G f (remove_row row key) rest w p t = let e : get_or pending at 0 ≡ 2 = unfold kind_of in waiting_kind w in absurd (omega arith)

    module _ {one : Insertion} {rows' keys' sorts' : List ℕ}
        (i : Inserting m.header rows keys sorts (take m.header.columns (drop (at + 2) pending)) (get_or pending (at + 1) 0) one rows' keys' sorts') where
      -- the result of the insert at this place
      comes : {cells : List ℕ} {rest : List Staged} → Next m.header pending at (insert cells) rest → (p : Plain) → Represents p Before
          → InsertAgrees p cells Before rows' keys' sorts' one
      comes {cells} w p t =
          let j : Inserting m.header rows keys sorts cells (get_or pending (at + 1) 0) one rows' keys' sorts' = rw (waiting_cells w) at i in
          j.table (waiting_hash w) pending p t

      same_steps : ((h' : Header) → one ≡ Ok (Some h') → ⊥) → (p : Plain) → Represents p Before → Becomes p p Before (stores m.header rows' keys' sorts' pending)
      same_steps f p t = let u = i.unchanged f in rw (u.0, u.1, u.2) (steps_refl t)

    -- it is kept, or a row is appended
    pub inserted_next : {rows' keys' sorts' : List ℕ} (after : Option Header)
        → Inserting m.header rows keys sorts (take m.header.columns (drop (at + 2) pending)) (get_or pending (at + 1) 0) (Ok after) rows' keys' sorts'
        → InsertedNext m rows keys sorts pending at (Ok (applied (unwrap_or after m.header) (m.count + 1))) rows' keys' sorts'
    inserted_next {rows'} {keys'} {sorts'} None i =
        record {
          past = i.past;
          header = header_same;
          place_fits = omega arith;
          table = an_insert (λ s rest p. InsertGoes m (applied m.header (m.count + 1)) s rest p Before (stores m.header rows' keys' sorts' pending)) goes;
        }
      where
        goes : (cells : List ℕ) (rest : List Staged) → Next m.header pending at (insert cells) rest → (p : Plain) → Represents p Before
            → InsertGoes m (applied m.header (m.count + 1)) (insert cells) rest p Before (stores m.header rows' keys' sorts' pending)
        goes cells rest w p t =
            record {
              next = p;
              steps = same_steps i (λ h' q. let z : ◌≡◌ {A = ℕ} 0 1 = cc in omega arith) p t;
              goes_on = goes_accepted cells rest m.count p p (comes i w p t);
            }
    inserted_next {rows'} {keys'} {sorts'} (Some h') i =
        record {
          past = i.past;
          header = i.header h' refl;
          place_fits = omega arith;
          table = an_insert (λ s rest p. InsertGoes m (applied h' (m.count + 1)) s rest p Before (stores h' rows' keys' sorts' pending)) goes;
        }
      where
        goes : (cells : List ℕ) (rest : List Staged) → Next m.header pending at (insert cells) rest → (p : Plain) → Represents p Before
            → InsertGoes m (applied h' (m.count + 1)) (insert cells) rest p Before (stores h' rows' keys' sorts' pending)
        goes cells rest w p t =
            let x = comes i w p t in
            record { next = x.0; steps = x.2; goes_on = goes_accepted cells rest m.count p x.0 x.1 }

    -- it stops the merge
    pub inserted_stopped : {rows' keys' sorts' : List ℕ} (stop : Stop)
        → Inserting m.header rows keys sorts (take m.header.columns (drop (at + 2) pending)) (get_or pending (at + 1) 0) (Err stop) rows' keys' sorts'
        → InsertedNext m rows keys sorts pending at (Err stop) rows' keys' sorts'
    inserted_stopped {rows'} {keys'} {sorts'} stop i =
        record {
          past = i.past;
          table = an_insert (λ s rest p. InsertStops m (stop_number stop) s rest p Before (stores m.header rows' keys' sorts' pending)) stops;
        }
      where
        stops : (cells : List ℕ) (rest : List Staged) → Next m.header pending at (insert cells) rest → (p : Plain) → Represents p Before
            → InsertStops m (stop_number stop) (insert cells) rest p Before (stores m.header rows' keys' sorts' pending)
        stops cells rest w p t =
            record {
              steps = same_steps i (λ h' q. let z : ◌≡◌ {A = ℕ} 0 1 = cc in omega arith) p t;
              stops = goes_stopped cells rest m.count p (stop_number stop) (comes i w p t).0;
            }

-- ---- where the pass begins

-- at the first record
pub first_here : {h : Header} {pending : List ℕ} → FirstInsert h pending 0
first_here = record { inside = omega arith; left = λ records w. record { left = records; same = refl; waiting = w } }

-- it is a removal, and is passed over
removal_first : (first : Staged) (rest : List Staged) → (kind_of first ≡ 0 → ⊥) → filter (of_kind 0) (first ∷ rest) ≡ filter (of_kind 0) rest
unfolding filter
removal_first first rest ne = rw (ne_eqb (kind_of first) 0 ne)

pub first_later : {h : Header} {pending : List ℕ} {words next : ℕ} → RecordAt h pending 0 words → (get_or pending 0 0 ≡ 0 → ⊥)
    → NextRecord h pending 0 words 0 next → FirstInsert h pending next
first_later {h} {pending} {words} {next} l other passes = record { inside = passes.inside; left = left }
  where
    left : (records : List Staged) → Waiting (opening_of h) pending h.pending 0 records → Remaining h pending 0 next records
    left [] w = absurd (l.none w)
    left (first ∷ rest) w =
        let x = passes.rest first rest w in
        let e = removal_first first rest (λ z. other (waiting_kind w ∙ z)) in
        record { left = x.left; same = e ∙ x.same; waiting = x.waiting }

-- removals make no difference
inserts_wanted : (records : List Staged) → inserts records ≡ inserts (filter (of_kind 0) records)
unfolding inserts filter kind_of
inserts_wanted [] = refl
inserts_wanted (insert cells ∷ rest) = ap (λ (l : List (List ℕ)). cells ∷ l) (inserts_wanted rest)
inserts_wanted (remove_key key ∷ rest) = inserts_wanted rest
inserts_wanted (remove_row row key ∷ rest) = inserts_wanted rest

inserts_left : {h : Header} {pending : List ℕ} {at : ℕ} {records : List Staged} (l : Remaining h pending 0 at records) → inserts records ≡ inserts l.left
inserts_left {h} {pending} {at} {records} l = inserts_wanted records ∙ ap inserts l.same ∙ sym (inserts_wanted l.left)

-- ---- the loop over the inserts

-- the result of the inserts so far, and the remaining records
pub record Inserts (at : ℕ) (m : Applied) (p : Plain) (s s' : Stores) : Type 0 where
  pub now : Plain
  pub rest : List Staged
  pub waiting : Waiting (opening_of s.header) s.pending s.header.pending at rest
  pub same : insert_all (inserts p.staged) 0 p ≡ insert_all (inserts rest) m.count now
  pub steps : Becomes p now s s'

-- the loop's invariant
pub record Filling (h : Header) (rows keys sorts pending rows' keys' sorts' : List ℕ) (m : Applied) (at : ℕ) : Type 0 where
  pub inside : at ≤ h.pending
  pub place_fits : m.count ≤ at
  pub ready : Ready m.header rows' keys' sorts' pending
  pub header : Recounted h m.header
  pub rows_same : length rows' ≡ length rows
  pub keys_same : length keys' ≡ length keys
  pub sorts_same : length sorts' ≡ length sorts
  pub past : SamePast (2 * h.capacity) keys keys'
  pub table : (p : Plain) → Represents p (stores h rows keys sorts pending)
      → Inserts at m p (stores h rows keys sorts pending) (stores m.header rows' keys' sorts' pending)

ready_again : {n n' : Header} {rows keys sorts pending rows' keys' sorts' : List ℕ} → Ready n rows keys sorts pending → Recounted n n'
    → length rows' ≡ length rows → length keys' ≡ length keys → length sorts' ≡ length sorts → Ready n' rows' keys' sorts' pending
ready_again {n} {n'} a r x y z =
    let f = a.fits in
    rw r.counts
    (record {
      fits = omega (arith, f, r.rows_fit);
      sort_column = a.sort_column;
      rule_known = a.rule_known;
      entries_fit = r.entries_fit;
      dead_fits = omega (arith, a.dead_fits, r.dead_fit);
      sorts_long = omega (arith, a.sorts_long);
      pending_fits = a.pending_fits;
    })

module _ {h : Header} {rows keys sorts pending : List ℕ} (a : Ready h rows keys sorts pending) where
  abbrev Start : Stores
  Start = stores h rows keys sorts pending

  pub filling_begin : {at : ℕ} → FirstInsert h pending at → Filling h rows keys sorts pending rows keys sorts (applied h 0) at
  filling_begin f =
      record {
        inside = f.inside;
        place_fits = omega arith;
        ready = a;
        header = recounted_refl h a.fits.count a.entries_fit;
        rows_same = refl;
        keys_same = refl;
        sorts_same = refl;
        past = refl;
        table = λ p t.
            let x = f.left p.staged (waiting_start t) in
            let same = ap (λ (cells : List (List ℕ)). insert_all cells 0 p) (inserts_left x) in
            record { now = p; rest = x.left; waiting = x.waiting; same = same; steps = steps_refl t };
      }

  module _ {rows' keys' sorts' : List ℕ} {m : Applied} {at : ℕ} (v : Filling h rows keys sorts pending rows' keys' sorts' m at) where
    module _ {words : ℕ} (here : RecordAt h pending at words) where
      pub filling_long : 3 ≤ words
      filling_long = record_long here a.fits.some_columns a.fits.some_keys

      -- the record at the place is complete
      pub filling_requires : InsertNext m rows' keys' sorts' pending at
      filling_requires =
          record {
            ready = v.ready;
            inside = omega (arith, filling_long, here.inside, used);
            whole = λ e. omega (arith, here.of_insert e, here.inside, used, wide);
            place_fits = v.place_fits;
          }
        where
          used : m.header.pending ≡ h.pending
          used = ap (λ (x : Header). x.pending) v.header.counts

          wide : m.header.columns ≡ h.columns
          wide = ap (λ (x : Header). x.columns) v.header.counts

      -- the record of a table at the place, and those after it
      record Current (p : Plain) (t : Represents p Start) : Type 0 where
        pub first : Staged
        pub rest : List Staged
        pub waiting : Next h pending at first rest
        pub behind : Waiting (opening_of h) pending h.pending (at + words) rest
        pub same : insert_all (inserts p.staged) 0 p ≡ insert_all (inserts (first ∷ rest)) m.count (v.table p t).now

      current : (p : Plain) (t : Represents p Start) → Current p t
      current p t = go (v.table p t).rest refl
        where
          go : (l : List Staged) → (v.table p t).rest ≡ l → Current p t
          go [] e = absurd (here.none (rw e at (v.table p t).waiting))
          go (first ∷ rest) e =
              let g = v.table p t in
              let w : Next h pending at first rest = rw e at g.waiting in
              let n : words ≡ words_of (opening_of h) first = here.next first rest w in
              let b : Waiting (opening_of h) pending h.pending (at + words) rest = subst (λ k. Waiting (opening_of h) pending h.pending (at + k) rest) (sym n) (waiting_next w) in
              record { first = first; rest = rest; waiting = w; behind = b; same = rw (← e) g.same }

      module _ {rows'' keys'' sorts'' : List ℕ} where
        -- once more
        pub filling_again : {r : Applied} → InsertedNext m rows' keys' sorts' pending at (Ok r) rows'' keys'' sorts''
            → length rows'' ≡ length rows' → length keys'' ≡ length keys' → length sorts'' ≡ length sorts'
            → Filling h rows keys sorts pending rows'' keys'' sorts'' r (at + words)
        filling_again {r} one same_rows same_keys same_sorts =
            record {
              inside = here.inside;
              place_fits = omega (arith, filling_long, v.place_fits, one.place_fits);
              ready = ready_again v.ready one.header same_rows same_keys same_sorts;
              header = recounted_then v.header one.header;
              rows_same = same_rows ∙ v.rows_same;
              keys_same = same_keys ∙ v.keys_same;
              sorts_same = same_sorts ∙ v.sorts_same;
              past = rw (recounted_capacity v.header) at one.past ∙ v.past;
              table = λ p t.
                  let g = v.table p t in
                  let c = current p t in
                  let x = one.table c.first c.rest (recounted_waiting v.header c.waiting) g.now g.steps.represents in
                  record {
                    now = x.next;
                    rest = c.rest;
                    waiting = c.behind;
                    same = c.same ∙ x.goes_on;
                    steps = steps_then t g.steps x.steps;
                  };
            }

        -- the insert stopped the merge
        pub filling_stop : {stop : Stop} → InsertedNext m rows' keys' sorts' pending at (Err stop) rows'' keys'' sorts''
            → Insertions h rows keys sorts pending (record { header = m.header; stopped = Some (record { stop = stop; place = m.count }) }) rows'' keys'' sorts''
        filling_stop {stop} one =
            record {
              past = rw (recounted_capacity v.header) at one.past ∙ v.past;
              header = v.header;
              table = λ p t.
                  let g = v.table p t in
                  let c = current p t in
                  let x = one.table c.first c.rest (recounted_waiting v.header c.waiting) g.now g.steps.represents in
                  let q : insert_all (inserts p.staged) 0 p ≡ inserted g.now (stop_number stop) m.count = c.same ∙ x.stops in
                  record {
                    steps = rw q (steps_then t g.steps x.steps);
                    status = sym (ap (λ (y : Inserted). y.status) q);
                    place = sym (ap (λ (y : Inserted). y.place) q);
                  };
            }

    -- no record is left
    pub filling_end : RecordLength h pending at None → Insertions h rows keys sorts pending (record { header = m.header; stopped = None }) rows' keys' sorts'
    filling_end nothing = record { past = v.past; header = v.header; table = λ p t. done p t (v.table p t).rest refl }
      where
        done : (p : Plain) (t : Represents p Start) (l : List Staged) → (v.table p t).rest ≡ l
            → InsertedTable p Start (stores m.header rows' keys' sorts' pending) (record { header = m.header; stopped = None })
        done p t [] e =
            let g = v.table p t in
            let q : insert_all (inserts p.staged) 0 p ≡ inserted g.now 0 0 = g.same ∙ rw e (unfold inserts insert_all in refl) in
            record {
              steps = rw q g.steps;
              status = sym (ap (λ (y : Inserted). y.status) q);
              place = sym (ap (λ (y : Inserted). y.place) q);
            }
        done p t (first ∷ rest) e = absurd (nothing first rest (rw e at (v.table p t).waiting))
