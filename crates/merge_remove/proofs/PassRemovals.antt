-- The removals of a pass: one record's turn, and what holds at each turn of the loop over the pending records. Assumes
-- nothing.
use Rattle.merge_remove.proofs.Prelude.{ℕ, ◌+◌, ◌*◌, ◌-◌, ◌≤◌, ◌≡◌, refl, sym, ap, ◌∙◌, Bool, true, false, cond, List, [], ◌∷◌, ℕ_discrete, add-zero, arith, eqb, length, take, drop, get_or, eq-eqb, ne_eqb, inl, inr, split, Fits, Staged, insert, remove_key, remove_row, Plain, Header, opening_of, full_index_shape_of, Stores, stores, Represents, SamePast, steps_refl, steps_then, waiting_start, waiting_kind, waiting_hash, waiting_key, waiting_row, waiting_row_key}
use Rattle.std.specs.Prelude.{None}
use Rattle.std.specs.Int.{from_bool}
use Rattle.lists.specs.Lists.{filter}
use Rattle.merge_pending.specs.inner.Becoming.{Becomes, with_dead, Waiting, kind_of, RecordAt, RecordLength, of_kind, Remaining, CanSkip, NextRecord}
use Rattle.merge_remove.specs.inner.Removals.{removed, removed_all, died, removal_of, Removal, RemovalAt, Removed, Removable, Removals, RemovalNext, RemovedNext}
use Rattle.merge_pending.proofs.PassRecords.{Next, record_long}

-- ---- one removal

pub died_counted : (r : Bool) → from_bool r ≡ died r
unfolding died
died_counted true = refl
died_counted false = refl

died_few : (r : Bool) → died r ≤ 1
unfolding died
died_few true = omega arith
died_few false = omega arith

-- the removal that the words at a place encode
read_removal : (h : Header) (pending : List ℕ) (at : ℕ) (removal : Staged) (rest : List Staged) → Next h pending at removal rest → (kind_of removal ≡ 0 → ⊥)
    → removal_of (get_or pending at 0) (get_or pending (at + 2) 0) (take h.keys (drop (at + 1 + get_or pending at 0) pending)) ≡ removal
unfolding kind_of removal_of
read_removal h pending at (insert cells) rest w ne = absurd (ne refl)
read_removal h pending at (remove_key key) rest w ne =
    let e : get_or pending at 0 ≡ 1 = waiting_kind w in
    let f : at + 1 + get_or pending at 0 ≡ at + 2 = omega arith in
    rw (f, e) (ap remove_key (waiting_key w))
read_removal h pending at (remove_row row key) rest w ne =
    let e : get_or pending at 0 ≡ 2 = waiting_kind w in
    let f : at + 1 + get_or pending at 0 ≡ at + 3 = omega arith in
    rw (f, e) (ap (remove_row (get_or pending (at + 2) 0)) (waiting_row_key w) ∙ ap (λ (i : ℕ). remove_row i key) (waiting_row w))

module _ {h : Header} {rows keys pending : List ℕ} {at : ℕ} {r : Bool} {rows' keys' : List ℕ} where
  -- that removal is made
  pub removed_record : Removal h rows keys (removal_of (get_or pending at 0) (get_or pending (at + 2) 0) (take (at + 1 + get_or pending at 0 + h.keys - (at + 1 + get_or pending at 0)) (drop (at + 1 + get_or pending at 0) pending))) (get_or pending (at + 1) 0) r rows' keys'
      → Removed h rows keys pending at r rows' keys'
  removed_record m =
      record {
        past = m.past;
        table = λ removal rest w ne dead sorts p t.
            let q : at + 1 + get_or pending at 0 + h.keys - (at + 1 + get_or pending at 0) ≡ h.keys = omega arith in
            let m' : Removal h rows keys removal (get_or pending (at + 1) 0) r rows' keys' = rw (q, read_removal h pending at removal rest w ne) at m in
            m'.table (waiting_hash w) dead sorts pending p t;
      }

  -- a record of the kind is made
  pub removed_kind : {kind : ℕ} (n : ℕ) → get_or pending at 0 ≡ kind → 1 ≤ kind → n ≡ died r → Removed h rows keys pending at r rows' keys'
      → RemovedNext h rows keys pending at kind n rows' keys'
  removed_kind {kind} n e k d m =
      record {
        past = m.past;
        few = rw d (died_few r);
        table = λ removal rest w dead sorts p t.
            let q : kind_of removal ≡ kind = sym (waiting_kind w) ∙ e in
            rw (eq-eqb _ _ q, d) (m.table removal rest w (λ z. omega arith) dead sorts p t);
      }

-- any other record is passed over
pub removed_other : {h : Header} {rows keys pending : List ℕ} {at kind : ℕ} → (get_or pending at 0 ≡ kind → ⊥) → RemovedNext h rows keys pending at kind 0 rows keys
removed_other {h} {rows} {keys} {pending} {at} {kind} ne =
    record {
      past = refl;
      few = omega arith;
      table = λ removal rest w dead sorts p t.
          let q : eqb (kind_of removal) kind ≡ false = ne_eqb _ _ (λ e. ne (waiting_kind w ∙ e)) in
          rw (q, add-zero dead) (steps_refl t);
    }

-- the records of other kinds make no difference
removed_wanted : (kind : ℕ) (records : List Staged) (p : Plain) → removed_all kind records p ≡ removed_all kind (filter (of_kind kind) records) p
unfolding removed_all filter
removed_wanted kind [] p = refl
removed_wanted kind (r ∷ rs) p =
    elim (split (of_kind kind r)) [
      | inl e ↦
          let made : cond (eqb (kind_of r) kind) (removed r p) p ≡ removed r p = rw e refl in
          let kept : removed_all kind (cond (of_kind kind r) (r ∷ filter (of_kind kind) rs) (filter (of_kind kind) rs)) p ≡ removed_all kind (filter (of_kind kind) rs) (removed r p) =
          rw e (ap (removed_all kind (filter (of_kind kind) rs)) made) in
          ap (removed_all kind rs) made ∙ removed_wanted kind rs (removed r p) ∙ sym kept
      | inr e ↦ rw e (removed_wanted kind rs p)
    ]

removed_left : {h : Header} {pending : List ℕ} {kind at : ℕ} {records : List Staged} (l : Remaining h pending kind at records) (p : Plain)
    → removed_all kind records p ≡ removed_all kind l.left p
removed_left {h} {pending} {kind} {at} {records} l p =
    removed_wanted kind records p ∙ ap (λ (rs : List Staged). removed_all kind rs p) l.same ∙ sym (removed_wanted kind l.left p)

-- ---- the loop over the removals

-- the result of the removals so far, and the remaining records
pub record Removes (kind at : ℕ) (p : Plain) (s s' : Stores) : Type 0 where
  pub now : Plain
  pub rest : List Staged
  pub waiting : Waiting (opening_of s.header) s.pending s.header.pending at rest
  pub same : removed_all kind p.staged p ≡ removed_all kind rest now
  pub steps : Becomes p now s s'

-- the loop's invariant
pub record Removing (h : Header) (rows keys pending : List ℕ) (kind : ℕ) (rows' keys' : List ℕ) (dead at : ℕ) : Type 0 where
  pub inside : at ≤ h.pending
  pub few : 3 * dead ≤ 3 * h.dead + at
  pub fits : Fits (full_index_shape_of h) rows' keys'
  pub rows_same : length rows' ≡ length rows
  pub keys_same : length keys' ≡ length keys
  pub past : SamePast (2 * h.capacity) keys keys'
  pub table : (sorts : List ℕ) (p : Plain) → Represents p (stores h rows keys sorts pending)
      → Removes kind at p (stores h rows keys sorts pending) (stores (with_dead h dead) rows' keys' sorts pending)

module _ {h : Header} {rows keys pending : List ℕ} {kind : ℕ} (a : Removable h rows keys pending kind) where
  pub removing_begin : Removing h rows keys pending kind rows keys h.dead 0
  removing_begin =
      record {
        inside = omega arith;
        few = omega arith;
        fits = a.fits;
        rows_same = refl;
        keys_same = refl;
        past = refl;
        table = λ sorts p t. record { now = p; rest = p.staged; waiting = waiting_start t; same = refl; steps = steps_refl t };
      }

  module _ {rows' keys' : List ℕ} {dead at : ℕ} (v : Removing h rows keys pending kind rows' keys' dead at) where
    module _ {words : ℕ} (here : RecordAt h pending at words) where
      pub removing_long : 3 ≤ words
      removing_long = record_long here a.fits.some_columns a.fits.some_keys

      -- the record at the place is complete
      pub removing_requires : RemovalNext h rows' keys' pending at kind
      removing_requires =
          record {
            fits = v.fits;
            inside = omega (arith, removing_long, here.inside, a.pending_fits);
            whole = whole;
            some_kind = a.some_kind;
          }
        where
          whole : get_or pending at 0 ≡ kind → RemovalAt h pending at
          whole e =
              let k = a.some_kind in
              let m = a.most_kind in
              record { some_kind = omega arith; most_kind = omega arith; whole = long (ℕ_discrete (get_or pending at 0) 1) }
            where
              long : Dec (get_or pending at 0 ≡ 1) → at + (h.keys + 1 + get_or pending at 0) ≤ length pending
              long (yes q) = omega (arith, here.of_key q, here.inside, a.pending_fits)
              long (no q) =
                  let two : get_or pending at 0 ≡ 2 = omega (arith, a.some_kind, a.most_kind) in
                  omega (arith, here.of_row two, here.inside, a.pending_fits)

      pub removing_passes : CanSkip h pending at words
      removing_passes = record { here = here; fits = a.pending_fits }

      -- once more
      pub removing_again : {r : ℕ} {rows'' keys'' : List ℕ} {at' : ℕ} → RemovedNext h rows' keys' pending at kind r rows'' keys'' → NextRecord h pending at words kind at'
          → length rows'' ≡ length rows' → length keys'' ≡ length keys' → Removing h rows keys pending kind rows'' keys'' (dead + r) at'
      removing_again {r} {rows''} {keys''} {at'} one passes same_rows same_keys =
          record {
            inside = passes.inside;
            few = omega (arith, removing_long, v.few, one.few, passes.on);
            fits = omega (arith, v.fits);
            rows_same = same_rows ∙ v.rows_same;
            keys_same = same_keys ∙ v.keys_same;
            past = one.past ∙ v.past;
            table = λ sorts p t. on sorts p t (v.table sorts p t).rest refl;
          }
        where
          on : (sorts : List ℕ) (p : Plain) (t : Represents p (stores h rows keys sorts pending)) (rest : List Staged) → (v.table sorts p t).rest ≡ rest
              → Removes kind at' p (stores h rows keys sorts pending) (stores (with_dead h (dead + r)) rows'' keys'' sorts pending)
          on sorts p t [] e = absurd (here.none (rw e at (v.table sorts p t).waiting))
          on sorts p t (first ∷ rest) e =
              let g = v.table sorts p t in
              let w : Next h pending at first rest = rw e at g.waiting in
              let then = cond (eqb (kind_of first) kind) (removed first g.now) g.now in
              let left = passes.rest first rest w in
              let same : removed_all kind p.staged p ≡ removed_all kind rest then = g.same ∙ rw e (unfold removed_all in refl) in
              record {
                now = then;
                rest = left.left;
                waiting = left.waiting;
                same = same ∙ removed_left left then;
                steps = steps_then t g.steps (one.table first rest w dead sorts g.now g.steps.represents);
              }

    -- no record is left
    pub removing_end : RecordLength h pending at None → Removals h rows keys pending kind (with_dead h dead) rows' keys'
    removing_end nothing =
        record {
          header = refl;
          dead_few = omega (arith, v.few, v.inside);
          past = v.past;
          table = λ sorts p t. done sorts p t (v.table sorts p t).rest refl;
        }
      where
        done : (sorts : List ℕ) (p : Plain) (t : Represents p (stores h rows keys sorts pending)) (rest : List Staged) → (v.table sorts p t).rest ≡ rest
            → Becomes p (removed_all kind p.staged p) (stores h rows keys sorts pending) (stores (with_dead h dead) rows' keys' sorts pending)
        done sorts p t [] e =
            let g = v.table sorts p t in
            let q : removed_all kind p.staged p ≡ g.now = g.same ∙ rw e (unfold removed_all in refl) in
            rw q g.steps
        done sorts p t (first ∷ rest) e =
            let w : Next h pending at first rest = rw e at (v.table sorts p t).waiting in
            absurd (nothing first rest w)
