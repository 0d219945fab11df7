-- The loops of the searches, one step at a time, and the result of each return of a scan. Assumes nothing.
use Rattle.offsets.proofs.Prelude.{ℕ, ◌+◌, ◌-◌, ◌*◌, ◌≤◌, ◌<◌, ◌≡◌, sym, ap, true, false, List, dec_lt, arith, length, get_or, rising, elem, first_not_below, not_below_le, not_below_past, not_below_upto, not_below_at, elem_not_below, elem_not_not_below}
use Rattle.std.specs.Prelude.{Result, Ok, Err}
use Rattle.offsets.specs.Laws.Strides.{stride_bound}
use Rattle.offsets.specs.inner.Search.{Bracketed, SearchedPart, ReachedBetween, scan_place, scan, ScannedAt, Scanned}

-- ---- the binary search

module _ (cells : List ℕ) (width start end target : ℕ) where
  pub bracket : start ≤ end → Bracketed cells width start end target start end
  bracket h = record { from = omega arith; order = h; upto = omega arith; below = λ i k e. absurd (omega arith); above = λ k. absurd (omega arith) }

  module _ (low high : ℕ) (s : Bracketed cells width start end target low high) where
    module _ (mid : ℕ) (a : low ≤ mid) (b : mid < high) where
      pub bracket_up : get_or cells (width * mid) 0 < target → Bracketed cells width start end target (mid + 1) high
      bracket_up h =
          record {
            from = omega (arith, s.from);
            order = omega arith;
            upto = s.upto;
            below = λ i k e. let z : i ≡ mid = omega arith in rw z h;
            above = s.above;
          }

      pub bracket_down : target ≤ get_or cells (width * mid) 0 → Bracketed cells width start end target low mid
      bracket_down h = record { from = s.from; order = a; upto = omega (arith, s.upto); below = s.below; above = λ k. h }

    pub bracket_end : high ≤ low → Bracketed cells width start end target low low
    bracket_end h =
        let z : high ≡ low = omega (arith, s.order) in
        record { from = s.from; order = omega arith; upto = omega (arith, s.upto, z); below = s.below; above = rw z at s.above }

-- in a rising list the bracketed position is the target's
pub bracket_place : (ids : List ℕ) (start end target r : ℕ) → end ≤ length ids → Bracketed ids 1 start end target r r → SearchedPart ids start end target r
bracket_place ids start end target r inside s = record { from = s.from; upto = s.upto; first = λ e a b. let p = after e a in let q = upto e b in omega arith }
  where
    after : rising ids ≡ true → start ≤ first_not_below target ids → r ≤ first_not_below target ids
    after e a =
        elim (dec_lt start r) [
          | yes k ↦
              let m : 1 * (r - 1) ≡ r - 1 = omega arith in
              let h : get_or ids (r - 1) 0 < target = rw m at (s.below (r - 1) (omega arith) (omega arith)) in
              let p = not_below_past target ids e (r - 1) (omega (arith, s.upto)) h in
              omega arith
          | no k ↦ omega (arith, s.from)
        ]

    upto : rising ids ≡ true → first_not_below target ids ≤ end → first_not_below target ids ≤ r
    upto e b =
        elim (dec_lt r end) [
          | yes k ↦
              let m : 1 * r ≡ r = omega arith in
              let h : target ≤ get_or ids r 0 = rw m at (s.above k) in
              not_below_upto target ids e r (omega arith) h
          | no k ↦ omega arith
        ]

-- ---- the strides

-- the id at `low` is below the target; `left` ids are from there on, and the next stride fits 32 bits
pub record Strides (ids : List ℕ) (target low left step : ℕ) : Type 0 where
  pub few : length ids ≤ 65536
  pub whole : low + left ≡ length ids
  pub inside : 1 ≤ left
  pub on : 1 ≤ step
  pub bound : step ≤ 131072
  pub behind : rising ids ≡ true → low < first_not_below target ids

module _ (ids : List ℕ) (target low left step : ℕ) (s : Strides ids target low left step) where
  pub stride_more : step < left → get_or ids (low + step) 0 < target → Strides ids target (low + step) (left - step) (step * 2)
  stride_more h k =
      record {
        few = s.few;
        whole = omega (arith, s.whole);
        inside = omega arith;
        on = omega (arith, s.on);
        bound = stride_bound left step (omega (arith, s.few, s.whole)) h;
        behind = λ e. not_below_past target ids e (low + step) (omega (arith, s.whole)) k;
      }

  pub stride_over : step < left → target ≤ get_or ids (low + step) 0 → ReachedBetween ids target (low + 1) (low + step)
  stride_over h k =
      record {
        order = omega (arith, s.on);
        within = omega (arith, s.whole);
        after = λ e. (let p = s.behind e in omega arith);
        upto = λ e. not_below_upto target ids e (low + step) (omega (arith, s.whole)) k;
      }

  pub stride_end : ReachedBetween ids target (low + 1) (low + left)
  stride_end =
      record {
        order = omega (arith, s.inside);
        within = omega (arith, s.whole);
        after = λ e. (let p = s.behind e in omega arith);
        upto = λ e. rw s.whole (not_below_le target ids);
      }

-- ---- the result of a scan

scan_hit : (ids : List ℕ) (target p : ℕ) → rising ids ≡ true → p < length ids → get_or ids p 0 ≡ target → Ok p ≡ scan target ids
unfolding scan
scan_hit ids target p e h k = rw (elem_not_below target ids p h k) (ap Ok (sym (not_below_at target ids e p h k)))

scan_miss : (ids : List ℕ) (target p : ℕ) → rising ids ≡ true → p ≡ first_not_below target ids → (p < length ids → get_or ids p 0 ≡ target → ⊥) → Err p ≡ scan target ids
unfolding scan
scan_miss ids target p e q f =
    let n : elem target ids ≡ false = elem_not_not_below target ids e (rw q at f) in
    rw n (ap Err q)

pub at_end : (ids : List ℕ) (at target : ℕ) → at ≤ length ids → length ids ≤ at → ScannedAt ids at target (Err at)
unfolding scan_place
at_end ids at target h k = record { within = h; finds = λ e q. scan_miss ids target at e q (λ a b. omega arith) }

pub at_hit : (ids : List ℕ) (at target : ℕ) → at < length ids → get_or ids at 0 ≡ target → ScannedAt ids at target (Ok at)
unfolding scan_place
at_hit ids at target h k = record { within = omega arith; finds = λ e q. scan_hit ids target at e h k }

pub at_miss : (ids : List ℕ) (at target : ℕ) → at ≤ length ids → (get_or ids at 0 ≡ target → ⊥) → ScannedAt ids at target (Err at)
unfolding scan_place
at_miss ids at target h k = record { within = h; finds = λ e q. scan_miss ids target at e q (λ a b. k b) }

pub scanned_end : (ids : List ℕ) (start target : ℕ) → length ids ≤ start → Scanned ids start target (Err (length ids))
unfolding scan_place
scanned_end ids start target h =
    record { within = omega arith; finds = λ e q. scan_miss ids target (length ids) e (let p = not_below_le target ids in omega arith) (λ a b. omega arith) }

pub scanned_hit : (ids : List ℕ) (start target p : ℕ) → p < length ids → get_or ids p 0 ≡ target → Scanned ids start target (Ok p)
unfolding scan_place
scanned_hit ids start target p h k = record { within = omega arith; finds = λ e q. scan_hit ids target p e h k }

pub scanned_before : (ids : List ℕ) (start target : ℕ) → start < length ids → target < get_or ids start 0 → Scanned ids start target (Err start)
unfolding scan_place
scanned_before ids start target h k =
    record {
      within = omega arith;
      finds = λ e q. scan_miss ids target start e (let p = not_below_upto target ids e start h (omega arith) in omega arith) (λ a b. omega arith);
    }

-- after the strides: the binary search gives the position, and `scan_at` compares the id there
pub scanned_part : (ids : List ℕ) (start target low high p : ℕ) (r : Result ℕ ℕ) → ReachedBetween ids target low high → SearchedPart ids low high target p → ScannedAt ids p target r
    → Scanned ids start target r
scanned_part ids start target low high p r g s a = record { within = a.within; finds = λ e q. a.finds e (s.first e (g.after e) (g.upto e)) }
