-- The intersection of two lists, one step at a time: a block, an id, an id that is common, a search by strides. Assumes nothing.
use Rattle.offsets_intersect.proofs.Prelude.{ℕ, zero, suc, ◌+◌, ◌-◌, ◌≤◌, ◌<◌, ◌≡◌, refl, sym, ap, ◌∙◌, inl, inr, Bool, true, false, not, ◌&&◌, List, [], ◌∷◌, ◌++◌, append_assoc, append-nil, dec_lt, add-one, arith, eqb, length, take, drop, get_or, set, length-take, length-drop, length-set, take-append-drop, drop_of_length-le, length-take-le, drop-cons, drop-drop, get_or-take, get_or-drop, not-true, eqb-false, splice, filter, rising, elem, splice_alike, set_splice, front_splice, drop_splice, split, and_left, and_right, filter_append, filter_yes, rising_at, rising_drop, elem_at, elem_not_below, filter_all_fail, Wrote, common, Lacks, Apart, ApartAt, SkippedTo, MergedTo, true≢false, not_below_le, not_below_past, not_below_mono, elem_in_not_below, scan_place, scan, Scanned, Fitting, Searchable, first_not_below, not_below_below}
use Rattle.std.specs.Prelude.{Ok, Err}
use Rattle.offsets_intersect.proofs.Common.{common_comm}

-- ---- ids that the others lack

module _ (ids others : List ℕ) (i o k : ℕ) where
  -- k ids, none of them one of the others from position o on
  pass_ids : i + k ≤ length ids → o ≤ length others
      → ((j m : ℕ) → j < k → o ≤ m → m < length others → get_or ids (i + j) 0 ≡ get_or others m 0 → ⊥) → SkippedTo ids others i o (i + k) o
  unfolding common
  pass_ids h r f =
      record {
        on = omega arith;
        others_on = omega arith;
        within = h;
        others_within = r;
        rest =
            ap (filter among) (sym (drop-drop k i ids))
            ∙ sym
            (ap (filter among) (sym (take-append-drop k (drop i ids)))
            ∙ filter_append among (take k (drop i ids)) (drop k (drop i ids))
            ∙ ap (λ (l : List ℕ). l ++ filter among (drop k (drop i ids))) none);
      }
    where
      among : ℕ → Bool
      among id = elem id (drop o others)

      lacks : (j : ℕ) → j < k → among (get_or ids (i + j) 0) ≡ false
      lacks j a =
          elim (split (among (get_or ids (i + j) 0))) [
            | inl q ↦
                let t = elem_at (get_or ids (i + j) 0) (drop o others) q in
                let n = length-drop o others in
                absurd (f j (o + t.0) a (omega arith) (omega (arith, t.1)) (sym t.2 ∙ get_or-drop o others t.0 0))
            | inr q ↦ q
          ]

      none : filter among (take k (drop i ids)) ≡ []
      none =
          filter_all_fail among 0 (take k (drop i ids))
          (λ j a.
          let b : j < k = (let n = length-take k (drop i ids) in omega arith) in
          rw (get_or-take k (drop i ids) j 0 b, get_or-drop i ids j 0) (lacks j b))

module _ {ids others : List ℕ} {i o : ℕ} where
  pub passed_none : i ≤ length ids → o ≤ length others → SkippedTo ids others i o i o
  passed_none h k = record { on = omega arith; others_on = omega arith; within = h; others_within = k; rest = refl }

  pub passed_on : {i' o' i'' o'' : ℕ} → SkippedTo ids others i o i' o' → SkippedTo ids others i' o' i'' o'' → SkippedTo ids others i o i'' o''
  passed_on p r =
      record {
        on = omega (arith, p.on, r.on);
        others_on = omega (arith, p.others_on, r.others_on);
        within = r.within;
        others_within = r.others_within;
        rest = r.rest ∙ p.rest;
      }

  -- from either side
  pub apart_turned : {k : ℕ} → ApartAt ids others i o k → ApartAt others ids o i k
  apart_turned a = record { room = a.others_room; others_room = a.room; apart = λ j m h r e. a.apart m j r h (sym e) }

  pub passed_turned : {i' o' : ℕ} → rising ids ≡ true → rising others ≡ true → SkippedTo others ids o i o' i' → SkippedTo ids others i o i' o'
  passed_turned {i'} {o'} e f p =
      record {
        on = p.others_on;
        others_on = p.on;
        within = p.others_within;
        others_within = p.within;
        rest =
            common_comm (drop i' ids) (drop o' others) (rising_drop i' ids e) (rising_drop o' others f)
            ∙ p.rest
            ∙ common_comm (drop o others) (drop i ids) (rising_drop o others f) (rising_drop i ids e);
      }

rising_upto : (l : List ℕ) → rising l ≡ true → (i j : ℕ) → i ≤ j → j < length l → get_or l i 0 ≤ get_or l j 0
rising_upto l e i j h k = elim (dec_lt i j) [ yes a ↦ let b = rising_at l e i j a k in omega arith | no a ↦ let b : i ≡ j = omega arith in rw b (omega arith) ]

-- an id below the other
pass_id : (ids others : List ℕ) (i o : ℕ) → rising others ≡ true → i < length ids → o < length others → get_or ids i 0 < get_or others o 0 → SkippedTo ids others i o (i + 1) o
pass_id ids others i o f h k q =
    pass_ids ids others i o 1 (omega arith) (omega arith)
    (λ j m a b c r.
    let z : i + j ≡ i = omega arith in
    let x : get_or ids i 0 ≡ get_or others m 0 = rw z at r in
    let y = rising_upto others f o m b c in
    omega arith)

-- two blocks that are apart: the one that ends first
pub pass_block : {ids others : List ℕ} {i o k : ℕ} → rising ids ≡ true → rising others ≡ true → ApartAt ids others i o k → 1 ≤ k
    → get_or ids (i + k - 1) 0 ≤ get_or others (o + k - 1) 0 → SkippedTo ids others i o (i + k) o
pass_block {ids} {others} {i} {o} {k} e f a h q = pass_ids ids others i o k a.room (omega (arith, a.others_room)) differ
  where
    differ : (j m : ℕ) → j < k → o ≤ m → m < length others → get_or ids (i + j) 0 ≡ get_or others m 0 → ⊥
    differ j m b c d r =
        elim (dec_lt m (o + k)) [
          | yes s ↦
              let t : m ≡ o + (m - o) = omega arith in
              a.apart j (m - o) b (omega arith) (r ∙ ap (λ (p : ℕ). get_or others p 0) t)
          | no s ↦
              let x = rising_upto ids e (i + j) (i + k - 1) (omega arith) (omega (arith, a.room)) in
              let y = rising_at others f (o + k - 1) m (omega arith) d in
              omega arith
        ]

-- ---- merging in step

module _ (ids others output : List ℕ) (i o n : ℕ) where
  pub merged_to_none : i ≤ length ids → o ≤ length others → MergedTo ids others output output i o n i o n
  merged_to_none h k =
      record {
        on = omega arith;
        others_on = omega arith;
        within = h;
        others_within = k;
        more = omega arith;
        few = omega arith;
        same = refl;
        rest = refl;
        kept = refl;
      }

module _ {ids others output output' : List ℕ} {i o n i' o' n' : ℕ} (w : MergedTo ids others output output' i o n i' o' n') where
  pub merged_to_passed : {i'' o'' : ℕ} → SkippedTo ids others i' o' i'' o'' → MergedTo ids others output output' i o n i'' o'' n'
  merged_to_passed p =
      record {
        on = omega (arith, w.on, p.on);
        others_on = omega (arith, w.others_on, p.others_on);
        within = p.within;
        others_within = p.others_within;
        more = w.more;
        few = omega (arith, w.few, p.on);
        same = w.same;
        rest = ap (λ (l : List ℕ). take n' output' ++ l) p.rest ∙ w.rest;
        kept = w.kept;
      }

  pub merged_to_on : {output'' : List ℕ} {i'' o'' n'' : ℕ} → MergedTo ids others output' output'' i' o' n' i'' o'' n'' → MergedTo ids others output output'' i o n i'' o'' n''
  merged_to_on {n'' = n''} v =
      let e : n' + (n'' - n') ≡ n'' = omega (arith, v.more) in
      let k : drop n'' output' ≡ drop n'' output =
      ap (λ (m : ℕ). drop m output') (sym e)
      ∙ sym (drop-drop (n'' - n') n' output')
      ∙ ap (drop (n'' - n')) w.kept
      ∙ drop-drop (n'' - n') n' output
      ∙ ap (λ (m : ℕ). drop m output) e in
      record {
        on = omega (arith, w.on, v.on);
        others_on = omega (arith, w.others_on, v.others_on);
        within = v.within;
        others_within = v.others_within;
        more = omega (arith, w.more, v.more);
        few = omega (arith, w.few, v.few);
        same = v.same ∙ w.same;
        rest = v.rest ∙ w.rest;
        kept = v.kept ∙ k;
      }

-- both lists have the id
module _ (ids others : List ℕ) (e : rising ids ≡ true) (f : rising others ≡ true) (i o : ℕ) (h : i < length ids) (k : o < length others) (q : get_or ids i 0 ≡ get_or others o 0) where
  -- the other is none of the ids that are left
  pass_equal : SkippedTo ids others (i + 1) o (i + 1) (o + 1)
  pass_equal =
      passed_turned e f
      (pass_ids others ids o (i + 1) 1 (omega arith) (omega arith)
      (λ j m a b c r.
      let z : o + j ≡ o = omega arith in
      let x : get_or others o 0 ≡ get_or ids m 0 = rw z at r in
      let y = rising_at ids e i m (omega arith) c in
      omega arith))

  common_both : common (drop i ids) (drop o others) ≡ get_or ids i 0 ∷ common (drop (i + 1) ids) (drop (o + 1) others)
  unfolding common
  common_both =
      ap (filter (λ id. elem id (drop o others))) (drop-cons ids i 0 h)
      ∙ filter_yes (λ id. elem id (drop o others)) (get_or ids i 0) (drop (suc i) ids) found
      ∙ ap (λ (l : List ℕ). get_or ids i 0 ∷ l) (rw (← add-one i) (sym pass_equal.rest))
    where
      found : elem (get_or ids i 0) (drop o others) ≡ true
      found =
          let n = length-drop o others in
          let z : o + 0 ≡ o = omega arith in
          elem_not_below (get_or ids i 0) (drop o others) 0 (omega arith) (get_or-drop o others 0 0 ∙ ap (λ (p : ℕ). get_or others p 0) z ∙ sym q)

  merged_to_both : (output : List ℕ) (n : ℕ) → n < length output → MergedTo ids others output (set output n (get_or ids i 0)) i o n (i + 1) (o + 1) (n + 1)
  merged_to_both output n r =
      let x = get_or ids i 0 in
      let s : set output n x ≡ splice output n (x ∷ []) = set_splice output n x r in
      let t : take (n + 1) (set output n x) ≡ take n output ++ (x ∷ []) = rw s (front_splice output (x ∷ []) n (omega arith)) in
      record {
        on = omega arith;
        others_on = omega arith;
        within = omega arith;
        others_within = omega arith;
        more = omega arith;
        few = omega arith;
        same = simp length-set;
        rest = rw (t, common_both) (append_assoc (take n output) (x ∷ []) _);
        kept = rw s (drop_splice output (x ∷ []) n (omega arith) (n + 1) (omega arith));
      }

-- one list is used up
module _ {ids others output output' : List ℕ} {i o n : ℕ} (w : MergedTo ids others output output' 0 0 0 i o n) where
  wrote : n ≤ length output' → common (drop i ids) (drop o others) ≡ [] → Wrote output (common ids others) n output'
  wrote h z =
      let r : take n output' ≡ common ids others = sym (append-nil (take n output')) ∙ ap (λ (l : List ℕ). take n output' ++ l) (sym z) ∙ w.rest in
      record { number = sym (length-take-le n output' h) ∙ ap length r; cells = sym (splice_alike output output' n h (sym w.kept)) ∙ ap (splice output 0) r }

  pub merged_to_end : length ids ≤ length output → length ids ≤ i → Wrote output (common ids others) n output'
  unfolding common filter
  merged_to_end h k = wrote (omega (arith, w.few, w.within, w.same)) (rw (drop_of_length-le ids {i = i} k))

  pub merged_to_others_end : length ids ≤ length output → length others ≤ o → Wrote output (common ids others) n output'
  unfolding common
  merged_to_others_end h k =
      wrote (omega (arith, w.few, w.within, w.same))
      (rw (drop_of_length-le others {i = o} k) (filter_all_fail (λ id. elem id []) 0 (drop i ids) (λ j a. unfold elem in refl)))

-- ---- the test of a block

all_four : (a b c d : Bool) → (((a && b) && c) && d) ≡ true → (a ≡ true) × (b ≡ true) × (c ≡ true) × (d ≡ true)
all_four a b c d e =
    let x = and_left ((a && b) && c) d e in
    let y = and_left (a && b) c x in
    (and_left a b y, and_right a b y, and_right (a && b) c x, and_right ((a && b) && c) d e)

abbrev differs : List ℕ → ℕ → ℕ → Bool
differs others id m = not (eqb id (get_or others m 0))

pub lacks_four : (others : List ℕ) (id : ℕ) → (((differs others id 0 && differs others id 1) && differs others id 2) && differs others id 3) ≡ true → Lacks others id
lacks_four others id e = record { none = at (all_four (differs others id 0) (differs others id 1) (differs others id 2) (differs others id 3) e) }
  where
    lacks : (m : ℕ) → differs others id m ≡ true → id ≡ get_or others m 0 → ⊥
    lacks m d = eqb-false id (get_or others m 0) (not-true _ d)

    at : (differs others id 0 ≡ true) × (differs others id 1 ≡ true) × (differs others id 2 ≡ true) × (differs others id 3 ≡ true) → (m : ℕ) → m < 4 → id ≡ get_or others m 0 → ⊥
    at d zero h = lacks 0 d.0
    at d (suc zero) h = lacks 1 d.1
    at d (suc (suc zero)) h = lacks 2 d.2
    at d (suc (suc (suc zero))) h = lacks 3 d.3
    at d (suc (suc (suc (suc m)))) h = absurd (omega arith)

pub apart_more : (ids others : List ℕ) (i : ℕ) (apart r : Bool) → (apart ≡ true → Apart ids others i) → (r ≡ true → Lacks others (get_or ids i 0))
    → (apart && r) ≡ true → Apart ids others (i + 1)
apart_more ids others i apart r f g e =
    record {
      each = λ j h. elim (dec_lt j i) [ yes a ↦ (f (and_left apart r e)).each j a | no a ↦ let z : j ≡ i = omega arith in rw z (g (and_right apart r e)) ];
    }

-- of the two parts that are lent
pub apart_parts : (ids others : List ℕ) (i o : ℕ) → i + 4 ≤ length ids → o + 4 ≤ length others
    → Apart (take (i + 4 - i) (drop i ids)) (take (o + 4 - o) (drop o others)) (length (take (i + 4 - i) (drop i ids))) → ApartAt ids others i o 4
apart_parts ids others i o h k a = record { room = h; others_room = k; apart = apart }
  where
    inside : (l : List ℕ) (at j : ℕ) → j < 4 → get_or (take (at + 4 - at) (drop at l)) j 0 ≡ get_or l (at + j) 0
    inside l at j r = get_or-take (at + 4 - at) (drop at l) j 0 (omega arith) ∙ get_or-drop at l j 0

    apart : (j m : ℕ) → j < 4 → m < 4 → get_or ids (i + j) 0 ≡ get_or others (o + m) 0 → ⊥
    apart j m r s q =
        let n : j < length (take (i + 4 - i) (drop i ids)) = simp (length-take, length-drop) (omega arith) in
        (a.each j n).none m s (inside ids i j r ∙ q ∙ sym (inside others o m s))

-- ---- merging in step, with the two current ids

pub record Pace (ids others output₀ output : List ℕ) (i₀ o₀ n₀ i o n stop id other : ℕ) : Type 0 where
  pub up : rising ids ≡ true
  pub others_up : rising others ≡ true
  pub fits : length ids ≤ length output₀
  pub begun : n₀ ≤ i₀
  pub merged_to : MergedTo ids others output₀ output i₀ o₀ n₀ i o n
  pub more : i < length ids
  pub others_more : o < length others
  pub short : stop ≤ length ids
  pub here : id ≡ get_or ids i 0
  pub there : other ≡ get_or others o 0

module _ {ids others output₀ output : List ℕ} {i₀ o₀ n₀ i o n stop id other : ℕ} (w : Pace ids others output₀ output i₀ o₀ n₀ i o n stop id other) where
  pub past_other : other < id → MergedTo ids others output₀ output i₀ o₀ n₀ i (o + 1) n
  past_other q = merged_to_passed w.merged_to (passed_turned w.up w.others_up (pass_id others ids o i w.up w.others_more w.more (omega (arith, q, w.here, w.there))))

  pub past_id : id ≤ other → (id ≡ other → ⊥) → MergedTo ids others output₀ output i₀ o₀ n₀ (i + 1) o n
  past_id q d =
      let z : id < other = omega arith in
      merged_to_passed w.merged_to (pass_id ids others i o w.others_up w.more w.others_more (omega (arith, z, w.here, w.there)))

  pub past_both : id ≡ other → MergedTo ids others output₀ (set output n id) i₀ o₀ n₀ (i + 1) (o + 1) (n + 1)
  past_both q =
      let r : n < length output = omega (arith, w.merged_to.few, w.merged_to.same, w.more, w.fits, w.begun) in
      rw w.here
      (merged_to_on w.merged_to (merged_to_both ids others w.up w.others_up i o w.more w.others_more (sym w.here ∙ q ∙ w.there) output n r))

  module _ {output' : List ℕ} {i' o' n' : ℕ} (v : MergedTo ids others output₀ output' i₀ o₀ n₀ i' o' n') where
    pub pace_on : {stop' id' other' : ℕ} → i' < length ids → o' < length others → stop' ≤ length ids → id' ≡ get_or ids i' 0 → other' ≡ get_or others o' 0
        → Pace ids others output₀ output' i₀ o₀ n₀ i' o' n' stop' id' other'
    pace_on h k m p q =
        record { up = w.up; others_up = w.others_up; fits = w.fits; begun = w.begun; merged_to = v; more = h; others_more = k; short = m; here = p; there = q }

    pub pace_end : i + o < i' + o' → MergedTo ids others output₀ output' i₀ o₀ n₀ i' o' n' × (i₀ + o₀ < i' + o')
    pace_end h = (v, omega (arith, h, w.merged_to.on, w.merged_to.others_on))

-- ---- a search by strides

-- the others before position o are below the next id
pub record GallopInvariant (ids others output₀ output : List ℕ) (i o n : ℕ) : Type 0 where
  pub merged_to : MergedTo ids others output₀ output 0 0 0 i o n
  pub past : i < length ids → o ≤ first_not_below (get_or ids i 0) others

pub gallop_begin : (ids others output : List ℕ) → GallopInvariant ids others output output 0 0 0
gallop_begin ids others output = record { merged_to = merged_to_none ids others output 0 0 0 (omega arith) (omega arith); past = λ h. omega arith }

module _ {ids others output₀ output : List ℕ} {i o n : ℕ} (f : Fitting ids output₀) (g : Searchable others) (w : GallopInvariant ids others output₀ output i o n) (h : i < length ids) where
  abbrev id : ℕ
  id = get_or ids i 0

  abbrev place : ℕ
  place = first_not_below id others

  next_larger : i + 1 < length ids → id < get_or ids (i + 1) 0
  next_larger m = rising_at ids f.up i (i + 1) (omega arith) m

  -- past the others that are below the id
  passed_below : MergedTo ids others output₀ output 0 0 0 i place n
  passed_below =
      let a = w.past h in
      let b : o + (place - o) ≡ place = omega arith in
      let c : SkippedTo others ids o i (o + (place - o)) i =
      pass_ids others ids o i (place - o) (let d = not_below_le id others in omega arith) (omega arith)
      (λ j m p q r e. let x = not_below_below id others g.up (o + j) (omega arith) in let y = rising_upto ids f.up i m q r in omega arith) in
      merged_to_passed w.merged_to (passed_turned f.up g.up (rw b at c))

  found : elem id others ≡ true → GallopInvariant ids others output₀ (set output n id) (i + 1) (place + 1) (n + 1)
  found e =
      let a = elem_in_not_below id others g.up e in
      let r : n < length output = omega (arith, w.merged_to.few, w.merged_to.same, f.fits) in
      record {
        merged_to = merged_to_on passed_below (merged_to_both ids others f.up g.up i place h a.0 (sym a.1) output n r);
        past = λ m. (let b = next_larger m in let c = not_below_past (get_or ids (i + 1) 0) others g.up place a.0 (omega (arith, a.1)) in omega arith);
      }

  lacking : elem id others ≡ false → GallopInvariant ids others output₀ output (i + 1) place n
  lacking e =
      record {
        merged_to = merged_to_passed passed_below (pass_ids ids others i place 1 (omega arith) (not_below_le id others) differ);
        past = λ m. (let b = next_larger m in not_below_mono id (get_or ids (i + 1) 0) others g.up (omega arith));
      }
    where
      differ : (j m : ℕ) → j < 1 → place ≤ m → m < length others → get_or ids (i + j) 0 ≡ get_or others m 0 → ⊥
      differ j m a b c r =
          let z : i + j ≡ i = omega arith in
          let x : id ≡ get_or others m 0 = rw z at r in
          true≢false (sym (elem_not_below id others m c (sym x)) ∙ e)

  -- the two results of a scan
  pub scan_hit : (p : ℕ) → Scanned others o id (Ok p) → GallopInvariant ids others output₀ (set output n id) (i + 1) (p + 1) (n + 1)
  unfolding scan scan_place
  scan_hit p r =
      let z : Ok p ≡ scan id others = r.finds g.up (w.past h) in
      elim (split (elem id others)) [
        | inl e ↦ let y : Ok p ≡ Ok place = rw e at z in let x : p ≡ place = ap scan_place y in rw x (found e)
        | inr e ↦ let y : Ok p ≡ Err place = rw e at z in absurd (let w : ◌≡◌ {A = ℕ} 0 1 = cc in omega arith)
      ]

  pub scan_miss : (p : ℕ) → Scanned others o id (Err p) → GallopInvariant ids others output₀ output (i + 1) p n
  unfolding scan scan_place
  scan_miss p r =
      let z : Err p ≡ scan id others = r.finds g.up (w.past h) in
      elim (split (elem id others)) [
        | inl e ↦ let y : Err p ≡ Ok place = rw e at z in absurd (let w : ◌≡◌ {A = ℕ} 0 1 = cc in omega arith)
        | inr e ↦ let y : Err p ≡ Err place = rw e at z in let x : p ≡ place = ap scan_place y in rw x (lacking e)
      ]
