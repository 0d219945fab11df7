-- The set laws of subsets: what crates above this one may use of `intersect`, `retain` and `narrowed`; the reply that an answer
-- encodes once its ids are written; and that a reply determines the answer. Assumes nothing.
use Rattle.refusals.specs.Laws.Numbers.{number_injective}
use Rattle.refusals.specs.declared.Refusal.{Refusal}
use Rattle.std.specs.Prelude.{◌≢◌, ◌+◌, ◌-◌, ◌≤◌, ◌<◌, ◌≡◌, ◌⊎◌, ◌∷◌, cond, Result, Ok, Err}
use Rattle.std.specs.Borrow.{Bor}
use Rattle.offsets.specs.Laws.Prelude.{ℕ, zero, suc, min, max, refl, sym, ap, ◌∙◌, inl, inr, Bool, true, false, List, [], dec_lt, arith, length, take, get_or, length-take, length-append, leb-true, le-leb, splice_nil, split, and_left, and_right, filter_same, filter_all, length_filter, count_le, same_refl, same_eq, same_ne, length_iota, get_d_iota, rising_filter, rising_iota, rising_at, elem_iota, filter_elem_comm, filter_within_iota, take_put, Reply, accepted, Same}
use Rattle.lists.specs.Lists.{splice, filter, all, iota, rising, elem, within, same}
use Rattle.offsets.specs.declared.SubsetForm.{SubsetForm}
use Rattle.offsets.specs.declared.SubsetForm.TheVariants.{Range, List as Ids}
use Rattle.offsets.specs.Subsets.{Subset, range, list, well_formed, members, size, end_of, list_or_nothing, intersect, shaped, retain, narrowed}
use Rattle.offsets.specs.declared.Subset.TheVariants as borrowed
use Rattle.offsets.specs.declared.SubsetRef.{SubsetRef}
use Rattle.offsets.specs.Answers.{subset_of, lent_subset, subset_view, written, Answered}
use Rattle.offsets.specs.inner.Writing.{Wrote}

-- ---- a borrowed subset, by its kind

pub range_is : (start end : ℕ) → subset_of (borrowed.Range start end) ≡ range start end
unfolding subset_of
range_is start end = refl

pub list_is : (ids : Bor (List ℕ)) → subset_of (borrowed.List ids) ≡ list ids.now
unfolding subset_of
list_is ids = refl

-- the same, as C lends it
module _ (lent : SubsetRef) where
  pub dense_is : lent.dense ≡ true → lent_subset lent ≡ range lent.start lent.end
  unfolding lent_subset
  dense_is e = rw e

  pub sparse_is : lent.dense ≡ false → lent_subset lent ≡ list lent.ids.now
  unfolding lent_subset
  sparse_is e = rw e

  -- where the kind is not known
  pub lent_is : lent_subset lent ≡ cond lent.dense (range lent.start lent.end) (list lent.ids.now)
  unfolding lent_subset
  lent_is = refl

-- ---- well-formed subsets

pub formed_order : (a b : ℕ) → well_formed (range a b) ≡ true → a ≤ b
unfolding well_formed
formed_order a b e = leb-true a b e

pub formed_rising : (ids : List ℕ) → well_formed (list ids) ≡ true → rising ids ≡ true
unfolding well_formed
formed_rising ids e = and_left _ _ e

pub formed_short : (ids : List ℕ) → well_formed (list ids) ≡ true → length ids ≤ 65536
unfolding well_formed
formed_short ids e = leb-true (length ids) 65536 (and_right (rising ids) _ e)

pub formed_of : (ids : List ℕ) → rising ids ≡ true → length ids ≤ 65536 → well_formed (list ids) ≡ true
unfolding well_formed
formed_of ids e h = rw (e, le-leb (length ids) 65536 h)

members_range : (a b : ℕ) → members (range a b) ≡ iota a (b - a)
unfolding members
members_range a b = refl

members_list : (ids : List ℕ) → members (list ids) ≡ ids
unfolding members
members_list ids = refl

pub rising_members : (a : Subset) → well_formed a ≡ true → rising (members a) ≡ true
unfolding members
rising_members (range a b) e = rising_iota a (b - a)
rising_members (list ids) e = formed_rising ids e

pub length_members : (a : Subset) → length (members a) ≡ size a
unfolding size
length_members a = refl

-- ---- `shaped`

module _ (x : ℕ) (xs : List ℕ) where
  -- the ids are consecutive
  pub shaped_run : (x ∷ xs) ≡ iota x (length (x ∷ xs)) → shaped (x ∷ xs) ≡ range x (x + length (x ∷ xs))
  unfolding shaped
  shaped_run e = rw (← e, same_refl (x ∷ xs))

  -- the ids are not consecutive
  pub shaped_list : ((x ∷ xs) ≢ iota x (length (x ∷ xs))) → shaped (x ∷ xs) ≡ list (x ∷ xs)
  unfolding shaped
  shaped_list e = rw (same_ne _ _ e)

  -- one of the two holds
  shaped_is : ((shaped (x ∷ xs) ≡ range x (x + length (x ∷ xs))) × ((x ∷ xs) ≡ iota x (length (x ∷ xs)))) ⊎ (shaped (x ∷ xs) ≡ list (x ∷ xs))
  shaped_is =
      elim (split (same (x ∷ xs) (iota x (length (x ∷ xs))))) [ inl e ↦ inl (shaped_run (same_eq _ _ e), same_eq _ _ e) | inr e ↦ inr (unfold shaped in rw e) ]

pub members_shaped : (l : List ℕ) → members (shaped l) ≡ l
members_shaped [] = unfold members shaped iota in refl
members_shaped (x ∷ xs) =
    elim (shaped_is x xs) [
      | inl q ↦
          let n : x + length (x ∷ xs) - x ≡ length (x ∷ xs) = omega arith in
          ap members q.0 ∙ members_range x (x + length (x ∷ xs)) ∙ ap (iota x) n ∙ sym q.1
      | inr q ↦ ap members q ∙ members_list (x ∷ xs)
    ]

pub well_formed_shaped : (l : List ℕ) → rising l ≡ true → length l ≤ 65536 → well_formed (shaped l) ≡ true
well_formed_shaped [] e h = unfold well_formed shaped in refl
well_formed_shaped (x ∷ xs) e h =
    elim (shaped_is x xs) [ inl q ↦ rw q.0 (unfold well_formed in le-leb x (x + length (x ∷ xs)) (omega arith)) | inr q ↦ rw q (formed_of (x ∷ xs) e h) ]

-- consecutive ids are a range
pub shaped_iota : (s n : ℕ) → 0 < n → shaped (iota s n) ≡ range s (s + n)
shaped_iota s zero h = absurd (omega arith)
shaped_iota s (suc n) h =
    let c : iota s (suc n) ≡ s ∷ iota (suc s) n = unfold iota in refl in
    let k : length (s ∷ iota (suc s) n) ≡ suc n = ap suc (length_iota (suc s) n) in
    ap shaped c ∙ shaped_run s (iota (suc s) n) (rw k (sym c)) ∙ ap (λ (m : ℕ). range s (s + m)) k

members_list_or_nothing : (l : List ℕ) → members (list_or_nothing l) ≡ l
unfolding members list_or_nothing iota
members_list_or_nothing [] = refl
members_list_or_nothing (x ∷ xs) = refl

end_list : (x : ℕ) (xs : List ℕ) → end_of (list (x ∷ xs)) ≡ get_or (x ∷ xs) (length xs) 0 + 1
unfolding end_of
end_list x xs = refl

-- each id is below the end that test 5 reads
pub members_below : (a : Subset) → well_formed a ≡ true → (i : ℕ) → i < size a → get_or (members a) i 0 < end_of a
unfolding members size
members_below (range a b) w i h = unfold end_of in
    let under : i < length (iota a (b - a)) = h in
    omega (arith, get_d_iota a (b - a) i 0 (omega (arith, under, length_iota a (b - a))), under, length_iota a (b - a))
members_below (list []) w i h = absurd (omega arith)
members_below (list (x ∷ xs)) w i h =
    let e = end_list x xs in
    elim (dec_lt i (length xs)) [
      | yes k ↦ let r = rising_at (x ∷ xs) (formed_rising (x ∷ xs) w) i (length xs) k (omega arith) in omega arith
      | no k ↦ let q : i ≡ length xs = omega arith in rw q (omega arith)
    ]

-- ---- intersect

-- the members of a range are those within it
elem_range : (a b x : ℕ) → a ≤ b → elem x (iota a (b - a)) ≡ within a b x
elem_range a b x h = let e : a + (b - a) ≡ b = omega arith in elem_iota x a (b - a) ∙ ap (λ (k : ℕ). within a k x) e

past_max : (m k : ℕ) → max m k - m ≡ k - m
past_max m k = omega arith

pub members_intersect : (a b : Subset) → well_formed a ≡ true → well_formed b ≡ true → members (intersect a b) ≡ filter (λ id. elem id (members b)) (members a)
unfolding members intersect
members_intersect (range a b) (range c d) p q =
    let h = formed_order a b p in
    let k = formed_order c d q in
    let e : b ≡ a + (b - a) = omega arith in
    let f : max (max a c) (min b d) - max a c ≡ min (a + (b - a)) d - max a c = past_max (max a c) (min b d) ∙ ap (λ (m : ℕ). min m d - max a c) e in
    ap (iota (max a c)) f
    ∙ sym (filter_within_iota a (b - a) c d)
    ∙ sym (filter_same (λ id. elem id (iota c (d - c))) (within c d) (λ x. elem_range c d x k) (iota a (b - a)))
members_intersect (range a b) (list ids) p q =
    members_list_or_nothing (filter (within a b) ids)
    ∙ sym (filter_same (λ id. elem id (iota a (b - a))) (within a b) (λ x. elem_range a b x (formed_order a b p)) ids)
    ∙ sym (filter_elem_comm (iota a (b - a)) ids (rising_iota a (b - a)) (formed_rising ids q))
members_intersect (list ids) (range a b) p q = sym (filter_same (λ id. elem id (iota a (b - a))) (within a b) (λ x. elem_range a b x (formed_order a b q)) ids)
members_intersect (list ids) (list others) p q = refl

-- filtering a well-formed list gives a well-formed list
formed_filter : (test : ℕ → Bool) (ids : List ℕ) → well_formed (list ids) ≡ true → well_formed (list (filter test ids)) ≡ true
formed_filter test ids p =
    formed_of (filter test ids) (rising_filter test ids (formed_rising ids p))
    (let s = formed_short ids p in let a = length_filter test ids in let b = count_le test ids in omega arith)

formed_list_or_nothing : (l : List ℕ) → well_formed (list l) ≡ true → well_formed (list_or_nothing l) ≡ true
formed_list_or_nothing [] e = unfold well_formed list_or_nothing in refl
formed_list_or_nothing (x ∷ xs) e = unfold list_or_nothing in e

pub well_formed_intersect : (a b : Subset) → well_formed a ≡ true → well_formed b ≡ true → well_formed (intersect a b) ≡ true
unfolding intersect
well_formed_intersect (range a b) (range c d) p q = unfold well_formed in le-leb (max a c) (max (max a c) (min b d)) (omega arith)
well_formed_intersect (range a b) (list ids) p q = formed_list_or_nothing (filter (within a b) ids) (formed_filter (within a b) ids q)
well_formed_intersect (list ids) (range a b) p q = formed_filter (within a b) ids p
well_formed_intersect (list ids) (list others) p q = formed_filter (λ id. elem id others) ids p

-- ---- retain and narrowed

pub members_retain : (test : ℕ → Bool) (a : Subset) → members (retain test a) ≡ filter test (members a)
unfolding retain
members_retain test (range a b) =
    let l = iota a (b - a) in
    members_shaped (filter test l) ∙ ap (filter test) (sym (members_range a b))
members_retain test (list ids) = members_list (filter test ids) ∙ ap (filter test) (sym (members_list ids))

pub members_narrowed : (test : ℕ → Bool) (a : Subset) → members (narrowed test a) ≡ filter test (members a)
unfolding narrowed
members_narrowed test a =
    elim (split (all test (members a))) [ inl e ↦ rw e (sym (filter_all test (members a) e)) | inr e ↦ rw e (members_list (filter test (members a))) ]

-- a list remains a list
pub narrowed_list : (test : ℕ → Bool) (ids : List ℕ) → narrowed test (list ids) ≡ list (filter test ids)
unfolding narrowed members
narrowed_list test ids = elim (split (all test ids)) [ inl e ↦ rw (e, filter_all test ids e) | inr e ↦ rw e ]

-- The kept ids of a range may become a list, and a list has at most 65,536 ids. So the range must have at most as many. A
-- well-formed list always does.
short_filter : (test : ℕ → Bool) (a b : ℕ) → size (range a b) ≤ 65536 → length (filter test (iota a (b - a))) ≤ 65536
unfolding members size
short_filter test a b h =
    let l = iota a (b - a) in
    let p = length_filter test l in let q = count_le test l in let r = length_iota a (b - a) in omega arith

pub well_formed_retain : (test : ℕ → Bool) (a : Subset) → well_formed a ≡ true → size a ≤ 65536 → well_formed (retain test a) ≡ true
unfolding retain
well_formed_retain test (range a b) p h =
    let l = iota a (b - a) in
    well_formed_shaped (filter test l) (rising_filter test l (rising_iota a (b - a))) (short_filter test a b h)
well_formed_retain test (list ids) p h = formed_filter test ids p

pub well_formed_narrowed : (test : ℕ → Bool) (a : Subset) → well_formed a ≡ true → size a ≤ 65536 → well_formed (narrowed test a) ≡ true
unfolding narrowed members
well_formed_narrowed test (range a b) p h =
    let l = iota a (b - a) in
    elim (split (all test (iota a (b - a)))) [
      | inl e ↦ rw e p
      | inr e ↦ rw e (formed_of (filter test l) (rising_filter test l (rising_iota a (b - a))) (short_filter test a b h))
    ]
well_formed_narrowed test (list ids) p h = rw (narrowed_list test ids) (formed_filter test ids p)

-- ---- answers

pub range_writes_nothing : (a b : ℕ) (output : List ℕ) → Answered (accepted (range a b)) output (Ok (Range a b)) output
unfolding subset_view written
range_writes_nothing a b output = record { answers = refl; inside = λ k e. absurd (let z : ◌≡◌ {A = ℕ} 0 1 = cc in omega arith); writes = sym (splice_nil output 0) }

put_long : (l w : List ℕ) → length w ≤ length (splice l 0 w)
unfolding splice
put_long l w = simp length-append (omega arith)

pub answered_list : (ids output : List ℕ) (n : ℕ) (output' : List ℕ) → Wrote output ids n output' → Answered (accepted (list ids)) output (Ok (Ids n)) output'
unfolding subset_view written
answered_list ids output n output' w =
    record {
      answers = rw (w.number, w.cells) (ap (λ (l : List ℕ). accepted (list l)) (take_put output ids));
      inside = λ k e. let same : k ≡ n = cc in omega (arith, same, w.number, put_long output ids, ap length w.cells);
      writes = w.cells;
    }

-- an answer is determined by the reply that it encodes, if the output has all its ids
read_same : (a b : Result SubsetForm Refusal) (output : List ℕ) → subset_view a output ≡ subset_view b output
    → ((n : ℕ) → a ≡ Ok (Ids n) → n ≤ length output) → ((n : ℕ) → b ≡ Ok (Ids n) → n ≤ length output) → a ≡ b
unfolding subset_view
read_same (Err r) (Err q) output e f g = ap Err (number_injective r q cc)
read_same (Err r) (Ok (Range start end)) output e f g = cc
read_same (Err r) (Ok (Ids m)) output e f g = cc
read_same (Ok (Range start end)) (Err r) output e f g = cc
read_same (Ok (Range start end)) (Ok (Range start' end')) output e f g = cc
read_same (Ok (Range start end)) (Ok (Ids n)) output e f g = cc
read_same (Ok (Ids n)) (Err r) output e f g = cc
read_same (Ok (Ids n)) (Ok (Range start end)) output e f g = cc
read_same (Ok (Ids n)) (Ok (Ids m)) output e f g =
    let ids-are : take n output ≡ take m output = cc in
    ap (λ (k : ℕ). Ok (Ids k)) (omega (arith, ap length ids-are, length-take n output, length-take m output, f n refl, g m refl))

-- The reply determines the answer and the output: no choice is left. This covers all of *Intersect*, whose reply is
-- `intersect_reply`, and refine.
pub answered_determined : {r : Reply Subset} {output output₁ output₂ : List ℕ} {a b : Result SubsetForm Refusal}
    → Answered r output a output₁ → Answered r output b output₂ → Same a b output₁ output₂
answered_determined {output₂ = output₂} {a} {b} x y =
    let cells = x.writes ∙ sym y.writes in
    record { answer = read_same a b output₂ ((rw cells at x.answers) ∙ sym y.answers) (rw cells at x.inside) y.inside; cells = cells }
