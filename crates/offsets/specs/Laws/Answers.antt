-- Laws of decoding an answer, and of what it writes. A refused answer writes nothing, an accepted one at most the ids of its
-- subset, and an intersection no more than its output has room for. Every reply of an operation has an answer. The members of an accepted
-- intersection. Assumes nothing.
use Rattle.refusals.specs.Laws.Numbers.{number_some, number_or_none}
use Rattle.refusals.specs.Laws.Replies.{reply_refused}
use Rattle.refusals.specs.declared.Refusal.{Refusal}
use Rattle.refusals.specs.declared.Refusal.TheVariants.{MalformedSubset, TooShort}
use Rattle.std.specs.Prelude.{◌≤◌, ◌<◌, ◌≡◌, ◌⊎◌, ◌∷◌, Result, Ok, Err}
use Rattle.offsets.specs.Laws.Prelude.{ℕ, zero, suc, refl, sym, ap, ◌∙◌, inl, inr, Bool, true, false, List, [], dec_lt, arith, length, take, length-take, lt-ltb, le-ltb, splice, filter, elem, within, splice_nil, split, length_filter, count_le}
use Rattle.refusals.specs.Refusals.{Check, check, first_refusal, Reply, refused, accepted, reply, number}
use Rattle.offsets.specs.declared.SubsetForm.{SubsetForm}
use Rattle.offsets.specs.declared.SubsetForm.TheVariants.{Range, List as Ids}
use Rattle.offsets.specs.Subsets.{Subset, range, list, well_formed, members, list_or_nothing, intersect}
use Rattle.offsets.specs.Answers.{subset_view, written, room_needed, Answered, intersect_refusal, intersect_reply}
use Rattle.offsets.specs.Laws.Subsets.{members_intersect, range_writes_nothing, answered_list}

-- ---- decoding an answer, by its form

module _ (output : List ℕ) where
  pub read_refused : (r : Refusal) → subset_view (Err r) output ≡ refused (number r)
  unfolding subset_view
  read_refused r = refl

  pub read_range : (start end : ℕ) → subset_view (Ok (Range start end)) output ≡ accepted (range start end)
  unfolding subset_view
  read_range from to = refl

  pub read_list : (n : ℕ) → subset_view (Ok (Ids n)) output ≡ accepted (list (take n output))
  unfolding subset_view
  read_list n = refl

-- ---- what an answer writes

pub written_none : (n : ℕ) → written (refused n) ≡ []
unfolding written
written_none n = refl

pub answered_refused : (r : Refusal) (output : List ℕ) → Answered (refused (number r)) output (Err r) output
unfolding subset_view written
answered_refused r output = record { answers = refl; inside = λ k e. absurd (let z : ◌≡◌ {A = ℕ} 0 1 = cc in omega arith); writes = sym (splice_nil output 0) }

pub written_members : (v : Subset) → length (written (accepted v)) ≤ length (members v)
unfolding written members
written_members (range start end) = omega arith
written_members (list ids) = omega arith

kept_room : (test : ℕ → Bool) (l : List ℕ) → length (filter test l) ≤ length l
kept_room test l = omega (arith, length_filter test l, count_le test l)

listed_room : (l : List ℕ) → length (written (accepted (list_or_nothing l))) ≤ length l
unfolding written list_or_nothing
listed_room [] = omega arith
listed_room (x ∷ xs) = omega arith

pub written_intersect : (a b : Subset) → length (written (accepted (intersect a b))) ≤ room_needed a b
unfolding intersect room_needed
written_intersect (range a b) (range c d) = unfold written in omega arith
written_intersect (range a b) (list ids) = omega (arith, listed_room (filter (within a b) ids), kept_room (within a b) ids)
written_intersect (list ids) (range a b) = unfold written in kept_room (within a b) ids
written_intersect (list ids) (list others) = unfold written in kept_room (λ id. elem id others) ids

-- if an answer has ids, the output has room for them
pub answered_fits : (n : ℕ) (v : Subset) (output : List ℕ) (answer : Result SubsetForm Refusal) (output' : List ℕ) → Answered (reply n v) output answer output'
    → (n ≡ 0 → length (written (accepted v)) ≤ length output) → (k : ℕ) → answer ≡ Ok (Ids k) → k ≤ length output
unfolding reply subset_view written
answered_fits zero (range a b) output answer output' m fit k e = absurd (let f = rw e at m.answers in let z : ◌≡◌ {A = ℕ} 0 1 = cc in omega arith)
answered_fits zero (list ids) output answer output' m fit k e =
    let f = rw e at m.answers in
    let ids-are : take k output' ≡ ids = cc in
    omega (arith, fit refl, ap length ids-are, length-take k output', m.inside k e)
answered_fits (suc n) v output answer output' m fit k e = absurd (let f = rw e at m.answers in let z : ◌≡◌ {A = ℕ} 0 1 = cc in omega arith)

-- a number that an operation may give: 0, or that of a refusal
abbrev pub Given : ℕ → Type 0
Given n = (n ≡ 0) ⊎ ((r : Refusal) × (number r ≡ n))

pub given_none : Given (first_refusal [])
unfolding first_refusal
given_none = inl refl

pub given_check : (applies : Bool) (r : Refusal) (checks : List Check) → Given (first_refusal checks) → Given (first_refusal (check applies (number r) ∷ checks))
unfolding first_refusal
given_check true r checks g = inr (r, refl)
given_check false r checks g = g

-- every reply that is accepted or has the number of a refusal has an answer, whatever the contents of the output
answer_value : (v : Subset) (output : List ℕ) → (answer : Result SubsetForm Refusal) × Answered (accepted v) output answer (splice output 0 (written (accepted v)))
unfolding written
answer_value (range start end) output = (Ok (Range start end), rw (splice_nil output 0) (range_writes_nothing start end output))
answer_value (list ids) output = (Ok (Ids (length ids)), answered_list ids output (length ids) _ (record { number = refl; cells = refl }))

answer_refusal : (r : Refusal) (output : List ℕ) → (answer : Result SubsetForm Refusal) × Answered (refused (number r)) output answer (splice output 0 (written (refused (number r))))
unfolding written
answer_refusal r output = (Err r, rw (splice_nil output 0) (answered_refused r output))

-- a reply that no answer can hold: it is refused with a number that no refusal has
abbrev pub Unanswerable : Reply Subset → Type 0
Unanswerable r = (n : ℕ) × (r ≡ refused n) × ((q : Refusal) → number q ≡ n → ⊥)

-- every reply has an answer, whatever the contents of the output, or is one that no answer can hold
pub answer_to : (r : Reply Subset) (output : List ℕ) → ((answer : Result SubsetForm Refusal) × Answered r output answer (splice output 0 (written r))) ⊎ Unanswerable r
answer_to (accepted v) output = inl (answer_value v output)
answer_to (refused n) output =
    elim (number_or_none n) [
      | inl (q, e) ↦ inl (rw (← e) (answer_refusal q output))
      | inr none ↦ inr (n, refl, none)
    ]

-- a reply whose number is given is not one of those
pub answer_given : (n : ℕ) (v : Subset) (output : List ℕ) → Given n → (answer : Result SubsetForm Refusal) × Answered (reply n v) output answer (splice output 0 (written (reply n v)))
answer_given n v output (inl e) = let k : reply n v ≡ accepted v = rw e (unfold reply in refl) in rw k (answer_value v output)
answer_given n v output (inr (r, e)) = let k : reply n v ≡ refused (number r) = sym (reply_refused (refused (number r)) n (number r) v refl e (number_some r)) in rw k (answer_refusal r output)

-- ---- *Intersect*: its checks one by one

module _ (a b : Subset) (n : ℕ) where
  pub refusal_first : well_formed a ≡ false → 4 ≡ intersect_refusal a b n
  unfolding intersect_refusal first_refusal
  refusal_first p = rw p

  pub refusal_second : well_formed a ≡ true → well_formed b ≡ false → 4 ≡ intersect_refusal a b n
  unfolding intersect_refusal first_refusal
  refusal_second p q = rw (p, q)

  pub refusal_room : well_formed a ≡ true → well_formed b ≡ true → n < room_needed a b → 2 ≡ intersect_refusal a b n
  unfolding intersect_refusal first_refusal
  refusal_room p q h = rw (p, q, lt-ltb n (room_needed a b) h)

  pub refusal_none : well_formed a ≡ true → well_formed b ≡ true → room_needed a b ≤ n → 0 ≡ intersect_refusal a b n
  unfolding intersect_refusal first_refusal
  refusal_none p q h = rw (p, q, le-ltb n (room_needed a b) h)

-- each check has the number of a refusal
pub intersect_given : (a b : Subset) (n : ℕ) → Given (intersect_refusal a b n)
unfolding intersect_refusal
intersect_given a b n = given_check _ MalformedSubset _ (given_check _ TooShort _ given_none)

-- no check applies
pub record Allowed (a b : Subset) (n : ℕ) : Type 0 where
  pub formed : well_formed a ≡ true
  pub formed_other : well_formed b ≡ true
  pub fits : room_needed a b ≤ n

pub allowed : (a b : Subset) (n : ℕ) → intersect_refusal a b n ≡ 0 → Allowed a b n
allowed a b n e =
    elim (split (well_formed a)) [
      | inl p ↦ elim (split (well_formed b)) [
        | inl q ↦ elim (dec_lt n (room_needed a b)) [
          | yes h ↦ absurd (let z = refusal_room a b n p q h in omega arith)
          | no h ↦ record { formed = p; formed_other = q; fits = omega arith }
        ]
        | inr q ↦ absurd (let z = refusal_second a b n p q in omega arith)
      ]
      | inr p ↦ absurd (let z = refusal_first a b n p in omega arith)
    ]

-- ---- *Intersect*: its set law and its output

-- an accepted reply: both subsets are well-formed, and it has the ids that they have in common
pub record InCommon (a b v : Subset) : Type 0 where
  pub formed : well_formed a ≡ true
  pub formed_other : well_formed b ≡ true
  pub ids : members v ≡ filter (λ id. elem id (members b)) (members a)

reply_value : (n : ℕ) (v w : Subset) → reply n v ≡ accepted w → (n ≡ 0) × (v ≡ w)
unfolding reply
reply_value zero v w e = (refl, cc)
reply_value (suc n) v w e = absurd (let z : ◌≡◌ {A = ℕ} 0 1 = cc in omega arith)

pub intersect_replies : (a b : Subset) (n : ℕ) → intersect_reply a b n ≡ reply (intersect_refusal a b n) (intersect a b)
unfolding intersect_reply
intersect_replies a b n = refl

pub intersect_accepted : (a b : Subset) (n : ℕ) (v : Subset) → intersect_reply a b n ≡ accepted v → InCommon a b v
unfolding intersect_reply
intersect_accepted a b n v e =
    let r = reply_value (intersect_refusal a b n) (intersect a b) v e in
    let t = allowed a b n r.0 in
    record { formed = t.formed; formed_other = t.formed_other; ids = ap members (sym r.1) ∙ members_intersect a b t.formed t.formed_other }

pub intersect_fits : (a b : Subset) (output : List ℕ) (answer : Result SubsetForm Refusal) (output' : List ℕ) → Answered (intersect_reply a b (length output)) output answer output'
    → (k : ℕ) → answer ≡ Ok (Ids k) → k ≤ length output
unfolding intersect_reply
intersect_fits a b output answer output' m =
    answered_fits (intersect_refusal a b (length output)) (intersect a b) output answer output' m
    (λ e. omega (arith, written_intersect a b, (allowed a b (length output) e).fits))
