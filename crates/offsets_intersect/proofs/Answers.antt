-- The reply that each answer encodes. Assumes nothing.
use Rattle.refusals.specs.declared.Refusal.TheVariants.{MalformedSubset}
use Rattle.refusals.specs.Laws.Numbers.{number_some}
use Rattle.refusals.specs.declared.Refusal.{Refusal}
use Rattle.std.specs.Prelude.{Result, Ok, Err}
use Rattle.offsets_intersect.proofs.Prelude.{ℕ, ◌≤◌, ◌<◌, min, max, ◌≡◌, refl, sym, ◌∙◌, Bool, true, List, [], ◌∷◌, arith, leb, length, lt-leb, le-leb, filter, within, splice_nil, length_filter, count_le, Range, Answered, room_needed, intersect_refusal, intersect_reply, Wrote, Fitting, Searchable, common, answered_refused as refused-answered, refusal_first, refusal_second, refusal_none, allowed, range_writes_nothing, answered_list, formed_order, formed_rising, formed_short}
use Rattle.refusals.specs.Laws.Replies.{reply_refused}
use Rattle.refusals.specs.Refusals.{refused, accepted, reply, number}
use Rattle.offsets.specs.declared.SubsetForm.{SubsetForm}
use Rattle.offsets.specs.declared.SubsetForm.TheVariants.{List as Ids}
use Rattle.offsets.specs.Subsets.{Subset, range, list, well_formed, list_or_nothing, intersect}

-- ---- answers

pub answered_none : (ids output : List ℕ) (n : ℕ) (output' : List ℕ) → Wrote output ids n output' → n ≡ 0 → Answered (accepted (list_or_nothing ids)) output (Ok (Range 0 0)) output'
unfolding list_or_nothing
answered_none [] output n output' w e = rw (w.cells ∙ splice_nil output 0) (range_writes_nothing 0 0 output)
answered_none (x ∷ xs) output n output' w e = absurd (let k = w.number in omega arith)

pub answered_some : (ids output : List ℕ) (n : ℕ) (output' : List ℕ) → Wrote output ids n output' → (n ≡ 0 → ⊥) → Answered (accepted (list_or_nothing ids)) output (Ok (Ids n)) output'
unfolding list_or_nothing
answered_some [] output n output' w e = absurd (e w.number)
answered_some (x ∷ xs) output n output' w e = answered_list (x ∷ xs) output n output' w

-- the number of kept ids of a short list fits a u32
pub wrote_few : (test : ℕ → Bool) (ids output : List ℕ) (n : ℕ) (output' : List ℕ) → Wrote output (filter test ids) n output' → n ≤ length ids
wrote_few test ids output n output' w = let a = length_filter test ids in let b = count_le test ids in let c = w.number in omega arith

pub wrote_few_common : (ids others output : List ℕ) (n : ℕ) (output' : List ℕ) → Wrote output (common ids others) n output' → n ≤ length ids
unfolding common
wrote_few_common ids others output n output' w = wrote_few _ ids output n output' w

-- ---- the reply

pub answered_refused : (a b : Subset) (n : ℕ) (output : List ℕ) (r : Refusal) → number r ≡ intersect_refusal a b n → Answered (intersect_reply a b n) output (Err r) output
unfolding intersect_reply
answered_refused a b n output r e =
    let k : reply (intersect_refusal a b n) (intersect a b) ≡ refused (number r) = sym (reply_refused (refused (number r)) _ (number r) (intersect a b) refl e (number_some r)) in
    rw k (refused-answered r output)

pub replied : (a b : Subset) (n : ℕ) → intersect_refusal a b n ≡ 0 → intersect_reply a b n ≡ accepted (intersect a b)
unfolding intersect_reply reply
replied a b n e = rw e

-- two ranges: one that starts above its end is refused, as is the other; else the reply is their range
formed_answer : (a b : ℕ) → leb a b ≡ well_formed (range a b)
unfolding well_formed
formed_answer a b = refl

no_room : (a b c d n : ℕ) → room_needed (range a b) (range c d) ≤ n
unfolding room_needed
no_room a b c d n = omega arith

intersect_answer : (a b c d : ℕ) → intersect (range a b) (range c d) ≡ range (max a c) (max (max a c) (min b d))
unfolding intersect
intersect_answer a b c d = refl

module _ (a b c d : ℕ) (output : List ℕ) where
  pub ranges_first : b < a → Answered (intersect_reply (range a b) (range c d) (length output)) output (Err MalformedSubset) output
  ranges_first h = answered_refused _ _ _ output MalformedSubset (refusal_first _ _ _ (rw (← formed_answer a b) (lt-leb a b h)))

  pub ranges_second : a ≤ b → d < c → Answered (intersect_reply (range a b) (range c d) (length output)) output (Err MalformedSubset) output
  ranges_second h i =
      answered_refused _ _ _ output MalformedSubset (refusal_second _ _ _ (rw (← formed_answer a b) (le-leb a b h)) (rw (← formed_answer c d) (lt-leb c d i)))

  pub ranges_answered : a ≤ b → c ≤ d
      → Answered (intersect_reply (range a b) (range c d) (length output)) output (Ok (Range (max a c) (max (max a c) (min b d)))) output
  ranges_answered h i =
      let e = refusal_none (range a b) (range c d) (length output) (rw (← formed_answer a b) (le-leb a b h)) (rw (← formed_answer c d) (le-leb c d i)) (no_room a b c d (length output)) in
      rw (replied (range a b) (range c d) (length output) (sym e), intersect_answer a b c d) (range_writes_nothing _ _ output)

-- ---- by kind: the preconditions, and the reply

searchable_of : (ids : List ℕ) → well_formed (list ids) ≡ true → Searchable ids
searchable_of ids w = record { up = formed_rising ids w; short = formed_short ids w }

fitting_of : (ids output : List ℕ) → Searchable ids → length ids ≤ length output → Fitting ids output
fitting_of ids output s h = record { up = s.up; short = s.short; fits = h }

module _ (start end : ℕ) (ids output : List ℕ) where
  pub can_range_list : intersect_refusal (range start end) (list ids) (length output) ≡ 0 → Fitting ids output × (start ≤ end)
  unfolding room_needed
  can_range_list e = let can = allowed _ _ _ e in (fitting_of ids output (searchable_of ids can.formed_other) can.fits, formed_order start end can.formed)

  pub can_list_range : intersect_refusal (list ids) (range start end) (length output) ≡ 0 → Fitting ids output × (start ≤ end)
  unfolding room_needed
  can_list_range e = let can = allowed _ _ _ e in (fitting_of ids output (searchable_of ids can.formed) can.fits, formed_order start end can.formed_other)

  module _ (r : Result SubsetForm Refusal) (output' : List ℕ) where
    pub as_range_list : intersect_refusal (range start end) (list ids) (length output) ≡ 0
        → Answered (accepted (list_or_nothing (filter (within start end) ids))) output r output'
        → Answered (intersect_reply (range start end) (list ids) (length output)) output r output'
    unfolding intersect
    as_range_list e w = rw (replied _ _ _ e) w

    pub as_list_range : intersect_refusal (list ids) (range start end) (length output) ≡ 0
        → Answered (accepted (list (filter (within start end) ids))) output r output'
        → Answered (intersect_reply (list ids) (range start end) (length output)) output r output'
    unfolding intersect
    as_list_range e w = rw (replied _ _ _ e) w

module _ (ids others output : List ℕ) (e : intersect_refusal (list ids) (list others) (length output) ≡ 0) where
  pub can_lists : Fitting ids output × Searchable others
  unfolding room_needed
  can_lists = let can = allowed _ _ _ e in (fitting_of ids output (searchable_of ids can.formed) can.fits, searchable_of others can.formed_other)

  pub as_lists : (r : Result SubsetForm Refusal) (output' : List ℕ) → Answered (accepted (list (common ids others))) output r output'
      → Answered (intersect_reply (list ids) (list others) (length output)) output r output'
  unfolding intersect common
  as_lists r output' w = rw (replied _ _ _ e) w
