-- A loop that sets the bits of the rows of one test after another: the bits set so far, of all that are to be set. Assumes nothing.
use Rattle.refresh_index.proofs.Prelude.{ℕ, ◌+◌, ◌^◌, ◌≤◌, ◌<◌, ◌≡◌, ◌∙◌, inl, inr, Bool, true, false, not, ◌&&◌, ◌||◌, false≢true, List, length, get_or, split, or_right, Marked, bitmap_of, marked_none, marked_then, marked_weaker, marked_few}

-- of all rows to be marked, those of the rest are yet to come
pub record Going (all rest : ℕ → Bool) (words words' : List ℕ) (more : ℕ) : Type 0 where
  pub within : (i : ℕ) → rest i ≡ true → all i ≡ true
  pub done : Marked all (λ i. all i && not (rest i)) words words' more

pub going_begin : (all : ℕ → Bool) (words : List ℕ) → Going all all words words 0
going_begin all words =
    record {
      within = λ i a. a;
      done = marked_weaker (λ i a. a) (λ i e. absurd (never (all i) e)) (marked_none {allowed = all});
    }
  where
    never : (b : Bool) → (b && not b) ≡ true → ⊥
    never true e = false≢true e
    never false e = false≢true e

-- the next test, which with those after it is the rest
pub going_on : {all rest rest' one : ℕ → Bool} {words words₁ words₂ : List ℕ} {a b : ℕ} → Going all rest words words₁ a
    → ((i : ℕ) → rest i ≡ (one i || rest' i)) → Marked one one words₁ words₂ b → Going all rest' words words₂ (a + b)
going_on {all} {rest} {rest'} {one} g next m =
    record {
      within = λ i r. g.within i (next i ∙ or_right (one i) (rest' i) r);
      done = marked_weaker (λ i a. a) fewer (marked_then g.done (marked_weaker (λ i o. g.within i (next i ∙ rw o)) (λ i o. o) m));
    }
  where
    fewer : (i : ℕ) → (all i && not (rest' i)) ≡ true → ((all i && not (rest i)) || one i) ≡ true
    fewer i e =
        elim (split (one i)) [
          | inl o ↦ or_right (all i && not (rest i)) (one i) o
          | inr o ↦ let same : rest i ≡ rest' i = next i ∙ rw o in rw (same, e)
        ]

-- none is left
pub going_end : {all rest : ℕ → Bool} {words words' : List ℕ} {more : ℕ} → Going all rest words words' more → ((i : ℕ) → rest i ≡ false)
    → Marked all all words words' more
going_end g none = marked_weaker (λ i a. a) (λ i a. rw (a, none i)) g.done

-- all that are marked are few
pub marks_few : {allowed needed : ℕ → Bool} {words words' : List ℕ} {more : ℕ} → Marked allowed needed words words' more → length words ≡ 1040
    → ((w : ℕ) → get_or words w 0 < 2 ^ 64) → more ≤ 65536
marks_few {words = words} m long bits = marked_few m (bitmap_of words long bits)

pub going_few : {all rest : ℕ → Bool} {words words' : List ℕ} {more : ℕ} → Going all rest words words' more → length words ≡ 1040
    → ((w : ℕ) → get_or words w 0 < 2 ^ 64) → more ≤ 65536
going_few g = marks_few g.done
