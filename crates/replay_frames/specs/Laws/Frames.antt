-- Items one by one: words without a complete item, and words that begin with one; and what a list encodes, from its items. Assumes
-- nothing.
use Rattle.std.specs.Prelude.{ℕ, zero, suc, ◌+◌, ◌≤◌, ◌<◌, ◌≡◌, List, [], ◌∷◌, ◌++◌, length, take, drop, get_or, cond, leb, true, false, flat_map, refl}
use Rattle.std.proofs.Common.{ap, ◌∙◌, sym, arith, le-leb}
use Rattle.std.proofs.lemmas.Bool.{lt-leb}
use Rattle.replay_frames.specs.Frames.{framed_after, framed}
use Rattle.replay_frames.specs.Items.{items}

module _ {A : Type 0} (of : ℕ → List ℕ → List A) where
  framed_after_lem : (n : ℕ) (words : List ℕ) → framed_after of n words ≡ framed of (drop n words)
  unfolding framed_after
  framed_after_lem zero words = refl
  framed_after_lem (suc n) [] = refl
  framed_after_lem (suc n) (word ∷ words) = framed_after_lem n words

  -- no complete item
  pub framed_cut : (words : List ℕ) → length words < get_or words 1 0 + 2 → framed of words ≡ []
  unfolding framed_after
  framed_cut [] h = refl
  framed_cut (kind ∷ []) h = refl
  framed_cut (kind ∷ count ∷ words) h = rw (lt-leb count (length words) (omega arith))

  -- an item, and those behind it
  pub framed_whole : (words : List ℕ) → get_or words 1 0 + 2 ≤ length words
      → framed of words ≡ of (get_or words 0 0) (take (get_or words 1 0) (drop 2 words)) ++ framed of (drop (get_or words 1 0) (drop 2 words))
  unfolding framed_after
  framed_whole [] h = absurd (omega arith)
  framed_whole (kind ∷ []) h = absurd (omega arith)
  framed_whole (kind ∷ count ∷ words) h = rw (le-leb count (length words) (omega arith), framed_after_lem count words)

-- ---- what a list encodes

module _ {A : Type 0} (of : ℕ → List ℕ → List A) where
  abbrev decoded : List (ℕ × List ℕ) → List A
  decoded = flat_map (λ item. of item.0 item.1)

  after_items : (n : ℕ) (words : List ℕ) → framed_after of n words ≡ decoded (framed_after (λ kind words. (kind, words) ∷ []) n words)
  unfolding framed_after
  after_items n [] = refl
  after_items (suc n) (word ∷ words) = after_items n words
  after_items zero (kind ∷ []) = refl
  after_items zero (kind ∷ count ∷ words) =
      elim (leb count (length words)) as (λ b. cond b (of kind (take count words) ++ framed_after of count words) []
      ≡ decoded (cond b ((kind, take count words) ∷ framed_after (λ kind words. (kind, words) ∷ []) count words) [])) [
        | true ↦ ap (λ (l : List A). of kind (take count words) ++ l) (after_items count words)
        | false ↦ refl
      ]

  pub framed_items : (words : List ℕ) → framed of words ≡ decoded (items words)
  framed_items words = after_items 0 words

  -- no more items
  pub framed_end : (words : List ℕ) → items words ≡ [] → framed of words ≡ []
  framed_end words e = framed_items words ∙ ap decoded e

  -- an item, and those behind it
  pub framed_next : (words rest : List ℕ) {item : ℕ × List ℕ} → items words ≡ item ∷ items rest → framed of words ≡ of item.0 item.1 ++ framed of rest
  framed_next words rest {item} e = framed_items words ∙ ap decoded e ∙ ap (λ (l : List A). of item.0 item.1 ++ l) (sym (framed_items rest))

-- ---- how many items a list has: no more than words

after_few : (n : ℕ) (words : List ℕ) → length {A = ℕ × List ℕ} (framed_after (λ kind words. (kind, words) ∷ []) n words) ≤ length words
unfolding framed_after
after_few n [] = omega arith
after_few (suc n) (word ∷ words) = let few = after_few n words in omega arith
after_few zero (kind ∷ []) = omega arith
after_few zero (kind ∷ count ∷ words) =
    let few = after_few count words in
    elim (leb count (length words)) as (λ b. length {A = ℕ × List ℕ} (cond b ((kind, take count words) ∷ framed_after (λ kind words. (kind, words) ∷ []) count words) []) ≤ suc (suc (length words))) [
      | true ↦ omega arith
      | false ↦ omega arith
    ]

pub items_few : (words : List ℕ) → length (items words) ≤ length words
items_few words = after_few 0 words
