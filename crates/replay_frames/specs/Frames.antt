-- Lists in words: each item is a kind, a count and that number of words. Every list of words encodes such a list; decoding stops at
-- an incomplete item. Assumes nothing.
use Rattle.std.specs.Prelude.{ℕ, zero, suc, cond, List, [], ◌∷◌, ◌++◌, length, take, leb}

-- `of` decodes an item from its kind and its words
module _ {A : Type 0} (of : ℕ → List ℕ → List A) where
  -- the items of the words after the first n, which belong to the previous item
  unfoldable pub framed_after : ℕ → List ℕ → List A
  framed_after n [] = []
  framed_after (suc n) (word ∷ words) = framed_after n words
  framed_after zero (kind ∷ []) = []
  framed_after zero (kind ∷ count ∷ words) = cond (leb count (length words)) (of kind (take count words) ++ framed_after count words) []

  abbrev pub framed : List ℕ → List A
  framed words = framed_after 0 words
