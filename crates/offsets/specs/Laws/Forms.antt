-- Subsets by their two forms, as code distinguishes them: size, ends and members of each, and the results of `retain` and
-- `narrowed`. Crates above use only these laws and the set laws of a subset. Assumes nothing.
use Rattle.std.specs.Prelude.{◌+◌, ◌-◌, ◌≤◌, ◌<◌, ◌≡◌, ◌∷◌, Option, None, Some}
use Rattle.offsets.specs.Laws.Prelude.{ℕ, refl, sym, ap, ◌∙◌, Bool, true, false, List, [], length, get_or, le-leb, filter, all, elem, within, length_iota, get_d_iota, elem_iota}
use Rattle.offsets.specs.Subsets.{Subset, range, list, well_formed, members, size, end_of, shaped, retain, narrowed}
use Rattle.offsets.specs.declared.Ends.{Ends}
use Rattle.offsets.specs.inner.Writing.{bounds}
use Rattle.offsets.specs.Laws.Subsets.{length_members, narrowed_list as narrowed-ids}

-- ---- a range

module _ (a b : ℕ) where
  pub size_range : size (range a b) ≡ b - a
  unfolding members size
  size_range = length_iota a (b - a)

  pub end_range : end_of (range a b) ≡ b
  unfolding end_of
  end_range = refl

  pub formed_range : a ≤ b → well_formed (range a b) ≡ true
  unfolding well_formed
  formed_range h = le-leb a b h

  pub length_range : length (members (range a b)) ≡ b - a
  length_range = length_members (range a b) ∙ size_range

  pub get_d_range : (i d : ℕ) → i < b - a → get_or (members (range a b)) i d ≡ a + i
  unfolding members
  get_d_range i d h = get_d_iota a (b - a) i d h

  pub elem_range : (i : ℕ) → elem i (members (range a b)) ≡ within a (a + (b - a)) i
  unfolding members
  elem_range i = elem_iota i a (b - a)

-- ---- a list

module _ (ids : List ℕ) where
  pub size_list : size (list ids) ≡ length ids
  unfolding members size
  size_list = refl

  pub members_list : members (list ids) ≡ ids
  unfolding members
  members_list = refl

-- ---- the end of a subset, by the bounds that are returned

-- 0 if there are no bounds
abbrev upper : Option Ends → ℕ
upper None = 0
upper (Some ends) = ends.end

end_is : (a : Subset) → end_of a ≡ upper (bounds a)
unfolding end_of bounds
end_is (range start end) = refl
end_is (list []) = refl
end_is (list (x ∷ xs)) = refl

pub end_none : (a : Subset) → None ≡ bounds a → end_of a ≡ 0
end_none a e = end_is a ∙ ap upper (sym e)

pub end_some : (a : Subset) (ends : Ends) → Some ends ≡ bounds a → end_of a ≡ ends.end
end_some a ends e = end_is a ∙ ap upper (sym e)

-- ---- `retain` and `narrowed`

module _ (test : ℕ → Bool) where
  pub retain_range : (a b : ℕ) → retain test (range a b) ≡ shaped (filter test (members (range a b)))
  unfolding retain members
  retain_range a b = refl

  pub retain_list : (ids : List ℕ) → retain test (list ids) ≡ list (filter test (members (list ids)))
  unfolding retain members
  retain_list ids = refl

  pub narrowed_all : (a b : ℕ) → all test (members (range a b)) ≡ true → narrowed test (range a b) ≡ range a b
  unfolding narrowed members
  narrowed_all a b e = rw e

  pub narrowed_some : (a b : ℕ) → all test (members (range a b)) ≡ false → narrowed test (range a b) ≡ list (filter test (members (range a b)))
  unfolding narrowed members
  narrowed_some a b e = rw e

  pub narrowed_list : (ids : List ℕ) → narrowed test (list ids) ≡ list (filter test (members (list ids)))
  unfolding members
  narrowed_list ids = narrowed-ids test ids
