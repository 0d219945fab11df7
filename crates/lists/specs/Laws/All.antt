-- Laws of Booleans, and of tests that all elements of a list pass or that one passes. Assumes nothing.
use Rattle.std.specs.Prelude.{◌<◌, ◌≡◌, ◌⊎◌, ◌&&◌, ◌||◌, ◌∷◌, ◌++◌}
use Rattle.lists.specs.Laws.Prelude.{ℕ, zero, suc, suc-le-suc, refl, sym, ap, ◌∙◌, inl, inr, Bool, true, false, not, and-true, and_assoc, false≢true, List, [], map, arith, length, get_or}
use Rattle.lists.specs.Lists.{filter, count, all, any}
use Rattle.lists.specs.Laws.Filter.{split, and_left, and_right, filter_all, all_filter}

pub and_both : (a b : Bool) → a ≡ true → b ≡ true → (a && b) ≡ true
and_both a b p q = rw (p, q)

pub or_right : (a b : Bool) → b ≡ true → (a || b) ≡ true
or_right true b p = refl
or_right false b p = p

-- if the first fails, the second holds
pub or_second : (a b : Bool) → (a || b) ≡ true → a ≡ false → b ≡ true
or_second true b p q = absurd (false≢true (sym q))
or_second false b p q = p

-- if neither holds, the first does not
pub or_no_left : (a b : Bool) → (a || b) ≡ false → a ≡ false
or_no_left true b e = e
or_no_left false b e = refl

-- if neither holds, the second does not
pub or_no_right : (a b : Bool) → (a || b) ≡ false → b ≡ false
or_no_right true b e = absurd (false≢true (sym e))
or_no_right false b e = e

module _ {A : Type 0} where
  module _ (test : A → Bool) where
    -- the first passes
    pub all_head : (x : A) (xs : List A) → all test (x ∷ xs) ≡ true → test x ≡ true
    unfolding all
    all_head x xs q = and_left _ _ q

    -- the others pass
    pub all_tail : (x : A) (xs : List A) → all test (x ∷ xs) ≡ true → all test xs ≡ true
    unfolding all
    all_tail x xs q = and_right (test x) _ q

    -- one more in front
    pub all_cons : (x : A) (xs : List A) → test x ≡ true → all test xs ≡ true → all test (x ∷ xs) ≡ true
    unfolding all
    all_cons x xs p q = rw (p, q)

    -- one list after another
    pub all_append : (xs ys : List A) → all test xs ≡ true → all test ys ≡ true → all test (xs ++ ys) ≡ true
    all_append [] ys p q = q
    all_append (x ∷ xs) ys p q = all_cons x (xs ++ ys) (all_head x xs p) (all_append xs ys (all_tail x xs p) q)

    -- one more at the end
    pub all_snoc : (xs : List A) (y : A) → all test xs ≡ true → test y ≡ true → all test (xs ++ (y ∷ [])) ≡ true
    all_snoc xs y p q = all_append xs (y ∷ []) p (all_cons y [] q (unfold all in refl))

    -- filtering is idempotent
    pub filter_again : (xs : List A) → filter test (filter test xs) ≡ filter test xs
    filter_again xs = filter_all test (filter test xs) (all_filter test xs)

    -- if all pass, none fails
    pub count_not : (xs : List A) → all test xs ≡ true → count (λ x. not (test x)) xs ≡ 0
    unfolding count
    count_not [] q = refl
    count_not (x ∷ xs) q = rw (all_head x xs q) (count_not xs (all_tail x xs q))

  -- a weaker test
  pub all_weaker : (s t : A → Bool) → ((x : A) → s x ≡ true → t x ≡ true) → (xs : List A) → all s xs ≡ true → all t xs ≡ true
  unfolding all
  all_weaker s t f [] q = refl
  all_weaker s t f (x ∷ xs) q = rw (f x (and_left (s x) _ q), all_weaker s t f xs (and_right (s x) _ q))

module _ {A B : Type 0} where
  -- the mapped element at a position, for any two defaults
  pub get_d_map_below : (f : A → B) (l : List A) (i : ℕ) (d : A) (e : B) → i < length l → get_or (map f l) i e ≡ f (get_or l i d)
  get_d_map_below f [] i d e h = absurd (omega arith)
  get_d_map_below f (x ∷ l) zero d e h = refl
  get_d_map_below f (x ∷ l) (suc i) d e h = get_d_map_below f l i d e (omega arith)

  -- two lists of one length, of which the same positions pass
  pub count_alike : (s : A → Bool) (t : B → Bool) (d : A) (e : B) (xs : List A) (ys : List B) → length xs ≡ length ys
      → ((i : ℕ) → i < length xs → s (get_or xs i d) ≡ t (get_or ys i e)) → count s xs ≡ count t ys
  unfolding count
  count_alike s t d e [] [] n f = refl
  count_alike s t d e [] (y ∷ ys) n f = absurd (omega arith)
  count_alike s t d e (x ∷ xs) [] n f = absurd (omega arith)
  count_alike s t d e (x ∷ xs) (y ∷ ys) n f = rw (f 0 (omega arith), count_alike s t d e xs ys (omega arith) (λ i h. f (suc i) (suc-le-suc h)))

module _ {A : Type 0} (test : A → Bool) where
  -- one more at the end, as a Boolean
  pub all_more : (xs : List A) (x : A) → all test (xs ++ (x ∷ [])) ≡ (all test xs && test x)
  unfolding all
  all_more [] x = and-true (test x)
  all_more (y ∷ xs) x = ap (λ (b : Bool). test y && b) (all_more xs x) ∙ sym (and_assoc (test y) (all test xs) (test x))

  -- a position at which one passes
  pub any_at : (d : A) (xs : List A) → any test xs ≡ true → (i : ℕ) × (i < length xs) × (test (get_or xs i d) ≡ true)
  unfolding any
  any_at d [] q = absurd (false≢true q)
  any_at d (x ∷ xs) q = go (any_at d xs) (split (test x))
    where
      go : (any test xs ≡ true → (i : ℕ) × (i < length xs) × (test (get_or xs i d) ≡ true)) → (test x ≡ true) ⊎ (test x ≡ false)
          → (i : ℕ) × (i < suc (length xs)) × (test (get_or (x ∷ xs) i d) ≡ true)
      go f (inl e) = (0, omega arith, e)
      go f (inr e) = let r = f (or_second (test x) (any test xs) q e) in (suc r.0, suc-le-suc r.1, r.2)

  pub any_of : (d : A) (xs : List A) (i : ℕ) → i < length xs → test (get_or xs i d) ≡ true → any test xs ≡ true
  unfolding any
  any_of d [] i h e = absurd (omega arith)
  any_of d (x ∷ xs) zero h e = rw e
  any_of d (x ∷ xs) (suc i) h e = or_right (test x) (any test xs) (any_of d xs i (omega arith) e)
