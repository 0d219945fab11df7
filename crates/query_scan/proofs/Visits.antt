-- The ids that a scan visits. Assumes nothing.
use Rattle.query_scan.proofs.Prelude.{ℕ, zero, suc, ◌+◌, ◌-◌, ◌≤◌, ◌<◌, min, ◌≡◌, refl, sym, ap, ◌∙◌, inl, inr, Bool, true, false, not, List, [], ◌∷◌, ◌++◌, dec_lt, arith, eqb, length, take, drop, get_or, length-take, length-drop, filter, any, split, length_filter, count_le, count_append, Header, dead_among, visited, up_to_first, up_to, add-one, get_or-drop, take-suc, take_all, drop-cons}
use Rattle.offsets.specs.Subsets.{Subset, members, size}
use Rattle.offsets.specs.Laws.Subsets.{length_members}

-- ---- up to the nth that passes

module _ (test : ℕ → Bool) where
  pub up_to_nil : (n : ℕ) → up_to n test [] ≡ []
  unfolding up_to
  up_to_nil zero = refl
  up_to_nil (suc n) = refl

  pub up_to_hit : (n x : ℕ) (xs : List ℕ) → 0 < n → test x ≡ true → up_to n test (x ∷ xs) ≡ x ∷ up_to (n - 1) test xs
  unfolding up_to
  up_to_hit zero x xs l e = absurd (omega arith)
  up_to_hit (suc n) x xs l e = let k : suc n - 1 ≡ n = omega arith in rw (e, k)

  pub up_to_miss : (n x : ℕ) (xs : List ℕ) → 0 < n → test x ≡ false → up_to n test (x ∷ xs) ≡ x ∷ up_to n test xs
  unfolding up_to
  up_to_miss zero x xs l e = absurd (omega arith)
  up_to_miss (suc n) x xs l e = rw e

  -- all, if no more are wanted than there are
  pub up_to_all : (n : ℕ) (ids : List ℕ) → length ids ≤ n → up_to n test ids ≡ ids
  up_to_all n [] l = up_to_nil n
  up_to_all n (x ∷ xs) l =
      elim (split (test x)) [
        | inl e ↦ up_to_hit n x xs (omega arith) e ∙ ap (λ (t : List ℕ). x ∷ t) (up_to_all (n - 1) xs (omega arith))
        | inr e ↦ up_to_miss n x xs (omega arith) e ∙ ap (λ (t : List ℕ). x ∷ t) (up_to_all n xs (omega arith))
      ]

  -- up to the first
  pub up_to_one : (ids : List ℕ) → up_to 1 test ids ≡ up_to_first test ids
  unfolding up_to up_to_first
  up_to_one [] = refl
  up_to_one (x ∷ xs) = rw (up_to_one xs)

  -- whether any passes is seen by the first that does
  pub first_decides : (ids : List ℕ) → not (eqb (length (filter test (up_to_first test ids))) 0) ≡ any test ids
  unfolding any filter up_to_first
  first_decides [] = refl
  first_decides (x ∷ xs) = elim (split (test x)) [ inl e ↦ rw e | inr e ↦ rw e (first_decides xs) ]

-- ---- ids from a place on

pub visited_none : (subset : Subset) (start n : ℕ) → n ≡ 0 → visited subset start n ≡ []
unfolding visited
visited_none subset start n e = rw e

pub length_visited : (subset : Subset) (start k : ℕ) → start + k ≤ size subset → length (visited subset start k) ≡ k
unfolding visited
length_visited subset start k l = length-take k (drop start (members subset)) ∙ ap (min k) (length-drop start (members subset)) ∙ let n = length_members subset in omega arith

pub visited_all : (subset : Subset) → visited subset 0 (size subset) ≡ members subset
unfolding visited
visited_all subset = take_all (size subset) (members subset) (omega (arith, length_members subset))

-- they end with the subset
pub visited_end : (subset : Subset) (start n : ℕ) → visited subset start (min n (size subset - start)) ≡ visited subset start n
unfolding visited
visited_end subset start n =
    let l = drop start (members subset) in
    let e : length l ≡ size subset - start = length-drop start (members subset) ∙ ap (λ (m : ℕ). m - start) (length_members subset) in
    elim (dec_lt n (size subset - start)) [
      | yes q ↦ let m : min n (size subset - start) ≡ n = omega arith in ap (λ (i : ℕ). take i l) m
      | no q ↦
          let m : min n (size subset - start) ≡ size subset - start = omega arith in
          ap (λ (i : ℕ). take i l) m ∙ take_all (size subset - start) l (omega arith) ∙ sym (take_all n l (omega arith))
    ]

module _ (subset : Subset) (start k : ℕ) (l : start + k < size subset) where
  -- one more at the end
  pub visited_more : visited subset start (k + 1) ≡ visited subset start k ++ (get_or (members subset) (start + k) 0 ∷ [])
  unfolding visited
  visited_more =
      let from = drop start (members subset) in
      let here : get_or from k 0 ≡ get_or (members subset) (start + k) 0 = get_or-drop start (members subset) k 0 in
      let inside : k < length from = rw (length-drop start (members subset), length_members subset) (omega arith) in
      rw (add-one k, ← here) (take-suc from k 0 inside)

-- the first of those that are left
pub visited_first : (subset : Subset) (next end : ℕ) → next < end → end ≤ size subset
    → visited subset next (end - next) ≡ get_or (members subset) next 0 ∷ visited subset (next + 1) (end - (next + 1))
unfolding visited
visited_first subset next end l m =
    let k : end - next ≡ suc (end - (next + 1)) = omega arith in
    let d : drop next (members subset) ≡ get_or (members subset) next 0 ∷ drop (suc next) (members subset) = drop-cons (members subset) next 0 (omega (arith, length_members subset)) in
    rw (k, d, add-one next)

pub kept_few : (subset : Subset) (test : ℕ → Bool) (start k : ℕ) → length (filter test (visited subset start k)) ≤ k
unfolding visited
kept_few subset test start k =
    let l = take k (drop start (members subset)) in
    let a = length_filter test l in
    let b = count_le test l in
    let c : length l ≤ k = rw (length-take k (drop start (members subset))) (omega arith) in
    omega arith

pub dead_more : (h : Header) (rows : List ℕ) (xs ys : List ℕ) → dead_among h rows (xs ++ ys) ≡ dead_among h rows xs + dead_among h rows ys
unfolding dead_among
dead_more h rows xs ys = count_append _ xs ys

pub dead_few : (h : Header) (rows ids : List ℕ) → dead_among h rows ids ≤ length ids
unfolding dead_among
dead_few h rows ids = count_le _ ids
