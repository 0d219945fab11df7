-- Laws of a list whose first elements are mapped. Assumes nothing.
use Rattle.std.specs.Prelude.{◌+◌, ◌≤◌, ◌<◌, ◌≡◌, ◌∷◌}
use Rattle.lists.specs.Laws.Prelude.{ℕ, zero, suc, refl, ap, List, [], add-one, arith, length, drop, get_or, set}
use Rattle.lists.specs.inner.Searching.{map_front}

module _ {A : Type 0} where
  module _ (f : A → A) where
    pub length_map_front : (n : ℕ) (l : List A) → length (map_front f n l) ≡ length l
    unfolding map_front
    length_map_front zero l = refl
    length_map_front (suc n) [] = refl
    length_map_front (suc n) (x ∷ xs) = ap suc (length_map_front n xs)

    -- an element that is mapped, and one that is not
    pub get_d_map_front : (n : ℕ) (l : List A) (i : ℕ) (d : A) → i < n → i < length l → get_or (map_front f n l) i d ≡ f (get_or l i d)
    unfolding map_front
    get_d_map_front zero l i d h k = absurd (omega arith)
    get_d_map_front (suc n) [] i d h k = absurd (omega arith)
    get_d_map_front (suc n) (x ∷ xs) zero d h k = refl
    get_d_map_front (suc n) (x ∷ xs) (suc i) d h k = get_d_map_front n xs i d (omega arith) (omega arith)

    pub get_d_map_front_past : (n : ℕ) (l : List A) (i : ℕ) (d : A) → n ≤ i → get_or (map_front f n l) i d ≡ get_or l i d
    unfolding map_front
    get_d_map_front_past zero l i d h = refl
    get_d_map_front_past (suc n) [] i d h = refl
    get_d_map_front_past (suc n) (x ∷ xs) zero d h = absurd (omega arith)
    get_d_map_front_past (suc n) (x ∷ xs) (suc i) d h = get_d_map_front_past n xs i d (omega arith)

    pub drop_map_front : (n : ℕ) (l : List A) → drop n (map_front f n l) ≡ drop n l
    unfolding map_front
    drop_map_front zero l = refl
    drop_map_front (suc n) [] = refl
    drop_map_front (suc n) (x ∷ xs) = drop_map_front n xs

    -- one more element is mapped
    suc_map_front : (n : ℕ) (l : List A) (d : A) → n < length l → set (map_front f n l) n (f (get_or l n d)) ≡ map_front f (suc n) l
    unfolding map_front
    suc_map_front n [] d h = absurd (omega arith)
    suc_map_front zero (x ∷ xs) d h = refl
    suc_map_front (suc n) (x ∷ xs) d h = ap (λ (r : List A). f x ∷ r) (suc_map_front n xs d (omega arith))

    pub map_front_step : (n : ℕ) (l : List A) (d : A) → n < length l → set (map_front f n l) n (f (get_or (map_front f n l) n d)) ≡ map_front f (n + 1) l
    map_front_step n l d h =
        let k : n ≤ n = omega arith in
        rw (add-one, get_d_map_front_past n l n d k) (suc_map_front n l d h)
