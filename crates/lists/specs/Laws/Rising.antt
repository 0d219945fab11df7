-- Laws of rising lists of numbers: consecutive numbers, members, and the result of a search. Assumes nothing.
use Rattle.std.specs.Prelude.{◌+◌, ◌-◌, ◌≤◌, ◌<◌, ◌≡◌, ◌⊎◌, ◌&&◌, ◌||◌, ◌∷◌, ◌++◌}
use Rattle.lists.specs.Laws.Prelude.{ℕ, zero, suc, min, max, suc-le-suc, refl, sym, ap, ap₂, ◌∙◌, inl, inr, Bool, true, false, and_assoc, and_comm, and-true, and-false, or_assoc, false≢true, List, [], zero-add, add-zero, suc-add, add-suc, sub-zero, suc-sub-suc, dec_lt, ℕ_discrete, add-one, arith, leb, ltb, eqb, length, take, drop, get_or, ltb-true, leb-true, eqb-true, lt-ltb, le-ltb, le-leb, lt-leb, eq-eqb, ne_eqb}
use Rattle.lists.specs.Lists.{filter, count, iota, above, rising, elem, within, same}
use Rattle.lists.specs.Laws.Filter.{split, and_left, and_right, filter_yes, filter_no, count_yes, count_no}

-- two Booleans are equal if each implies the other
pub bool_ext : (a b : Bool) → (a ≡ true → b ≡ true) → (b ≡ true → a ≡ true) → a ≡ b
bool_ext true true f g = refl
bool_ext true false f g = sym (f refl)
bool_ext false true f g = g refl
bool_ext false false f g = refl

pub within_of : (a b x : ℕ) → a ≤ x → x < b → within a b x ≡ true
unfolding within
within_of a b x h k = rw (le-leb a x h, lt-ltb x b k)

pub within_low : (a b x : ℕ) → within a b x ≡ true → a ≤ x
unfolding within
within_low a b x e = leb-true a x (and_left _ _ e)

pub within_high : (a b x : ℕ) → within a b x ≡ true → x < b
unfolding within
within_high a b x e = ltb-true x b (and_right (leb a x) _ e)

pub within_below : (a b x : ℕ) → x < a → within a b x ≡ false
unfolding within
within_below a b x h = rw (lt-leb a x h)

pub within_past : (a b x : ℕ) → b ≤ x → within a b x ≡ false
unfolding within
within_past a b x h = rw (le-ltb x b h) (and-false (leb a x))

-- ---- consecutive numbers

pub length_iota : (s n : ℕ) → length (iota s n) ≡ n
unfolding iota
length_iota s zero = refl
length_iota s (suc n) = ap suc (length_iota (suc s) n)

pub get_d_iota : (s n i d : ℕ) → i < n → get_or (iota s n) i d ≡ s + i
unfolding iota
get_d_iota s zero i d h = absurd (omega arith)
get_d_iota s (suc n) zero d h = sym (add-zero s)
get_d_iota s (suc n) (suc i) d h = get_d_iota (suc s) n i d (omega arith) ∙ omega arith

pub iota_append : (s n m : ℕ) → iota s (n + m) ≡ iota s n ++ iota (s + n) m
unfolding iota
iota_append s zero m = rw (zero-add, add-zero)
iota_append s (suc n) m = rw (suc-add n m, iota_append (suc s) n m, suc-add s n, add-suc s n)

pub iota_snoc : (s n : ℕ) → iota s (n + 1) ≡ iota s n ++ ((s + n) ∷ [])
unfolding iota
iota_snoc s n = iota_append s n 1

-- ---- above and rising

pub above_head : (x y : ℕ) (ys : List ℕ) → above x (y ∷ ys) ≡ true → x < y
unfolding above
above_head x y ys e = ltb-true x y (and_left _ _ e)

pub above_tail : (x y : ℕ) (ys : List ℕ) → above x (y ∷ ys) ≡ true → above y ys ≡ true
unfolding above
above_tail x y ys e = and_right (ltb x y) _ e

pub above_cons : (x y : ℕ) (ys : List ℕ) → x < y → above y ys ≡ true → above x (y ∷ ys) ≡ true
unfolding above
above_cons x y ys h e = rw (lt-ltb x y h, e)

above_past : (x y : ℕ) (ys : List ℕ) → x < y → above x (y ∷ ys) ≡ above y ys
unfolding above
above_past x y ys h = rw (lt-ltb x y h)

pub above_rising : (x : ℕ) (l : List ℕ) → above x l ≡ true → rising l ≡ true
unfolding rising
above_rising x [] e = refl
above_rising x (y ∷ ys) e = above_tail x y ys e

pub above_weaker : (z x : ℕ) (l : List ℕ) → z ≤ x → above x l ≡ true → above z l ≡ true
above_weaker z x [] h e = unfold above in refl
above_weaker z x (y ∷ ys) h e = above_cons z y ys (omega (arith, above_head x y ys e)) (above_tail x y ys e)

pub rising_tail : (x : ℕ) (xs : List ℕ) → rising (x ∷ xs) ≡ true → rising xs ≡ true
unfolding rising
rising_tail x xs e = above_rising x xs e

-- what is above x remains above x without its first element
above_rest : (x y : ℕ) (ys : List ℕ) → above x (y ∷ ys) ≡ true → above x ys ≡ true
above_rest x y ys e = above_weaker x y ys (omega (arith, above_head x y ys e)) (above_tail x y ys e)

pub above_filter : (test : ℕ → Bool) (x : ℕ) (l : List ℕ) → above x l ≡ true → above x (filter test l) ≡ true
unfolding filter
above_filter test x [] e = e
above_filter test x (y ∷ ys) e =
    let h = above_filter test y ys (above_tail x y ys e) in
    let k = above_filter test x ys (above_rest x y ys e) in
    elim (split (test y)) [ inl q ↦ rw q (above_cons x y (filter test ys) (above_head x y ys e) h) | inr q ↦ rw q k ]

pub rising_filter : (test : ℕ → Bool) (l : List ℕ) → rising l ≡ true → rising (filter test l) ≡ true
unfolding filter rising
rising_filter test [] e = refl
rising_filter test (x ∷ xs) e =
    let h = above_filter test x xs e in
    elim (split (test x)) [ inl q ↦ rw q h | inr q ↦ rw q (above_rising x (filter test xs) h) ]

above_iota : (x s n : ℕ) → x < s → above x (iota s n) ≡ true
unfolding iota
above_iota x s zero h = unfold above in refl
above_iota x s (suc n) h = above_cons x s (iota (suc s) n) h (above_iota s (suc s) n (omega arith))

pub rising_iota : (s n : ℕ) → rising (iota s n) ≡ true
unfolding rising iota
rising_iota s zero = refl
rising_iota s (suc n) = above_iota s (suc s) n (omega arith)

pub above_at : (x : ℕ) (l : List ℕ) → above x l ≡ true → (i : ℕ) → i < length l → x < get_or l i 0
above_at x [] e i h = absurd (omega arith)
above_at x (y ∷ ys) e zero h = above_head x y ys e
above_at x (y ∷ ys) e (suc i) h = above_at x ys (above_rest x y ys e) i (omega arith)

-- a later position has a larger number
pub rising_at : (l : List ℕ) → rising l ≡ true → (i j : ℕ) → i < j → j < length l → get_or l i 0 < get_or l j 0
rising_at [] e i j h k = absurd (omega arith)
rising_at (x ∷ xs) e i zero h k = absurd (omega arith)
rising_at (x ∷ xs) e zero (suc j) h k = above_at x xs (unfold rising in e) j (omega arith)
rising_at (x ∷ xs) e (suc i) (suc j) h k = rising_at xs (rising_tail x xs e) i j (omega arith) (omega arith)

rising_of_suc : (l : List ℕ) → ((i : ℕ) → suc i < length l → get_or l i 0 < get_or l (suc i) 0) → rising l ≡ true
unfolding rising
rising_of_suc [] f = refl
rising_of_suc (x ∷ []) f = unfold above in refl
rising_of_suc (x ∷ y ∷ ys) f = above_cons x y ys (f 0 (omega arith)) (rising_of_suc (y ∷ ys) (λ i h. f (suc i) (suc-le-suc h)))

-- comparing neighbours is sufficient
pub rising_of : (l : List ℕ) → ((i : ℕ) → i + 1 < length l → get_or l i 0 < get_or l (i + 1) 0) → rising l ≡ true
rising_of l f = rising_of_suc l (λ i h. rw add-one at (f i (omega arith)))

above_take : (n x : ℕ) (l : List ℕ) → above x l ≡ true → above x (take n l) ≡ true
above_take zero x l e = unfold above in refl
above_take (suc n) x [] e = e
above_take (suc n) x (y ∷ ys) e = above_cons x y (take n ys) (above_head x y ys e) (above_take n y ys (above_tail x y ys e))

pub rising_take : (n : ℕ) (l : List ℕ) → rising l ≡ true → rising (take n l) ≡ true
unfolding rising
rising_take zero l e = refl
rising_take (suc n) [] e = refl
rising_take (suc n) (x ∷ xs) e = above_take n x xs e

pub rising_drop : (n : ℕ) (l : List ℕ) → rising l ≡ true → rising (drop n l) ≡ true
rising_drop zero l e = e
rising_drop (suc n) [] e = e
rising_drop (suc n) (x ∷ xs) e = rising_drop n xs (rising_tail x xs e)

rising_take_suc : (n : ℕ) (l : List ℕ) → suc n < length l → rising (take (suc (suc n)) l) ≡ (rising (take (suc n) l) && ltb (get_or l n 0) (get_or l (suc n) 0))
unfolding rising above
rising_take_suc n [] h = absurd (omega arith)
rising_take_suc n (x ∷ []) h = absurd (omega arith)
rising_take_suc zero (x ∷ y ∷ ys) h = and-true (ltb x y)
rising_take_suc (suc n) (x ∷ y ∷ ys) h =
    ap (λ (b : Bool). ltb x y && b) (rising_take_suc n (y ∷ ys) (omega arith)) ∙ sym (and_assoc (ltb x y) (rising (take (suc n) (y ∷ ys))) _)

-- one more number
pub rising_take_more : (i : ℕ) (l : List ℕ) → 1 ≤ i → i < length l → rising (take (i + 1) l) ≡ (rising (take i l) && ltb (get_or l (i - 1) 0) (get_or l i 0))
rising_take_more zero l o h = absurd (omega arith)
rising_take_more (suc n) l o h = rw add-one (let z : suc n - 1 ≡ n = omega arith in rw z (rising_take_suc n l h))

pub rising_take_one : (l : List ℕ) → rising (take 1 l) ≡ true
unfolding rising above
rising_take_one [] = refl
rising_take_one (x ∷ xs) = refl

rising_past_suc : (n : ℕ) (l : List ℕ) → n < length l → rising (take (suc n) l) ≡ true → rising l ≡ rising (drop n l)
unfolding rising
rising_past_suc zero l h e = refl
rising_past_suc (suc n) [] h e = absurd (omega arith)
rising_past_suc (suc n) (x ∷ []) h e = absurd (omega arith)
rising_past_suc (suc n) (x ∷ y ∷ ys) h e = above_past x y ys (above_head x y (take n ys) e) ∙ rising_past_suc n (y ∷ ys) (omega arith) (above_tail x y (take n ys) e)

-- two parts that share the number at position n: if the first rises, the whole rises exactly if the second does
pub rising_past : (n : ℕ) (l : List ℕ) → n < length l → rising (take (n + 1) l) ≡ true → rising l ≡ rising (drop n l)
rising_past n l h e = rising_past_suc n l h (rw add-one at e)

-- ---- members

pub elem_here : (x y : ℕ) (ys : List ℕ) → x ≡ y → elem x (y ∷ ys) ≡ true
unfolding elem
elem_here x y ys e = rw (eq-eqb x y e)

pub elem_there : (x y : ℕ) (ys : List ℕ) → (x ≡ y → ⊥) → elem x (y ∷ ys) ≡ elem x ys
unfolding elem
elem_there x y ys h = rw (ne_eqb x y h)

-- the position of a member
pub elem_at : (x : ℕ) (l : List ℕ) → elem x l ≡ true → (i : ℕ) × (i < length l) × (get_or l i 0 ≡ x)
unfolding elem
elem_at x [] e = absurd (false≢true e)
elem_at x (y ∷ ys) e = go (elem_at x ys)
  where
    go : (elem x ys ≡ true → (i : ℕ) × (i < length ys) × (get_or ys i 0 ≡ x)) → (i : ℕ) × (i < suc (length ys)) × (get_or (y ∷ ys) i 0 ≡ x)
    go f =
        elim (ℕ_discrete x y) [
          | yes p ↦ (0, omega arith, sym p)
          | no p ↦ let t = f (sym (elem_there x y ys p) ∙ e) in (suc t.0, suc-le-suc t.1, t.2)
        ]

pub elem_of : (l : List ℕ) (i : ℕ) → i < length l → elem (get_or l i 0) l ≡ true
elem_of [] i h = absurd (omega arith)
elem_of (x ∷ xs) zero h = elem_here x x xs refl
elem_of (x ∷ xs) (suc i) h =
    let t = elem_of xs i (omega arith) in
    elim (ℕ_discrete (get_or xs i 0) x) [ yes p ↦ elem_here (get_or xs i 0) x xs p | no p ↦ elem_there (get_or xs i 0) x xs p ∙ t ]

pub elem_append : (x : ℕ) (xs ys : List ℕ) → elem x (xs ++ ys) ≡ (elem x xs || elem x ys)
unfolding elem
elem_append x [] ys = refl
elem_append x (y ∷ xs) ys = rw (elem_append x xs ys) (sym (or_assoc (eqb x y) (elem x xs) (elem x ys)))

pub elem_filter : (t : ℕ → Bool) (x : ℕ) (l : List ℕ) → elem x (filter t l) ≡ (elem x l && t x)
elem_filter t x [] = unfold filter elem in refl
elem_filter t x (y ∷ ys) = go (elem_filter t x ys) (split (t y)) (ℕ_discrete x y)
  where
    go : elem x (filter t ys) ≡ (elem x ys && t x) → (t y ≡ true) ⊎ (t y ≡ false) → Dec (x ≡ y) → elem x (filter t (y ∷ ys)) ≡ (elem x (y ∷ ys) && t x)
    go h (inl q) (yes p) = rw (filter_yes t y ys q, elem_here x y (filter t ys) p, elem_here x y ys p) (sym (ap t p ∙ q))
    go h (inl q) (no p) = rw (filter_yes t y ys q, elem_there x y (filter t ys) p, elem_there x y ys p) h
    go h (inr q) (yes p) = let r : t x ≡ false = ap t p ∙ q in rw (filter_no t y ys q, h, elem_here x y ys p, r) (and-false (elem x ys))
    go h (inr q) (no p) = rw (filter_no t y ys q, elem_there x y ys p) h

pub elem_iota : (x s n : ℕ) → elem x (iota s n) ≡ within s (s + n) x
unfolding iota
elem_iota x s zero = unfold elem in bool_ext false (within s (s + 0) x) (λ e. absurd (false≢true e)) (λ e. absurd (omega (arith, within_low s (s + 0) x e, within_high s (s + 0) x e)))
elem_iota x s (suc n) = go (elem_iota x (suc s) n) (ℕ_discrete x s)
  where
    go : elem x (iota (suc s) n) ≡ within (suc s) (suc s + n) x → Dec (x ≡ s) → elem x (s ∷ iota (suc s) n) ≡ within s (s + suc n) x
    go h (yes p) = elem_here x s (iota (suc s) n) p ∙ sym (within_of s (s + suc n) x (omega arith) (omega arith))
    go h (no p) =
        elem_there x s (iota (suc s) n) p
        ∙ h
        ∙ bool_ext (within (suc s) (suc s + n) x) (within s (s + suc n) x)
        (λ e.
        let a = within_low (suc s) (suc s + n) x e in
        let b = within_high (suc s) (suc s + n) x e in
        within_of s (s + suc n) x (omega arith) (omega arith))
        (λ e.
        let a = within_low s (s + suc n) x e in
        let b = within_high s (s + suc n) x e in
        within_of (suc s) (suc s + n) x (omega arith) (omega arith))

-- a list above x has no member up to x
pub above_elem : (x : ℕ) (l : List ℕ) (z : ℕ) → above x l ≡ true → z ≤ x → elem z l ≡ false
above_elem x [] z e h = unfold elem in refl
above_elem x (y ∷ ys) z e h =
    let a = above_head x y ys e in
    elem_there z y ys (omega arith) ∙ above_elem x ys z (above_rest x y ys e) h

-- two rising lists with the same members are equal
pub rising_ext : (l m : List ℕ) → rising l ≡ true → rising m ≡ true → ((x : ℕ) → elem x l ≡ elem x m) → l ≡ m
rising_ext [] [] p q f = refl
rising_ext [] (y ∷ ys) p q f = absurd (false≢true (unfold elem in f y ∙ elem_here y y ys refl))
rising_ext (x ∷ xs) [] p q f = absurd (false≢true (unfold elem in sym (f x) ∙ elem_here x x xs refl))
rising_ext (x ∷ xs) (y ∷ ys) p q f =
    let a : above x xs ≡ true = unfold rising in p in
    let b : above y ys ≡ true = unfold rising in q in
    let e : x ≡ y = first a b in
    ap₂ (λ (z : ℕ) (zs : List ℕ). z ∷ zs) e (rising_ext xs ys (above_rising x xs a) (above_rising y ys b) (λ z. rest z e a b))
  where
    below : (l : List ℕ) (u v : ℕ) → above v l ≡ true → u < v → elem u (v ∷ l) ≡ false
    below l u v a h = elem_there u v l (omega arith) ∙ above_elem v l u a (omega arith)

    first : above x xs ≡ true → above y ys ≡ true → x ≡ y
    first a b =
        elim (dec_lt x y) [
          | yes h ↦ absurd (false≢true (sym (below ys x y b h) ∙ sym (f x) ∙ elem_here x x xs refl))
          | no h ↦ elim (dec_lt y x) [
            | yes k ↦ absurd (false≢true (sym (below xs y x a k) ∙ f y ∙ elem_here y y ys refl))
            | no k ↦ omega arith
          ]
        ]

    rest : (z : ℕ) → x ≡ y → above x xs ≡ true → above y ys ≡ true → elem z xs ≡ elem z ys
    rest z e a b =
        elim (ℕ_discrete z x) [
          | yes h ↦ above_elem x xs z a (omega arith) ∙ sym (above_elem y ys z b (omega arith))
          | no h ↦ sym (elem_there z x xs h) ∙ f z ∙ elem_there z y ys (omega arith)
        ]

-- intersection is commutative
pub filter_elem_comm : (l m : List ℕ) → rising l ≡ true → rising m ≡ true → filter (λ x. elem x m) l ≡ filter (λ x. elem x l) m
filter_elem_comm l m p q =
    rising_ext (filter (λ x. elem x m) l) (filter (λ x. elem x l) m) (rising_filter (λ x. elem x m) l p) (rising_filter (λ x. elem x l) m q)
    (λ x. elem_filter (λ x. elem x m) x l ∙ and_comm (elem x l) (elem x m) ∙ sym (elem_filter (λ x. elem x l) x m))

within_both : (a b c d x : ℕ) → (within a b x && within c d x) ≡ within (max a c) (max a c + (min b d - max a c)) x
within_both a b c d x =
    bool_ext _ _
    (λ e.
    let p = and_left (within a b x) (within c d x) e in
    let q = and_right (within a b x) (within c d x) e in
    let p₁ = within_low a b x p in
    let p₂ = within_high a b x p in
    let q₁ = within_low c d x q in
    let q₂ = within_high c d x q in
    within_of (max a c) (max a c + (min b d - max a c)) x (omega arith) (omega arith))
    (λ e.
    let p = within_low (max a c) (max a c + (min b d - max a c)) x e in
    let q = within_high (max a c) (max a c + (min b d - max a c)) x e in
    let u : within a b x ≡ true = within_of a b x (omega arith) (omega arith) in
    let v : within c d x ≡ true = within_of c d x (omega arith) (omega arith) in
    rw (u, v))

-- the intersection of two ranges is a range
pub filter_within_iota : (a n c d : ℕ) → filter (within c d) (iota a n) ≡ iota (max a c) (min (a + n) d - max a c)
filter_within_iota a n c d =
    rising_ext (filter (within c d) (iota a n)) (iota (max a c) (min (a + n) d - max a c))
    (rising_filter (within c d) (iota a n) (rising_iota a n))
    (rising_iota (max a c) (min (a + n) d - max a c))
    (λ x.
    elem_filter (within c d) x (iota a n)
    ∙ ap (λ (b : Bool). b && within c d x) (elem_iota x a n)
    ∙ within_both a (a + n) c d x
    ∙ sym (elem_iota x (max a c) (min (a + n) d - max a c)))

-- each step is at least one
pub rising_gap : (l : List ℕ) → rising l ≡ true → (i k : ℕ) → i + k < length l → get_or l i 0 + k ≤ get_or l (i + k) 0
rising_gap l e i zero h = simp add-zero (omega arith)
rising_gap l e i (suc k) h =
    let a = rising_gap l e i k (omega arith) in
    let b : get_or l (i + k) 0 < get_or l (i + suc k) 0 = rising_at l e (i + k) (i + suc k) (omega arith) (omega arith) in
    omega arith

-- ---- the result of a search

-- if exactly the first p are below t, their count is p
pub rising_count_lt : (l : List ℕ) (t p : ℕ) → p ≤ length l → ((i : ℕ) → i < p → get_or l i 0 < t) → ((i : ℕ) → p ≤ i → i < length l → t ≤ get_or l i 0)
    → count (λ x. ltb x t) l ≡ p
rising_count_lt [] t p h f g = unfold count in omega arith
rising_count_lt (x ∷ xs) t zero h f g =
    count_no (λ x. ltb x t) x xs (le-ltb x t (g 0 (omega arith) (omega arith)))
    ∙ rising_count_lt xs t zero (omega arith) (λ i k. absurd (omega arith)) (λ i k m. g (suc i) (omega arith) (suc-le-suc m))
rising_count_lt (x ∷ xs) t (suc p) h f g =
    count_yes (λ x. ltb x t) x xs (lt-ltb x t (f 0 (omega arith)))
    ∙ ap suc (rising_count_lt xs t p (omega arith) (λ i k. f (suc i) (suc-le-suc k)) (λ i k m. g (suc i) (suc-le-suc k) (suc-le-suc m)))

count_none : (x t : ℕ) (l : List ℕ) → above x l ≡ true → t ≤ x → count (λ y. ltb y t) l ≡ 0
count_none x t l e h = rising_count_lt l t 0 (omega arith) (λ i k. absurd (omega arith)) (λ i k m. let a = above_at x l e i m in omega arith)

-- the members within a range are those between two positions
pub filter_within_part : (l : List ℕ) (a b : ℕ) → rising l ≡ true → a ≤ b
    → filter (within a b) l ≡ take (count (λ x. ltb x b) l - count (λ x. ltb x a) l) (drop (count (λ x. ltb x a) l) l)
filter_within_part [] a b e h = unfold filter count in refl
filter_within_part (x ∷ xs) a b e h =
    let ih = filter_within_part xs a b (rising_tail x xs e) h in
    let up : above x xs ≡ true = unfold rising in e in
    elim (dec_lt x a) [
      | yes p ↦
          let q : x < b = omega arith in
          rw (filter_no (within a b) x xs (within_below a b x p), count_yes (λ y. ltb y b) x xs (lt-ltb x b q), count_yes (λ y. ltb y a) x xs (lt-ltb x a p), suc-sub-suc) ih
      | no p ↦
          let p' : a ≤ x = omega arith in
          let none = count_none x a xs up p' in
          elim (dec_lt x b) [
            | yes q ↦
                let ih' : filter (within a b) xs ≡ take (count (λ y. ltb y b) xs) xs = rw (none, sub-zero) at ih in
                rw (filter_yes (within a b) x xs (within_of a b x p' q), count_yes (λ y. ltb y b) x xs (lt-ltb x b q), count_no (λ y. ltb y a) x xs (le-ltb x a p'), none, sub-zero, ih')
            | no q ↦
                let q' : b ≤ x = omega arith in
                let none' = count_none x b xs up q' in
                let ih' : filter (within a b) xs ≡ [] = rw (none, none') at ih in
                rw (filter_no (within a b) x xs (within_past a b x q'), count_no (λ y. ltb y b) x xs (le-ltb x b q'), count_no (λ y. ltb y a) x xs (le-ltb x a p'), none, none', ih')
          ]
    ]

-- ---- equality as a test

pub same_refl : (l : List ℕ) → same l l ≡ true
unfolding same
same_refl [] = refl
same_refl (x ∷ xs) = rw (eq-eqb x x refl, same_refl xs)

pub same_eq : (l m : List ℕ) → same l m ≡ true → l ≡ m
unfolding same
same_eq [] [] e = refl
same_eq [] (y ∷ ys) e = absurd (false≢true e)
same_eq (x ∷ xs) [] e = absurd (false≢true e)
same_eq (x ∷ xs) (y ∷ ys) e = ap₂ (λ (z : ℕ) (zs : List ℕ). z ∷ zs) (eqb-true x y (and_left _ _ e)) (same_eq xs ys (and_right (eqb x y) _ e))

pub same_ne : (l m : List ℕ) → (l ≡ m → ⊥) → same l m ≡ false
same_ne l m h = elim (split (same l m)) [ inl e ↦ absurd (h (same_eq l m e)) | inr e ↦ e ]
