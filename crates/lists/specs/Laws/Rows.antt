-- Laws of the rows of a store, and of concatenated lists. Assumes nothing.
use Rattle.std.specs.Prelude.{◌+◌, ◌*◌, ◌≤◌, ◌<◌, ◌≡◌, ◌≢◌, ◌∷◌, ◌++◌}
use Rattle.lists.specs.Laws.Prelude.{ℕ, zero, suc, refl, sym, ap, ap₂, ◌∙◌, Bool, true, List, [], append_assoc, add_comm, zero-mul, suc-mul, mul-le-mul_right, dec_lt, ℕ_discrete, add-one, arith, eqb, length, take, drop, get_or, set, length-append, length-take, length-drop, length-set, take_at, take-add, take-take, take-set-le, take-set-lt, drop_at, drop-drop, drop-set-add, drop-set-lt, get_or-take, get_or-drop, get_or-set_same, get_or-set_other, ext_get_or, eqb-true, eq-eqb}
use Rattle.lists.specs.Lists.{splice, filter, all, row_at, rows_of, flatten}
use Rattle.lists.specs.Laws.Parts.{take_drop, take_splice, part_splice}
use Rattle.lists.specs.Laws.Filter.{and_left, and_right, all_filter_of}

-- a row below the count is inside the rows
pub row_in : (i n w : ℕ) → i < n → i * w + w ≤ n * w
row_in i n w h = rw (← suc-mul i w) (mul-le-mul_right w h)

module _ {A : Type 0} where
  -- each row has w cells
  abbrev pub widths : ℕ → List (List A) → Bool
  widths w rs = all (λ r. eqb (length r) w) rs

  pub length_rows_of : (w n : ℕ) (l : List A) → length (rows_of w n l) ≡ n
  unfolding rows_of
  length_rows_of w zero l = refl
  length_rows_of w (suc n) l = ap suc (length_rows_of w n (drop w l))

  -- row i + 1 of a store is row i of the store without its first row
  pub row_at_zero : (w : ℕ) (l : List A) → row_at w 0 l ≡ take w l
  unfolding row_at
  row_at_zero w l = rw zero-mul

  pub row_at_suc : (w i : ℕ) (l : List A) → row_at w (suc i) l ≡ row_at w i (drop w l)
  unfolding row_at
  row_at_suc w i l = rw (suc-mul, drop-drop, add_comm w (i * w))

  pub get_d_rows_of : (w n : ℕ) (l : List A) (i : ℕ) → i < n → get_or (rows_of w n l) i [] ≡ row_at w i l
  unfolding rows_of
  get_d_rows_of w zero l i h = absurd (omega arith)
  get_d_rows_of w (suc n) l zero h = sym (row_at_zero w l)
  get_d_rows_of w (suc n) l (suc i) h = get_d_rows_of w n (drop w l) i (omega arith) ∙ sym (row_at_suc w i l)

  pub rows_of_take : (w n : ℕ) (l : List A) (i : ℕ) → i ≤ n → take i (rows_of w n l) ≡ rows_of w i l
  unfolding rows_of
  rows_of_take w n l zero h = refl
  rows_of_take w zero l (suc i) h = absurd (omega arith)
  rows_of_take w (suc n) l (suc i) h = ap (λ (rest : List (List A)). take w l ∷ rest) (rows_of_take w n (drop w l) i (omega arith))

  pub length_row_at : (w i : ℕ) (l : List A) → (i + 1) * w ≤ length l → length (row_at w i l) ≡ w
  unfolding row_at
  length_row_at w i l h =
      let k : i * w + w ≤ length l = rw (add-one, suc-mul) at h in
      simp (length-take, length-drop) (omega arith)

  pub get_d_row_at : (w i : ℕ) (l : List A) (j : ℕ) (d : A) → j < w → get_or (row_at w i l) j d ≡ get_or l (i * w + j) d
  unfolding row_at
  get_d_row_at w i l j d h = get_or-take w (drop (i * w) l) j d h ∙ get_or-drop (i * w) l j d

  rows_of_suc : (w n : ℕ) (l : List A) → rows_of w (suc n) l ≡ rows_of w n l ++ (row_at w n l ∷ [])
  unfolding rows_of
  rows_of_suc w zero l = rw row_at_zero
  rows_of_suc w (suc n) l = rw row_at_suc (ap (λ (r : List (List A)). take w l ∷ r) (rows_of_suc w n (drop w l)))

  -- one more row
  pub rows_of_snoc : (w n : ℕ) (l : List A) → rows_of w (n + 1) l ≡ rows_of w n l ++ (row_at w n l ∷ [])
  rows_of_snoc w n l = rw add-one (rows_of_suc w n l)

  -- stores with the same prefix have the same rows there
  pub rows_of_same : (w n : ℕ) (l m : List A) → take (n * w) l ≡ take (n * w) m → rows_of w n l ≡ rows_of w n m
  unfolding rows_of
  rows_of_same w zero l m e = refl
  rows_of_same w (suc n) l m e =
      let k : w ≤ w + n * w = omega arith in
      let f : take (w + n * w) l ≡ take (w + n * w) m = rw (suc-mul, add_comm (n * w) w) at e in
      ap₂ (λ (r : List A) (rs : List (List A)). r ∷ rs)
      (sym (take-take w (w + n * w) l k) ∙ ap (take w) f ∙ take-take w (w + n * w) m k)
      (rows_of_same w n (drop w l) (drop w m) (take_drop w (n * w) l ∙ ap (drop w) f ∙ sym (take_drop w (n * w) m)))

  -- a write past the rows
  pub rows_of_before : (w n : ℕ) (l v : List A) (at : ℕ) → n * w ≤ at → at + length v ≤ length l → rows_of w n (splice l at v) ≡ rows_of w n l
  rows_of_before w n l v at h k = rows_of_same w n (splice l at v) l (take_splice l v at k (n * w) h)

  -- a row written right after the rows
  pub rows_of_appended : (w n : ℕ) (l row : List A) → length row ≡ w → (n + 1) * w ≤ length l
      → rows_of w (n + 1) (splice l (n * w) row) ≡ rows_of w n l ++ (row ∷ [])
  unfolding row_at
  rows_of_appended w n l row e h =
      let k : n * w + w ≤ length l = rw (add-one, suc-mul) at h in
      let f : n * w + length row ≤ length l = omega arith in
      let p : n * w ≤ n * w = omega arith in
      let q : take w (drop (n * w) (splice l (n * w) row)) ≡ row = ap (λ (k : ℕ). take k (drop (n * w) (splice l (n * w) row))) (sym e) ∙ part_splice l row (n * w) f in
      rows_of_snoc w n (splice l (n * w) row)
      ∙ ap₂ (λ (rs : List (List A)) (r : List A). rs ++ (r ∷ [])) (rows_of_before w n l row (n * w) p f) q

  -- writing a cell changes its row only
  pub row_at_set_same : (w i j : ℕ) (l : List A) (v : A) → j < w → row_at w i (set l (i * w + j) v) ≡ set (row_at w i l) j v
  unfolding row_at
  row_at_set_same w i j l v h = ap (take w) (drop-set-add (i * w) l j v) ∙ take-set-lt w (drop (i * w) l) j v h

  pub row_at_set_other : (w i k j : ℕ) (l : List A) (v : A) → i ≢ k → j < w → row_at w k (set l (i * w + j) v) ≡ row_at w k l
  row_at_set_other w i k j l v ne h = elim (dec_lt k i) [ yes p ↦ below p | no p ↦ past (omega arith) ]
    where
      below : k < i → row_at w k (set l (i * w + j) v) ≡ row_at w k l
      below p =
          let q : k * w + w ≤ i * w + j = omega (arith, row_in k i w p) in
          unfold row_at in
          take_drop (k * w) w (set l (i * w + j) v) ∙ ap (drop (k * w)) (take-set-le (k * w + w) l (i * w + j) v q) ∙ sym (take_drop (k * w) w l)

      past : i < k → row_at w k (set l (i * w + j) v) ≡ row_at w k l
      past p =
          let q : i * w + j < k * w = omega (arith, row_in i k w p) in
          unfold row_at in ap (take w) (drop-set-lt (k * w) l (i * w + j) v q)

  pub rows_of_set : (w n i j : ℕ) (l : List A) (v : A) → i < n → j < w → rows_of w n (set l (i * w + j) v) ≡ set (rows_of w n l) i (set (row_at w i l) j v)
  rows_of_set w n i j l v h k =
      ext_get_or [] (rows_of w n (set l (i * w + j) v)) (set (rows_of w n l) i (set (row_at w i l) j v)) (simp (length_rows_of, length-set)) each
    where
      each : (m : ℕ) → m < length (rows_of w n (set l (i * w + j) v))
          → get_or (rows_of w n (set l (i * w + j) v)) m [] ≡ get_or (set (rows_of w n l) i (set (row_at w i l) j v)) m []
      each m p =
          let q : m < n = omega (arith, length_rows_of w n (set l (i * w + j) v)) in
          let b : i < length (rows_of w n l) = simp length_rows_of h in
          get_d_rows_of w n (set l (i * w + j) v) m q
          ∙ elim (ℕ_discrete i m) [
            | yes e ↦ rw (← e) (row_at_set_same w i j l v k ∙ sym (get_or-set_same (rows_of w n l) i _ [] b))
            | no e ↦ row_at_set_other w i m j l v e k ∙ sym (get_d_rows_of w n l m q) ∙ sym (get_or-set_other (rows_of w n l) i m _ [] (omega arith))
          ]

  pub length_flatten : (w : ℕ) (rs : List (List A)) → widths w rs ≡ true → length (flatten rs) ≡ length rs * w
  unfolding all flatten
  length_flatten w [] q = sym (zero-mul w)
  length_flatten w (r ∷ rs) q =
      let a : length r ≡ w = eqb-true _ _ (and_left _ _ q) in
      let b = length_flatten w rs (and_right (eqb (length r) w) _ q) in
      rw (length-append, suc-mul) (omega arith)

  pub rows_of_widths : (w n : ℕ) (l : List A) → n * w ≤ length l → widths w (rows_of w n l) ≡ true
  unfolding all rows_of
  rows_of_widths w zero l h = refl
  rows_of_widths w (suc n) l h =
      let k : n * w + w ≤ length l = rw suc-mul at h in
      let a : length (take w l) ≡ w = simp length-take (omega arith) in
      let b : n * w ≤ length (drop w l) = simp length-drop (omega arith) in
      rw (eq-eqb _ _ a, rows_of_widths w n (drop w l) b)

  pub widths_filter : (w : ℕ) (t : List A → Bool) (rs : List (List A)) → widths w rs ≡ true → widths w (filter t rs) ≡ true
  widths_filter w t rs q = all_filter_of (λ r. eqb (length r) w) t rs q

  -- concatenated rows are read back unchanged
  pub rows_of_flatten : (w : ℕ) (rs : List (List A)) → widths w rs ≡ true → (rest : List A) → rows_of w (length rs) (flatten rs ++ rest) ≡ rs
  unfolding all flatten rows_of
  rows_of_flatten w [] q rest = refl
  rows_of_flatten w (r ∷ rs) q rest =
      let a : length r ≡ w = eqb-true _ _ (and_left _ _ q) in
      let b = rows_of_flatten w rs (and_right (eqb (length r) w) _ q) rest in
      rw (append_assoc, take_at r (flatten rs ++ rest) w a, drop_at r (flatten rs ++ rest) w a, b)

  pub rows_of_put_flatten : (w : ℕ) (rs : List (List A)) (l : List A) → widths w rs ≡ true → rows_of w (length rs) (splice l 0 (flatten rs)) ≡ rs
  unfolding splice
  rows_of_put_flatten w rs l q = rows_of_flatten w rs q (drop (0 + length (flatten rs)) l)

  pub flatten_rows_of : (w n : ℕ) (l : List A) → flatten (rows_of w n l) ≡ take (n * w) l
  unfolding flatten rows_of
  flatten_rows_of w zero l = rw zero-mul
  flatten_rows_of w (suc n) l = ap (λ (x : List A). take w l ++ x) (flatten_rows_of w n (drop w l)) ∙ sym (rw (suc-mul, add_comm (n * w) w) (take-add w (n * w) l))

  pub flatten_append : (rs ss : List (List A)) → flatten (rs ++ ss) ≡ flatten rs ++ flatten ss
  unfolding flatten
  flatten_append [] ss = refl
  flatten_append (r ∷ rs) ss = rw (flatten_append rs ss, append_assoc)
