-- Laws of overwriting a part of a list. Assumes nothing.
use Rattle.std.specs.Prelude.{◌+◌, ◌-◌, ◌≤◌, ◌<◌, ◌≡◌, ◌∷◌, ◌++◌}
use Rattle.lists.specs.Laws.Prelude.{ℕ, zero, suc, refl, sym, ap, ap₂, ◌∙◌, List, [], append_assoc, append-nil, add-zero, zero-add, suc-add, add-one, arith, length, take, drop, get_or, set, length-append, length-take, length-drop, length-set, take-append-drop, drop_of_length-le, take_all, take-append-le, take_at, drop-append-add, drop_at, drop-drop, take-take, take-nil, get_or-take, get_or-drop, set_split, put_mid}
use Rattle.lists.specs.Lists.{splice}

module _ {A : Type 0} where
  -- `take` and `drop` exchanged
  pub take_drop : (n m : ℕ) (l : List A) → take m (drop n l) ≡ drop n (take (n + m) l)
  take_drop zero m l = rw zero-add
  take_drop (suc n) m [] = take-nil m ∙ sym (ap (drop (suc n)) (take-nil (suc n + m)))
  take_drop (suc n) m (x ∷ xs) = rw suc-add (take_drop n m xs)

  -- the width of a borrowed part
  pub part_width : (l : List A) (at width : ℕ) → take (at + width - at) (drop at l) ≡ take width (drop at l)
  part_width l at width = let e : at + width - at ≡ width = omega arith in rw e

  module _ (l w : List A) (at : ℕ) (fits : at + length w ≤ length l) where
    head_length : length (take at l) ≡ at
    head_length = simp length-take (omega arith)

    -- overwriting preserves the length
    pub length_splice : length (splice l at w) ≡ length l
    unfolding splice
    length_splice = simp (length-append, length-take, length-drop) (omega arith)

    -- the elements before the part, in it, and after it
    pub take_splice : (n : ℕ) → n ≤ at → take n (splice l at w) ≡ take n l
    unfolding splice
    take_splice n h =
        let k : n ≤ length (take at l) = simp length-take (omega arith) in
        take-append-le n (take at l) _ k ∙ take-take n at l h

    pub drop_splice : (n : ℕ) → at + length w ≤ n → drop n (splice l at w) ≡ drop n l
    unfolding splice
    drop_splice n h =
        let e : n ≡ length (take at l) + (length w + (n - (at + length w))) = omega (arith, head_length) in
        let f : at + length w + (n - (at + length w)) ≡ n = omega arith in
        ap (λ (k : ℕ). drop k (take at l ++ (w ++ drop (at + length w) l))) e
        ∙ drop-append-add (take at l) _ _
        ∙ drop-append-add w _ _
        ∙ drop-drop _ (at + length w) l
        ∙ ap (λ (k : ℕ). drop k l) f

    pub part_splice : take (length w) (drop at (splice l at w)) ≡ w
    unfolding splice
    part_splice = ap (take (length w)) (drop_at (take at l) _ at head_length) ∙ take_at w _ (length w) refl

    pub get_d_splice_in : (i : ℕ) (d : A) → i < length w → get_or (splice l at w) (at + i) d ≡ get_or w i d
    get_d_splice_in i d h =
        sym (get_or-drop at (splice l at w) i d)
        ∙ sym (get_or-take (length w) (drop at (splice l at w)) i d h)
        ∙ ap (λ (x : List A). get_or x i d) part_splice

    pub get_d_splice_after : (i : ℕ) (d : A) → at + length w ≤ i → get_or (splice l at w) i d ≡ get_or l i d
    get_d_splice_after i d h =
        let k : at + length w ≤ at + length w = omega arith in
        let e : i ≡ at + length w + (i - (at + length w)) = omega arith in
        rw e
        (sym (get_or-drop (at + length w) (splice l at w) (i - (at + length w)) d)
        ∙ ap (λ (x : List A). get_or x (i - (at + length w)) d) (drop_splice (at + length w) k)
        ∙ get_or-drop (at + length w) l (i - (at + length w)) d)

    -- m elements from position n on that end before the part, or begin after it
    pub part_before : (n m : ℕ) → n + m ≤ at → take m (drop n (splice l at w)) ≡ take m (drop n l)
    part_before n m h = take_drop n m (splice l at w) ∙ ap (drop n) (take_splice (n + m) h) ∙ sym (take_drop n m l)

    pub part_after : (n m : ℕ) → at + length w ≤ n → take m (drop n (splice l at w)) ≡ take m (drop n l)
    part_after n m h = ap (take m) (drop_splice n h)

    -- the elements before the part and in it
    pub front_splice : take (at + length w) (splice l at w) ≡ take at l ++ w
    unfolding splice
    front_splice =
        let k : length (take at l ++ w) ≡ at + length w = simp (length-append, length-take) (omega arith) in
        rw (← append_assoc (take at l) w (drop (at + length w) l)) (take_at (take at l ++ w) (drop (at + length w) l) (at + length w) k)

  -- two lists are equal if their first n elements and their rests are
  pub same_parts : (d : A) (n : ℕ) (l m : List A) → n ≤ length l → n ≤ length m → ((i : ℕ) → i < n → get_or l i d ≡ get_or m i d)
      → drop n l ≡ drop n m → l ≡ m
  same_parts d zero l m h k f e = e
  same_parts d (suc n) [] m h k f e = absurd (omega arith)
  same_parts d (suc n) (x ∷ xs) [] h k f e = absurd (omega arith)
  same_parts d (suc n) (x ∷ xs) (y ∷ ys) h k f e =
      ap₂ (λ (a : A) (r : List A). a ∷ r) (f zero (omega arith)) (same_parts d n xs ys (omega arith) (omega arith) (λ i g. f (suc i) (omega arith)) e)

  pub splice_nil : (l : List A) (at : ℕ) → splice l at [] ≡ l
  unfolding splice
  splice_nil l at = rw add-zero (take-append-drop at l)

  -- writing a prefix of m and then w at the start of l, if l and m agree afterwards
  pub splice_start : (l m w : List A) (n : ℕ) → n ≤ length m → drop (n + length w) l ≡ drop (n + length w) m → splice l 0 (take n m ++ w) ≡ splice m n w
  unfolding splice
  splice_start l m w n h e =
      let k : 0 + length (take n m ++ w) ≡ n + length w = simp (length-append, length-take) (omega arith) in
      rw (k, e) (append_assoc (take n m) w (drop (n + length w) m))

  -- writing a prefix of m at the start of l, if l and m agree afterwards
  pub splice_alike : (l m : List A) (n : ℕ) → n ≤ length m → drop n l ≡ drop n m → splice l 0 (take n m) ≡ m
  splice_alike l m n h e =
      ap (splice l 0) (sym (append-nil (take n m))) ∙ splice_start l m [] n h (rw (add-zero n) e) ∙ splice_nil m n

  -- a write right after another
  pub splice_then : (l v w : List A) (at : ℕ) → at + (length v + length w) ≤ length l → splice (splice l at v) (at + length v) w ≡ splice l at (v ++ w)
  unfolding splice
  splice_then l v w at h =
      let f : at + length v ≤ length l = omega arith in
      let g : at + length v ≤ at + length v + length w = omega arith in
      let e : at + length v + length w ≡ at + length (v ++ w) = simp length-append (omega arith) in
      ap₂ (λ (x y : List A). x ++ (w ++ y)) (front_splice l v at f) (drop_splice l v at f _ g)
      ∙ append_assoc (take at l) v _
      ∙ ap (λ (x : List A). take at l ++ x) (sym (append_assoc v w _))
      ∙ ap (λ (k : ℕ). take at l ++ (v ++ w ++ drop k l)) e

  -- a write that covers another
  pub splice_over : (l v w : List A) (at : ℕ) → at + length v ≤ length l → length v ≤ length w → splice (splice l at v) at w ≡ splice l at w
  unfolding splice
  splice_over l v w at h e =
      let k : at ≤ at = omega arith in
      let g : at + length v ≤ at + length w = omega arith in
      ap₂ (λ (x y : List A). x ++ (w ++ y)) (take_splice l v at h at k) (drop_splice l v at h _ g)

  -- writing the prefix again changes nothing
  pub splice_front : (l : List A) (n : ℕ) → n ≤ length l → splice l 0 (take n l) ≡ l
  splice_front l n h = splice_alike l l n h refl

  -- one cell, and two adjacent cells
  pub set_splice : (l : List A) (i : ℕ) (a : A) → i < length l → set l i a ≡ splice l i (a ∷ [])
  unfolding splice
  set_splice l i a h = rw add-one (set_split l i a h)

  pub set_set_splice : (l : List A) (i : ℕ) (a b : A) → i + 1 < length l → set (set l i a) (i + 1) b ≡ splice l i (a ∷ b ∷ [])
  set_set_splice l i a b h =
      let f : i < length l = omega arith in
      let g : i + 1 < length (set l i a) = simp length-set h in
      let k : i + (1 + 1) ≤ length l = omega arith in
      set_splice (set l i a) (i + 1) b g
      ∙ ap (λ (x : List A). splice x (i + 1) (b ∷ [])) (set_splice l i a f)
      ∙ splice_then l (a ∷ []) (b ∷ []) i k

  -- a part to the end
  pub part_to_end : (l : List A) (at : ℕ) → take (length l - at) (drop at l) ≡ drop at l
  part_to_end l at = take_all (length l - at) (drop at l) (simp length-drop (omega arith))

  -- writing at the start of a borrowed part that ends with the list
  pub put_part : (l w : List A) (at : ℕ) → put_mid at (length l - at) l (w ++ drop (length w) (take (length l - at) (drop at l))) ≡ splice l at w
  unfolding splice
  put_part l w at =
      let past : drop (length l - at) (drop at l) ≡ [] = drop_of_length-le (drop at l) {i = length l - at} (simp length-drop (omega arith)) in
      rw (past, append-nil, part_to_end l at, drop-drop (length w) at l)

  copy_suc : (s l : List A) (i : ℕ) (d : A) → i < length s → i < length l → set (take i s ++ drop i l) i (get_or s i d) ≡ take (suc i) s ++ drop (suc i) l
  copy_suc [] l i d h k = absurd (omega arith)
  copy_suc (x ∷ xs) [] i d h k = absurd (omega arith)
  copy_suc (x ∷ xs) (y ∷ ys) zero d h k = refl
  copy_suc (x ∷ xs) (y ∷ ys) (suc i) d h k = ap (λ (m : List A). x ∷ m) (copy_suc xs ys i d (omega arith) (omega arith))

  -- one more element of s is copied over l
  pub copy_step : (s l : List A) (i : ℕ) (d : A) → i < length s → i < length l → set (take i s ++ drop i l) i (get_or s i d) ≡ take (i + 1) s ++ drop (i + 1) l
  copy_step s l i d h k = rw (add-one i) (copy_suc s l i d h k)
