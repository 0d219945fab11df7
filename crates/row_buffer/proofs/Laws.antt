-- The loop iterations of `move_row` and of `same_cells`, and the masks of bitmap words. Assumes nothing.
use Rattle.row_buffer.proofs.Prelude.{ℕ, suc, ◌+◌, ◌-◌, ◌*◌, ◌%◌, ◌^◌, ◌≤◌, ◌<◌, ◌≡◌, refl, sym, ap, ap₂, ◌∙◌, true, false, ◌&&◌, List, ◌++◌, one-mul, add_comm, add-one, arith, pow_pos, shl_exact, bit_and, bit_or, and_mask, or_shifted_r, ones, eqb, length, take, drop, get_or, set, length-take, length-drop, take-append-drop, drop_of_length-le, drop-cons, drop-drop, length-take-le, get_or-append-add, get_or-drop, eq-eqb, ne_eqb, put_mid, put_part, part_to_end, copy_step, set_below, ones_below}
use Rattle.lists.specs.Lists.{splice, same}

-- ---- the copier inside a part

-- what it has done after i cells
abbrev pub down : List ℕ → ℕ → ℕ → List ℕ
down l gap i = take i (drop gap l) ++ drop i l

-- the cell read is the one at entry: it is above the cells written so far
read_down : (l : List ℕ) (gap i : ℕ) → gap + i < length l → get_or (down l gap i) (gap + i) 0 ≡ get_or (drop gap l) i 0
read_down l gap i h =
    let n : length (take i (drop gap l)) ≡ i = length-take-le i (drop gap l) (simp length-drop (omega arith)) in
    let e : gap + i ≡ length (take i (drop gap l)) + gap = omega arith in
    rw e (get_or-append-add (take i (drop gap l)) (drop i l) gap 0 ∙ get_or-drop i l gap 0 ∙ rw (add_comm i gap) (sym (get_or-drop gap l i 0)))

pub down_step : (l : List ℕ) (gap i : ℕ) → gap + i < length l → set (down l gap i) i (get_or (down l gap i) (gap + i) 0) ≡ down l gap (i + 1)
down_step l gap i h =
    let s : i < length (drop gap l) = simp length-drop (omega arith) in
    ap (set (down l gap i) i) (read_down l gap i h) ∙ copy_step (drop gap l) l i 0 s (omega arith)

-- a row moved inside the borrowed part, stated for the whole store
pub moved_part : (l : List ℕ) (to from width : ℕ) → to ≤ from → from + width ≤ length l
    → put_mid to (length l - to) l (down (take (length l - to) (drop to l)) (from - to) width) ≡ splice l to (take width (drop from l))
moved_part l to from width h k =
    let e : to + (from - to) ≡ from = omega arith in
    let w : length (take width (drop from l)) ≡ width = simp (length-take, length-drop) (omega arith) in
    let row : take width (drop (from - to) (take (length l - to) (drop to l))) ≡ take width (drop from l) =
    ap (λ (x : List ℕ). take width (drop (from - to) x)) (part_to_end l to) ∙ ap (take width) (drop-drop (from - to) to l ∙ ap (λ (n : ℕ). drop n l) e) in
    ap₂ (λ (x : List ℕ) (n : ℕ). put_mid to (length l - to) l (x ++ drop n (take (length l - to) (drop to l)))) row (sym w)
    ∙ put_part l (take width (drop from l)) to

-- a row moved to its own position
pub moved_nowhere : (l : List ℕ) (to from width : ℕ) → to ≡ from → from + width ≤ length l → l ≡ splice l to (take width (drop from l))
unfolding splice
moved_nowhere l to from width e k =
    let w : length (take width (drop to l)) ≡ width = simp (length-take, length-drop) (omega arith) in
    rw (← e, w, ← drop-drop width to l, take-append-drop width (drop to l)) (sym (take-append-drop to l))

-- ---- the same cells

same_step : (a b : List ℕ) (i : ℕ) → i < length a → i < length b
    → same (drop i a) (drop i b) ≡ (eqb (get_or a i 0) (get_or b i 0) && same (drop (suc i) a) (drop (suc i) b))
unfolding same
same_step a b i ha hb = rw (drop-cons a i 0 ha, drop-cons b i 0 hb)

pub differ : (a b : List ℕ) (i : ℕ) → i < length a → i < length b → (get_or a i 0 ≡ get_or b i 0 → ⊥) → same (drop i a) (drop i b) ≡ false
differ a b i ha hb ne = same_step a b i ha hb ∙ rw (ne_eqb _ _ ne)

pub agree : (a b : List ℕ) (i : ℕ) → i < length a → i < length b → get_or a i 0 ≡ get_or b i 0
    → same (drop i a) (drop i b) ≡ same (drop (i + 1) a) (drop (i + 1) b)
agree a b i ha hb e = same_step a b i ha hb ∙ rw (eq-eqb _ _ e, add-one)

pub ended : (a b : List ℕ) (i : ℕ) → length a ≤ i → length b ≤ i → same (drop i a) (drop i b) ≡ true
unfolding same
ended a b i ha hb = rw (drop_of_length-le a ha, drop_of_length-le b hb)

-- ---- bitmap words

one_shl : (k : ℕ) → k < 64 → (1 * 2 ^ k) % 2 ^ 64 ≡ 2 ^ k
one_shl k h = shl_exact {a = 1} 1 k 64 (omega arith) (omega arith) ∙ one-mul (2 ^ k)

-- the shift does not lose its bit
pub shl_pos : (k : ℕ) → k < 64 → 1 ≤ (1 * 2 ^ k) % 2 ^ 64
shl_pos k h = rw (one_shl k h) (pow_pos k)

-- the count of the masked word's ones
pub counted : (word k : ℕ) → k < 64 → ones (bit_and word ((1 * 2 ^ k) % 2 ^ 64 - 1)) ≡ set_below word k
counted word k h =
    ap (λ (m : ℕ). ones (bit_and word (m - 1))) (one_shl k h) ∙ ap ones (and_mask word k) ∙ ones_below word k

pub marked : (word k : ℕ) → k < 64 → word < 2 ^ k → bit_or word ((1 * 2 ^ k) % 2 ^ 64) ≡ word + 2 ^ k
marked word k h p =
    ap (bit_or word) (shl_exact {a = 1} 1 k 64 (omega arith) (omega arith))
    ∙ or_shifted_r 1 k word p
    ∙ ap (λ (x : ℕ). x + word) (one-mul (2 ^ k))
    ∙ add_comm (2 ^ k) word
