-- The sequences of each length, and of all lengths up to a given one, place by place. Assumes nothing.
use Rattle.std.specs.Prelude.{◌+◌, ◌-◌, ◌*◌, ◌/◌, ◌%◌, ◌≤◌, ◌<◌, ◌≡◌, ◌∷◌, ◌++◌}
use Rattle.short_histories.specs.Laws.Prelude.{ℕ, zero, suc, refl, sym, ap, ◌∙◌, List, [], map, append_assoc, append-nil, zero-mul, suc-mul, zero-add, add-zero, mod-lt, div-add-mod', div-lt_iff_lt-mul, dec_lt, arith, ltb, length, get_or, length-map, length-append, List·getD-append, get_or-append-add, ltb-true, lt-ltb, all_head, all_tail, all_cons, get_d_map_below}
use Rattle.lists.specs.Lists.{all, flatten, iota}
use Rattle.short_histories.specs.Sequences.{sequences, short_histories}
use Rattle.short_histories.specs.Laws.Numbers.{Steps, many, shorter, value, number, many_some, value_below, shorter_rises}

-- ---- lists of one length, one after another

module _ {A : Type 0} (f : ℕ → List A) (w : ℕ) (wide : (x : ℕ) → length (f x) ≡ w) where
  length_blocks : (s n : ℕ) → length (flatten (map f (iota s n))) ≡ n * w
  unfolding flatten iota
  length_blocks s zero = sym (zero-mul w)
  length_blocks s (suc n) =
      let e = length_blocks (suc s) n in
      let a = length-append (f s) (flatten (map f (iota (suc s) n))) in
      let b = wide s in
      let c = suc-mul n w in
      omega arith

  -- place k of list x
  get_d_blocks : (s n x k : ℕ) (d : A) → x < n → k < w → get_or (flatten (map f (iota s n))) (x * w + k) d ≡ get_or (f (s + x)) k d
  unfolding flatten iota
  get_d_blocks s zero x k d h g = absurd (omega arith)
  get_d_blocks s (suc n) zero k d h g =
      let e : zero * w + k ≡ k = let z = zero-mul w in omega arith in
      let r : k < length (f s) = let b = wide s in omega arith in
      rw (e, add-zero s) (List·getD-append (f s) (flatten (map f (iota (suc s) n))) d k r)
  get_d_blocks s (suc n) (suc x) k d h g =
      let e : suc x * w + k ≡ length (f s) + (x * w + k) = let z = suc-mul x w in let b = wide s in omega arith in
      let r : suc s + x ≡ s + suc x = omega arith in
      ap (λ (i : ℕ). get_or (f s ++ flatten (map f (iota (suc s) n))) i d) e
      ∙ get_or-append-add (f s) (flatten (map f (iota (suc s) n))) (x * w + k) d
      ∙ get_d_blocks (suc s) n x k d (omega arith) g
      ∙ ap (λ (i : ℕ). get_or (f i) k d) r

-- ---- the sequences of n steps

-- a step before each of the sequences of n steps
abbrev beginning : ℕ → ℕ → List (List ℕ)
beginning n step = map (λ rest. step ∷ rest) (sequences n)

length_sequences : (n : ℕ) → length (sequences n) ≡ many n
unfolding sequences many
length_sequences zero = refl
length_sequences (suc n) = length_blocks (beginning n) (many n) (λ x. length-map (sequences n) _ ∙ length_sequences n) 0 7

-- the sequence of n + 1 steps at place k of those that begin with step x
at_beginning : (n x k : ℕ) → x < 7 → k < many n → get_or (sequences (suc n)) (x * many n + k) [] ≡ x ∷ get_or (sequences n) k []
unfolding sequences
at_beginning n x k h g =
    let r : k < length (sequences n) = let e = length_sequences n in omega arith in
    get_d_blocks (beginning n) (many n) (λ y. length-map (sequences n) _ ∙ length_sequences n) 0 7 x k [] h g
    ∙ ap (λ (y : ℕ). get_or (beginning n y) k []) (zero-add x)
    ∙ get_d_map_below (λ rest. x ∷ rest) (sequences n) k [] [] r

value_found : (s : List ℕ) → Steps s → get_or (sequences (length s)) (value s) [] ≡ s
unfolding value
value_found [] e = unfold sequences in refl
value_found (x ∷ xs) e =
    let h = ltb-true x 7 (all_head (λ step. ltb step 7) x xs e) in
    let t = all_tail (λ step. ltb step 7) x xs e in
    at_beginning (length xs) x (value xs) h (value_below xs t) ∙ ap (λ (r : List ℕ). x ∷ r) (value_found xs t)

-- the sequence at place k among the sequences of n steps
record Valued (n k : ℕ) (s : List ℕ) : Type 0 where
  long : length s ≡ n
  steps : Steps s
  valued : value s ≡ k

valued_more : (n x k : ℕ) (s : List ℕ) → x < 7 → Valued n k s → Valued (suc n) (x * many n + k) (x ∷ s)
unfolding value
valued_more n x k s h v =
    record {
      long = ap suc v.long;
      steps = all_cons (λ step. ltb step 7) x s (lt-ltb x 7 h) v.steps;
      valued = rw (v.long, v.valued);
    }

value_at_lem : (n k : ℕ) → k < many n → Valued n k (get_or (sequences n) k [])
unfolding many
value_at_lem zero zero h = unfold sequences in record { long = refl; steps = unfold all in refl; valued = unfold value in refl }
value_at_lem zero (suc k) h = absurd (omega arith)
value_at_lem (suc n) k h =
    let m = many_some n in
    let x = k / many n in
    let y = k % many n in
    let e : x * many n + y ≡ k = div-add-mod' k (many n) in
    let b : y < many n = mod-lt k m in
    let a : x < 7 = (div-lt_iff_lt-mul {k = many n} {x = k} {y = 7} m).1 h in
    let v = valued_more n x y _ a (value_at_lem n y b) in
    let g = at_beginning n x y a b in
    rw (← e, g) v

-- ---- the sequences of 0 to n steps

unfoldable pub sequences_to : ℕ → List (List ℕ)
sequences_to zero = sequences zero
sequences_to (suc n) = sequences_to n ++ sequences (suc n)

regrouped : {A : Type 0} (a b c d e f g : List A) → a ++ (b ++ (c ++ (d ++ (e ++ (f ++ (g ++ [])))))) ≡ a ++ b ++ c ++ d ++ e ++ f ++ g
regrouped a b c d e f g =
    sym (append_assoc a b _)
    ∙ sym (append_assoc (a ++ b) c _)
    ∙ sym (append_assoc (a ++ b ++ c) d _)
    ∙ sym (append_assoc (a ++ b ++ c ++ d) e _)
    ∙ sym (append_assoc (a ++ b ++ c ++ d ++ e) f _)
    ∙ ap (λ x. a ++ b ++ c ++ d ++ e ++ f ++ x) (append-nil g)

pub short_histories_are : short_histories ≡ sequences_to 6
unfolding short_histories flatten iota sequences_to
short_histories_are = regrouped (sequences 0) (sequences 1) (sequences 2) (sequences 3) (sequences 4) (sequences 5) (sequences 6)

pub length_sequences_to : (n : ℕ) → length (sequences_to n) ≡ shorter (suc n)
unfolding sequences_to shorter
length_sequences_to zero = length_sequences zero ∙ sym (zero-add (many zero))
length_sequences_to (suc n) =
    length-append (sequences_to n) (sequences (suc n)) ∙ (let a = length_sequences_to n in let b = length_sequences (suc n) in omega arith)

pub number_below : (n : ℕ) (s : List ℕ) → Steps s → length s ≤ n → number s < shorter (suc n)
unfolding number shorter
number_below n s e h =
    let a : shorter (length s) + many (length s) ≤ shorter n + many n = shorter_rises (suc (length s)) (suc n) (omega arith) in
    let b = value_below s e in
    omega arith

-- a sequence is at its number: among the longest, or among those of fewer steps
found_last : (n : ℕ) (s : List ℕ) → Steps s → length s ≡ suc n → get_or (sequences_to (suc n)) (number s) [] ≡ s
unfolding sequences_to number
found_last n s e h =
    let a : shorter (length s) + value s ≡ length (sequences_to n) + value s = ap (λ (k : ℕ). k + value s) (ap shorter h ∙ sym (length_sequences_to n)) in
    ap (λ (i : ℕ). get_or (sequences_to n ++ sequences (suc n)) i []) a
    ∙ get_or-append-add (sequences_to n) (sequences (suc n)) (value s) []
    ∙ ap (λ (k : ℕ). get_or (sequences k) (value s) []) (sym h)
    ∙ value_found s e

found_before : (n p : ℕ) → p < shorter (suc n) → get_or (sequences_to (suc n)) p [] ≡ get_or (sequences_to n) p []
unfolding sequences_to
found_before n p h = List·getD-append (sequences_to n) (sequences (suc n)) [] p (let e = length_sequences_to n in omega arith)

pub number_found : (n : ℕ) (s : List ℕ) → Steps s → length s ≤ n → get_or (sequences_to n) (number s) [] ≡ s
number_found zero [] e h = unfold sequences_to sequences number shorter value in refl
number_found zero (x ∷ xs) e h = absurd (omega arith)
number_found (suc n) s e h =
    elim (dec_lt n (length s)) [
      | yes k ↦ found_last n s e (omega arith)
      | no k ↦ let l : length s ≤ n = omega arith in found_before n (number s) (number_below n s e l) ∙ number_found n s e l
    ]

-- the sequence at place p among the sequences of at most n steps
pub record Numbered (n p : ℕ) (s : List ℕ) : Type 0 where
  pub long : length s ≤ n
  pub steps : Steps s
  pub numbered : number s ≡ p

numbered_last : (n k : ℕ) (s : List ℕ) → Valued (suc n) k s → Numbered (suc n) (shorter (suc n) + k) s
unfolding number
numbered_last n k s v = record { long = let e = v.long in omega arith; steps = v.steps; numbered = rw (v.long, v.valued) }

last_at : (n k : ℕ) → get_or (sequences_to (suc n)) (shorter (suc n) + k) [] ≡ get_or (sequences (suc n)) k []
unfolding sequences_to
last_at n k =
    ap (λ (i : ℕ). get_or (sequences_to n ++ sequences (suc n)) (i + k) []) (sym (length_sequences_to n))
    ∙ get_or-append-add (sequences_to n) (sequences (suc n)) k []

one_shorter : shorter 1 ≡ 1
unfolding shorter many
one_shorter = refl

pub number_none : number [] ≡ 0
unfolding number shorter value
number_none = refl

shorter_suc : (n : ℕ) → shorter (suc n) ≡ shorter n + many n
unfolding shorter
shorter_suc n = refl

numbered_more : (n p : ℕ) (s : List ℕ) → Numbered n p s → Numbered (suc n) p s
numbered_more n p s v = record { long = let h = v.long in omega arith; steps = v.steps; numbered = v.numbered }

pub number_at : (n p : ℕ) → p < shorter (suc n) → Numbered n p (get_or (sequences_to n) p [])
number_at zero zero h = unfold sequences_to sequences in record { long = omega arith; steps = unfold all in refl; numbered = number_none }
number_at zero (suc p) h = absurd (let e = one_shorter in omega arith)
number_at (suc n) p h =
    elim (dec_lt p (shorter (suc n))) [
      | yes k ↦ rw (found_before n p k) (numbered_more n p _ (number_at n p k))
      | no k ↦
          let e : shorter (suc n) + (p - shorter (suc n)) ≡ p = omega arith in
          let b : p - shorter (suc n) < many (suc n) = past n p h k in
          rw (← e, last_at n (p - shorter (suc n))) (numbered_last n (p - shorter (suc n)) _ (value_at_lem (suc n) _ b))
    ]
  where
    past : (n p : ℕ) → p < shorter (suc (suc n)) → (p < shorter (suc n) → ⊥) → p - shorter (suc n) < many (suc n)
    past n p h k = let e = shorter_suc (suc n) in omega arith
