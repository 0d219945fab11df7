-- Laws of the pairs in a store: their words, one more pair, and writing a pair. Assumes nothing.
use Rattle.std.specs.Prelude.{◌+◌, ◌-◌, ◌*◌, ◌≤◌, ◌<◌, ◌≡◌, ◌∷◌, ◌++◌}
use Rattle.sort_entries.specs.Laws.Prelude.{ℕ, zero, suc, refl, sym, ap, ap₂, ◌∙◌, Bool, true, List, [], add-one, arith, length, take, drop, get_or, length-drop, get_or-drop, get_or-take, take-add, ext_get_or, take_splice, get_d_splice_in}
use Rattle.lists.specs.Lists.{splice}
use Rattle.sort_entries.specs.Entries.{Entry, entry, entries_of, entry_words}
use Rattle.sort_entries.specs.Laws.Push.{last_passes, last_snoc}

-- the pair at position i of a store
unfoldable pub pair_at : ℕ → List ℕ → Entry
pair_at i store = entry (get_or store (2 * i) 0) (get_or store (2 * i + 1) 0)

pub length_words : (es : List Entry) → length (entry_words es) ≡ 2 * length es
unfolding entry_words
length_words [] = refl
length_words (e ∷ es) = let h = length_words es in omega arith

-- one more pair
pub words_snoc : (es : List Entry) (e : Entry) → entry_words (es ++ (e ∷ [])) ≡ entry_words es ++ (e.value ∷ e.row ∷ [])
unfolding entry_words
words_snoc [] e = refl
words_snoc (a ∷ es) e = ap (λ (l : List ℕ). a.value ∷ a.row ∷ l) (words_snoc es e)

pub length_entries_of : (n : ℕ) (store : List ℕ) → length (entries_of n store) ≡ n
unfolding entries_of
length_entries_of zero store = refl
length_entries_of (suc n) store = ap suc (length_entries_of n (drop 2 store))

-- pairs are read back as they are written
pub entries_of_words : (es : List Entry) (rest : List ℕ) → entries_of (length es) (entry_words es ++ rest) ≡ es
unfolding entries_of entry_words
entries_of_words [] rest = refl
entries_of_words (e ∷ es) rest = ap (λ (l : List Entry). e ∷ l) (entries_of_words es rest)

pub entries_of_put : (es : List Entry) (store : List ℕ) (n : ℕ) → n ≡ length es → entries_of n (splice store 0 (entry_words es)) ≡ es
unfolding splice
entries_of_put es store n e = rw e (entries_of_words es (drop (0 + length (entry_words es)) store))

-- taking two more words
take_two : (n : ℕ) (store : List ℕ) → 2 ≤ length store → get_or store 0 0 ∷ get_or store 1 0 ∷ take n (drop 2 store) ≡ take (2 + n) store
take_two n [] h = absurd (omega arith)
take_two n (x ∷ []) h = absurd (omega arith)
take_two n (x ∷ y ∷ store) h = sym (take-add 2 n (x ∷ y ∷ store))

pub words_entries_of : (n : ℕ) (store : List ℕ) → 2 * n ≤ length store → entry_words (entries_of n store) ≡ take (2 * n) store
unfolding entries_of entry_words
words_entries_of zero store h = refl
words_entries_of (suc n) store h =
    let k : 2 * n ≤ length (drop 2 store) = simp length-drop (omega arith) in
    let e : 2 + 2 * n ≡ 2 * suc n = omega arith in
    ap (λ (l : List ℕ). get_or store 0 0 ∷ get_or store 1 0 ∷ l) (words_entries_of n (drop 2 store) k)
    ∙ take_two (2 * n) store (omega arith)
    ∙ ap (λ (k : ℕ). take k store) e

-- pair i of a store without its first pair is pair i + 1 of the store
pub pair_at_suc : (i : ℕ) (store : List ℕ) → pair_at i (drop 2 store) ≡ pair_at (suc i) store
unfolding pair_at
pair_at_suc i store =
    let a : 2 + 2 * i ≡ 2 * suc i = omega arith in
    let b : 2 + (2 * i + 1) ≡ 2 * suc i + 1 = omega arith in
    rw (get_or-drop 2 store (2 * i) 0, get_or-drop 2 store (2 * i + 1) 0, a, b)

pub get_d_entries_of : (n : ℕ) (store : List ℕ) (i : ℕ) (d : Entry) → i < n → get_or (entries_of n store) i d ≡ pair_at i store
unfolding entries_of
get_d_entries_of zero store i d h = absurd (omega arith)
get_d_entries_of (suc n) store zero d h = unfold pair_at in refl
get_d_entries_of (suc n) store (suc i) d h = get_d_entries_of n (drop 2 store) i d (omega arith) ∙ pair_at_suc i store

entries_of_suc : (n : ℕ) (store : List ℕ) → entries_of (suc n) store ≡ entries_of n store ++ (pair_at n store ∷ [])
unfolding entries_of
entries_of_suc zero store = unfold pair_at in refl
entries_of_suc (suc n) store =
    ap (λ (l : List Entry). entry (get_or store 0 0) (get_or store 1 0) ∷ l)
    (entries_of_suc n (drop 2 store) ∙ ap (λ (e : Entry). entries_of n (drop 2 store) ++ (e ∷ [])) (pair_at_suc n store))

-- one more pair
pub entries_of_snoc : (n : ℕ) (store : List ℕ) → entries_of (n + 1) store ≡ entries_of n store ++ (entry (get_or store (2 * n) 0) (get_or store (2 * n + 1) 0) ∷ [])
unfolding pair_at
entries_of_snoc n store = rw (add-one n) (entries_of_suc n store)

-- stores with the same prefix have the same pairs there
pub entries_of_same : (n : ℕ) (l m : List ℕ) → take (2 * n) l ≡ take (2 * n) m → entries_of n l ≡ entries_of n m
entries_of_same n l m e = ext_get_or (entry 0 0) (entries_of n l) (entries_of n m) (simp length_entries_of) each
  where
    word : (k : ℕ) → k < 2 * n → get_or l k 0 ≡ get_or m k 0
    word k h = sym (get_or-take (2 * n) l k 0 h) ∙ ap (λ (s : List ℕ). get_or s k 0) e ∙ get_or-take (2 * n) m k 0 h

    each : (i : ℕ) → i < length (entries_of n l) → get_or (entries_of n l) i (entry 0 0) ≡ get_or (entries_of n m) i (entry 0 0)
    each i h =
        let k : i < n = omega (arith, length_entries_of n l) in
        let p : pair_at i l ≡ pair_at i m = unfold pair_at in ap₂ entry (word (2 * i) (omega arith)) (word (2 * i + 1) (omega arith)) in
        get_d_entries_of n l i (entry 0 0) k ∙ p ∙ sym (get_d_entries_of n m i (entry 0 0) k)

-- a write past the pairs
pub entries_of_before : (n : ℕ) (l w : List ℕ) (at : ℕ) → 2 * n ≤ at → at + length w ≤ length l → entries_of n (splice l at w) ≡ entries_of n l
entries_of_before n l w at h k = entries_of_same n (splice l at w) l (take_splice l w at k (2 * n) h)

-- a pair written right after the pairs
pub entries_of_appended : (n : ℕ) (l : List ℕ) (value row : ℕ) → 2 * n + 2 ≤ length l
    → entries_of (n + 1) (splice l (2 * n) (value ∷ row ∷ [])) ≡ entries_of n l ++ (entry value row ∷ [])
entries_of_appended n l value row h =
    let w : List ℕ = value ∷ row ∷ [] in
    let z : 2 * n ≡ 2 * n + 0 = omega arith in
    let a : get_or (splice l (2 * n) w) (2 * n) 0 ≡ value = ap (λ (k : ℕ). get_or (splice l (2 * n) w) k 0) z ∙ get_d_splice_in l w (2 * n) h 0 0 (omega arith) in
    let b : get_or (splice l (2 * n) w) (2 * n + 1) 0 ≡ row = get_d_splice_in l w (2 * n) h 1 0 (omega arith) in
    entries_of_snoc n (splice l (2 * n) w)
    ∙ ap₂ (λ (es : List Entry) (e : Entry). es ++ (e ∷ [])) (entries_of_before n l w (2 * n) (omega arith) h) (ap₂ entry a b)

-- ---- the last pair

-- the last pair is at position n - 1
pub last_entries_of : (test : ℕ → Bool) (n : ℕ) (store : List ℕ) → 0 < n → last_passes test (entries_of n store) ≡ test (get_or store (2 * (n - 1)) 0)
last_entries_of test zero store h = absurd (omega arith)
last_entries_of test (suc n) store h =
    let z : suc n - 1 ≡ n = omega arith in
    rw z (ap (last_passes test) (entries_of_suc n store) ∙ last_snoc test (entries_of n store) (pair_at n store) ∙ unfold pair_at in refl)

pub last_none : (test : ℕ → Bool) (n : ℕ) (store : List ℕ) → n ≡ 0 → last_passes test (entries_of n store) ≡ true
unfolding last_passes entries_of
last_none test n store e = rw e
