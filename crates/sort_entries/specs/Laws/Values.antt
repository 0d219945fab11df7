-- Laws of the values that sound entries record: they never fall, and the entries are those rebuilt from them. Assumes
-- nothing.
use Rattle.std.specs.Prelude.{◌≤◌, ◌<◌, ◌≡◌, ◌∷◌}
use Rattle.sort_entries.specs.Laws.Prelude.{ℕ, refl, sym, ap, ap₂, ◌∙◌, true, List, [], dec_lt, arith, length, get_or, le-leb, lt-leb, above_head}
use Rattle.sort_entries.specs.Entries.{Entry, entry, first_row, rebuilt, value_at, entries_sound}
use Rattle.sort_entries.specs.Laws.Sound.{values, Climb, sound_climb, sound_first, climb_tail, climb_in, climb_next, climb_above}
use Rattle.sort_entries.specs.Laws.Rebuilt.{NeverFalls, rebuilt_sound, rebuilt_value_at}

-- before the next entry's row the value is the first entry's
pub value_at_until : (i : ℕ) (e f : Entry) (es : List Entry) → i < f.row → value_at i (e ∷ f ∷ es) ≡ e.value
unfolding value_at
value_at_until i e f es h = rw (lt-leb f.row i h)

-- from the next entry's row on it is that of the other entries
pub value_at_from : (i : ℕ) (e f : Entry) (es : List Entry) → f.row ≤ i → value_at i (e ∷ f ∷ es) ≡ value_at i (f ∷ es)
unfolding value_at
value_at_from i e f es h = rw (le-leb f.row i h)

pub climb_rises : (e f : Entry) (es : List Entry) (n : ℕ) → Climb (e ∷ f ∷ es) n → e.value < f.value
climb_rises e f es n c = above_head e.value f.value (values es) (climb_above e (f ∷ es) n c)

-- at an entry's own row it is the entry's value
pub value_at_own : (e : Entry) (es : List Entry) (n : ℕ) → Climb (e ∷ es) n → value_at e.row (e ∷ es) ≡ e.value
value_at_own e [] n c = unfold value_at in refl
value_at_own e (f ∷ es) n c = value_at_until e.row e f es (climb_next e f es n c)

-- it is never below the first entry's value
pub value_at_least : (i : ℕ) (e : Entry) (es : List Entry) (n : ℕ) → Climb (e ∷ es) n → e.value ≤ value_at i (e ∷ es)
value_at_least i e [] n c = unfold value_at in omega arith
value_at_least i e (f ∷ es) n c =
    let h = value_at_least i f es n (climb_tail e (f ∷ es) n c) in
    let k = climb_rises e f es n c in
    elim (dec_lt i f.row) [
      | yes q ↦ omega (arith, value_at_until i e f es q)
      | no q ↦ omega (arith, value_at_from i e f es (omega arith))
    ]

-- the values never fall
pub value_at_climbs : (i j : ℕ) (es : List Entry) (n : ℕ) → Climb es n → i ≤ j → value_at i es ≤ value_at j es
value_at_climbs i j [] n c h = unfold value_at in omega arith
value_at_climbs i j (e ∷ []) n c h = unfold value_at in omega arith
value_at_climbs i j (e ∷ f ∷ es) n c h =
    let k = value_at_climbs i j (f ∷ es) n (climb_tail e (f ∷ es) n c) h in
    let m = value_at_least j e (f ∷ es) n c in
    elim (dec_lt i f.row) [
      | yes q ↦ omega (arith, value_at_until i e f es q)
      | no q ↦ omega (arith, value_at_from i e f es (omega arith), value_at_from j e f es (omega arith))
    ]

meet : (a b : ℕ) → (a < b → ⊥) → (b < a → ⊥) → a ≡ b
meet a b p q = elim (dec_lt a b) [ yes h ↦ absurd (p h) | no h ↦ elim (dec_lt b a) [ yes k ↦ absurd (q k) | no k ↦ omega arith ] ]

same_first : (e f : Entry) (es fs : List Entry) (n : ℕ) → Climb (e ∷ es) n → Climb (f ∷ fs) n → e.row ≡ f.row
    → ((i : ℕ) → e.row ≤ i → i < n → value_at i (e ∷ es) ≡ value_at i (f ∷ fs)) → e.value ≡ f.value
same_first e f es fs n c d r g =
    sym (value_at_own e es n c) ∙ g e.row (omega arith) (climb_in e es n c) ∙ ap (λ (i : ℕ). value_at i (f ∷ fs)) r ∙ value_at_own f fs n d

-- one entry does not record the same values as two
one_more : (e f b : Entry) (fs : List Entry) (n : ℕ) → Climb (f ∷ b ∷ fs) n → value_at b.row (e ∷ []) ≡ value_at b.row (f ∷ b ∷ fs) → e.value ≡ f.value → ⊥
unfolding value_at
one_more e f b fs n d g v =
    let k : e.value ≡ value_at b.row (f ∷ b ∷ fs) = g in
    omega (arith, climb_rises f b fs n d, value_at_from b.row f b fs (omega arith), value_at_own b fs n (climb_tail f (b ∷ fs) n d))

-- rising entries that begin at the same row and record the same values are equal
climb_ext : (e f : Entry) (es fs : List Entry) (n : ℕ) → Climb (e ∷ es) n → Climb (f ∷ fs) n → e.row ≡ f.row
    → ((i : ℕ) → e.row ≤ i → i < n → value_at i (e ∷ es) ≡ value_at i (f ∷ fs)) → e ∷ es ≡ f ∷ fs
climb_ext e f [] [] n c d r g = ap (λ (x : Entry). x ∷ []) (ap₂ entry (same_first e f [] [] n c d r g) r)
climb_ext e f [] (b ∷ fs) n c d r g =
    absurd (one_more e f b fs n d (g b.row (omega (arith, climb_next f b fs n d)) (climb_in b fs n (climb_tail f (b ∷ fs) n d))) (same_first e f [] (b ∷ fs) n c d r g))
climb_ext e f (a ∷ es) [] n c d r g =
    absurd (one_more f e a es n c (sym (g a.row (omega (arith, climb_next e a es n c)) (climb_in a es n (climb_tail e (a ∷ es) n c)))) (sym (same_first e f (a ∷ es) [] n c d r g)))
climb_ext e f (a ∷ es) (b ∷ fs) n c d r g =
    let v = same_first e f (a ∷ es) (b ∷ fs) n c d r g in
    let ct = climb_tail e (a ∷ es) n c in
    let dt = climb_tail f (b ∷ fs) n d in
    let ca = climb_next e a es n c in
    let db = climb_next f b fs n d in
    let ea = climb_in a es n ct in
    let fb = climb_in b fs n dt in
    let pa : a.row < b.row → ⊥ = λ q. omega (arith, climb_rises e a es n c, value_at_own a es n ct, value_at_from a.row e a es (omega arith), value_at_until a.row f b fs q, g a.row (omega arith) ea) in
    let pb : b.row < a.row → ⊥ = λ q. omega (arith, climb_rises f b fs n d, value_at_own b fs n dt, value_at_from b.row f b fs (omega arith), value_at_until b.row e a es q, g b.row (omega arith) fb) in
    let rr : a.row ≡ b.row = meet a.row b.row pa pb in
    ap₂ (λ (x : Entry) (l : List Entry). x ∷ l) (ap₂ entry v r)
    (climb_ext a b es fs n ct dt rr (λ i h k. sym (value_at_from i e a es h) ∙ g i (omega arith) k ∙ value_at_from i f b fs (omega arith)))

-- sound entries that record the same values are equal
pub sound_ext : (es fs : List Entry) (n : ℕ) → entries_sound es n ≡ true → entries_sound fs n ≡ true
    → ((i : ℕ) → i < n → value_at i es ≡ value_at i fs) → es ≡ fs
sound_ext es fs n s t g = go es fs (sound_climb es n s) (sound_climb fs n t) (sound_first es n s) (sound_first fs n t) g
  where
    go : (es fs : List Entry) → Climb es n → Climb fs n → first_row es n ≡ 0 → first_row fs n ≡ 0 → ((i : ℕ) → i < n → value_at i es ≡ value_at i fs) → es ≡ fs
    go [] [] c d p q g = refl
    go [] (f ∷ fs) c d p q g = absurd (let z : n ≡ 0 = unfold first_row in p in omega (arith, climb_in f fs n d))
    go (e ∷ es) [] c d p q g = absurd (let z : n ≡ 0 = unfold first_row in q in omega (arith, climb_in e es n c))
    go (e ∷ es) (f ∷ fs) c d p q g =
        let a : e.row ≡ 0 = unfold first_row in p in
        let b : f.row ≡ 0 = unfold first_row in q in
        climb_ext e f es fs n c d (omega arith) (λ i h k. g i k)

-- sound entries are those rebuilt from the values that they record
pub rebuilt_same : (vs : List ℕ) (es : List Entry) → entries_sound es (length vs) ≡ true → ((i : ℕ) → i < length vs → get_or vs i 0 ≡ value_at i es) → rebuilt vs ≡ es
rebuilt_same vs es s g = sound_ext (rebuilt vs) es (length vs) (rebuilt_sound vs up) s (λ i h. rebuilt_value_at vs up i h ∙ g i h)
  where
    up : NeverFalls vs
    up = λ i j h k. omega (arith, g i (omega arith), g j k, value_at_climbs i j es (length vs) (sound_climb es (length vs) s) h)
