-- The fast range has exactly the rows whose recorded value passes the condition. Assumes nothing.
use Rattle.std.specs.Prelude.{◌+◌, ◌-◌, ◌≤◌, ◌<◌, ◌≡◌, ◌∷◌}
use Rattle.sort_entries.specs.Laws.Prelude.{ℕ, zero, suc, suc-le-suc, refl, sym, ap, ◌∙◌, true, List, [], dec_lt, ℕ_discrete, add-one, arith, length, drop, drop_of_length-le, drop-cons, leb, ltb, eqb, lt-ltb, le-ltb, le-leb, lt-leb, eq-eqb, ne_eqb, above, elem, within, above_head, above_tail, above_cons, above_weaker, within_of, within_below, within_past}
use Rattle.offsets.specs.Subsets.{range, members}
use Rattle.offsets.specs.Laws.Forms.{elem_range as elem-any-range}
use Rattle.constraints.specs.Constraints.{compares}
use Rattle.sort_entries.specs.Entries.{Entry, entry, first_row, fast_range, value_at, entries_sound}
use Rattle.sort_entries.specs.Laws.Sound.{value_of, values, Climb, sound_climb, sound_first, climb_tail, climb_in, climb_above, first_le, first_next}
use Rattle.sort_entries.specs.Laws.Positions.{Position, found, absent, position, range_at, fast_range_at}

-- ---- the value at a row

-- before the next entry's row it is the first entry's value, from there on that of the other entries
pub value_at_head : (i : ℕ) (e : Entry) (es : List Entry) (rows : ℕ) → i < first_row es rows → value_at i (e ∷ es) ≡ e.value
unfolding value_at first_row
value_at_head i e [] rows h = refl
value_at_head i e (f ∷ es) rows h = rw (lt-leb f.row i h)

pub value_at_tail : (i : ℕ) (e : Entry) (es : List Entry) (rows : ℕ) → first_row es rows ≤ i → i < rows → value_at i (e ∷ es) ≡ value_at i es
unfolding value_at first_row
value_at_tail i e [] rows h k = absurd (omega arith)
value_at_tail i e (f ∷ es) rows h k = rw (le-leb f.row i h)

pub value_at_above : (x i : ℕ) (es : List Entry) (rows : ℕ) → above x (values es) ≡ true → first_row es rows ≤ i → i < rows → x < value_at i es
value_at_above x i [] rows a h k = unfold first_row in absurd (omega arith)
value_at_above x i (e ∷ es) rows a h k =
    let p : x < e.value = above_head x e.value (values es) a in
    let t : above e.value (values es) ≡ true = above_tail x e.value (values es) a in
    elim (dec_lt i (first_row es rows)) [
      | yes q ↦ rw (value_at_head i e es rows q) p
      | no q ↦
          let q' : first_row es rows ≤ i = omega arith in
          rw (value_at_tail i e es rows q' k) (value_at_above x i es rows (above_weaker x e.value (values es) (omega arith) t) q' k)
    ]

-- ---- the position of a value

-- the rows before f have lower values, those from f to b have this value, and those from b on have higher ones
pub record Cuts (v : ℕ) (es : List Entry) (rows f b : ℕ) : Type 0 where
  pub from : first_row es rows ≤ f
  pub order : f ≤ b
  pub end : b ≤ rows
  pub low : (i : ℕ) → first_row es rows ≤ i → i < f → value_at i es < v
  pub mid : (i : ℕ) → f ≤ i → i < b → value_at i es ≡ v
  pub high : (i : ℕ) → b ≤ i → i < rows → v < value_at i es

-- without an entry of the value, f and b are equal
abbrev pub Placed : ℕ → List Entry → ℕ → Position → Type 0
Placed v es rows (found f b) = Cuts v es rows f b
Placed v es rows (absent g) = Cuts v es rows g g

module _ (v : ℕ) (e : Entry) (es : List Entry) (rows : ℕ) (c : Climb (e ∷ es) rows) where
  -- the first entry is below the value
  cuts_past : (f b : ℕ) → e.value < v → Cuts v es rows f b → Cuts v (e ∷ es) rows f b
  unfolding first_row
  cuts_past f b h s =
      let n = first_next e es rows c in
      record {
        from = let a = s.from in omega arith;
        order = s.order;
        end = s.end;
        low = λ i p q. low i q;
        mid = λ i p q. let a = s.from in rw (value_at_tail i e es rows (omega arith) (let z = s.end in omega arith)) (s.mid i p q);
        high = λ i p q. let a = s.from in let o = s.order in rw (value_at_tail i e es rows (omega arith) q) (s.high i p q);
      }
    where
      low : (i : ℕ) → i < f → value_at i (e ∷ es) < v
      low i q =
          elim (dec_lt i (first_row es rows)) [
            | yes p ↦ rw (value_at_head i e es rows p) h
            | no p ↦
                let p' : first_row es rows ≤ i = omega arith in
                let o = s.order in
                let z = s.end in
                rw (value_at_tail i e es rows p' (omega arith)) (s.low i p' q)
          ]

  cuts_here : e.value ≡ v → Cuts v (e ∷ es) rows e.row (first_row es rows)
  unfolding first_row
  cuts_here h =
      record {
        from = omega arith;
        order = first_next e es rows c;
        end = first_le es rows (climb_tail e es rows c);
        low = λ i p q. absurd (omega arith);
        mid = λ i p q. value_at_head i e es rows q ∙ h;
        high = λ i p q. rw (value_at_tail i e es rows p q) (value_at_above v i es rows (rw h at (climb_above e es rows c)) p q);
      }

  cuts_absent : v < e.value → Cuts v (e ∷ es) rows e.row e.row
  unfolding first_row
  cuts_absent h =
      record {
        from = omega arith;
        order = omega arith;
        end = let a = climb_in e es rows c in omega arith;
        low = λ i p q. absurd (omega arith);
        mid = λ i p q. absurd (omega arith);
        high = λ i p q. value_at_above v i (e ∷ es) rows (above_cons v e.value (values es) h (climb_above e es rows c)) p q;
      }

pub placed : (v : ℕ) (es : List Entry) (rows : ℕ) → Climb es rows → Placed v es rows (position v es rows)
unfolding position
placed v [] rows c =
    unfold first_row in
    record {
      from = omega arith;
      order = omega arith;
      end = omega arith;
      low = λ i p q. absurd (omega arith);
      mid = λ i p q. absurd (omega arith);
      high = λ i p q. absurd (omega arith);
    }
placed v (e ∷ es) rows c =
    elim (dec_lt e.value v) [
      | yes p ↦ rw (lt-ltb _ _ p) (past p (position v es rows) (placed v es rows (climb_tail e es rows c)))
      | no p ↦
          let p' : v ≤ e.value = omega arith in
          elim (ℕ_discrete e.value v) [
            | yes q ↦ rw (le-ltb _ _ p', eq-eqb _ _ q) (cuts_here v e es rows c q)
            | no q ↦ rw (le-ltb _ _ p', ne_eqb _ _ q) (cuts_absent v e es rows c (omega arith))
          ]
    ]
  where
    past : e.value < v → (p : Position) → Placed v es rows p → Placed v (e ∷ es) rows p
    past h (found f b) s = cuts_past v e es rows c f b h s
    past h (absent g) s = cuts_past v e es rows c g g h s

-- ---- the ranges

-- membership in a range, as a test
pub elem_range : (a b i : ℕ) → a ≤ b → elem i (members (range a b)) ≡ within a b i
elem_range a b i h = let e : a + (b - a) ≡ b = omega arith in elem-any-range a b i ∙ ap (λ (n : ℕ). within a n i) e

-- i is below a bound exactly if x is less than v, or at most v
module _ (x v i : ℕ) where
  less_is : (f : ℕ) → (i < f → x < v) → (f ≤ i → v ≤ x) → within 0 f i ≡ ltb x v
  less_is f low up =
      elim (dec_lt i f) [
        | yes p ↦ within_of 0 f i (omega arith) p ∙ sym (lt-ltb x v (low p))
        | no p ↦ let q : f ≤ i = omega arith in within_past 0 f i q ∙ sym (le-ltb x v (up q))
      ]

  at_most_is : (b : ℕ) → (i < b → x ≤ v) → (b ≤ i → v < x) → within 0 b i ≡ leb x v
  at_most_is b low up =
      elim (dec_lt i b) [
        | yes p ↦ within_of 0 b i (omega arith) p ∙ sym (le-leb x v (low p))
        | no p ↦ let q : b ≤ i = omega arith in within_past 0 b i q ∙ sym (lt-leb x v (up q))
      ]

  greater_is : (b rows : ℕ) → i < rows → (i < b → x ≤ v) → (b ≤ i → v < x) → within b rows i ≡ ltb v x
  greater_is b rows h low up =
      elim (dec_lt i b) [
        | yes p ↦ within_below b rows i p ∙ sym (le-ltb v x (low p))
        | no p ↦ let q : b ≤ i = omega arith in within_of b rows i q h ∙ sym (lt-ltb v x (up q))
      ]

  at_least_is : (f rows : ℕ) → i < rows → (i < f → x < v) → (f ≤ i → v ≤ x) → within f rows i ≡ leb v x
  at_least_is f rows h low up =
      elim (dec_lt i f) [
        | yes p ↦ within_below f rows i p ∙ sym (lt-leb v x (low p))
        | no p ↦ let q : f ≤ i = omega arith in within_of f rows i q h ∙ sym (le-leb v x (up q))
      ]

  equal_is : (f b : ℕ) → (i < f → x < v) → (f ≤ i → i < b → x ≡ v) → (b ≤ i → v < x) → within f b i ≡ eqb x v
  equal_is f b low mid up =
      elim (dec_lt i f) [
        | yes p ↦ within_below f b i p ∙ sym (ne_eqb x v (λ e. let q = low p in absurd (omega arith)))
        | no p ↦
            let p' : f ≤ i = omega arith in
            elim (dec_lt i b) [
              | yes q ↦ within_of f b i p' q ∙ sym (eq-eqb x v (mid p' q))
              | no q ↦ let q' : b ≤ i = omega arith in within_past f b i q' ∙ sym (ne_eqb x v (λ e. let r = up q' in absurd (omega arith)))
            ]
      ]

-- case distinction on kinds 1 to 5
one_of_five : (P : ℕ → Type 0) → P 1 → P 2 → P 3 → P 4 → P 5 → (kind : ℕ) → 1 ≤ kind → kind ≤ 5 → P kind
one_of_five P a b c d e zero h k = absurd (omega arith)
one_of_five P a b c d e (suc zero) h k = a
one_of_five P a b c d e (suc (suc zero)) h k = b
one_of_five P a b c d e (suc (suc (suc zero))) h k = c
one_of_five P a b c d e (suc (suc (suc (suc zero)))) h k = d
one_of_five P a b c d e (suc (suc (suc (suc (suc zero))))) h k = e
one_of_five P a b c d e (suc (suc (suc (suc (suc (suc n)))))) h k = absurd (omega arith)

module _ (v : ℕ) (es : List Entry) (rows : ℕ) (first : first_row es rows ≡ 0) (i : ℕ) (h : i < rows) where
  module _ (f b : ℕ) (s : Cuts v es rows f b) where
    low : i < f → value_at i es < v
    low p = s.low i (omega arith) p

    from_f : f ≤ i → v ≤ value_at i es
    from_f p = elim (dec_lt i b) [ yes q ↦ let e = s.mid i p q in omega arith | no q ↦ let e = s.high i (omega arith) h in omega arith ]

    to_b : i < b → value_at i es ≤ v
    to_b p = elim (dec_lt i f) [ yes q ↦ let e = low q in omega arith | no q ↦ let e = s.mid i (omega arith) p in omega arith ]

    from_b : b ≤ i → v < value_at i es
    from_b p = s.high i p h

    less : elem i (members (range 0 f)) ≡ ltb (value_at i es) v
    less = elem_range 0 f i (omega arith) ∙ less_is (value_at i es) v i f low from_f

    greater : elem i (members (range b rows)) ≡ ltb v (value_at i es)
    greater = elem_range b rows i s.end ∙ greater_is (value_at i es) v i b rows h to_b from_b

    at_most : elem i (members (range 0 b)) ≡ leb (value_at i es) v
    at_most = elem_range 0 b i (omega arith) ∙ at_most_is (value_at i es) v i b to_b from_b

    at_least : elem i (members (range f rows)) ≡ leb v (value_at i es)
    at_least = let o = s.order in let z = s.end in elem_range f rows i (omega arith) ∙ at_least_is (value_at i es) v i f rows h low from_f

    equal : elem i (members (range f b)) ≡ eqb (value_at i es) v
    equal = elem_range f b i s.order ∙ equal_is (value_at i es) v i f b low (s.mid i) from_b

  -- no row is in 0..0, and no row has the value
  nothing : (g : ℕ) → Cuts v es rows g g → elem i (members (range 0 0)) ≡ eqb (value_at i es) v
  nothing g s =
      elem_range 0 0 i (omega arith) ∙ within_past 0 0 i (omega arith)
      ∙ sym (ne_eqb (value_at i es) v (λ e. elim (dec_lt i g) [ yes p ↦ let a = low g g s p in absurd (omega arith) | no p ↦ let a = s.high i (omega arith) h in absurd (omega arith) ]))

  placed_range : (p : Position) → Placed v es rows p → (kind : ℕ) → 1 ≤ kind → kind ≤ 5
      → elem i (members (range_at kind p rows)) ≡ compares kind (value_at i es) v
  unfolding range_at compares
  placed_range (found f b) s =
      one_of_five (λ kind. elem i (members (range_at kind (found f b) rows)) ≡ compares kind (value_at i es) v)
      (equal f b s) (less f b s) (greater f b s) (at_most f b s) (at_least f b s)
  placed_range (absent g) s =
      one_of_five (λ kind. elem i (members (range_at kind (absent g) rows)) ≡ compares kind (value_at i es) v)
      (nothing g s) (less g g s) (greater g g s) (at_most g g s) (at_least g g s)

-- the fast range of sound entries has exactly the rows whose recorded value passes the condition
pub fast_range_lem : (es : List Entry) (rows kind v : ℕ) → entries_sound es rows ≡ true → 1 ≤ kind → kind ≤ 5 → (i : ℕ) → i < rows
    → elem i (members (fast_range kind v es rows)) ≡ compares kind (value_at i es) v
fast_range_lem es rows kind v s one five i h =
    rw (fast_range_at kind v es rows (sound_climb es rows s))
    (placed_range v es rows (sound_first es rows s) i h (position v es rows) (placed v es rows (sound_climb es rows s)) kind one five)

-- ---- the position of a value, from the position that a search finds

place_skip : (v : ℕ) (es : List Entry) (rows r : ℕ) → r ≤ length es → ((i : ℕ) → i < r → value_of es i < v) → position v es rows ≡ position v (drop r es) rows
place_skip v es rows zero h f = refl
place_skip v [] rows (suc r) h f = absurd (omega arith)
place_skip v (e ∷ es) rows (suc r) h f =
    let k : e.value < v = f 0 (omega arith) in
    let here : position v (e ∷ es) rows ≡ position v es rows = unfold position in rw (lt-ltb _ _ k) in
    here ∙ place_skip v es rows r (omega arith) (λ i p. f (suc i) (suc-le-suc p))

module _ (v : ℕ) (es : List Entry) (rows r : ℕ) (h : r ≤ length es) (f : (i : ℕ) → i < r → value_of es i < v) where
  pub place_found : r < length es → value_of es r ≡ v → position v es rows ≡ found (first_row (drop r es) rows) (first_row (drop (r + 1) es) rows)
  unfolding position first_row
  place_found k e =
      let a : v ≤ value_of es r = omega arith in
      place_skip v es rows r h f ∙ rw (add-one r, drop-cons es r (entry 0 0) k, le-ltb _ _ a, eq-eqb _ _ e)

  pub place_absent : (r < length es → v < value_of es r) → position v es rows ≡ absent (first_row (drop r es) rows)
  unfolding position first_row
  place_absent g =
      place_skip v es rows r h f
      ∙ elim (dec_lt r (length es)) [
        | yes k ↦
            let b = g k in
            let a : v ≤ value_of es r = omega arith in
            let n : value_of es r ≡ v → ⊥ = λ e. omega arith in
            rw (drop-cons es r (entry 0 0) k, le-ltb _ _ a, ne_eqb _ _ n)
        | no k ↦ let k' : length es ≤ r = omega arith in rw (drop_of_length-le es k')
      ]
