-- Laws of the entries of rows whose sort values never fall: they are sound, and record each row's value. Assumes nothing.
use Rattle.std.specs.Prelude.{◌+◌, ◌-◌, ◌≤◌, ◌<◌, ◌≡◌, ◌∷◌}
use Rattle.sort_entries.specs.Laws.Prelude.{ℕ, zero, suc, refl, ap, ◌∙◌, true, List, [], dec_lt, add-one, arith, length, take, get_or, take-suc, take-length, length-take-le, le-leb}
use Rattle.lists.specs.Lists.{all, rising}
use Rattle.sort_entries.specs.Entries.{Entry, rebuilt_from, rebuilt, value_at, entries_sound, first_row}
use Rattle.sort_entries.specs.Laws.Push.{push, push_all, push_few, push_grows, rebuilt_push_all, rebuilt_snoc}
use Rattle.sort_entries.specs.Laws.Grow.{admits, admits_value_at, admits_none, push_sound, push_earlier, push_here}

-- each value is at least every earlier one
abbrev pub NeverFalls : List ℕ → Type 0
NeverFalls vs = (i j : ℕ) → i ≤ j → j < length vs → get_or vs i 0 ≤ get_or vs j 0

-- ---- rebuilt entries, one row at a time

-- the invariant for the entries of the first n rows
record Built (vs : List ℕ) (n : ℕ) (es : List Entry) : Type 0 where
  sound : entries_sound es n ≡ true
  recorded : (i : ℕ) → i < n → value_at i es ≡ get_or vs i 0

module _ (vs : List ℕ) (falls : NeverFalls vs) (n : ℕ) (es : List Entry) (b : Built vs n es) (h : n < length vs) where
  -- the next value is not below the last row's
  admitted : admits (get_or vs n 0) es ≡ true
  admitted =
      elim (dec_lt 0 n) [
        | yes p ↦
            let a = b.recorded (n - 1) (omega arith) in
            let c = falls (n - 1) n (omega arith) h in
            let d : value_at (n - 1) es ≤ get_or vs n 0 = omega arith in
            admits_value_at es n b.sound (get_or vs n 0) p ∙ le-leb _ _ d
        | no p ↦ admits_none es n b.sound (get_or vs n 0) (omega arith)
      ]

  built_step : Built vs (n + 1) (push (get_or vs n 0) n es)
  built_step = record { sound = push_sound es n b.sound (get_or vs n 0); recorded = recorded }
    where
      recorded : (i : ℕ) → i < n + 1 → value_at i (push (get_or vs n 0) n es) ≡ get_or vs i 0
      recorded i k =
          elim (dec_lt i n) [
            | yes p ↦ push_earlier es n b.sound (get_or vs n 0) i p ∙ b.recorded i p
            | no p ↦ let z : i ≡ n = omega arith in rw z (push_here es n b.sound (get_or vs n 0) admitted)
          ]

-- the invariant holds for the first n rows
built : (vs : List ℕ) → NeverFalls vs → (n : ℕ) → n ≤ length vs → Built vs n (rebuilt (take n vs))
built vs falls zero h =
    record { sound = unfold rebuilt rebuilt_from entries_sound rising all first_row in refl; recorded = λ i p. absurd (omega arith) }
built vs falls (suc n) h =
    let k : n < length vs = omega arith in
    let e : rebuilt (take (suc n) vs) ≡ push (get_or vs n 0) n (rebuilt (take n vs)) =
    ap rebuilt (take-suc vs n 0 k) ∙ rebuilt_snoc (take n vs) (get_or vs n 0)
    ∙ ap (λ (r : ℕ). push (get_or vs n 0) r (rebuilt (take n vs))) (length-take-le n vs (omega arith)) in
    rw (e, ← add-one n) (built_step vs falls n (rebuilt (take n vs)) (built vs falls n (omega arith)) k)

module _ (vs : List ℕ) (falls : NeverFalls vs) where
  all_built : Built vs (length vs) (rebuilt vs)
  all_built = rw (take-length vs) at (built vs falls (length vs) (omega arith))

  pub rebuilt_sound : entries_sound (rebuilt vs) (length vs) ≡ true
  rebuilt_sound = all_built.sound

  pub rebuilt_value_at : (i : ℕ) → i < length vs → value_at i (rebuilt vs) ≡ get_or vs i 0
  rebuilt_value_at = all_built.recorded

-- there are at most as many entries as rows, for any values
push_all_few : (row : ℕ) (vs : List ℕ) (es : List Entry) → length (push_all row vs es) ≤ length es + length vs
unfolding push_all
push_all_few row [] es = omega arith
push_all_few row (v ∷ vs) es = let a = push_all_few (suc row) vs (push v row es) in let b = push_few v row es in omega arith

pub rebuilt_few : (vs : List ℕ) → length (rebuilt vs) ≤ length vs
rebuilt_few vs = rw (rebuilt_push_all vs) (let a = push_all_few 0 vs [] in omega arith)

-- further rows remove no entry
push_all_grows : (row : ℕ) (vs : List ℕ) (es : List Entry) → length es ≤ length (push_all row vs es)
unfolding push_all
push_all_grows row [] es = omega arith
push_all_grows row (v ∷ vs) es = let a = push_all_grows (suc row) vs (push v row es) in let b = push_grows v row es in omega arith

push_all_front : (row n : ℕ) (vs : List ℕ) (es : List Entry) → length (push_all row (take n vs) es) ≤ length (push_all row vs es)
unfolding push_all
push_all_front row zero vs es = push_all_grows row vs es
push_all_front row (suc n) [] es = omega arith
push_all_front row (suc n) (v ∷ vs) es = push_all_front (suc row) n vs (push v row es)

pub rebuilt_front : (n : ℕ) (vs : List ℕ) → length (rebuilt (take n vs)) ≤ length (rebuilt vs)
rebuilt_front n vs = rw (rebuilt_push_all (take n vs), rebuilt_push_all vs) (push_all_front 0 n vs [])
