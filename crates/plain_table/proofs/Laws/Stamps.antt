-- The sort values appended since opening or the last clear that emptied rows never fall, and `largest` of a plain table is the
-- largest of them, after any calls. Assumes nothing.
use Rattle.plain_table.proofs.Laws.Prelude.{ℕ, zero, suc, ◌+◌, ◌≤◌, ◌<◌, ◌≡◌, refl, sym, ap, subst, ◌∙◌, inl, inr, Bool, true, false, cond, List, [], ◌∷◌, ◌++◌, map, map-append, append-nil, append_assoc, Option, none, some, dec_lt, le-max_left, le-max_right, max-eq_right, arith, leb, ltb, eqb, length, take, drop, get_or, length-append, length-map, drop_of_length-le, List·getD-append, drop-append-le, get_or_at, leb-true, le-leb, ltb-false, le-ltb, split, all_get_d, all_head, all_tail, all_cons, Opening}
use Rattle.lists.specs.Lists.{all}
use Rattle.plain_table.specs.Plain.{Row, Plain, opened, stage, live_with_key, kill_if, removed, below, raised, applied, compacted, unstaged, compacts_after, merged, cleared}
use Rattle.plain_table.specs.Calls.{Call, staging, merging, compacting, clearing, refreshing, feeding, records_of, stage_all, refusal, done, after, LentCall, after_all}
use Rattle.plain_table.specs.Appending.{merge_appends, merge_or_clear, by_call, stamps_after, stamps_since, greatest}
use Rattle.plain_table.proofs.Laws.Rows.{live_row, raised_same}
use Rattle.plain_table.proofs.Laws.Counts.{Appended, new, again, appended_alike, removed_keeps, length_removed, removed_alike, applied_keeps}
use Rattle.plain_table.proofs.Laws.Proper.{stop_above}

-- the sort values of rows
abbrev stamps_of : Plain → List (List ℕ) → List ℕ
stamps_of p rows = map (λ cells. get_or cells p.opening.sort 0) rows

-- `largest` of the table is the largest of these sort values, and they never fall
pub record Stamped (p : Plain) (stamps : List ℕ) : Type 0 where
  pub largest_kept : p.largest ≡ greatest stamps
  pub never_fall : (i j : ℕ) → i ≤ j → j < length stamps → get_or stamps i 0 ≤ get_or stamps j 0

-- ---- the largest of a list

above_both : (v x : ℕ) (g : Option ℕ) → below v (some (raised x g)) ≡ false → (x ≤ v) × (below v g ≡ false)
unfolding below raised
above_both v x none a = (ltb-false v x a, refl)
above_both v x (some m) a = (omega (arith, ltb-false v _ a, le-max_left x m), le-ltb v m (omega (arith, ltb-false v _ a, le-max_right x m)))

-- a value that is not below the largest of a list is not below any of its values
greatest_above : (v : ℕ) (vs : List ℕ) → below v (greatest vs) ≡ false → all (λ x. leb x v) vs ≡ true
unfolding greatest
greatest_above v [] e = unfold all in refl
greatest_above v (x ∷ vs) e =
    let h = above_both v x (greatest vs) e in
    all_cons (λ y. leb y v) x vs (le-leb x v h.0) (greatest_above v vs h.1)

-- appended to the list, such a value is the largest
greatest_snoc : (v : ℕ) (vs : List ℕ) → all (λ x. leb x v) vs ≡ true → greatest (vs ++ (v ∷ [])) ≡ some v
unfolding greatest raised
greatest_snoc v [] e = refl
greatest_snoc v (x ∷ vs) e =
    ap (λ (g : Option ℕ). some (raised x g)) (greatest_snoc v vs (all_tail (λ y. leb y v) x vs e))
    ∙ ap some (max-eq_right (leb-true x v (all_head (λ y. leb y v) x vs e)))

-- ---- one more value

stamped_snoc : {p : Plain} {stamps : List ℕ} (p' : Plain) (v : ℕ) → Stamped p stamps → below v p.largest ≡ false → p'.largest ≡ some (raised v p.largest)
    → Stamped p' (stamps ++ (v ∷ []))
stamped_snoc {p} {stamps} p' v s above e =
    record { largest_kept = e ∙ ap some (raised_same v p.largest above) ∙ sym (greatest_snoc v stamps least); never_fall = climb }
  where
    least : all (λ x. leb x v) stamps ≡ true
    least = greatest_above v stamps (ap (below v) (sym s.largest_kept) ∙ above)

    climb : (i j : ℕ) → i ≤ j → j < length (stamps ++ (v ∷ [])) → get_or (stamps ++ (v ∷ [])) i 0 ≤ get_or (stamps ++ (v ∷ [])) j 0
    climb i j h k =
        let n : length (stamps ++ (v ∷ [])) ≡ length stamps + 1 = length-append stamps (v ∷ []) in
        elim (dec_lt j (length stamps)) [
          | yes b ↦ rw (List·getD-append stamps (v ∷ []) 0 i (omega arith), List·getD-append stamps (v ∷ []) 0 j b) (s.never_fall i j h b)
          | no b ↦
              let z : length stamps ≡ j = omega arith in
              let at : get_or (stamps ++ (v ∷ [])) j 0 ≡ v = get_or_at stamps v [] 0 j z in
              elim (dec_lt i (length stamps)) [
                | yes a ↦
                    let x = List·getD-append stamps (v ∷ []) 0 i a in
                    let y : get_or stamps i 0 ≤ v = leb-true _ _ (all_get_d (λ x. leb x v) stamps least i a 0) in
                    omega arith
                | no a ↦ let w : i ≡ j = omega arith in rw w (omega arith)
              ]
        ]

-- ---- the inserts of a merge

-- the cells of a table's rows
abbrev cells_in : Plain → List (List ℕ)
cells_in p = map (λ row. row.cells) p.rows

-- a dead row has the same cells
cells_killed : (test : Row → Bool) (rows : List Row) → map (λ row. row.cells) (kill_if test rows) ≡ map (λ row. row.cells) rows
unfolding kill_if
cells_killed test [] = refl
cells_killed test (row ∷ rows) =
    let h = cells_killed test rows in
    elim (split (test row)) [ inl e ↦ rw (e, h) | inr e ↦ rw (e, h) ]

-- one more row, its sort value and the largest value after it
record Grown (p p' : Plain) : Type 0 where
  row : List ℕ
  cells_after : cells_in p' ≡ cells_in p ++ (row ∷ [])
  above : below (get_or row p.opening.sort 0) p.largest ≡ false
  largest_after : p'.largest ≡ some (raised (get_or row p.opening.sort 0) p.largest)

appended_grown : {cells : List ℕ} {p p' : Plain} → Appended cells p p' → Grown p p'
appended_grown {cells} {p} (new s l q) =
    record {
      row = cells;
      cells_after = map-append (λ (row : Row). row.cells) p.rows (live_row cells ∷ []);
      above = stop_above cells p q;
      largest_after = refl;
    }
appended_grown {cells} {p} (again old row s l c m q) =
    let test : Row → Bool = live_with_key p.opening.keys (take p.opening.keys cells) in
    record {
      row = row;
      cells_after =
          map-append (λ (row : Row). row.cells) (kill_if test p.rows) (live_row row ∷ [])
          ∙ ap (λ (l : List (List ℕ)). l ++ (row ∷ [])) (cells_killed test p.rows);
      above = stop_above row p q;
      largest_after = refl;
    }

module _ (p : Plain) (stamps : List ℕ) where
  -- with the sort values of the rows behind those of p
  abbrev stamps_to : Plain → List ℕ
  stamps_to t = stamps ++ stamps_of p (drop (length p.rows) (cells_in t))

  -- a table that the inserts of a merge on p lead to
  record Going (t : Plain) : Type 0 where
    opening : t.opening ≡ p.opening
    longer : length p.rows ≤ length (cells_in t)
    stamped : Stamped t (stamps_to t)

  stamps_grown : (t t' : Plain) (g : Grown t t') → length p.rows ≤ length (cells_in t) → stamps_to t' ≡ stamps_to t ++ (get_or g.row p.opening.sort 0 ∷ [])
  stamps_grown t t' g h =
      let n : ℕ = length p.rows in
      let v : ℕ = get_or g.row p.opening.sort 0 in
      let tail : drop n (cells_in t') ≡ drop n (cells_in t) ++ (g.row ∷ []) = ap (drop n) g.cells_after ∙ drop-append-le n (cells_in t) (g.row ∷ []) h in
      ap (λ (l : List (List ℕ)). stamps ++ stamps_of p l) tail
      ∙ ap (λ (l : List ℕ). stamps ++ l) (map-append (λ (cells : List ℕ). get_or cells p.opening.sort 0) (drop n (cells_in t)) (g.row ∷ []))
      ∙ sym (append_assoc stamps (stamps_of p (drop n (cells_in t))) (v ∷ []))

  going_appended : (cells : List ℕ) (t t' : Plain) → Going t → Appended cells t t' → Going t'
  going_appended cells t t' h a =
      let g = appended_grown a in
      let v : ℕ = get_or g.row p.opening.sort 0 in
      let above : below v t.largest ≡ false = ap (λ (o : Opening). below (get_or g.row o.sort 0) t.largest) (sym h.opening) ∙ g.above in
      let largest : t'.largest ≡ some (raised v t.largest) =
      g.largest_after ∙ ap (λ (o : Opening). some (raised (get_or g.row o.sort 0) t.largest)) h.opening in
      record {
        opening = (appended_alike a).opening ∙ h.opening;
        longer = omega (arith, h.longer, ap length g.cells_after, length-append (cells_in t) (g.row ∷ []));
        stamped = rw (stamps_grown t t' g h.longer) (stamped_snoc t' v h.stamped above largest);
      }

-- ---- the calls

removed_largest : (p : Plain) → (removed p).largest ≡ p.largest
removed_largest p = removed_keeps (λ q. q.largest ≡ p.largest) (λ q test e. e) (λ q keys key number e. e) p refl

-- a table with the same largest value
stamped_same : {p : Plain} {stamps : List ℕ} (q : Plain) → q.largest ≡ p.largest → Stamped p stamps → Stamped q stamps
stamped_same q e s = record { largest_kept = e ∙ s.largest_kept; never_fall = s.never_fall }

merged_largest : (p : Plain) → (merged p).table.largest ≡ (applied p).table.largest
unfolding merged compacted unstaged
merged_largest p = elim (split (compacts_after (applied p).status (applied p).table)) [ inl e ↦ rw e | inr e ↦ rw e ]

map_drop : {A B : Type 0} (f : A → B) (n : ℕ) (l : List A) → drop n (map f l) ≡ map f (drop n l)
map_drop f zero l = refl
map_drop f (suc n) [] = refl
map_drop f (suc n) (x ∷ xs) = map_drop f n xs

going_removed : {p : Plain} {stamps : List ℕ} → Stamped p stamps → Going p stamps (removed p)
going_removed {p} {stamps} s =
    let q : Plain = removed p in
    let n : length (cells_in q) ≡ length p.rows = length-map q.rows (λ (row : Row). row.cells) ∙ length_removed p in
    let none : drop (length p.rows) (cells_in q) ≡ [] = drop_of_length-le (cells_in q) {i = length p.rows} (omega arith) in
    record {
      opening = (removed_alike p).opening;
      longer = omega arith;
      stamped = rw (none, append-nil stamps) (stamped_same q (removed_largest p) s);
    }

stamped_merge : {p : Plain} {stamps : List ℕ} → Stamped p stamps → Stamped (merged p).table (stamps ++ stamps_of p (merge_appends p))
unfolding merge_appends
stamped_merge {p} {stamps} s =
    let t : Plain = (applied p).table in
    let g : Going p stamps t = applied_keeps (Going p stamps) (going_appended p stamps) p (going_removed s) in
    stamped_same (merged p).table (merged_largest p)
    (subst (λ (rows : List (List ℕ)). Stamped t (stamps ++ stamps_of p rows)) (map_drop (λ (row : Row). row.cells) (length p.rows) t.rows) g.stamped)

stamped_opened : (o : Opening) (generation : ℕ) → Stamped (opened o generation) []
unfolding opened greatest
stamped_opened o generation = record { largest_kept = refl; never_fall = λ i j h k. absurd (omega arith) }

stamped_done : {p : Plain} {stamps : List ℕ} (c : Call) → Stamped p stamps
    → Stamped (done p c) (merge_or_clear c (stamps ++ stamps_of p (merge_appends p)) (cond (ltb 0 (length p.rows)) [] stamps) stamps)
unfolding done merge_or_clear stage stage_all compacted unstaged cleared
stamped_done {p} (staging r) s = stamped_same (stage p r) refl s
stamped_done merging s = stamped_merge s
stamped_done {p} compacting s = stamped_same (compacted p) refl s
stamped_done {p} clearing s =
    elim (split (ltb 0 (length p.rows))) [
      | inl e ↦ rw e (stamped_opened p.opening (p.generation + 1))
      | inr e ↦ rw e (stamped_same (unstaged p) refl s)
    ]
stamped_done {p} (refreshing r index) s = stamped_same (stage_all p (records_of p r)) refl s
stamped_done {p} (feeding rs) s = stamped_same (stage_all p rs) refl s

stamped_after : {p : Plain} {stamps : List ℕ} (c : LentCall) → Stamped p stamps → Stamped (after p c.lengths c.call) (stamps_after stamps p c)
unfolding after stamps_after by_call
stamped_after {p} c s = elim (split (eqb (refusal p c.lengths c.call) 0)) [ inl e ↦ rw e (stamped_done c.call s) | inr e ↦ rw e s ]

stamped_all : {p : Plain} {stamps : List ℕ} (cs : List LentCall) → Stamped p stamps → Stamped (after_all p cs) (stamps_since stamps p cs)
unfolding after_all stamps_since
stamped_all [] s = s
stamped_all {p = p} {stamps = stamps} (c ∷ cs) s = stamped_all {p = after p c.lengths c.call} {stamps = stamps_after stamps p c} cs (stamped_after c s)

-- after any list of calls from an opening
pub stamped_history : (o : Opening) (generation : ℕ) (cs : List LentCall) → Stamped (after_all (opened o generation) cs) (stamps_since [] (opened o generation) cs)
stamped_history o generation cs = stamped_all cs (stamped_opened o generation)
