-- The records of a refresh are whole. Assumes nothing.
use Rattle.plain_table.proofs.Laws.Prelude.{ℕ, suc, ◌≤◌, ◌≡◌, refl, ◌∙◌, inl, inr, true, false, not, List, [], ◌∷◌, arith, eqb, length, take, set, length-set, length-take-le, eqb-true, eq-eqb, not-true, all_head, all_tail, all_cons, all_append, or_no_left, or_no_right, split, Opening, Staged}
use Rattle.lists.specs.Lists.{all, any, flatten}
use Rattle.plain_table.specs.Plain.{Row, Numbered, live_from}
use Rattle.plain_table.specs.Refusing.{wrong_width}
use Rattle.plain_table.specs.Refreshing.{restamping, refreshed}

-- rows of the opening's width
abbrev pub Wide : Opening → List Numbered → Type 0
Wide o rows = all (λ row. eqb (length row.cells) o.columns) rows ≡ true

pub live_wide : (o : Opening) (n : ℕ) (rows : List Row) → all (λ row. eqb (length row.cells) o.columns) rows ≡ true → Wide o (live_from n rows)
unfolding live_from
live_wide o n [] e = unfold all in refl
live_wide o n (row ∷ rows) e =
    let rest = live_wide o (suc n) rows (all_tail (λ (r : Row). eqb (length r.cells) o.columns) row rows e) in
    elim (split row.live) [
      | inl l ↦
          rw l
          (all_cons (λ (r : Numbered). eqb (length r.cells) o.columns) (record { number = n; cells = row.cells }) (live_from (suc n) rows)
          (all_head (λ (r : Row). eqb (length r.cells) o.columns) row rows e) rest)
      | inr l ↦ rw l rest
    ]

-- the two records of a row are whole
restamping_whole : (o : Opening) (stamp : ℕ) (row : Numbered) → o.keys ≤ o.columns → eqb (length row.cells) o.columns ≡ true
    → all (λ r. not (wrong_width o r)) (restamping o stamp row) ≡ true
unfolding restamping wrong_width all
restamping_whole o stamp row few wide =
    let w = eqb-true (length row.cells) o.columns wide in
    rw (eq-eqb (length (take o.keys row.cells)) o.keys (length-take-le o.keys row.cells (omega arith)), eq-eqb (length (set row.cells o.sort stamp)) o.columns (length-set row.cells o.sort stamp ∙ w))

pub refreshed_whole : (o : Opening) (stamp : ℕ) (rows : List Numbered) → o.keys ≤ o.columns → Wide o rows → all (λ r. not (wrong_width o r)) (refreshed o stamp rows) ≡ true
unfolding refreshed flatten
refreshed_whole o stamp [] few wide = unfold all in refl
refreshed_whole o stamp (row ∷ rows) few wide =
    all_append (λ r. not (wrong_width o r)) (restamping o stamp row) (refreshed o stamp rows)
    (restamping_whole o stamp row few (all_head (λ (r : Numbered). eqb (length r.cells) o.columns) row rows wide))
    (refreshed_whole o stamp rows few (all_tail (λ (r : Numbered). eqb (length r.cells) o.columns) row rows wide))

-- if no record has a wrong width, all records are whole
pub none_wrong : (o : Opening) (rs : List Staged) → any (wrong_width o) rs ≡ false → all (λ r. not (wrong_width o r)) rs ≡ true
unfolding any all
none_wrong o [] e = refl
none_wrong o (r ∷ rs) e = rw (or_no_left (wrong_width o r) (any (wrong_width o) rs) e) (none_wrong o rs (or_no_right (wrong_width o r) (any (wrong_width o) rs) e))

-- conversely
pub whole_right : (o : Opening) (rs : List Staged) → all (λ r. not (wrong_width o r)) rs ≡ true → any (wrong_width o) rs ≡ false
unfolding any
whole_right o [] e = refl
whole_right o (r ∷ rs) e =
    rw (not-true (wrong_width o r) (all_head (λ r. not (wrong_width o r)) r rs e), whole_right o rs (all_tail (λ r. not (wrong_width o r)) r rs e))
