-- What the parts of a merge leave unchanged: the row count, the opening, the generation, the staged records. Assumes nothing.
use Rattle.plain_table.proofs.Laws.Prelude.{ℕ, zero, suc, ◌≤◌, ◌≡◌, refl, ap, ◌∙◌, ◌⊎◌, inl, inr, Bool, true, false, cond, Option, none, some, List, [], ◌∷◌, foldl, arith, length, take, length-append, length-map, all_head, all_tail, ruled, made_from, changes_from, Staged, insert, remove_key, remove_row, inserts, skipped, ruled_made}
use Rattle.lists.specs.Lists.{all}
use Rattle.refusals.specs.Refusals.{Reply, refused, accepted, reply}
use Rattle.plain_table.specs.Plain.{Row, Plain, with_rows, with_row, live_with_key, kill_if, without_key, dies, without_row, removed, stop, append, upsert, insertion, inserted, insert_all, applied, Numbered, lookup}

-- ---- removals do not change the row count

-- a row that dies remains in the list
pub length_kill_if : (test : Row → Bool) (rows : List Row) → length (kill_if test rows) ≡ length rows
unfolding kill_if
length_kill_if test rows = length-map rows (λ row. cond (test row) (record { live = false; cells = row.cells }) row)

-- the same for a removal by row
pub length_dies : (keys : ℕ) (key : List ℕ) (number : ℕ) (rows : List Row) → length (dies keys key number rows) ≡ length rows
unfolding dies
length_dies keys key number [] = refl
length_dies keys key zero (row ∷ rows) = refl
length_dies keys key (suc number) (row ∷ rows) = ap suc (length_dies keys key number rows)

-- a property that holds after rows die holds after all removals of a merge
pub removed_keeps : (P : Plain → Type 0)
    → ((q : Plain) (test : Row → Bool) → P q → P (with_rows q (kill_if test q.rows)))
    → ((q : Plain) (keys : ℕ) (key : List ℕ) (number : ℕ) → P q → P (with_rows q (dies keys key number q.rows)))
    → (p : Plain) → P p → P (removed p)
unfolding removed without_key without_row
removed_keeps P kill die p h = by_row p.staged _ (by_key p.staged p h)
  where
    by_key : (rs : List Staged) (q : Plain) → P q → P (foldl without_key q rs)
    by_key [] q g = g
    by_key (insert cells ∷ rs) q g = by_key rs q g
    by_key (remove_key key ∷ rs) q g = by_key rs _ (kill q _ g)
    by_key (remove_row row key ∷ rs) q g = by_key rs q g

    by_row : (rs : List Staged) (q : Plain) → P q → P (foldl without_row q rs)
    by_row [] q g = g
    by_row (insert cells ∷ rs) q g = by_row rs q g
    by_row (remove_key key ∷ rs) q g = by_row rs q g
    by_row (remove_row row key ∷ rs) q g = by_row rs _ (die q _ key row g)

-- removals do not change the row count
pub length_removed : (p : Plain) → length (removed p).rows ≡ length p.rows
length_removed p =
    removed_keeps (λ q. length q.rows ≡ length p.rows) (λ q test e. length_kill_if test q.rows ∙ e)
    (λ q keys key number e. length_dies keys key number q.rows ∙ e) p refl

-- ---- everything but the rows and the largest value

-- the same opening, generation and staged records
pub record Alike (p q : Plain) : Type 0 where
  pub opening : q.opening ≡ p.opening
  pub generation : q.generation ≡ p.generation
  pub staged : q.staged ≡ p.staged

-- if only the rows differ
pub alike_rows : (p : Plain) (rows : List Row) → Alike p (with_rows p rows)
alike_rows p rows = record { opening = refl; generation = refl; staged = refl }

-- reflexivity
pub alike_same : (p : Plain) → Alike p p
alike_same p = record { opening = refl; generation = refl; staged = refl }

-- transitivity
pub alike_then : {p q r : Plain} → Alike p q → Alike q r → Alike p r
alike_then a b =
    record {
      opening = b.opening ∙ a.opening;
      generation = b.generation ∙ a.generation;
      staged = b.staged ∙ a.staged;
    }

-- a merge's removals change only the rows
pub removed_alike : (p : Plain) → Alike p (removed p)
removed_alike p =
    removed_keeps (λ q. Alike p q) (λ q test a. alike_then a (alike_rows q _)) (λ q keys key number a. alike_then a (alike_rows q _)) p (alike_same p)

-- ---- an insertion

-- an insert that appends a row: it is not skipped, it does not stop, and its key is new or the rule makes a row
pub data Appended (cells : List ℕ) (p : Plain) : Plain → Type 0 where
  new : skipped cells ≡ false
      → lookup p (take p.opening.keys cells) ≡ none
      → stop cells p ≡ 0
      → Appended cells p (with_row p p.rows cells)
  again : (old : Numbered) (row : List ℕ) → skipped cells ≡ false
      → lookup p (take p.opening.keys cells) ≡ some old
      → changes_from p.opening.rule p.opening.keys p.opening.sort 0 old.cells cells ≡ true
      → made_from p.opening.rule p.opening.keys p.opening.sort 0 old.cells cells ≡ row
      → stop row p ≡ 0
      → Appended cells p (with_row p (kill_if (live_with_key p.opening.keys (take p.opening.keys cells)) p.rows) row)

-- a row is appended only if nothing stops it
append_appended : (cells : List ℕ) (p p' : Plain) (rows : List Row) → append cells p rows ≡ accepted p'
    → (stop cells p ≡ 0) × (with_row p rows cells ≡ p')
unfolding append reply
append_appended cells p p' rows e = go (stop cells p) e
  where
    go : (n : ℕ) → reply n (with_row p rows cells) ≡ accepted p' → (n ≡ 0) × (with_row p rows cells ≡ p')
    go zero f = (refl, cc)
    go (suc n) f = absurd (let z : ◌≡◌ {A = ℕ} 0 1 = cc in omega arith)

-- an accepted insertion leaves the table unchanged or appends a row
pub insertion_appended : (cells : List ℕ) (p p' : Plain) → insertion cells p ≡ accepted p' → (p ≡ p') ⊎ Appended cells p p'
unfolding insertion upsert
insertion_appended cells p p' e = skip (skipped cells) refl e
  where
    rule : (old : Numbered) (r : Option (List ℕ))
        → skipped cells ≡ false
        → lookup p (take p.opening.keys cells) ≡ some old
        → ruled p.opening.rule p.opening.keys p.opening.sort old.cells cells ≡ r
        → elim r [ none ↦ accepted p | some row ↦ append row p (kill_if (live_with_key p.opening.keys (take p.opening.keys cells)) p.rows) ] ≡ accepted p'
        → (p ≡ p') ⊎ Appended cells p p'
    rule old none s l q f = inl cc
    rule old (some row) s l q f =
        let a = append_appended row p p' (kill_if (live_with_key p.opening.keys (take p.opening.keys cells)) p.rows) f in
        let m = ruled_made p.opening.rule p.opening.keys p.opening.sort old.cells cells row q in
        inr (rw (← a.1) (again old row s l m.0 m.1 a.0))

    find : (found : Option Numbered) → skipped cells ≡ false → lookup p (take p.opening.keys cells) ≡ found → upsert cells found p ≡ accepted p' → (p ≡ p') ⊎ Appended cells p p'
    find none s l f = let a = append_appended cells p p' p.rows f in inr (rw (← a.1) (new s l a.0))
    find (some old) s l f = rule old (ruled p.opening.rule p.opening.keys p.opening.sort old.cells cells) s l refl f

    skip : (b : Bool) → skipped cells ≡ b
        → cond b (accepted p) (upsert cells (lookup p (take p.opening.keys cells)) p) ≡ accepted p' → (p ≡ p') ⊎ Appended cells p p'
    skip true s f = inl cc
    skip false s f = find (lookup p (take p.opening.keys cells)) s refl f

-- a property of the table that an appending insert preserves is preserved by every accepted insert
pub insertion_keeps : (P : Plain → Type 0) (cells : List ℕ) (p p' : Plain) → insertion cells p ≡ accepted p' → P p → (Appended cells p p' → P p') → P p'
insertion_keeps P cells p p' e h f = elim (insertion_appended cells p p' e) [ inl q ↦ rw q at h | inr a ↦ f a ]

-- an insert that appends adds one row
pub appended_count : {cells : List ℕ} {p p' : Plain} → Appended cells p p' → length p'.rows ≡ suc (length p.rows)
appended_count {cells} {p} (new s l q) = simp length-append (omega arith)
appended_count {cells} {p} (again old row s l c m q) = simp (length-append, length_kill_if) (omega arith)

-- it changes only the rows and the largest value
pub appended_alike : {cells : List ℕ} {p p' : Plain} → Appended cells p p' → Alike p p'
appended_alike (new s l q) = record { opening = refl; generation = refl; staged = refl }
appended_alike (again old row s l c m q) = record { opening = refl; generation = refl; staged = refl }

-- an accepted insert changes only the rows and the largest value
pub insertion_alike : (cells : List ℕ) (p p' : Plain) → insertion cells p ≡ accepted p' → Alike p p'
insertion_alike cells p p' e = insertion_keeps (λ t. Alike p t) cells p p' e (alike_same p) appended_alike

-- ---- all inserts

module _ (cells : List ℕ) (rest : List (List ℕ)) (place : ℕ) (p : Plain) where
  -- the inserts continue after an accepted one
  pub insert_all_accepted : (p' : Plain) → insertion cells p ≡ accepted p' → insert_all (cells ∷ rest) place p ≡ insert_all rest (suc place) p'
  unfolding insert_all
  insert_all_accepted p' e = rw (e, insert_all)

  -- they stop at a refused one
  pub insert_all_refused : (number : ℕ) → insertion cells p ≡ refused number → insert_all (cells ∷ rest) place p ≡ inserted p number place
  unfolding insert_all
  insert_all_refused number e = rw (e, insert_all)

-- a property that each appending insert preserves is preserved by all inserts, if each of them passes the required test
pub insert_all_keeps : (P : Plain → Type 0) (test : List ℕ → Bool)
    → ((cells : List ℕ) (p p' : Plain) → test cells ≡ true → P p → Appended cells p p' → P p')
    → (rows : List (List ℕ)) → all test rows ≡ true → (place : ℕ) (p : Plain) → P p → P (insert_all rows place p).table
insert_all_keeps P test f [] e place p h = unfold insert_all in h
insert_all_keeps P test f (cells ∷ rest) e place p h =
    go (insertion cells p) refl (insert_all_keeps P test f rest (all_tail test cells rest e) (suc place))
  where
    go : (i : Reply Plain) → insertion cells p ≡ i → ((p' : Plain) → P p' → P (insert_all rest (suc place) p').table) → P (insert_all (cells ∷ rest) place p).table
    go (refused n) q ih = rw (insert_all_refused cells rest place p n q) h
    go (accepted p') q ih =
        rw (insert_all_accepted cells rest place p p' q) (ih p' (insertion_keeps P cells p p' q h (f cells p p' (all_head test cells rest e) h)))

-- every row passes the constant test
pub all_true : (rows : List (List ℕ)) → all (λ row. true) rows ≡ true
unfolding all
all_true [] = refl
all_true (row ∷ rows) = all_true rows

-- a property that the removals leave and each appending insert preserves holds before a merge's compaction
pub applied_keeps : (P : Plain → Type 0) → ((cells : List ℕ) (p p' : Plain) → P p → Appended cells p p' → P p') → (p : Plain) → P (removed p) → P (applied p).table
unfolding applied
applied_keeps P f p h = insert_all_keeps P (λ row. true) (λ cells t t' u k a. f cells t t' k a) (inserts p.staged) (all_true (inserts p.staged)) 0 (removed p) h

-- a merge's removals and inserts change only the rows and the largest value
pub applied_alike : (p : Plain) → Alike p (applied p).table
applied_alike p = applied_keeps (λ t. Alike p t) (λ cells t t' h a. alike_then h (appended_alike a)) p (removed_alike p)

-- no row is dropped before a merge's compaction
pub applied_longer : (p : Plain) → length p.rows ≤ length (applied p).table.rows
applied_longer p =
    applied_keeps (λ t. length p.rows ≤ length t.rows) (λ cells t t' h a. omega (arith, h, appended_count a)) p (omega (arith, length_removed p))
