-- Along the calls that lines of `levels` make, every cell of a live row is a u32 if every cell staged for insertion is. Assumes
-- nothing.
use Rattle.std.specs.Prelude.{◌≡◌, ◌∷◌, ◌++◌}
use Rattle.levels_spec.specs.Laws.Prelude.{ℕ, refl, ap, inl, inr, Bool, true, false, cond, not, List, [], leb, ltb, eqb, length, take, lt_z, all_head, all_tail, all_cons, all_append, all_snoc, or_second, split, and_left, all_get_d, Lengths, row_of, lookup_at, no_row, Thinned, kill_if_thinned, dies_thinned, filter_thinned, thinned_all, Appended, new, again, removed_keeps, insert_all_keeps, live_fits}
use Rattle.lists.specs.Lists.{all}
use Rattle.merge_rules.specs.Rules.{ruled_column, signed, smaller, larger, taken, made_cell, made_from}
use Rattle.plain_table.specs.Staged.{Staged, insert, remove_key, remove_row, inserts, has_key}
use Rattle.plain_table.specs.Plain.{Row, Plain, opened, stage, live_with_key, removed, applied, compacted, unstaged, compacts_after, merged, cleared}
use Rattle.plain_table.specs.Calls.{Call, refusal, done, after}
use Rattle.listing_spec.specs.Listings.{are_numbers}

-- every cell of a live row and of a staged insert is a u32
pub record Fits (p : Plain) : Type 0 where
  pub rows : all live_fits p.rows ≡ true
  pub staged : all are_numbers (inserts p.staged) ≡ true

-- ---- the row that a rule makes: each cell is a cell of one of the two rows

abbrev Fit : ℕ → Type 0
Fit n = leb n 4294967295 ≡ true

one_of : (b : Bool) (x y : ℕ) → Fit x → Fit y → Fit (cond b x y)
one_of true x y f g = f
one_of false x y f g = g

cell_fits : (rule keys sort column a b : ℕ) → Fit a → Fit b → Fit (made_cell rule keys sort column a b)
unfolding made_cell taken smaller larger
cell_fits rule keys sort column a b f g =
    one_of (ruled_column keys sort column) _ _
    (one_of (eqb rule 1) _ _ g (one_of (eqb rule 2) _ _ (one_of (lt_z (signed b) (signed a)) _ _ g f) (one_of (eqb rule 3) _ _ (one_of (lt_z (signed a) (signed b)) _ _ g f) f)))
    (one_of (eqb column sort) _ _ g f)

made_fits : (rule keys sort column : ℕ) (l m : List ℕ) → are_numbers l ≡ true → are_numbers m ≡ true → are_numbers (made_from rule keys sort column l m) ≡ true
unfolding are_numbers made_from
made_fits rule keys sort column [] m e f = unfold all in refl
made_fits rule keys sort column (a ∷ l) [] e f = unfold all in refl
made_fits rule keys sort column (a ∷ l) (b ∷ m) e f =
    all_cons (λ n. leb n 4294967295) _ _
    (cell_fits rule keys sort column a b (all_head (λ n. leb n 4294967295) a l e) (all_head (λ n. leb n 4294967295) b m f))
    (made_fits rule keys sort _ l m (all_tail (λ n. leb n 4294967295) a l e) (all_tail (λ n. leb n 4294967295) b m f))

-- ---- merge

-- rows that died or were removed
thinned_fits : {a b : List Row} → Thinned a b → all live_fits a ≡ true → all live_fits b ≡ true
thinned_fits t e = thinned_all live_fits (λ row q. refl) t e

live_key : (keys : ℕ) (key : List ℕ) (row : Row) → live_with_key keys key row ≡ true → row.live ≡ true
unfolding live_with_key
live_key keys key row e = and_left row.live (has_key keys key row.cells) e

row_fits_lem : (row : Row) → row.live ≡ true → live_fits row ≡ true → are_numbers row.cells ≡ true
row_fits_lem row live fits = or_second (not row.live) (are_numbers row.cells) fits (rw live)

appended_fits : {cells : List ℕ} {p p' : Plain} → Fits p → are_numbers cells ≡ true → Appended cells p p' → Fits p'
appended_fits {cells} {p} h f (new s l e) = record { rows = all_snoc live_fits p.rows _ h.rows f; staged = h.staged }
appended_fits {cells} {p} h f (again old row s l c m e) =
    let key = take p.opening.keys cells in
    let t = lookup_at p key old l in
    let live = live_key p.opening.keys key (row_of p old.number) t.1 in
    let fits = row_fits_lem (row_of p old.number) live (all_get_d live_fits p.rows h.rows old.number t.0 no_row) in
    let made = made_fits p.opening.rule p.opening.keys p.opening.sort 0 old.cells cells (rw t.2 at fits) f in
    record { rows = all_snoc live_fits _ _ (thinned_fits (kill_if_thinned _ p.rows) h.rows) (rw m at made); staged = h.staged }

removed_fits : (p : Plain) → Fits p → Fits (removed p)
removed_fits p h =
    removed_keeps Fits
    (λ q test k. record { rows = thinned_fits (kill_if_thinned test q.rows) k.rows; staged = k.staged })
    (λ q keys key number k. record { rows = thinned_fits (dies_thinned keys key number q.rows) k.rows; staged = k.staged })
    p h

applied_fits : {p : Plain} → Fits p → Fits (applied p).table
unfolding applied
applied_fits {p} h =
    insert_all_keeps Fits are_numbers (λ cells t t' f k a. appended_fits k f a) (inserts p.staged) h.staged 0 (removed p) (removed_fits p h)

none_staged : all are_numbers (inserts []) ≡ true
unfolding inserts all
none_staged = refl

unstaged_fits : {p : Plain} → Fits p → Fits (unstaged p)
unfolding unstaged
unstaged_fits h = record { rows = h.rows; staged = none_staged }

pub compacted_fits : {p : Plain} → Fits p → Fits (compacted p)
unfolding compacted
compacted_fits {p} h = record { rows = thinned_fits (filter_thinned (λ row. row.live) p.rows) h.rows; staged = h.staged }

pub merged_fits : {p : Plain} → Fits p → Fits (merged p).table
unfolding merged
merged_fits {p} h =
    let u = unstaged_fits (applied_fits h) in
    elim (split (compacts_after (applied p).status (applied p).table)) [ inl e ↦ rw e (compacted_fits u) | inr e ↦ rw e u ]

-- ---- the other calls

pub opened_fits : {p : Plain} → p.rows ≡ [] → p.staged ≡ [] → Fits p
opened_fits e f = record { rows = rw e (unfold all in refl); staged = rw f none_staged }

pub cleared_fits : {p : Plain} → Fits p → Fits (cleared p)
unfolding cleared opened
cleared_fits {p} h = elim (split (ltb 0 (length p.rows))) [ inl e ↦ rw e (opened_fits refl refl) | inr e ↦ rw e (unstaged_fits h) ]

inserts_append : (a b : List Staged) → inserts (a ++ b) ≡ inserts a ++ inserts b
unfolding inserts
inserts_append [] b = refl
inserts_append (insert cells ∷ a) b = ap (λ (l : List (List ℕ)). cells ∷ l) (inserts_append a b)
inserts_append (remove_key key ∷ a) b = inserts_append a b
inserts_append (remove_row row key ∷ a) b = inserts_append a b

pub staged_fits : {p : Plain} (r : Staged) → Fits p → all are_numbers (inserts (r ∷ [])) ≡ true → Fits (stage p r)
unfolding stage
staged_fits {p} r h f =
    record { rows = h.rows; staged = rw (inserts_append p.staged (r ∷ [])) (all_append are_numbers (inserts p.staged) (inserts (r ∷ [])) h.staged f) }

-- after a call, refused or not
pub after_fits : {p : Plain} (l : Lengths) (c : Call) → Fits p → Fits (done p c) → Fits (after p l c)
unfolding after
after_fits {p} l c h k = elim (split (eqb (refusal p l c) 0)) [ inl e ↦ rw e k | inr e ↦ rw e h ]
