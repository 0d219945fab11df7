-- What is written for a table in lent stores: a listing within all bounds; if the stores represent a plain table, the listing of
-- that table. Assumes nothing.
use Rattle.std.specs.Prelude.{◌*◌, ◌≤◌, ◌≡◌, ◌||◌, ◌∷◌}
use Rattle.listing_write.specs.Laws.Prelude.{ℕ, zero, suc, refl, Bool, true, false, not, List, [], map, some, arith, leb, ltb, eqb, length, take, drop, get_or, le-ltb, all_head, all_tail, all_cons, or_right, rows_of_widths, Header, opening_of, Stores, Represents, row_of_cells, length_rows_in, live_shown, outside_inside, represents_inside, represents_long}
use Rattle.lists.specs.Lists.{all, rows_of}
use Rattle.refusals.specs.Refusals.{check, first_refusal}
use Rattle.cells.specs.Cells.{is_dead}
use Rattle.constraints.specs.Constraints.{is_live}
use Rattle.plain_table.specs.Plain.{Plain, live_rows}
use Rattle.table.specs.Refusing.{outside, rows_short}
use Rattle.table.specs.Stores.{rows_in}
use Rattle.listing_spec.specs.Listings.{Listing, listing_text, are_numbers, ParsesAs}
use Rattle.listing_write.specs.Writing.{table_listing, stored_text, write_refusal}
use Rattle.listing_write.specs.Laws.Lines.{checked_rows_stored}
use Rattle.listing_write.specs.Laws.Listed.{live_fits, table_listed}

-- the listing of a header and a row store
abbrev pub stored_listing : Bool → Header → List ℕ → Listing
stored_listing numbered h rows = table_listing numbered (opening_of h) h.generation (rows_in h rows)

-- ---- rows of a store whose cells are u32

map_every : {A B : Type 0} (test : B → Bool) (f : A → B) (l : List A) → all (λ x. test (f x)) l ≡ true → all test (map f l) ≡ true
map_every test f [] e = unfold all in refl
map_every test f (x ∷ l) e = all_cons test (f x) (map f l) (all_head (λ y. test (f y)) x l e) (map_every test f l (all_tail (λ y. test (f y)) x l e))

every_all : {A : Type 0} (test : A → Bool) → ((x : A) → test x ≡ true) → (l : List A) → all test l ≡ true
every_all test f [] = unfold all in refl
every_all test f (x ∷ l) = all_cons test x l (f x) (every_all test f l)

all_more : {A : Type 0} (s t : A → Bool) → ((x : A) → s x ≡ true → t x ≡ true) → (l : List A) → all s l ≡ true → all t l ≡ true
all_more s t f [] e = unfold all in refl
all_more s t f (x ∷ l) e = all_cons t x l (f x (all_head s x l e)) (all_more s t f l (all_tail s x l e))

first_fit : (n : ℕ) (l : List ℕ) → are_numbers l ≡ true → are_numbers (take n l) ≡ true
unfolding are_numbers
first_fit zero l e = unfold all in refl
first_fit (suc n) [] e = e
first_fit (suc n) (x ∷ l) e = all_cons (λ m. leb m 4294967295) x (take n l) (all_head (λ m. leb m 4294967295) x l e) (first_fit n l (all_tail (λ m. leb m 4294967295) x l e))

rest_fit : (n : ℕ) (l : List ℕ) → are_numbers l ≡ true → are_numbers (drop n l) ≡ true
unfolding are_numbers
rest_fit zero l e = e
rest_fit (suc n) [] e = e
rest_fit (suc n) (x ∷ l) e = rest_fit n l (all_tail (λ m. leb m 4294967295) x l e)

rows_fit : (w n : ℕ) (l : List ℕ) → are_numbers l ≡ true → all are_numbers (rows_of w n l) ≡ true
unfolding rows_of
rows_fit w zero l e = unfold all in refl
rows_fit w (suc n) l e = all_cons are_numbers (take w l) (rows_of w n (drop w l)) (first_fit w l e) (rows_fit w n (drop w l) (rest_fit w l e))

-- a row is live exactly if its first cell is not dead
live_first : (cells : List ℕ) → (not (is_live cells) || not (is_dead (get_or cells 0 0))) ≡ true
unfolding is_live
live_first cells = either (is_dead (get_or cells 0 0))
  where
    either : (b : Bool) → (not (not b) || not b) ≡ true
    either true = refl
    either false = refl

-- ---- any header that passes checks 1 and 2

module _ (numbered : Bool) (h : Header) (rows : List ℕ) (e : outside h ≡ false) (f : rows_short h (length rows) ≡ false) (generation : h.generation ≤ 4294967295) (cells : are_numbers rows ≡ true) where
  -- for any content of the stores, the text written is the text of a listing
  pub stored_listed : ParsesAs numbered (stored_text numbered h rows) (some (stored_listing numbered h rows))
  unfolding stored_text
  stored_listed =
      let i = outside_inside h e in
      let each = rows_of h.columns h.rows rows in
      table_listed (opening_of h) h.generation (rows_in h rows) i.bounds generation (omega (arith, length_rows_in h rows, i.rows_fit))
      (unfold rows_in in map_every (λ row. eqb (length row.cells) h.columns) row_of_cells each (rows_of_widths h.columns h.rows rows (checked_rows_stored h rows e f).stored))
      (unfold rows_in in map_every (λ row. not row.live || not (is_dead (get_or row.cells 0 0))) row_of_cells each (every_all (λ c. not (is_live c) || not (is_dead (get_or c 0 0))) live_first each))
      (unfold rows_in in map_every live_fits row_of_cells each (all_more are_numbers (λ c. not (is_live c) || are_numbers c) (λ c q. or_right (not (is_live c)) (are_numbers c) q) each (rows_fit h.columns h.rows rows cells)))
      numbered

-- ---- stores that represent a plain table

-- the row store is long enough
pub rows_long : {p : Plain} {s : Stores} → Represents p s → rows_short s.header (length s.rows) ≡ false
unfolding rows_short
rows_long {p} {s} r = rw r.shown.header (le-ltb (length s.rows) (p.opening.capacity * p.opening.columns) (represents_long r).rows_long)

module _ {p : Plain} {s : Stores} (r : Represents p s) (numbered : Bool) where
  -- the listing is that of the plain table, which U and L print
  pub stored_plain : stored_listing numbered s.header s.rows ≡ table_listing numbered p.opening p.generation p.rows
  unfolding table_listing
  stored_plain = rw (length_rows_in s.header s.rows, live_shown r) (unfold live_rows in rw r.shown.header)

  -- the call is refused only if the output is too short
  pub write_short : (output : ℕ) → write_refusal numbered s.header s.rows output ≡ first_refusal (check (ltb output (length (listing_text numbered (table_listing numbered p.opening p.generation p.rows)))) 2 ∷ [])
  unfolding write_refusal stored_text
  write_short output = rw stored_plain (unfold first_refusal in rw (represents_inside r, rows_long r))
