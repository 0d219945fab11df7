-- Listings as text (document 01, "The program `levels`"; document 02, change 11): the form that L prints, and the new form, which
-- has row numbers. A definition that takes a Bool takes true for the new form; for a conversion, true if the given text is of the
-- new form. L and U print such texts (`levels_spec` laws `plain_text_parses`, `numbered_text_parses`). Bytes are numbers, in ASCII.
-- Assumes nothing.
--
-- In the old form and in the new, of the same table:
--
--     T,4,2,3,1,0         U,4,2,3,1,0,1
--     D,7,1,163,12        D,0,7,1,163,12
--
-- The text U,4,2,3,1,0,3 D,2,7,1,163,12 is of the new form too, but numbers 0 and 1 have no row: its conversion to the old form is
-- refused with 17.
use Rattle.refusals.specs.declared.Refusal.{Refusal}
use Rattle.std.specs.Prelude.{ℕ, suc, ◌+◌, ◌≡◌, Bool, true, false, cond, not, ◌&&◌, List, [], ◌∷◌, ◌++◌, map, length, take, drop, get_or, leb, ltb, eqb, Result, Ok, Err}
use Rattle.std.proofs.Math.Option.{Option, none, some, Option-elim}
use Rattle.lists.specs.Lists.{splice, all, flatten, iota, rising, elem}
use Rattle.refusals.specs.Refusals.{check, first_refusal, Reply, refused, accepted, Effect, number, answer_view}
use Rattle.plain_table.specs.Staged.{openable}
use Rattle.levels_text.specs.Written.{text_line}
use Rattle.listing_spec.specs.declared.ListingHead.{ListingHead}
use Rattle.listing_spec.specs.declared.NumberedHead.{NumberedHead}

-- a listing: the numbers of its head line, and those of each D line
pub record Listing : Type 0 where
  pub head : List ℕ
  pub rows : List (List ℕ)

-- the head line: "columns, keys, sort, rule, generation" after T (84); in the new form it "is U in place of T with the row count
-- added as a last field" (U is 85)
unfoldable pub head_letter : Bool → ℕ
head_letter numbered = cond numbered 85 84

unfoldable pub head_width : Bool → ℕ
head_width numbered = cond numbered 6 5

-- how many numbers come before a row's cells: "each D line has the row number as its first field after D"
unfoldable pub prefix_width : Bool → ℕ
prefix_width numbered = cond numbered 1 0

-- the text of a listing: "each line ends in one newline" (D is 68)
unfoldable pub listing_text : Bool → Listing → List ℕ
listing_text numbered l = text_line (head_letter numbered) l.head ++ flatten (map (text_line 68) l.rows)

-- "all fields are decimals": the numbers that fields can have. They are written as `levels` reads them (law `decimal_back`).
unfoldable pub are_numbers : List ℕ → Bool
are_numbers ns = all (λ n. leb n 4294967295) ns

-- "the head's numbers keep test 1's bounds": those of an opening. A head has no capacity; 1 stands for it, which is within its bounds.
-- The row count is "at most 65,536"; the old form has none, and `get_or` gives 0.
unfoldable pub is_head : Bool → List ℕ → Bool
is_head numbered ns =
    eqb (length ns) (head_width numbered) && leb (get_or ns 5 0) 65536
    && openable (record { columns = get_or ns 0 0; keys = get_or ns 1 0; sort = get_or ns 2 0; rule = get_or ns 3 0; capacity = 1 })

-- "each D line has one cell for each column, its first cell is not 4294967295"
unfoldable pub is_row : Bool → ℕ → List ℕ → Bool
is_row numbered columns ns =
    eqb (length ns) (prefix_width numbered + columns) && not (eqb (get_or ns (prefix_width numbered) 0) 4294967295)

-- the row numbers of a listing in the new form
unfoldable pub row_numbers : List (List ℕ) → List ℕ
row_numbers rows = map (λ ns. get_or ns 0 0) rows

-- "Numbers rise strictly and are below the count"
unfoldable pub are_numbered : ℕ → List (List ℕ) → Bool
are_numbered count rows = rising (row_numbers rows) && all (λ n. ltb n count) (row_numbers rows)

-- a listing of a form: "rows .. at most 65,536"
unfoldable pub is_listing : Bool → Listing → Bool
is_listing numbered l =
    all are_numbers (l.head ∷ l.rows)
    && is_head numbered l.head
    && leb (length l.rows) 65536
    && all (is_row numbered (get_or l.head 0 0)) l.rows
    && cond numbered (are_numbered (get_or l.head 5 0) l.rows) true

-- the listing of the given form that has this text, if there is one
pub data ParsesAs (numbered : Bool) (text : List ℕ) : Option Listing → Type 0 where
  parses : (l : Listing) → is_listing numbered l ≡ true → text ≡ listing_text numbered l → ParsesAs numbered text (some l)
  parses_none : ((l : Listing) → is_listing numbered l ≡ true → text ≡ listing_text numbered l → ⊥) → ParsesAs numbered text none

-- ---- readers

-- "write each row's cells in turn, in the new form after its number"
unfoldable pub listing_cells : Option Listing → List ℕ
listing_cells listing = Option-elim listing [] (λ l. flatten l.rows)

-- "11, a text not of the form named, .. then 2, an output shorter than what is to be written"
unfoldable pub read_refusal : Option Listing → ℕ → ℕ
read_refusal listing output = Option-elim listing 11 (λ l. first_refusal (check (ltb output (length (flatten l.rows))) 2 ∷ []))

-- "give the head's numbers"; the number of listed rows is added, so that the caller finds the end of the cells
unfoldable pub read_words : Option Listing → List ℕ
read_words listing = Option-elim listing [] (λ l. l.head ++ (length l.rows ∷ []))

-- the reply that an answer represents
unfoldable pub listing_view : Result ListingHead Refusal → Reply (List ℕ)
listing_view (Err r) = refused (number r)
listing_view (Ok h) = accepted (h.columns ∷ h.keys ∷ h.sort ∷ h.rule ∷ h.generation ∷ h.listed ∷ [])

unfoldable pub numbered_view : Result NumberedHead Refusal → Reply (List ℕ)
numbered_view (Err r) = refused (number r)
numbered_view (Ok h) = accepted (h.columns ∷ h.keys ∷ h.sort ∷ h.rule ∷ h.generation ∷ h.count ∷ h.listed ∷ [])

-- The contract of both readers: the cells are at the start of the output, and nothing changes past them; on refusal nothing changes
-- at all.
pub record ListingRead (numbered : Bool) (text output : List ℕ) (view : Reply (List ℕ)) (output' : List ℕ) : Type 0 where
  pub listing : Option Listing
  pub shown : ParsesAs numbered text listing
  pub effect : Effect (read_refusal listing (length output)) view (read_words listing) output output' (splice output 0 (listing_cells listing))

-- ---- conversions

-- "Old to new numbers the rows from 0"
unfoldable pub numbered_from : ℕ → List (List ℕ) → List (List ℕ)
numbered_from n [] = []
numbered_from n (cells ∷ rows) = (n ∷ cells) ∷ numbered_from (suc n) rows

unfoldable pub to_numbered : Listing → Listing
to_numbered l = record { head = l.head ++ (length l.rows ∷ []); rows = numbered_from 0 l.rows }

-- new to old: the count and the row numbers are left out
unfoldable pub from_numbered : Listing → Listing
from_numbered l = record { head = take 5 l.head; rows = map (drop 1) l.rows }

-- "some number below the count has no row"
unfoldable pub lacks_row : Listing → Bool
lacks_row l = not (all (λ n. elem n (row_numbers l.rows)) (iota 0 (get_or l.head 5 0)))

-- the text of a listing in the other form
unfoldable pub converted_text : Bool → Option Listing → List ℕ
converted_text numbered listing = Option-elim listing [] (λ l. cond numbered (listing_text false (from_numbered l)) (listing_text true (to_numbered l)))

-- "After 11, a text not of the form named, comes 17, given on the way to the old form exactly when some number below the count has
-- no row, then 2, an output shorter than what is to be written"
unfoldable pub convert_refusal : Bool → Option Listing → ℕ → ℕ
convert_refusal numbered listing output =
    Option-elim listing 11 (λ l. first_refusal (check (numbered && lacks_row l) 17 ∷ check (ltb output (length (converted_text numbered listing))) 2 ∷ []))

-- The contract of a conversion from this form to the other: the text is at the start of the output, the answer is its length, so that
-- the caller finds its end, and nothing changes past it; on refusal nothing changes at all.
pub record ListingConverted (numbered : Bool) (text output : List ℕ) (answer : Result ℕ Refusal) (output' : List ℕ) : Type 0 where
  pub listing : Option Listing
  pub shown : ParsesAs numbered text listing
  pub effect : Effect (convert_refusal numbered listing (length output)) (answer_view answer) (length (converted_text numbered listing)) output output'
      (splice output 0 (converted_text numbered listing))

-- "coming back restores the text exactly", if the text was in the old form; "New to old and again to new restores it too wherever
-- it is accepted". A text is converted to the other form, and the result is converted back: the result is the text again. It is
-- refused only with 2, and exactly if the output is shorter than the text.
abbrev pub RestoresText : Bool → Type 0
RestoresText numbered =
    (text output output' again again' : List ℕ) (bytes : ℕ) (answer : Result ℕ Refusal) → ListingConverted numbered text output (Ok bytes) output'
    → ListingConverted (not numbered) (take bytes output') again answer again'
    → Effect (first_refusal (check (ltb (length again) (length text)) 2 ∷ [])) (answer_view answer) (length text) again again' (splice again 0 text)
