-- In a session on any input, a line U after an accepted O prints a listing in the new form, and a line L prints one in the old form
-- (document 02, change 11). Assumes nothing.
use Rattle.std.specs.Prelude.{◌≤◌, ◌≡◌, ◌&&◌, ◌∷◌, ◌++◌}
use Rattle.levels_spec.specs.Laws.Prelude.{ℕ, refl, sym, ap, ◌∙◌, inl, inr, Bool, true, false, cond, not, false≢true, List, [], append_assoc, Option, none, some, dec_lt, arith, leb, ltb, eqb, length, drop, get_or, List·getD-eq-default, eqb-true, leb-true, not-false, or_second, split, and_left, and_right, all_get_d, check, Proper, first_refusal_no, opened_proper, after_proper, line_numbers}
use Rattle.lists.specs.Lists.{all, any, elem}
use Rattle.plain_table.specs.Staged.{Opening, openable, insert, remove_key, remove_row, inserts, opening_in}
use Rattle.plain_table.specs.Refusing.{Lengths, stores_short, open_refusal}
use Rattle.plain_table.specs.Plain.{Plain, opened}
use Rattle.plain_table.specs.Calls.{Call, staging, merging, compacting, clearing, done, after}
use Rattle.levels_text.specs.Lines.{fields, is_decimal, is_line, letter, numbers, is_form, of_forms, prepend_to_first}
use Rattle.listing_spec.specs.Listings.{Listing, are_numbers, ParsesAs}
use Rattle.levels_spec.specs.Response.{LineResult, printing, replied, open_number, opens, calls, queries, list_text, served, result, line_result}
use Rattle.levels_spec.specs.Laws.Letters.{on_table}
use Rattle.levels_spec.specs.Session.{program_lengths, lines_in, session, printed}
use Rattle.levels_spec.specs.Laws.Listings.{listing_of, plain_text_parses, numbered_text_parses}
use Rattle.levels_spec.specs.Laws.Cells.{Fits, opened_fits, staged_fits, merged_fits, compacted_fits, cleared_fits, after_fits}
use Rattle.std.proofs.Math.Option.{Option-elim}

-- the table after lines
unfoldable pub table_after : Option Plain → List (List ℕ) → Option Plain
table_after t [] = t
table_after t (line ∷ lines) = table_after (line_result program_lengths t line).table lines

-- ---- every table of a session

-- what a listing requires of a table
pub record Listable (p : Plain) : Type 0 where
  pub proper : Proper p
  pub fits : Fits p

-- no table yet, or a table that can be listed
pub data OfSession : Option Plain → Type 0 where
  no_table : OfSession none
  a_table : {p : Plain} → Listable p → OfSession (some p)

pub record IsOpen (t : Option Plain) : Type 0 where
  pub table : Plain
  pub same : t ≡ some table
  pub listable : Listable table

-- an opening that is not refused
open_bounds : (o : Opening) (l : Lengths) → open_refusal o l ≡ 0 → openable o ≡ true
unfolding open_refusal
open_bounds o l e = not-false (openable o) (first_refusal_no (not (openable o)) 0 (check (stores_short o l) 2 ∷ []) e)

-- A property that holds for every table that can be listed, and for the table before a line, holds for the table after the line.
module _ (Q : Option Plain → Type 0) (every-table : (p : Plain) → Listable p → Q (some p)) (l : Lengths) where
  one_of : (b : Bool) (x y : LineResult) → Q x.table → Q y.table → Q (cond b x y).table
  one_of true x y f g = f
  one_of false x y f g = g

  called : {p : Plain} (c : Call) (text : List ℕ) → Listable p → Fits (done p c) → Q (calls l p c text).table
  unfolding calls
  called {p} c text k f = every-table (after p l c) (record { proper = after_proper l c k.proper; fits = after_fits l c k.fits f })

  queried : {p : Plain} (number : ℕ) (text : List ℕ) → Listable p → Q (queries p number text).table
  unfolding queries
  queried {p} number text k = every-table p k

  insert_fits : (ns : List ℕ) → are_numbers ns ≡ true → all are_numbers (inserts (insert ns ∷ [])) ≡ true
  unfolding inserts all
  insert_fits ns f = rw f

  served_table : {p : Plain} (letter : ℕ) (ns : List ℕ) → Listable p → are_numbers ns ≡ true → Q (served l p letter ns).table
  unfolding served done
  served_table {p} letter ns k f =
      one_of (eqb letter 73) _ _ (called (staging (insert ns)) [] k (staged_fits (insert ns) k.fits (insert_fits ns f)))
      (one_of (eqb letter 82) _ _ (called (staging (remove_key ns)) [] k (staged_fits (remove_key ns) k.fits (unfold inserts all in refl)))
      (one_of (eqb letter 75) _ _ (called (staging (remove_row (get_or ns 0 0) (drop 1 ns))) [] k (staged_fits (remove_row (get_or ns 0 0) (drop 1 ns)) k.fits (unfold inserts all in refl)))
      (one_of (eqb letter 77) _ _ (called merging _ k (merged_fits k.fits))
      (one_of (eqb letter 67) _ _ (called clearing [] k (cleared_fits k.fits))
      (one_of (eqb letter 71) _ _ (called compacting [] k (compacted_fits k.fits))
      (one_of (eqb letter 70) _ _ (queried _ _ k) (one_of (eqb letter 86) _ _ (queried 0 _ k) (one_of (eqb letter 85) _ _ (queried 0 _ k) (queried 0 _ k)))))))))

  -- an accepted opening
  opens_listable : (o : Opening) (generation : ℕ) → generation ≤ 4294967295 → open_number l o ≡ 0 → Listable (opened o generation)
  unfolding open_number
  opens_listable o generation fits e =
      elim (split (ltb 1024 o.capacity)) [
        | inl large ↦ absurd (let z : ◌≡◌ {A = ℕ} 11 0 = rw large at e in omega (arith, z))
        | inr small ↦
            let n : open_refusal o l ≡ 0 = rw small at e in
            record { proper = opened_proper o generation (open_bounds o l n) fits; fits = unfold opened in opened_fits refl refl }
      ]

  opens_table_lem : (t : Option Plain) (o : Opening) (generation : ℕ) → generation ≤ 4294967295 → Q t → Q (opens l t o generation).table
  unfolding opens
  opens_table_lem t o generation fits here =
      elim (split (eqb (open_number l o) 0)) [
        | inl e ↦ rw e (every-table _ (opens_listable o generation fits (eqb-true (open_number l o) 0 e)))
        | inr e ↦ rw e here
      ]

  number_fits : (ns : List ℕ) (i : ℕ) → are_numbers ns ≡ true → get_or ns i 0 ≤ 4294967295
  unfolding are_numbers
  number_fits ns i f =
      elim (dec_lt i (length ns)) [
        | yes h ↦ leb-true (get_or ns i 0) 4294967295 (all_get_d (λ n. leb n 4294967295) ns f i h 0)
        | no h ↦ rw (List·getD-eq-default ns 0 {n = i} (omega arith)) (omega arith)
      ]

  on_table_lem : {t : Option Plain} (letter : ℕ) (ns : List ℕ) → are_numbers ns ≡ true → OfSession t → Q t → Q (on_table t (λ p. served l p letter ns)).table
  unfolding Option-elim
  on_table_lem letter ns f no_table here = here
  on_table_lem letter ns f (a_table k) here = served_table letter ns k f

  line_table : (t : Option Plain) (line : List ℕ) → OfSession t → Q t → Q (line_result l t line).table
  unfolding line_result result
  line_table t line k here =
      elim (split (of_forms line)) [
        | inl e ↦
            let f = line_numbers line (unfold of_forms in and_left (is_line line) (is_form (letter line) (length (numbers line))) e) in
            rw e (one_of (eqb (letter line) 79) _ _ (opens_table_lem t (opening_in (numbers line)) (get_or (numbers line) 5 0) (number_fits (numbers line) 5 f) here) (on_table_lem (letter line) (numbers line) f k here))
        | inr e ↦ rw e here
      ]

-- the same for the tables after several lines
pub line_of_session : (t : Option Plain) (line : List ℕ) → OfSession t → OfSession (line_result program_lengths t line).table
line_of_session t line k = line_table OfSession (λ p g. a_table g) program_lengths t line k k

open_of_session : {t : Option Plain} → IsOpen t → OfSession t
open_of_session o = rw o.same (a_table o.listable)

open_of : (p : Plain) → Listable p → IsOpen (some p)
open_of p k = record { table = p; same = refl; listable = k }

-- a table that is open remains open
pub open_stays : (t : Option Plain) (lines : List (List ℕ)) → IsOpen t → IsOpen (table_after t lines)
unfolding table_after
open_stays t [] o = o
open_stays t (line ∷ lines) o = open_stays (line_result program_lengths t line).table lines (line_table IsOpen open_of program_lengths t line (open_of_session o) o)

-- ---- after an accepted O

-- a line that opens a table
unfoldable pub opens_table : List ℕ → Bool
opens_table line = of_forms line && eqb (letter line) 79 && eqb (open_number program_lengths (opening_in (numbers line))) 0

opens_opens : (t : Option Plain) (line : List ℕ) → opens_table line ≡ true → IsOpen (line_result program_lengths t line).table
unfolding line_result result opens
opens_opens t line e =
    let n = eqb (open_number program_lengths (opening_in (numbers line))) 0 in
    let a = and_left (of_forms line && eqb (letter line) 79) n (unfold opens_table in e) in
    let b = and_right (of_forms line && eqb (letter line) 79) n (unfold opens_table in e) in
    let o = and_left (of_forms line) (eqb (letter line) 79) a in
    let f = line_numbers line (unfold of_forms in and_left (is_line line) (is_form (letter line) (length (numbers line))) o) in
    rw (o, and_right (of_forms line) (eqb (letter line) 79) a, b)
    (open_of _ (opens_listable IsOpen open_of program_lengths (opening_in (numbers line)) (get_or (numbers line) 5 0) (number_fits IsOpen open_of program_lengths (numbers line) 5 f) (eqb-true (open_number program_lengths (opening_in (numbers line))) 0 b)))

pub opened_open : (t : Option Plain) (lines : List (List ℕ)) → OfSession t → any opens_table lines ≡ true → IsOpen (table_after t lines)
unfolding table_after any
opened_open t [] k e = absurd (false≢true e)
opened_open t (line ∷ lines) k e =
    elim (split (opens_table line)) [
      | inl f ↦ open_stays (line_result program_lengths t line).table lines (opens_opens t line f)
      | inr f ↦ opened_open (line_result program_lengths t line).table lines (line_of_session t line k) (or_second (opens_table line) (any opens_table lines) e f)
    ]

-- ---- what U and L print

-- U (85), or L (76)
abbrev pub list_line : Bool → List ℕ
list_line numbered = cond numbered 85 76 ∷ []

line_lists : (numbered : Bool) (p : Plain) → line_result program_lengths (some p) (list_line numbered) ≡ printing (list_text numbered p) (some p)
unfolding line_result of_forms is_line is_form elem fields prepend_to_first letter numbers all is_decimal result Option-elim served queries replied
line_lists true p = refl
line_lists false p = refl

listed_shown : (numbered : Bool) (p : Plain) → Listable p → ParsesAs numbered (list_text numbered p) (some (listing_of numbered p))
listed_shown true p k = numbered_text_parses p k.proper k.fits.rows
listed_shown false p k = plain_text_parses p k.proper k.fits.rows

session_append : (t : Option Plain) (before after : List (List ℕ)) → session t (before ++ after) ≡ session t before ++ session (table_after t before) after
unfolding session table_after
session_append t [] after = refl
session_append t (line ∷ before) after =
    ap (λ (l : List ℕ). (line_result program_lengths t line).text ++ l) (session_append (line_result program_lengths t line).table before after)
    ∙ sym (append_assoc (line_result program_lengths t line).text _ _)

-- the text that an input with a line U or L prints: that of the lines before it, that of a listing, that of the lines after it
pub record ListingPrinted (numbered : Bool) (input : List ℕ) (before after : List (List ℕ)) : Type 0 where
  pub listing : Listing
  pub text : List ℕ
  pub shown : ParsesAs numbered text (some listing)
  pub prints : printed input ≡ session none before ++ (text ++ session (table_after none before) after)

pub listing_printed : (numbered : Bool) (input : List ℕ) (before after : List (List ℕ)) → lines_in input ≡ before ++ (list_line numbered ∷ after) → any opens_table before ≡ true
    → ListingPrinted numbered input before after
unfolding printed
listing_printed numbered input before after e opens =
    let o = opened_open none before no_table opens in
    let p = o.table in
    record {
      listing = listing_of numbered p;
      text = list_text numbered p;
      shown = listed_shown numbered p o.listable;
      prints = ap (session none) e ∙ session_append none before (list_line numbered ∷ after) ∙ ap (λ (l : List ℕ). session none before ++ l) (rest o.same);
    }
  where
    rest : {p : Plain} → table_after none before ≡ some p → session (table_after none before) (list_line numbered ∷ after) ≡ list_text numbered p ++ session (table_after none before) after
    rest {p} s = rw s (unfold session in rw (line_lists numbered p))
