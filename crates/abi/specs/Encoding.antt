-- The encoding of headers, arguments and answers as fixed numbers of words, and the contract of a C function: the library's own
-- contract, for an answer whose refusal number is returned and whose encoding is stored. Assumes nothing.
use Rattle.refusals.specs.declared.Refusal.{Refusal}
use Rattle.std.specs.Prelude.{ℕ, ◌≡◌, Bool, true, false, cond, not, List, [], ◌∷◌, drop, get_or, leb, eqb, Option as Optional, Some, None, Result, Ok, Err}
use Rattle.std.specs.Bool.{then_some}
use Rattle.std.proofs.Math.Option
use Rattle.std.proofs.Math.Option.{Option, none, some, Option-elim}
use Rattle.refusals.specs.Refusals.{Reply, refused, accepted, if_accepted, number}
use Rattle.offsets.specs.Subsets.{Subset, range, list}
use Rattle.offsets.specs.declared.SubsetForm.{SubsetForm}
use Rattle.offsets.specs.declared.SubsetRef.{SubsetRef}
use Rattle.offsets.specs.declared.SubsetForm.TheVariants.{Range as SubsetRange, List as SubsetList}
use Rattle.sort_entries.specs.declared.Range.{Range}
use Rattle.plain_table.specs.Staged.{opening_in}
use Rattle.table.specs.declared.Header.{Header}
use Rattle.table.specs.declared.Merge.{Merge}
use Rattle.table.specs.declared.Version.{Version}
use Rattle.table.specs.Numbers.{largest_view, header}
use Rattle.query_spec.specs.Queries.{PageResult}

-- ---- arguments

-- An opening is six words: columns, keys, sort column, rule, capacity (`opening_in`), and the generation. A condition is three words
-- (`condition_in`).

-- The largest sort value is two words: a flag, 0 or 1, and the value, which is not read if the flag is 0.
unfoldable pub decode_largest : ℕ → ℕ → Optional ℕ
decode_largest flag value = then_some (eqb flag 1) value

-- "header numbers outside their bounds": a flag that is neither 0 nor 1 makes a header without columns, which is refused with 1
unfoldable pub decode_columns : ℕ → ℕ → ℕ
decode_columns columns flag = cond (leb flag 1) columns 0

-- a header is twelve words: an opening's five numbers, the counts of rows, dead rows, entries and pending words, the generation, and
-- the largest sort value
unfoldable pub decode_header : List ℕ → Header
decode_header words =
    header (opening_in (decode_columns (get_or words 0 0) (get_or words 10 0) ∷ drop 1 words)) (get_or words 5 0) (get_or words 6 0) (get_or words 7 0) (get_or words 8 0) (get_or words 9 0)
    (decode_largest (get_or words 10 0) (get_or words 11 0))

-- A subset is three words: whether it is a range, its start and its end. The ids of a list are passed separately.
pub record SubsetHead : Type 0 where
  pub dense : Bool
  pub start : ℕ
  pub end : ℕ

-- "its kind, its two ends and the caller's list of ids"
abbrev pub subset_in : SubsetHead → List ℕ → Subset
subset_in head ids = cond head.dense (range head.start head.end) (list ids)

-- the three words of a subset as C lends it
abbrev pub head_of : SubsetRef → SubsetHead
head_of lent = record { dense = lent.dense; start = lent.start; end = lent.end }

abbrev pub decode_subset : List ℕ → SubsetHead
decode_subset words = record { dense = not (eqb (get_or words 0 0) 0); start = get_or words 1 0; end = get_or words 2 0 }

-- ---- answers

-- 1 for true, 0 for false
abbrev pub bit : Bool → ℕ
bit b = cond b 1 0

-- 1 and the number, or 0 and 0 if there is none
unfoldable pub encode_option : Option ℕ → List ℕ
encode_option o = Option-elim o 0 (λ n. 1) ∷ Option.get_or o 0 ∷ []

unfoldable pub encode_header : Header → List ℕ
encode_header h =
    h.columns ∷ h.keys ∷ h.sort ∷ h.rule ∷ h.capacity ∷ h.rows ∷ h.dead ∷ h.entries ∷ h.pending ∷ h.generation
    ∷ encode_option (largest_view h.largest)

-- the stop's number and place, whether a row was appended, and how many rows its compaction kept and dropped
unfoldable pub encode_merge : Merge → List ℕ
encode_merge m = m.status ∷ m.place ∷ bit m.added ∷ m.kept ∷ m.dropped ∷ []

unfoldable pub encode_bool : Bool → List ℕ
encode_bool b = bit b ∷ []

-- a length or a position
unfoldable pub encode_number : ℕ → List ℕ
encode_number n = n ∷ []

-- a range that may be absent, as a subset
unfoldable pub range_of : Optional Range → Option Subset
range_of None = none
range_of (Some r) = some (range r.start r.end)

-- 1 and a range's start and end, or all 0 if there is none. Answers with this encoding are never lists.
unfoldable pub encode_range : Option Subset → List ℕ
encode_range none = 0 ∷ 0 ∷ 0 ∷ []
encode_range (some (range start end)) = 1 ∷ start ∷ end ∷ []
encode_range (some (list ids)) = 0 ∷ 0 ∷ 0 ∷ []

unfoldable pub encode_version : Version → List ℕ
encode_version v = v.generation ∷ v.rows ∷ []

-- A subset as an answer has the same layout as an argument: a range, or the list of the first ids of the output, whose end is their
-- number.
unfoldable pub subset_head_view : Result SubsetForm Refusal → Reply SubsetHead
subset_head_view (Err refusal) = refused (number refusal)
subset_head_view (Ok (SubsetRange start end)) = accepted (record { dense = true; start = start; end = end })
subset_head_view (Ok (SubsetList count)) = accepted (record { dense = false; start = 0; end = count })

unfoldable pub encode_subset : SubsetHead → List ℕ
encode_subset s = bit s.dense ∷ s.start ∷ s.end ∷ []

-- how many ids were written, how many of the visited ids have a dead row, and the next place
unfoldable pub encode_page : PageResult → List ℕ
encode_page p = p.written ∷ p.dead ∷ encode_option p.next

-- ---- contracts of C functions

-- the number that is returned: the refusal's, 0 if accepted
unfoldable pub returned : {A : Type 0} → Reply A → ℕ
returned (refused n) = n
returned (accepted a) = 0

-- an answer's number is returned and its encoding stored; if it is refused, the words stay as they were
pub record Stored {R A : Type 0} (view : R → Reply A) (encode : A → List ℕ) (answer : R) (words : List ℕ) (r : ℕ) (words' : List ℕ) : Type 0 where
  pub returns : r ≡ returned (view answer)
  pub stores : words' ≡ if_accepted (view answer) encode words

-- The contract of a C function: some answer meets the library's contract, its number is returned and its encoding stored.
pub record Answers {R A : Type 0} (contract : R → Type 0) (view : R → Reply A) (encode : A → List ℕ) (words : List ℕ) (r : ℕ) (words' : List ℕ) : Type 0 where
  pub answer : R
  pub contract_met : contract answer
  pub stores : Stored view encode answer words r words'

-- The same for a function that stores a header and its answer.
pub record AnswersWithHeader {R A : Type 0} (contract : R → Type 0) (view : R → Reply A) (header_of : A → Header) (encode : A → List ℕ) (header words : List ℕ) (r : ℕ) (header' words' : List ℕ) : Type 0 where
  pub answers : Answers (λ a. contract a × (header' ≡ if_accepted (view a) (λ b. encode_header (header_of b)) header)) view encode words r words'
