-- The response of a line before it is text: its encoding as text, and the contracts of the functions that return it. Assumes
-- nothing.
use Rattle.std.specs.Prelude.{ℕ, ◌+◌, ◌*◌, ◌≤◌, ◌≡◌, Bool, false, cond, List, [], ◌∷◌, length, take, Result, Ok, Err, Option as Optional, Some, None}
use Rattle.std.proofs.Math.Option.{Option, none}
use Rattle.refusals.specs.declared.Refusal.{Refusal}
use Rattle.refusals.specs.Refusals.{number}
use Rattle.sort_entries.specs.declared.Range.{Range as Found}
use Rattle.plain_table.specs.Plain.{Plain}
use Rattle.table.specs.declared.Header.{Header}
use Rattle.table.specs.declared.Merge.{Merge}
use Rattle.table.specs.declared.Version.{Version as Noted}
use Rattle.table.specs.Refusing.{outside, rows_short}
use Rattle.table.specs.Outcomes.{Stores}
use Rattle.levels_text.specs.Written.{text_line}
use Rattle.listing_write.specs.Writing.{stored_text}
use Rattle.levels_spec.specs.declared.Response.{Response}
use Rattle.levels_spec.specs.declared.Response.TheVariants.{Nothing, Refused, Merged, NoRange, Range, Version, Listing}
use Rattle.levels_spec.specs.declared.Served.{Served}
use Rattle.levels_spec.specs.Response.{LineResult, range_text, result}
use Rattle.levels_spec.specs.Answers.{Held, lent}

-- ---- encoding as text

unfoldable pub text_of : Header → List ℕ → Response → List ℕ
text_of h rows Nothing = []
text_of h rows (Refused r) = text_line 88 (number r ∷ [])
text_of h rows (Merged status added place) = text_line 77 (status ∷ added ∷ place ∷ [])
text_of h rows NoRange = range_text none
text_of h rows (Range start end) = text_line 70 (start ∷ end ∷ [])
text_of h rows (Version generation count) = text_line 86 (generation ∷ count ∷ [])
text_of h rows (Listing numbered) = stored_text numbered h rows

-- what a listing requires: a header and a row store that pass checks 1 and 2, and a text with room for the rows
pub record Listable (h : Header) (rows text : List ℕ) : Type 0 where
  pub inside : outside h ≡ false
  pub stored : rows_short h (length rows) ≡ false
  pub room : 68 + 101 * h.rows ≤ length text

-- the text of the response is at the start of a lent text
pub record Encoded (h : Header) (rows : List ℕ) (response : Response) (text : List ℕ) (used : ℕ) : Type 0 where
  pub inside : used ≤ length text
  pub begins : ((numbered : Bool) → response ≡ Listing numbered → Listable h rows text) → take used text ≡ text_of h rows response

-- ---- the response to an entry point's answer

unfoldable pub response_of : {A : Type 0} → (A → Response) → Result A Refusal → Response
response_of responds (Err r) = Refused r
response_of responds (Ok a) = responds a

-- a response with the number of a refusal
pub data Refuses (n : ℕ) : Response → Type 0 where
  refuses : (r : Refusal) → number r ≡ n → Refuses n (Refused r)

-- O, I, R, K, C and G
abbrev pub nothing_response : Header → Response
nothing_response h = Nothing

-- M
abbrev pub merge_response : Merge → Response
merge_response m = Merged m.status (cond m.added 1 0) m.place

-- F
unfoldable pub range_response : Optional Found → Response
range_response None = NoRange
range_response (Some r) = Range r.start r.end

-- V
abbrev pub version_response : Noted → Response
version_response v = Version v.generation v.rows

-- L and U
abbrev pub listing_response : Bool → Noted → Response
listing_response numbered v = Listing numbered

-- the header after an answer, and the response
pub record ServedWith (header : Header) (response : Response) (r : Served) : Type 0 where
  pub header_same : r.header ≡ header
  pub response_same : r.response ≡ response

-- ---- the contract of a line

-- The result of a line: its text, as a response, and its table. A listing occurs only with a header that passes check 1.
pub record Responds (result : LineResult) (s : Stores) (response : Response) : Type 0 where
  pub responds : text_of s.header s.rows response ≡ result.text
  pub held : Held result.table s
  pub listed : (numbered : Bool) → response ≡ Listing numbered → outside s.header ≡ false

pub record Serving (letter : ℕ) (ns : List ℕ) (s s' : Stores) (response : Response) : Type 0 where
  pub answers : (t : Option Plain) → Held t s → Responds (result (lent s) t letter ns) s' response
