-- The contract of a line that reads the table. Assumes nothing.
use Rattle.sort_entries.specs.declared.Range.{Range}
use Rattle.table.specs.declared.Version.{Version}
use Rattle.refusals.specs.declared.Refusal.{Refusal}
use Rattle.std.specs.Prelude.{ℕ, ◌≡◌, refl, Bool, true, false, List, Result, Ok, Err, Some, None, Option as Optional}
use Rattle.constraints.specs.Encoding.{condition_in}
use Rattle.table.specs.declared.Header.{Header}
use Rattle.table.specs.Outcomes.{stores, RangeRead, VersionRead}
use Rattle.levels_spec.specs.declared.Response.{Response}
use Rattle.levels_spec.specs.declared.Response.TheVariants.{Refused, NoRange, Range as Between}
use Rattle.levels_spec.specs.inner.Responses.{response_of, range_response, version_response, listing_response, Serving}
use Rattle.levels_spec.specs.Laws.Letters.{result_range, result_version, result_list, result_numbered}
use Rattle.levels_spec.specs.Laws.Results.{does_respond}
use Rattle.levels_spec.specs.Laws.Queries.{range_does, version_does, list_does, numbered_does}

-- The function borrows the sort entries only. The contract holds for any content of the other stores, and no store changes.
pub record OnSorts (letter : ℕ) (ns : List ℕ) (h : Header) (sorts : List ℕ) (response : Response) : Type 0 where
  pub serving : (rows keys pending : List ℕ) → Serving letter ns (stores h rows keys sorts pending) (stores h rows keys sorts pending) response

-- the same of a function that borrows no store, for a line of any numbers
pub record OnHeader (letter : ℕ) (h : Header) (response : Response) : Type 0 where
  pub serving : (ns rows keys sorts pending : List ℕ) → Serving letter ns (stores h rows keys sorts pending) (stores h rows keys sorts pending) response

-- L, or U for the form with row numbers
abbrev pub list_letter : Bool → ℕ
list_letter false = 76
list_letter true = 85

-- ---- the response to an answer of the library

module _ (answer : Result (Optional Range) Refusal) where
  pub range_refused : (refusal : Refusal) → answer ≡ Err refusal → Refused refusal ≡ response_of range_response answer
  unfolding response_of
  range_refused refusal e = rw e

  pub range_none : answer ≡ Ok None → NoRange ≡ response_of range_response answer
  unfolding response_of range_response
  range_none e = rw e

  pub range_ends : (r : Range) → answer ≡ Ok (Some r) → Between r.start r.end ≡ response_of range_response answer
  unfolding response_of range_response
  range_ends r e = rw e

module _ (answer : Result Version Refusal) where
  pub version_refused : (refusal : Refusal) (responds : Version → Response) → answer ≡ Err refusal → Refused refusal ≡ response_of responds answer
  unfolding response_of
  version_refused refusal responds e = rw e

  pub version_responds : (v : Version) (responds : Version → Response) → answer ≡ Ok v → responds v ≡ response_of responds answer
  unfolding response_of
  version_responds v responds e = rw e

-- ---- from the library's contracts to the contracts of lines

pub range_served : {answer : Result (Optional Range) Refusal} {h : Header} {sorts : List ℕ} {response : Response} (ns : List ℕ) → response ≡ response_of range_response answer → RangeRead h sorts (condition_in ns 0) answer
    → OnSorts 70 ns h sorts response
range_served {h = h} {sorts = sorts} ns e m =
    record {
      serving = λ rows keys pending. record { answers = λ t held. rw (result_range _ t ns refl) (does_respond (range_does {s = stores h rows keys sorts pending} e m) t held) };
    }

module _ {answer : Result Version Refusal} {h : Header} {response : Response} where
  pub version_served : response ≡ response_of version_response answer → VersionRead h answer → OnHeader 86 h response
  version_served e m =
      record {
        serving = λ ns rows keys sorts pending. record { answers = λ t held. rw (result_version _ t ns refl) (does_respond (version_does {s = stores h rows keys sorts pending} e m) t held) };
      }

  pub listing_served : (numbered : Bool) → response ≡ response_of (listing_response numbered) answer → VersionRead h answer → OnHeader (list_letter numbered) h response
  listing_served false e m =
      record {
        serving = λ ns rows keys sorts pending. record { answers = λ t held. rw (result_list _ t ns refl) (does_respond (list_does {s = stores h rows keys sorts pending} e m) t held) };
      }
  listing_served true e m =
      record {
        serving = λ ns rows keys sorts pending. record { answers = λ t held. rw (result_numbered _ t ns refl) (does_respond (numbered_does {s = stores h rows keys sorts pending} e m) t held) };
      }
