-- The encoding of a response as text. Assumes nothing.
use Rattle.refusals.specs.declared.Refusal.{Refusal}
use Rattle.std.specs.Prelude.{ℕ, ◌≤◌, ◌≡◌, Bool, List, length, take, Result, Ok, Err}
use Rattle.std.proofs.Common.{sym, ap, ◌∙◌, arith}
use Rattle.table.specs.declared.Header.{Header}
use Rattle.table.proofs.Laws.Refusals.{outside_inside}
use Rattle.levels_text.specs.inner.Appending.{Wrote}
use Rattle.listing_write.specs.Writing.{stored_text, ListingWritten}
use Rattle.listing_write.specs.Laws.Lengths.{length_most}
use Rattle.listing_write.specs.Laws.Answers.{written_inside, written_taken, not_refused}
use Rattle.levels_spec.specs.declared.Response.{Response}
use Rattle.levels_spec.specs.declared.Response.TheVariants.{Nothing, Listing}
use Rattle.levels_spec.specs.inner.Responses.{text_of, Listable, Encoded}

-- the listing, if there is room
pub record ListingEncoded (numbered : Bool) (h : Header) (rows text : List ℕ) (used : ℕ) : Type 0 where
  pub inside : used ≤ length text
  pub listed : Listable h rows text → take used text ≡ stored_text numbered h rows

module _ {numbered : Bool} {h : Header} {rows text text' : List ℕ} {answer : Result ℕ Refusal} (lent : length text' ≡ length text) (x : ListingWritten numbered h rows text answer text') where
  pub listed_nothing : {r : Refusal} → answer ≡ Err r → ListingEncoded numbered h rows text' 0
  listed_nothing {r} e = record {
    inside = omega arith;
    listed = λ l.
        absurd
        (not_refused (rw e at x) l.inside l.stored
        (omega (arith, lent, l.room, length_most numbered h rows (outside_inside h l.inside).bounds.columns_few)));
  }

  pub listed_all : {bytes : ℕ} → answer ≡ Ok bytes → ListingEncoded numbered h rows text' bytes
  listed_all {bytes} e = let w = rw e at x in record { inside = omega (arith, lent, written_inside w); listed = λ l. written_taken w }

-- ---- each response

module _ (h : Header) (rows : List ℕ) {response : Response} {text : List ℕ} {used : ℕ} where
  -- a response with these bytes
  pub encodes_bytes : {r : Response} → response ≡ r → Wrote (text_of h rows r) text used → Encoded h rows response text used
  encodes_bytes e w = record { inside = w.inside; begins = λ l. w.begins ∙ ap (text_of h rows) (sym e) }

  pub encodes_listing : (numbered : Bool) → response ≡ Listing numbered → ListingEncoded numbered h rows text used → Encoded h rows response text used
  unfolding text_of
  encodes_listing numbered e k = record { inside = k.inside; begins = λ l. rw e (k.listed (l numbered e)) }

pub encodes_nothing : (h : Header) (rows text : List ℕ) {response : Response} → response ≡ Nothing → Encoded h rows response text 0
unfolding text_of
encodes_nothing h rows text e = record { inside = omega arith; begins = λ l. rw e }
