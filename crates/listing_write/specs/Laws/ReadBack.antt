-- A listing that is written is read back. Assumes nothing.
use Rattle.std.specs.Prelude.{◌≤◌, ◌<◌, ◌≡◌, ◌∷◌, ◌++◌, Ok}
use Rattle.listing_write.specs.Laws.Prelude.{ℕ, ap, ◌∙◌, Bool, true, List, [], Option, some, arith, ltb, length, take, lt-ltb, le-ltb, splice, flatten, Header, parses_determined, ListingWritten}
use Rattle.std.proofs.Math.Option.{Option-elim}
use Rattle.refusals.specs.Refusals.{check, first_refusal, Reply, reply}
use Rattle.listing_spec.specs.Listings.{Listing, are_numbers, ParsesAs, listing_cells, read_refusal, read_words, ListingRead}
use Rattle.listing_write.specs.Laws.Answers.{inside, stored, written_taken}
use Rattle.listing_write.specs.Laws.Represented.{stored_listed, stored_listing}

-- The contract of reading a listing: the head's numbers and the number of listed rows, and each row's numbers in order. It is
-- refused only with 2, and exactly if the output is too short for these.
pub record ReadBack (l : Listing) (output : List ℕ) (view : Reply (List ℕ)) (output' : List ℕ) : Type 0 where
  pub answers : view ≡ reply (first_refusal (check (ltb (length output) (length (flatten l.rows))) 2 ∷ [])) (l.head ++ (length l.rows ∷ []))
  pub written : length (flatten l.rows) ≤ length output → output' ≡ splice output 0 (flatten l.rows)
  pub unchanged : length output < length (flatten l.rows) → output' ≡ output

module _ (l : Listing) (room : ℕ) where
  short_none : length (flatten l.rows) ≤ room → read_refusal (some l) room ≡ 0
  unfolding read_refusal Option-elim first_refusal
  short_none long = rw (le-ltb room (length (flatten l.rows)) long)

  short_some : room < length (flatten l.rows) → 0 < read_refusal (some l) room
  unfolding read_refusal Option-elim first_refusal
  short_some less = rw (lt-ltb room (length (flatten l.rows)) less) (omega arith)

-- the listing of a text is read from it
shown_read : {numbered : Bool} {text output output' : List ℕ} {view : Reply (List ℕ)} {l : Listing} → ParsesAs numbered text (some l) → ListingRead numbered text output view output' → ReadBack l output view output'
unfolding read_refusal read_words listing_cells Option-elim
shown_read {numbered} {output = output} {l = l} s x =
    let e : x.listing ≡ some l = parses_determined numbered x.shown s in
    let n : read_refusal x.listing (length output) ≡ read_refusal (some l) (length output) = ap (λ (k : Option Listing). read_refusal k (length output)) e in
    record {
      answers = x.effect.answers ∙ ap (λ (k : Option Listing). reply (read_refusal k (length output)) (read_words k)) e;
      written = λ long. x.effect.written (n ∙ short_none l (length output) long) ∙ ap (λ (k : Option Listing). splice output 0 (listing_cells k)) e;
      unchanged = λ less. x.effect.unchanged (rw n (short_some l (length output) less));
    }

module _ {numbered : Bool} {h : Header} {rows output output' : List ℕ} {bytes : ℕ} (x : ListingWritten numbered h rows output (Ok bytes) output') where
  -- For any content of the stores, reading the text is refused only if the output is too short, and gives the listing.
  pub read_back : {cells cells' : List ℕ} {view : Reply (List ℕ)} → h.generation ≤ 4294967295 → are_numbers rows ≡ true → ListingRead numbered (take bytes output') cells view cells'
      → ReadBack (stored_listing numbered h rows) cells view cells'
  read_back fits u32s y = shown_read (rw (written_taken x) (stored_listed numbered h rows (inside x) (stored x) fits u32s)) y
