-- Consequences of the answer of a call that writes a listing. Assumes nothing.
use Rattle.refusals.specs.declared.Refusal.{Refusal}
use Rattle.std.specs.Prelude.{◌≤◌, ◌≡◌, ◌∷◌, Ok, Err}
use Rattle.listing_write.specs.Laws.Prelude.{ℕ, ap, ◌∙◌, Bool, false, List, [], arith, ltb, length, take, ltb-false, le-ltb, take_put, first_refusal_no, first_refusal_rest, Header, outside, rows_short, accepted_number, accepted_same}
use Rattle.refusals.specs.Refusals.{Check, check, first_refusal, reply, answer_view}
use Rattle.listing_write.specs.Writing.{stored_text, write_refusal, ListingWritten}

-- an accepted call
module _ {numbered : Bool} {h : Header} {rows output output' : List ℕ} {bytes : ℕ} (x : ListingWritten numbered h rows output (Ok bytes) output') where
  accepted_write : write_refusal numbered h rows (length output) ≡ 0
  unfolding answer_view
  accepted_write = accepted_number (length (stored_text numbered h rows)) (write_refusal numbered h rows (length output)) x.effect.answers

  -- both checks with refusal 2
  abbrev room : List Check
  room = check (ltb (length output) (length (stored_text numbered h rows))) 2 ∷ []

  abbrev tests : List Check
  tests = check (rows_short h (length rows)) 2 ∷ room

  pub inside : outside h ≡ false
  unfolding write_refusal
  inside = first_refusal_no (outside h) 0 tests accepted_write

  pub stored : rows_short h (length rows) ≡ false
  unfolding write_refusal
  stored = first_refusal_no (rows_short h (length rows)) 1 room (first_refusal_rest (outside h) 0 tests accepted_write)

  fits : length (stored_text numbered h rows) ≤ length output
  unfolding write_refusal
  fits =
      ltb-false (length output) (length (stored_text numbered h rows))
      (first_refusal_no (ltb (length output) (length (stored_text numbered h rows))) 1 [] (first_refusal_rest (rows_short h (length rows)) 1 room (first_refusal_rest (outside h) 0 tests accepted_write)))

  bytes_are : bytes ≡ length (stored_text numbered h rows)
  unfolding answer_view reply
  bytes_are = accepted_same (x.effect.answers ∙ ap (λ (k : ℕ). reply k (length (stored_text numbered h rows))) accepted_write)

  pub written_inside : bytes ≤ length output
  written_inside = omega (arith, fits, bytes_are)

  -- the text is at the start of the output
  pub written_taken : take bytes output' ≡ stored_text numbered h rows
  written_taken = rw (bytes_are, x.effect.written accepted_write) (take_put output (stored_text numbered h rows))

-- a call with room for the text and the rows is not refused
pub not_refused : {numbered : Bool} {h : Header} {rows output output' : List ℕ} {r : Refusal} → ListingWritten numbered h rows output (Err r) output'
    → outside h ≡ false → rows_short h (length rows) ≡ false → length (stored_text numbered h rows) ≤ length output → ⊥
unfolding answer_view write_refusal first_refusal reply
not_refused {numbered} {h} {rows} {output} x e f room =
    let view = rw (e, f, le-ltb (length output) (length (stored_text numbered h rows)) room) at x.effect.answers in
    let z : ◌≡◌ {A = ℕ} 0 1 = cc in
    omega arith
