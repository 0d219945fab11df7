-- The words that `write_image` leaves are an image of the table, of a sound one if the table is. Assumes nothing.
use Rattle.archive.proofs.Laws.Prelude.{ℕ, zero, suc, ◌*◌, ◌≤◌, ◌≡◌, refl, sym, ap, ◌∙◌, List, [], ◌∷◌, ◌++◌, some, le_refl, mul-le-mul_right, arith, length, take, length-append, length-take-le, take-take, take_at, ltb-false, crc32, bytes_of, first_refusal_no, first_refusal_rest, Plain, opening_of, Stores, Represents, represents_long, represents_inside, Inside, outside_inside, holds_fits, represents_sound, encode_header, Parts, parts_image, length_encoded, length_packed, Saved}
use Rattle.lists.specs.Lists.{splice}
use Rattle.refusals.specs.Refusals.{Reply, accepted, reply, answer_view}
use Rattle.image_spec.specs.Image.{Image, packed, image_body, image_words, Reads, reads, SoundImage, image_of, image_length}
use Rattle.image_spec.specs.Outcomes.{write_refusal}
use Rattle.archive.proofs.Laws.Contents.{contents_same}

-- ---- lengths

pub length_image : (i : Image) → Parts i → length (image_words i) ≡ image_length i.header (length i.text)
unfolding image_words image_body image_length
length_image i p =
    omega (
      arith,
      length-append (image_body i) (crc32 (bytes_of (image_body i)) ∷ []),
      length-append (encode_header i.header) (length i.text ∷ (packed i.text ++ (i.rows ++ (i.sorts ++ i.pending)))),
      length-append (packed i.text) (i.rows ++ (i.sorts ++ i.pending)),
      length-append i.rows (i.sorts ++ i.pending),
      length-append i.sorts i.pending,
      length_encoded i.header,
      length_packed i.text,
      p.rows_counted,
      p.sorts_counted,
      p.pending_counted,
    )

-- an accepted answer
pub accepted_number : (n m v : ℕ) → ◌≡◌ {A = Reply ℕ} (accepted v) (reply n m) → (n ≡ 0) × (v ≡ m)
unfolding reply
accepted_number zero m v e = (refl, cc)
accepted_number (suc n) m v e = absurd (let z : ◌≡◌ {A = ℕ} 0 1 = cc in omega arith)

-- ---- the image of a table that is saved

module _ {p : Plain} {s : Stores} (r : Represents p s) {words : List ℕ} (saved : Saved s words) where
  abbrev pub saved_image : Image
  saved_image = image_of s.header s.rows s.sorts s.pending saved.text

  refusal : ℕ
  refusal = write_refusal s.header (length s.rows) (length s.sorts) (length s.pending) (length saved.text) (length saved.output)

  accepted_size : (refusal ≡ 0) × (saved.count ≡ image_length s.header (length saved.text))
  unfolding refusal answer_view
  accepted_size = accepted_number refusal _ _ saved.written.effect.answers

  inside : Inside s.header
  inside = outside_inside s.header (represents_inside r)

  -- the words in use lie in the stores
  rows_in_lem : s.header.rows * s.header.columns ≤ length s.rows
  rows_in_lem =
      let o : opening_of s.header ≡ p.opening = ap opening_of r.shown.header in
      let long : s.header.capacity * s.header.columns ≤ length s.rows = rw (← o) at (represents_long r).rows_long in
      let fit = mul-le-mul_right s.header.columns inside.rows_fit in
      omega (arith, long, fit)

  sorts_in : 2 * s.header.entries ≤ length s.sorts
  sorts_in =
      let o : opening_of s.header ≡ p.opening = ap opening_of r.shown.header in
      let long : 2 * s.header.capacity ≤ length s.sorts = rw (← o) at (represents_long r).sorts_long in
      omega (arith, long, inside.rows_fit, inside.entries_fit)

  pending_in : s.header.pending ≤ length s.pending
  pending_in = rw r.shown.header (holds_fits r.shown.pending_held)

  pub saved_parts : Parts saved_image
  unfolding refusal write_refusal
  saved_parts =
      record {
        header_fits = represents_inside r;
        text_fits = ltb-false _ _ (first_refusal_no _ _ _ (first_refusal_rest _ _ _ (first_refusal_rest _ _ _ accepted_size.0)));
        text_bytes = saved.bytes;
        rows_counted = length-take-le _ _ rows_in_lem;
        sorts_counted = length-take-le _ _ sorts_in;
        pending_counted = length-take-le _ _ pending_in;
      }

  pub saved_words : words ≡ image_words saved_image
  unfolding splice refusal
  saved_words =
      saved.image
      ∙ ap (take saved.count) (saved.written.effect.written accepted_size.0)
      ∙ take_at (image_words saved_image) _ saved.count (length_image saved_image saved_parts ∙ sym accepted_size.1)

  pub saved_reads : Reads words (some saved_image)
  saved_reads = reads saved_image (parts_image saved_image saved_parts) saved_words

  same : (n : ℕ) (l : List ℕ) → take n (take n l) ≡ take n l
  same n l = take-take n n l (le_refl n)

  pub saved_sound : SoundImage saved_image
  saved_sound = (
    p.staged,
    contents_same
        (record {
          rows_same = same (s.header.rows * s.header.columns) s.rows;
          sorts_same = same (2 * s.header.entries) s.sorts;
          pending_same = same s.header.pending s.pending;
        })
        (represents_sound r).contents,
  )
