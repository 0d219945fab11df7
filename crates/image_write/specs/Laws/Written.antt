-- What *Write image* writes is an image, and reads as what was handed in. Assumes nothing.
use Rattle.std.specs.Prelude.{◌≡◌, Ok}
use Rattle.refusals.specs.Refusals.{answer_view}
use Rattle.image_write.specs.Laws.Prelude.{ℕ, sym, ap, ap₂, ◌∙◌, true, List, some, arith, ltb, length, take, le-leb, eq-eqb, splice, all, part_splice, Header, accepted_number, accepted_same}
use Rattle.image_spec.specs.Image.{is_image, image_words, Reads, reads, image_of, image_length}
use Rattle.image_spec.specs.Outcomes.{write_refusal, ImageWritten}
use Rattle.image_write.specs.Laws.Bodies.{length_cells, length_pairs, length_records, length_image}
use Rattle.image_write.specs.Laws.Checks.{Accepted, write_accepted, accepted_holds}

module _ (h : Header) (rows sorts pending text output : List ℕ) (bytes : all (λ byte. ltb byte 256) text ≡ true)
    (none : write_refusal h (length rows) (length sorts) (length pending) (length text) (length output) ≡ 0) where
  a : Accepted h (length rows) (length sorts) (length pending) (length text) (length output)
  a = write_accepted _ _ _ _ _ _ none

  is_image_lem : is_image (image_of h rows sorts pending text) ≡ true
  unfolding is_image
  is_image_lem =
      let k = accepted_holds h rows sorts pending _ _ a in
      rw (
        a.inside,
        le-leb _ _ a.text_short,
        bytes,
        eq-eqb _ _ (length_cells h rows sorts pending k),
        eq-eqb _ _ (length_pairs h rows sorts pending k),
        eq-eqb _ _ (length_records h rows sorts pending k),
      )

  front : take (image_length h (length text)) (splice output 0 (image_words (image_of h rows sorts pending text))) ≡ image_words (image_of h rows sorts pending text)
  front =
      let n = length_image h rows sorts pending (accepted_holds h rows sorts pending _ _ a) text in
      ap (λ (k : ℕ). take k (splice output 0 (image_words (image_of h rows sorts pending text)))) (sym n)
      ∙ part_splice output (image_words (image_of h rows sorts pending text)) 0 (omega (arith, a.room))

-- the words that were written, as many as the answer has, are the image of the table and the text
pub written_reads : {h : Header} {rows sorts pending text output output' : List ℕ} {n : ℕ} → all (λ byte. ltb byte 256) text ≡ true
    → ImageWritten h rows sorts pending text output (Ok n) output' → Reads (take n output') (some (image_of h rows sorts pending text))
unfolding answer_view
written_reads {h} {rows} {sorts} {pending} {text} {output} {n = n} bytes w =
    let none = accepted_number _ _ _ w.effect.answers in
    reads (image_of h rows sorts pending text) (is_image_lem h rows sorts pending text output bytes none)
    (ap₂ (λ (k : ℕ) (x : List ℕ). take k x) (accepted_same _ _ _ w.effect.answers) (w.effect.written none) ∙ front h rows sorts pending text output bytes none)
