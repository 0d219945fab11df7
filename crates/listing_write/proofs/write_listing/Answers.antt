-- `listing_write::write_listing` meets its contract. Assumes nothing.
use Rattle.listing_write.proofs.Prelude.{sym, ◌∙◌, arith}
use Rattle.listing_write.specs.Laws.Lines.{checked_rows_stored}
use Rattle.listing_write.proofs.Steps.{refused_outside, refused_rows, refused_output, written_all}
use Rattle.listing_write.proofs.write_listing.Goals as goal

pub returns-then-is_outside : goal.returns-then-is_outside
returns-then-is_outside c = refused_outside _ _ _ _ (sym c.is_outside.ensures ∙ c.if-is_outside.true)

pub is_rows_short-requires : goal.is_rows_short-requires
is_rows_short-requires c = sym c.is_outside.ensures ∙ c.if-is_outside.false

pub returns-then-is_rows_short : goal.returns-then-is_rows_short
returns-then-is_rows_short c =
    refused_rows _ _ _ _ (sym c.is_outside.ensures ∙ c.if-is_outside.false) (sym c.is_rows_short.ensures ∙ c.if-is_rows_short.true)

pub text_length-requires : goal.text_length-requires
text_length-requires c =
    checked_rows_stored _ _ (sym c.is_outside.ensures ∙ c.if-is_outside.false) (sym c.is_rows_short.ensures ∙ c.if-is_rows_short.false)

pub returns-then-output-text_length : goal.returns-then-output-text_length
returns-then-output-text_length c =
    refused_output _ _ _ _ (sym c.is_outside.ensures ∙ c.if-is_outside.false) (sym c.is_rows_short.ensures ∙ c.if-is_rows_short.false)
    (omega (arith, c.text_length.ensures, c.if-output-text_length.true))

pub put_text-requires : goal.put_text-requires
put_text-requires c =
    record {
      stored = checked_rows_stored _ _ (sym c.is_outside.ensures ∙ c.if-is_outside.false) (sym c.is_rows_short.ensures ∙ c.if-is_rows_short.false);
      rows_in_bounds = omega (arith, c.text_length.ensures, c.if-output-text_length.false);
    }

pub returns : goal.returns
returns c =
    written_all _ _ _ _ (sym c.is_outside.ensures ∙ c.if-is_outside.false) (sym c.is_rows_short.ensures ∙ c.if-is_rows_short.false)
    (omega (arith, c.text_length.ensures, c.if-output-text_length.false)) c.put_text.ensures
