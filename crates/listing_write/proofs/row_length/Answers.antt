-- `listing_write::row_length` meets its contract. Assumes nothing.
use Rattle.listing_write.proofs.Prelude.{sym, ◌∙◌, arith}
use Rattle.levels_text.specs.Laws.Decimals.{length_field, length_fields}
use Rattle.listing_write.proofs.Steps.{bytes_numbered, bytes_live, bytes_dead}
use Rattle.listing_write.proofs.row_length.Goals as goal

pub overflow_add-cells : goal.overflow_add-cells
overflow_add-cells c = omega (arith, c.numbers_length-cells.ensures, length_fields c.args.row.now, c.requires)

pub overflow_add-result : goal.overflow_add-result
overflow_add-result c =
    omega (arith, c.numbers_length-cells.ensures, length_fields c.args.row.now, c.number_length.ensures, length_field c.args.number, c.requires)

pub returns-then-numbered : goal.returns-then-numbered
returns-then-numbered c =
    bytes_numbered _ _ (sym c.is_live.ensures ∙ c.if-is_live.true) c.if-numbered.true c.numbers_length-cells.ensures c.number_length.ensures

pub returns-then-is_live : goal.returns-then-is_live
returns-then-is_live c =
    bytes_live _ _ (sym c.is_live.ensures ∙ c.if-is_live.true) c.if-numbered.false c.numbers_length-cells.ensures

pub returns : goal.returns
returns c = bytes_dead _ _ _ (sym c.is_live.ensures ∙ c.if-is_live.false)
