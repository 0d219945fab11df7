use Rattle.refresh_scan.proofs.Prelude.{◌∙◌, rules, arith, bitmap_of, marked_few}
use Rattle.refresh_scan.proofs.BitmapSteps.{scan_on, rows_begin, rows_on, rows_end}
use Rattle.refresh_scan.proofs.mark_rows.Goals as goal

pub loop-row-init : goal.loop-row-init
loop-row-init c = rows_begin _ _ _ _ _

pub mark_row-marked-requires : goal.mark_row-marked-requires
mark_row-marked-requires c = (scan_on c.requires.0 (omega arith) (c.loop-row.auto.words ∙ c.requires.0.words_long), c.loop-row-test.true, c.requires.1)

pub overflow_add-marked : goal.overflow_add-marked
overflow_add-marked c =
    omega (arith, marked_few (rows_on _ _ _ _ _ _ c.loop-row.auto.row c.loop-row.invariant c.mark_row-marked.ensures) (bitmap_of _ c.requires.0.words_long (λ w. search rules)))

pub loop-row-preserved : goal.loop-row-preserved
loop-row-preserved c = rows_on _ _ _ _ _ _ c.loop-row.auto.row c.loop-row.invariant c.mark_row-marked.ensures

pub returns : goal.returns
returns c = rows_end _ _ _ _ _ _ c.loop-row-test.false c.loop-row.invariant
