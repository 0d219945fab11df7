-- `table_check::record_words` meets its contract. Assumes nothing.
use Rattle.table_check.proofs.Prelude.{arith}
use Rattle.table_check.proofs.CheckingSteps.{key_inside, read_no_kind, read_short, read_other_hash, read_whole}
use Rattle.table_check.proofs.record_words.Goals as goal

pub returns-then-kind-gt-REMOVE_ROW : goal.returns-then-kind-gt-REMOVE_ROW
returns-then-kind-gt-REMOVE_ROW c = read_no_kind _ _ _ _ c.if-kind-gt-REMOVE_ROW.true

pub returns-then-h-at : goal.returns-then-h-at
returns-then-h-at c = read_short _ _ _ _ _ c.kind_words-words.ensures c.if-h-at.true

pub bounds-pending-start-2 : goal.bounds-pending-start-2
bounds-pending-start-2 c = omega (arith, key_inside _ _ c.kind_words-words.ensures c.if-kind-gt-REMOVE_ROW.false c.requires.0.most_keys, c.if-h-at.false, c.requires)

pub slice_bounds-compact_hash-end : goal.slice_bounds-compact_hash-end
slice_bounds-compact_hash-end c = omega (arith, key_inside _ _ c.kind_words-words.ensures c.if-kind-gt-REMOVE_ROW.false c.requires.0.most_keys, c.key_place.ensures, c.if-h-at.false, c.requires)

pub returns-then-pending-start : goal.returns-then-pending-start
returns-then-pending-start c =
    read_other_hash _ _ _ _ _ c.kind_words-words.ensures c.requires.0.most_keys _ _ c.key_place.ensures c.compact_hash.ensures c.if-pending-start.true

pub returns : goal.returns
returns c =
    read_whole _ _ _ _ _ c.kind_words-words.ensures c.requires.0.most_keys _ _ c.key_place.ensures c.compact_hash.ensures c.if-pending-start.false
    c.if-kind-gt-REMOVE_ROW.false c.if-h-at.false c.requires.1 c.requires.0.fits
