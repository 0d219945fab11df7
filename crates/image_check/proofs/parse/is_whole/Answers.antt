-- `image_check::parse::is_whole` meets its contract. Assumes nothing.
use Rattle.image_check.proofs.Prelude.{arith}
use Rattle.image_check.proofs.ParsingSteps.{whole_other_count, whole_unfilled, whole_measured, whole_part, whole_checked}
use Rattle.image_check.proofs.parse.is_whole.Goals as goal

pub returns-then-words-end : goal.returns-then-words-end
returns-then-words-end c = whole_other_count _ _ c.requires.0 c.requires.1 c.if-words-end.true

pub is_filled-requires : goal.is_filled-requires
is_filled-requires c =
    whole_measured _ c.args.l c.requires.0 c.requires.1 c.if-words-end.false (λ i. omega (arith, c.type_inv.words i))

pub returns-then-not-is_filled : goal.returns-then-not-is_filled
returns-then-not-is_filled c = whole_unfilled _ _ c.requires.0 c.requires.1 (c.is_filled.ensures.no c.if-not-is_filled.true)

pub slice_bounds-crc_words-end : goal.slice_bounds-crc_words-end
slice_bounds-crc_words-end c = whole_part _ c.args.l c.requires.0 c.requires.1 c.if-words-end.false

pub returns : goal.returns
returns c =
    whole_checked _ c.args.l c.requires.0 c.requires.1 c.if-words-end.false (c.is_filled.ensures.yes c.if-not-is_filled.false) _ c.crc_words-checksum.ensures
