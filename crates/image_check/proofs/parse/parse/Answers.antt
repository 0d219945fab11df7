-- `image_check::parse::parse` meets its contract. Assumes nothing.
use Rattle.image_check.proofs.Prelude.{sym, ◌∙◌, arith, placed_of}
use Rattle.image_check.proofs.ParsingSteps.{parsed_none, parsed_outside, parsed_broken, parsed_whole}
use Rattle.image_check.proofs.parse.parse.Goals as goal

pub returns-then-words-lt-FIXED_WORDS : goal.returns-then-words-lt-FIXED_WORDS
returns-then-words-lt-FIXED_WORDS c = parsed_none _ (λ t. omega (arith, t.long, c.if-words-lt-FIXED_WORDS.true))

pub returns-then-not-is_marked : goal.returns-then-not-is_marked
returns-then-not-is_marked c = parsed_none _ (λ t. c.is_marked.ensures.no c.if-not-is_marked.true t.marked)

pub returns-then-is_outside : goal.returns-then-is_outside
returns-then-is_outside c = parsed_outside _ _ c.header_in-h.ensures (sym c.is_outside.ensures ∙ c.if-is_outside.true)

pub returns-then-text-gt-LONGEST_TEXT : goal.returns-then-text-gt-LONGEST_TEXT
returns-then-text-gt-LONGEST_TEXT c = parsed_none _ (λ t. omega (arith, t.few, c.if-text-gt-LONGEST_TEXT.true))

pub layout_for-l-requires : goal.layout_for-l-requires
layout_for-l-requires c = (sym c.is_outside.ensures ∙ c.if-is_outside.false, c.if-text-gt-LONGEST_TEXT.false)

pub is_whole-requires : goal.is_whole-requires
is_whole-requires c =
    (c.if-words-lt-FIXED_WORDS.false, rw c.layout_for-l.ensures (placed_of _ _ (sym c.is_outside.ensures ∙ c.if-is_outside.false) c.if-text-gt-LONGEST_TEXT.false))

pub returns-then-not-is_whole : goal.returns-then-not-is_whole
returns-then-not-is_whole c =
    parsed_broken _ _ c.header_in-h.ensures _ c.layout_for-l.ensures (c.is_whole.ensures.no c.if-not-is_whole.true)

pub returns : goal.returns
returns c =
    parsed_whole _ _ c.header_in-h.ensures _ c.layout_for-l.ensures c.if-words-lt-FIXED_WORDS.false (c.is_marked.ensures.yes c.if-not-is_marked.false)
    (sym c.is_outside.ensures ∙ c.if-is_outside.false) c.if-text-gt-LONGEST_TEXT.false (c.is_whole.ensures.yes c.if-not-is_whole.false)
