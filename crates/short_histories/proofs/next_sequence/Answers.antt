-- `short_histories::next_sequence` meets its contract. Assumes nothing.
use Rattle.short_histories.proofs.Prelude.{sym, ◌∙◌, next_unknown}
use Rattle.short_histories.proofs.RaisingSteps.{to_raise, raised_none, raised_no_room, raised_written}
use Rattle.short_histories.proofs.next_sequence.Goals as goal

pub returns-then-not-is_known : goal.returns-then-not-is_known
returns-then-not-is_known c = next_unknown _ _ (sym c.is_known.ensures ∙ c.if-not-is_known.true)

pub raised_length-steps-requires : goal.raised_length-steps-requires
raised_length-steps-requires c = to_raise c.is_known.ensures c.if-not-is_known.false c.raised_end-end.ensures

pub returns-then-steps-gt-LONGEST : goal.returns-then-steps-gt-LONGEST
returns-then-steps-gt-LONGEST c = raised_none _ _ (to_raise c.is_known.ensures c.if-not-is_known.false c.raised_end-end.ensures) _ _ c.raised_length-steps.ensures c.if-steps-gt-LONGEST.true

pub returns-then-output-steps : goal.returns-then-output-steps
returns-then-output-steps c =
    raised_no_room _ _ (to_raise c.is_known.ensures c.if-not-is_known.false c.raised_end-end.ensures) _ _ c.raised_length-steps.ensures c.if-steps-gt-LONGEST.false c.if-output-steps.true

pub write_raised-requires : goal.write_raised-requires
write_raised-requires c = ((to_raise c.is_known.ensures c.if-not-is_known.false c.raised_end-end.ensures), c.raised_length-steps.ensures, c.if-output-steps.false)

pub returns : goal.returns
returns c =
    raised_written _ _ (to_raise c.is_known.ensures c.if-not-is_known.false c.raised_end-end.ensures) _ _ c.raised_length-steps.ensures c.if-steps-gt-LONGEST.false c.if-output-steps.false _ c.write_raised.ensures
