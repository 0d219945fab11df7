-- `short_histories::sequence_at` meets its contract. Assumes nothing.
use Rattle.short_histories.proofs.Prelude.{sequence_past_last, sequence_no_room, sequence_written}
use Rattle.short_histories.proofs.sequence_at.Goals as goal

pub returns-then-position-ge-SEQUENCES : goal.returns-then-position-ge-SEQUENCES
returns-then-position-ge-SEQUENCES c = sequence_past_last _ _ c.if-position-ge-SEQUENCES.true

pub returns-then-output-steps : goal.returns-then-output-steps
returns-then-output-steps c = sequence_no_room _ _ c.if-position-ge-SEQUENCES.false _ c.length_at-steps.ensures.0 c.if-output-steps.true

pub returns : goal.returns
returns c = sequence_written _ _ c.if-position-ge-SEQUENCES.false _ c.length_at-steps.ensures.0 c.if-output-steps.false _ c.write_sequence.ensures
