-- The checks on a header give the same refusals as the checks on the plain table that it shows. Assumes nothing.
use Rattle.table.proofs.Laws.Prelude.{◌≡◌, Staged, Lengths, Plain, Stores, Represents}
use Rattle.plain_table.specs.Calls.{staging, merging, compacting, clearing, refusal}
use Rattle.table.specs.Refusing.{pending_outside, stage_refusal, merge_refusal, compact_refusal, clear_refusal}
use Rattle.table.proofs.Laws.Shown.{header_inside}

module _ {p : Plain} {s : Stores} (r : Represents p s) (l : Lengths) where
  -- *Stage*
  pub stage_checks_lem : (q : Staged) → stage_refusal s.header l.pending q ≡ refusal p l (staging q)
  unfolding stage_refusal refusal pending_outside
  stage_checks_lem q = rw (r.shown.header, header_inside r.proper)

  -- *Merge*
  pub merge_checks_lem : merge_refusal s.header l ≡ refusal p l merging
  unfolding merge_refusal refusal pending_outside
  merge_checks_lem = rw (r.shown.header, header_inside r.proper)

  -- *Compact*
  pub compact_checks_lem : compact_refusal s.header l ≡ refusal p l compacting
  unfolding compact_refusal refusal
  compact_checks_lem = rw (r.shown.header, header_inside r.proper)

  -- *Clear*
  pub clear_checks_lem : clear_refusal s.header l.keys ≡ refusal p l clearing
  unfolding clear_refusal refusal
  clear_checks_lem = rw (r.shown.header, header_inside r.proper)
