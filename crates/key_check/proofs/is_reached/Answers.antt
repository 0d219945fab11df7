use Rattle.key_check.proofs.Prelude.{sym, ◌∙◌, rows_in_lem, begin, on}
use Rattle.key_check.proofs.CheckSteps.{Past, reached_own, reached_free, reached_other, reached_none}
use Rattle.key_check.proofs.is_reached.Goals as goal

pub loop-passed-init : goal.loop-passed-init
loop-passed-init c = begin _ _ _ _ _ c.home_slot-at.ensures.value c.home_slot-at.ensures.upper_bound

pub returns-then-word-own : goal.returns-then-word-own
returns-then-word-own c =
    let l = c.loop-passed in
    reached_own _ _ _ _ _ _ l.at l.passed l.invariant c.loop-passed-test.true (c.if-word-own.true ∙ c.slot_word-own.ensures)

pub returns-then-word-eq0 : goal.returns-then-word-eq0
returns-then-word-eq0 c =
    let l = c.loop-passed in
    reached_free _ _ _ _ _ _ l.at l.passed l.invariant (λ e. c.if-word-own.false (e ∙ sym c.slot_word-own.ensures)) c.if-word-eq0.true

pub is_hit-requires : goal.is_hit-requires
is_hit-requires c = let p = c.requires in (rows_in_lem _ _ _ p.0, p.1)

pub returns-then-is_hit : goal.returns-then-is_hit
returns-then-is_hit c =
    let l = c.loop-passed in
    reached_other _ _ _ _ _ _ l.at l.passed l.invariant (λ e. c.if-word-own.false (e ∙ sym c.slot_word-own.ensures)) _ (c.is_hit.ensures.yes c.if-is_hit.true)

pub loop-passed-preserved : goal.loop-passed-preserved
loop-passed-preserved c =
    let l = c.loop-passed in
    let p : Past _ _ _ _ _ _ =
    record {
      taken = c.if-word-eq0.false;
      not_own = λ e. c.if-word-own.false (e ∙ sym c.slot_word-own.ensures);
      other = c.is_hit.ensures.no c.if-is_hit.false;
    } in
    on _ _ _ _ l.at l.passed _ l.invariant c.loop-passed-test.true p c.next_slot-at.ensures.value

pub returns : goal.returns
returns c = let l = c.loop-passed in reached_none _ _ _ _ _ _ l.at l.passed l.invariant c.loop-passed-test.false
