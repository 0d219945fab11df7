-- `levels::step` meets its contract. Assumes nothing.
use Rattle.levels.proofs.Prelude.{ap, sym, ◌∙◌, false≢true, ℕ, ◌-◌, arith, not-true, not-false, stores, lent_program, stepped_silent, stepped_line, handed_used, room_for_line, step_shorter, rules}
use Rattle.levels.proofs.step.Goals as goal

pub overflow_sub-left : goal.overflow_sub-left
overflow_sub-left c = omega (arith, handed_used c.advance-progress.ensures, c.count.ensures)

pub returns-then-not-progress : goal.returns-then-not-progress
returns-then-not-progress c =
    record {
      turned = stepped_silent _ _ _ _ _ _ _ _ _ _ (ap (λ (n : ℕ). c.args.state.used - n) c.count.ensures) (search rules) c.requires c.advance-progress.ensures (not-true _ c.if-not-progress.true);
      shorter = step_shorter (λ e. search rules) c.advance-progress.ensures;
    }

pub append_answer-answered-requires : goal.append_answer-answered-requires
append_answer-answered-requires c =
    let room = room_for_line c.requires.text_in (search rules) c.advance-progress.ensures (not-false _ c.if-not-progress.false) in
    record { count_in_bounds = omega (arith, room.0); keys_len_bound = search rules; from_in_bounds = omega (arith, room.1, c.count.ensures) }

pub returns : goal.returns
returns c =
    let a = c.args in
    let s = stores a.state.header a.rows.now a.keys.now a.sorts.now a.pending.now in
    record {
      turned = stepped_line s _ _ _ _ _ _ _ _ _ (search rules) (lent_program s (search rules) (search rules) (search rules) (search rules)) (ap (λ (n : ℕ). a.state.used - n) c.count.ensures) c.append_answer-answered.ensures c.advance-progress.ensures (not-false _ c.if-not-progress.false);
      shorter = step_shorter (λ e. absurd (false≢true (sym e ∙ not-false _ c.if-not-progress.false))) c.advance-progress.ensures;
    }
