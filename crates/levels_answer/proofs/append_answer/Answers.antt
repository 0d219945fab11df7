-- `levels_answer::append_answer` meets its contract. Assumes nothing.
use Rattle.levels_answer.proofs.Prelude.{◌-◌, arith, length, drop, length-take, length-drop, answer_appended}
use Rattle.levels_answer.proofs.append_answer.Goals as goal

pub slice_bounds-answer-end : goal.slice_bounds-answer-end
slice_bounds-answer-end c = simp length-take (omega (arith, c.requires.count_in_bounds))

pub overflow_add-result : goal.overflow_add-result
overflow_add-result c =
    let a = c.args in
    omega (arith, c.answer-answered.ensures.inside, c.answer-answered.auto.text, length-take (length a.text.now - a.from) (drop a.from a.text.now), length-drop a.from a.text.now)

pub returns : goal.returns
returns c =
    let a = c.args in
    answer_appended a.text.now _ _ a.from (omega (arith, c.requires.from_in_bounds)) c.answer-answered.ensures
