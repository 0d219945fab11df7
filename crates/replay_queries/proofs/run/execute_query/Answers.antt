-- `replay_queries::run::execute_query` meets its contract. Assumes nothing.
use Rattle.replay_queries.proofs.Prelude.{arith, execute_first, execute_second, execute_neither}
use Rattle.replay_queries.proofs.RunSteps.{inside_count, lent_count}
use Rattle.replay_queries.proofs.run.execute_query.Goals as goal

pub slice_bounds-subset_left-end : goal.slice_bounds-subset_left-end
slice_bounds-subset_left-end c = inside_count c.args.l.place c.requires.0.1

pub slice_bounds-subset_left-end-then-l-eq-FIRST_LIST : goal.slice_bounds-subset_left-end-then-l-eq-FIRST_LIST
slice_bounds-subset_left-end-then-l-eq-FIRST_LIST c = lent_count _ _ (inside_count c.args.l.place c.requires.0.1)

pub returns-then-l-eq-FIRST_LIST : goal.returns-then-l-eq-FIRST_LIST
returns-then-l-eq-FIRST_LIST c =
    execute_first _ c.requires.0 c.requires.1 c.if-l-eq-FIRST_LIST.true (rw c.subset_left.ensures at c.execute.ensures)

pub slice_bounds-subset_left-end-then-l-eq-SECOND_LIST : goal.slice_bounds-subset_left-end-then-l-eq-SECOND_LIST
slice_bounds-subset_left-end-then-l-eq-SECOND_LIST c = let held = inside_count c.args.l.place c.requires.0.1 in omega (arith, held, c.requires.1)

pub slice_bounds-subset_left-end-then-l-eq-SECOND_LIST-2 : goal.slice_bounds-subset_left-end-then-l-eq-SECOND_LIST-2
slice_bounds-subset_left-end-then-l-eq-SECOND_LIST-2 c =
    let held = inside_count c.args.l.place c.requires.0.1 in
    lent_count _ _ (omega (arith, held, c.requires.1))

pub returns-then-l-eq-SECOND_LIST : goal.returns-then-l-eq-SECOND_LIST
returns-then-l-eq-SECOND_LIST c =
    execute_second _ c.requires.0 c.requires.1 c.if-l-eq-SECOND_LIST.true
    (rw c.subset_left-then-l-eq-SECOND_LIST.ensures at c.execute-then-l-eq-SECOND_LIST.ensures)

pub returns : goal.returns
returns c =
    execute_neither _ c.requires.0 c.requires.1 c.if-l-eq-FIRST_LIST.false c.if-l-eq-SECOND_LIST.false (rw c.subset_left-2.ensures at c.execute-2.ensures)
