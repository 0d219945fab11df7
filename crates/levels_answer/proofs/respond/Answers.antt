-- `levels_answer::respond` meets its contract. Assumes nothing.
use Rattle.levels_answer.proofs.Prelude.{length-take, arith, rules, parsed_some, parsed_fits, parsed_numbers, wrong_responds, line_responds}
use Rattle.levels_answer.proofs.respond.Goals as goal

pub slice_bounds-numbers-end : goal.slice_bounds-numbers-end
slice_bounds-numbers-end c = parsed_fits (parsed_some c.parse.ensures c.in-Some.is (search rules))

pub slice_bounds-passed-end : goal.slice_bounds-passed-end
slice_bounds-passed-end c = simp length-take (omega (arith, parsed_fits (parsed_some c.parse.ensures c.in-Some.is (search rules))))

pub serve-requires : goal.serve-requires
serve-requires c = parsed_numbers (parsed_some c.parse.ensures c.in-Some.is (search rules))

pub returns-in_default : goal.returns-in_default
returns-in_default c = wrong_responds c.parse.ensures (search rules) c.in_default.is _

pub returns : goal.returns
returns c = line_responds (parsed_some c.parse.ensures c.in-Some.is (search rules)) c.serve.ensures
