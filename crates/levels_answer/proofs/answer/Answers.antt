-- `levels_answer::answer` meets its contract. Assumes nothing.
use Rattle.levels_answer.proofs.Prelude.{arith, encoded_answers}
use Rattle.levels_answer.proofs.answer.Goals as goal

pub returns : goal.returns
returns c =
    encoded_answers (omega (arith, c.requires.keys_len_bound)) (omega (arith, c.requires.in_bounds)) c.respond-response.ensures c.encode_response.ensures
