-- `image_read::read_text` meets its contract. Assumes nothing.
use Rattle.std.proofs.lemmas.Result.{err_from_is_err_and}
use Rattle.image_check.specs.inner.Parsed.{IsAt}
use Rattle.image_check.proofs.ParsingSteps.{parsed_missing, parsed_there}
use Rattle.image_read.proofs.Prelude.{arith}
use Rattle.image_read.proofs.TextSteps.{text_none, text_in, text_short, text_written}
use Rattle.image_read.proofs.read_text.Goals.{In_ok-l}
use Rattle.image_read.proofs.read_text.Goals as goal

-- the words are an image
there : (c : In_ok-l) → IsAt c.args.words.now c.in_ok-l.l
there c = parsed_there _ _ _ c.parse.ensures c.in_ok-l.ensures.value

pub returns-in_err-l : goal.returns-in_err-l
returns-in_err-l c =
    let p = err_from_is_err_and c.from_residual.result c.from_residual.ensures.1 in
    let m = parsed_missing _ _ _ c.parse.ensures c.in_err-l.ensures.value in
    rw (p.1, p.2, m.1) (text_none _ _ m.0)

pub returns-then-output-count : goal.returns-then-output-count
returns-then-output-count c = text_short _ _ _ (there (goal.at.returns-then-output-count c).In_ok-l) (omega (arith, c.if-output-count.true))

pub write_text-requires : goal.write_text-requires
write_text-requires c =
    (text_in _ c.args.output.now _ (there (goal.at.write_text-requires c).In_ok-l), omega (arith, c.if-output-count.false))

pub returns : goal.returns
returns c =
    text_written _ _ _ (there (goal.at.returns c).In_ok-l) (omega (arith, c.if-output-count.false)) _ c.write_text.ensures
