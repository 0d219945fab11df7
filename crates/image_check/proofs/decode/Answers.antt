-- `image_check::decode` meets its contract. Assumes nothing.
use Rattle.std.proofs.lemmas.Result.{err_from_is_err_and}
use Rattle.image_check.specs.inner.Parsed.{IsAt}
use Rattle.image_check.proofs.CheckingSteps.{decoding_none, decoding_unsound, decoding_sound}
use Rattle.image_check.proofs.ParsingSteps.{parsed_missing, parsed_there}
use Rattle.image_check.proofs.decode.Goals.{In_ok-l}
use Rattle.image_check.proofs.decode.Goals as goal

-- the words are an image
there : (c : In_ok-l) → IsAt c.args.words.now c.in_ok-l.l
there c = parsed_there _ _ _ c.parse.ensures c.in_ok-l.ensures.value

pub returns-in_err-l : goal.returns-in_err-l
returns-in_err-l c =
    let p = err_from_is_err_and c.from_residual.result c.from_residual.ensures.1 in
    let m = parsed_missing _ _ _ c.parse.ensures c.in_err-l.ensures.value in
    rw (p.1, p.2, m.1) (decoding_none _ m.0 _)

pub is_contents_sound-requires : goal.is_contents_sound-requires
is_contents_sound-requires c = (there (goal.at.is_contents_sound-requires c).In_ok-l, c.requires)

pub returns-then-not-is_contents_sound : goal.returns-then-not-is_contents_sound
returns-then-not-is_contents_sound c =
    decoding_unsound _ _ (there (goal.at.returns-then-not-is_contents_sound c).In_ok-l) (c.is_contents_sound.ensures.decided.no c.if-not-is_contents_sound.true) _

pub returns : goal.returns
returns c =
    let d = c.is_contents_sound.ensures in
    let e = c.if-not-is_contents_sound.false in
    decoding_sound _ _ (there (goal.at.returns c).In_ok-l) (d.decided.yes e) _ (d.built e)
