-- `table::refusing::check_merge` meets its contract. Assumes nothing.
use Rattle.std.proofs.lemmas.Result.{err_from_is_err_and}
use Rattle.refusals.specs.Laws.Numbers.{number_some}
use Rattle.table.proofs.Prelude.{sym, ◌∙◌, lengths_of}
use Rattle.table.proofs.RefusingSteps.{sound_inside, merge_sound, merge_words, merge_none}
use Rattle.table.proofs.refusing.check_merge.Goals as goal

pub returns-in_err-check_sound : goal.returns-in_err-check_sound
returns-in_err-check_sound c =
    let e = c.in_err-check_sound in
    let p = err_from_is_err_and c.from_residual.result c.from_residual.ensures.1 in
    rw (p.1, p.2) (e.ensures ∙ merge_sound _ _ (λ z. number_some e.field-0.0 (e.ensures ∙ z)))

pub is_words_short-requires : goal.is_words_short-requires
is_words_short-requires c = sound_inside _ (lengths_of c.args.l) (sym c.in_ok-check_sound.ensures)

pub returns-then-is_words_short : goal.returns-then-is_words_short
returns-then-is_words_short c = merge_words _ _ (sym c.in_ok-check_sound.ensures) (sym c.is_words_short.ensures ∙ c.if-is_words_short.true)

pub returns : goal.returns
returns c = merge_none _ _ (sym c.in_ok-check_sound.ensures) (sym c.is_words_short.ensures ∙ c.if-is_words_short.false)
