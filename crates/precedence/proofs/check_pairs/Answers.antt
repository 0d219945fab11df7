-- `precedence::check_pairs` meets its contract. Assumes nothing.
use Rattle.refusals.specs.Laws.Numbers.{number_some}
use Rattle.std.proofs.lemmas.Result.{err_from_is_err_and}
use Rattle.precedence.proofs.Prelude.{sym, ◌∙◌}
use Rattle.precedence.proofs.Checks.{lookup_refused, no_key_column, odd_words, no_pairs, many_pairs, none_refused}
use Rattle.precedence.proofs.check_pairs.Goals as goal

pub returns-in_err-check_lookup : goal.returns-in_err-check_lookup
returns-in_err-check_lookup c =
    let p = err_from_is_err_and c.from_residual.result c.from_residual.ensures.1 in
    let e = c.in_err-check_lookup in
    rw (p.1, p.2) (e.ensures ∙ lookup_refused _ _ _ _ _ (λ z. number_some e.field-0.0 (e.ensures ∙ z)))

pub returns-then-h-column : goal.returns-then-h-column
returns-then-h-column c = no_key_column _ _ _ _ _ (sym c.in_ok-check_lookup.ensures) c.if-h-column.true

pub returns-then-words-ne0 : goal.returns-then-words-ne0
returns-then-words-ne0 c = odd_words _ _ _ _ _ (sym c.in_ok-check_lookup.ensures) c.if-h-column.false c.if-words-ne0.true

pub returns-then-words-lt1 : goal.returns-then-words-lt1
returns-then-words-lt1 c = no_pairs _ _ _ _ _ (sym c.in_ok-check_lookup.ensures) c.if-h-column.false c.if-words-ne0.false c.if-words-lt1.true

pub returns-then-words-gt-MOST_PAIRS : goal.returns-then-words-gt-MOST_PAIRS
returns-then-words-gt-MOST_PAIRS c = many_pairs _ _ _ _ _ (sym c.in_ok-check_lookup.ensures) c.if-h-column.false c.if-words-ne0.false c.if-words-lt1.false c.if-words-gt-MOST_PAIRS.true

pub returns : goal.returns
returns c = none_refused _ _ _ _ _ (sym c.in_ok-check_lookup.ensures) c.if-h-column.false c.if-words-ne0.false c.if-words-lt1.false c.if-words-gt-MOST_PAIRS.false
