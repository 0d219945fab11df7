-- `levels_text::parse` meets its contract. Assumes nothing.
use Rattle.levels_text.proofs.Prelude.{sym, ◌∙◌, line_some, parsed_no_line, parsed_right, parsed_wrong, kind_some, no_kind}
use Rattle.levels_text.proofs.parse.Goals as goal

pub returns-in_err-letter : goal.returns-in_err-letter
returns-in_err-letter c = rw c.from_residual.ensures (parsed_no_line c.read_line.ensures c.in_err-letter.was)

pub returns-in_err-kind : goal.returns-in_err-kind
returns-in_err-kind c =
    let read = line_some c.read_line.ensures c.in_ok-letter.was in
    rw c.from_residual-in_err-kind.ensures (parsed_wrong read (no_kind _ _ _ c.try_from.ensures c.in_err-kind.ensures.value))

pub returns-then-not-takes : goal.returns-then-not-takes
returns-then-not-takes c =
    let read = line_some c.read_line.ensures c.in_ok-letter.was in
    let is = kind_some _ c.try_from.ensures c.in_ok-kind.ensures.value in
    parsed_wrong read (rw (← is) (sym c.takes.ensures ∙ c.if-not-takes.true))

pub returns : goal.returns
returns c =
    let read = line_some c.read_line.ensures c.in_ok-letter.was in
    let is = kind_some _ c.try_from.ensures c.in_ok-kind.ensures.value in
    parsed_right read c.in_ok-kind.kind is (rw (← is) (sym c.takes.ensures ∙ c.if-not-takes.false))
