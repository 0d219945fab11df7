-- The contract determines the outcome. Assumes nothing.
use Rattle.refusals.specs.Laws.Numbers.{found_view_injective}
use Rattle.refusals.specs.Refusals.{found_view}
use Rattle.refusals.specs.declared.Refusal.{Refusal}
use Rattle.std.specs.Prelude.{Result, Option as Optional}
use Rattle.precedence.specs.Laws.Prelude.{ℕ, sym, ◌∙◌, List, length, SameAnswer, answer_same, Header, KnownKeys}
use Rattle.precedence.specs.Precedence.{precedence_refusal, PrecedenceChecked}
use Rattle.precedence.specs.declared.Failure.{Failure}

pub precedence_determined : {h : Header} {rows keys : List ℕ} {column : ℕ} {pairs : List ℕ} {a b : Result (Optional Failure) Refusal}
    → PrecedenceChecked h rows keys column pairs a → PrecedenceChecked h rows keys column pairs b
    → SameAnswer found_view (precedence_refusal h (length rows) (length keys) column (length pairs)) (KnownKeys h rows keys) a b
precedence_determined u v =
    answer_same found_view_injective u.refusal v.refusal (λ none k. u.table none k.0 k.1 ∙ sym (v.table none k.0 k.1))
