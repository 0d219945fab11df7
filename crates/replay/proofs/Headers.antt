-- The header that an answer leaves. Assumes nothing.
use Rattle.refusals.specs.declared.Refusal.{Refusal}
use Rattle.std.specs.Prelude.{Result, Ok, Err}
use Rattle.replay.proofs.Prelude.{◌≡◌, Header, Merge}
use Rattle.refusals.specs.Refusals.{answer_view}
use Rattle.refresh_spec.specs.declared.Refreshed.{Refreshed as RefreshedTable}
use Rattle.refusals.specs.Refusals.{if_accepted}

pub after_refused : (h : Header) (answer : Result Header Refusal) (r : Refusal) → answer ≡ Err r → h ≡ if_accepted (answer_view answer) (λ h. h) h
unfolding if_accepted answer_view
after_refused h answer n e = rw e

pub after_table : (h : Header) (answer : Result Header Refusal) (n : Header) → answer ≡ Ok n → n ≡ if_accepted (answer_view answer) (λ h. h) h
unfolding if_accepted answer_view
after_table h answer n e = rw e

pub merge_refused : (h : Header) (answer : Result Merge Refusal) (r : Refusal) → answer ≡ Err r → h ≡ if_accepted (answer_view answer) (λ m. m.header) h
unfolding if_accepted answer_view
merge_refused h answer n e = rw e

pub merge_done : (h : Header) (answer : Result Merge Refusal) (m : Merge) → answer ≡ Ok m → m.header ≡ if_accepted (answer_view answer) (λ m. m.header) h
unfolding if_accepted answer_view
merge_done h answer m e = rw e

pub refresh_refused : (h : Header) (answer : Result RefreshedTable Refusal) (r : Refusal) → answer ≡ Err r → h ≡ if_accepted (answer_view answer) (λ a. a.header) h
unfolding if_accepted answer_view
refresh_refused h answer n e = rw e

pub refresh_done : (h : Header) (answer : Result RefreshedTable Refusal) (a : RefreshedTable) → answer ≡ Ok a → a.header ≡ if_accepted (answer_view answer) (λ a. a.header) h
unfolding if_accepted answer_view
refresh_done h answer a e = rw e
