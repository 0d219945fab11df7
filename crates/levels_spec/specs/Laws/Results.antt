-- Laws that hold for every line on a table: the line is refused and nothing changes, or it is done. Assumes nothing.
use Rattle.refusals.specs.declared.Refusal.{Refusal}
use Rattle.std.specs.Prelude.{◌<◌, ◌≡◌, ◌∷◌, Result, Ok, Err}
use Rattle.levels_spec.specs.Laws.Prelude.{ℕ, refl, sym, ap, ◌∙◌, inl, inr, true, List, [], Option, none, some, arith, eq-eqb, ne_eqb, some_number, ruled_refused, Lengths, Plain, Call, refusal, done, refused_nothing, accepted_done, Header, outside, Stores, Represents, represents_inside, text_line, Response, Refused, Held, no_table, table}
use Rattle.refusals.specs.Refusals.{Reply, refused, accepted, reply, outcome, answer_view, number}
use Rattle.levels_spec.specs.Response.{LineResult, printing, replied, calls, queries}
use Rattle.levels_spec.specs.Laws.Letters.{on_table}
use Rattle.levels_spec.specs.inner.Responses.{text_of, response_of, nothing_response, Refuses, refuses, Responds}
use Rattle.std.proofs.Math.Option.{Option-elim}

-- ---- the response

pub response_of_refused : {A : Type 0} (responds : A → Response) (x : Result A Refusal) (n : ℕ) → outcome (answer_view x) ≡ reply n tt → 0 < n → Refuses n (response_of responds x)
unfolding response_of answer_view
response_of_refused responds (Ok a) n e more = absurd (let f = ruled_refused (accepted a) n e more in let z : ◌≡◌ {A = ℕ} 0 1 = cc in omega arith)
response_of_refused responds (Err r) n e more = let f = ruled_refused _ n e more in refuses r cc

pub response_of_accepted : {A : Type 0} (responds : A → Response) (x : Result A Refusal) (a : A) → answer_view x ≡ accepted a → response_of responds x ≡ responds a
unfolding response_of answer_view
response_of_accepted responds (Ok b) a e = let same : b ≡ a = cc in rw same
response_of_accepted responds (Err r) a e = absurd (let z : ◌≡◌ {A = ℕ} 0 1 = cc in omega arith)

-- a call that is not refused prints nothing
pub nothing_response_lem : (h : Header) (rows : List ℕ) (x : Result Header Refusal) (n : ℕ) → outcome (answer_view x) ≡ reply n tt → n ≡ 0 → text_of h rows (response_of nothing_response x) ≡ []
unfolding text_of response_of answer_view outcome reply
nothing_response_lem h rows (Ok a) n e z = refl
nothing_response_lem h rows (Err r) n e z = absurd (let f = rw z at e in let y : ◌≡◌ {A = ℕ} 0 1 = cc in omega arith)

-- ---- the text of the response

replied_refused : (n : ℕ) (text : List ℕ) → 0 < n → replied n text ≡ text_line 88 (n ∷ [])
unfolding replied
replied_refused n text more = rw (ne_eqb n 0 (λ z. omega arith))

replied_accepted : (n : ℕ) (text : List ℕ) → n ≡ 0 → replied n text ≡ text
unfolding replied
replied_accepted n text zero = rw (eq-eqb n 0 zero)

refused_text : (h : Header) (rows : List ℕ) (r : Refusal) → text_of h rows (Refused r) ≡ text_line 88 (number r ∷ [])
unfolding text_of
refused_text h rows r = refl

pub responds_refused : {s : Stores} {t : Option Plain} {n : ℕ} {response : Response} → Held t s → 0 < n → Refuses n response → Responds (printing (replied n []) t) s response
responds_refused {s} {n = n} held more (refuses r e) =
    record {
      responds = refused_text s.header s.rows r ∙ ap (λ (k : ℕ). text_line 88 (k ∷ [])) e ∙ sym (replied_refused n [] more);
      held = held;
      listed = λ numbered e. absurd (let z : ◌≡◌ {A = ℕ} 0 1 = cc in omega arith);
    }

pub responds_table : {s : Stores} {p : Plain} {text : List ℕ} {response : Response} → text_of s.header s.rows response ≡ text → Represents p s
    → Responds (printing text (some p)) s response
responds_table e r = record { responds = e; held = table r; listed = λ numbered l. represents_inside r }

-- ---- a line on a table

-- Facts about a line with refusal number n: its response and its result.
pub record Does (line : Plain → LineResult) (s s' : Stores) (response : Response) (n : ℕ) : Type 0 where
  pub outside_first : outside s.header ≡ true → n ≡ 1
  pub response_refused : 0 < n → Refuses n response
  pub stays : 0 < n → s' ≡ s
  pub result_refused : (p : Plain) → Represents p s → 0 < n → line p ≡ printing (replied n []) (some p)
  pub result_done : (p : Plain) → Represents p s → n ≡ 0 → Responds (line p) s' response

pub does_respond : {line : Plain → LineResult} {s s' : Stores} {response : Response} {n : ℕ} → Does line s s' response n → (t : Option Plain) → Held t s → Responds (on_table t line) s' response
unfolding Option-elim
does_respond {line} {s} {s'} {response} {n} d none (no_table e) =
    let one : n ≡ 1 = d.outside_first e in
    let more : 0 < n = omega arith in
    rw (d.stays more) (responds_refused (no_table e) (omega arith) (rw one at (d.response_refused more)))
does_respond {line} {s} {s'} {response} {n} d (some p) (table r) =
    elim (some_number n) [
      | inl zero ↦ d.result_done p r zero
      | inr more ↦ rw (d.result_refused p r more, d.stays more) (responds_refused (table r) more (d.response_refused more))
    ]

-- a call
module _ (l : Lengths) (p : Plain) (c : Call) (text : List ℕ) (n : ℕ) (same : n ≡ refusal p l c) where
  pub calls_refused : 0 < n → calls l p c text ≡ printing (replied n []) (some p)
  unfolding calls
  calls_refused more =
      rw (refused_nothing p l c (rw same at more), ← same, replied_refused n text more, replied_refused n [] more)

  pub calls_done : n ≡ 0 → calls l p c text ≡ printing text (some (done p c))
  unfolding calls
  calls_done zero = let e = sym same ∙ zero in rw (accepted_done p l c e, replied_accepted (refusal p l c) text e)

-- a query
module _ (p : Plain) (number : ℕ) (text : List ℕ) (n : ℕ) (same : n ≡ number) where
  pub queries_refused : 0 < n → queries p number text ≡ printing (replied n []) (some p)
  unfolding queries
  queries_refused more = rw (← same, replied_refused n text more, replied_refused n [] more)

  pub queries_done : n ≡ 0 → queries p number text ≡ printing text (some p)
  unfolding queries
  queries_done zero = rw (replied_accepted number text (sym same ∙ zero))
