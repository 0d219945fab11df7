-- The contract of an opening implies the contract of O, for any table that the stores hold. Assumes nothing.
use Rattle.refusals.specs.declared.Refusal.TheVariants.{NoListing}
use Rattle.refusals.specs.declared.Refusal.{Refusal}
use Rattle.std.specs.Prelude.{◌≤◌, ◌<◌, ◌≡◌, Result}
use Rattle.levels_spec.specs.Laws.Prelude.{ℕ, refl, ◌∙◌, inl, inr, List, [], Option, some, arith, eq-eqb, ne_eqb, lt-ltb, le-ltb, accepted, reply, outcome, some_number, ruled_refused, Opening, Plain, opened, Header, header_of, Stores, stores, body, lengths, Opened, reply_accepted, after_refused, after_accepted, opening_done, Refused, Served, Held, lent, response_of, nothing_response, ServedWith, Responds}
use Rattle.plain_table.specs.Refusing.{Lengths, open_refusal, stores_short}
use Rattle.levels_spec.specs.Response.{printing, replied, open_number, opens}
use Rattle.levels_spec.specs.Laws.Results.{response_of_refused, nothing_response_lem, responds_refused, responds_table}
use Rattle.levels_spec.specs.Laws.Calls.{reply_ruled}
use Rattle.levels_spec.specs.inner.Responses.{refuses}
use Rattle.refusals.specs.Refusals.{if_accepted, answer_view, number}

number_small : (l : Lengths) (o : Opening) → o.capacity ≤ 1024 → open_number l o ≡ open_refusal o l
unfolding open_number
number_small l o small = rw (le-ltb 1024 o.capacity small)

number_large : (l : Lengths) (o : Opening) → 1024 < o.capacity → open_number l o ≡ 11
unfolding open_number
number_large l o large = rw (lt-ltb 1024 o.capacity large)

module _ (l : Lengths) (t : Option Plain) (o : Opening) (generation n : ℕ) (number : open_number l o ≡ n) where
  opens_refused : 0 < n → opens l t o generation ≡ printing (replied n []) t
  unfolding opens
  opens_refused more = rw (number, ne_eqb n 0 (λ z. omega arith))

  opens_done : n ≡ 0 → opens l t o generation ≡ printing [] (some (opened o generation))
  unfolding opens replied
  opens_done zero = rw (number, eq-eqb n 0 zero)

-- a capacity above 1,024
pub large_responds : (l : Lengths) (s : Stores) (o : Opening) (generation : ℕ) → 1024 < o.capacity → (t : Option Plain) → Held t s
    → Responds (opens l t o generation) s (Refused NoListing)
large_responds l s o generation large t held =
    rw (opens_refused l t o generation 11 (number_large l o large) (omega arith)) (responds_refused held (omega arith) (refuses NoListing refl))

module _ {o : Opening} {generation : ℕ} {h : Header} {rows keys sorts pending keys' : List ℕ} {answer : Result Header Refusal} {r : Served} where
  pub opening_responds : o.capacity ≤ 1024 → Opened o generation (body rows keys sorts) pending answer keys'
      → ServedWith (if_accepted (answer_view answer) (λ h. h) h) (response_of nothing_response answer) r → (t : Option Plain) → Held t (stores h rows keys sorts pending)
      → Responds (opens (lent (stores h rows keys sorts pending)) t o generation) (stores r.header rows keys' sorts pending) r.response
  opening_responds small m k t held =
      let l : Lengths = lent (stores h rows keys sorts pending) in
      let n : ℕ = open_refusal o (lengths rows keys sorts pending [] []) in
      let number : open_number l o ≡ n = number_small l o small ∙ (unfold open_refusal stores_short in refl) in
      let ruled : outcome (answer_view answer) ≡ reply n tt = rw m.answers (reply_ruled n _) in
      elim (some_number n) [
        | inl zero ↦
            let a : answer_view answer ≡ accepted (header_of (opened o generation)) = m.answers ∙ reply_accepted n _ zero in
            let same : r.header ≡ header_of (opened o generation) = k.header_same ∙ after_accepted h (answer_view answer) _ a in
            rw (opens_done l t o generation n number zero, k.response_same)
            (responds_table (nothing_response_lem r.header rows answer n ruled zero) (rw same (opening_done m (header_of (opened o generation)) a)))
        | inr more ↦
            rw (opens_refused l t o generation n number more, k.response_same, k.header_same, after_refused h (answer_view answer) n (ruled_refused (answer_view answer) n ruled more), m.unchanged more)
            (responds_refused held more (response_of_refused nothing_response answer n ruled more))
      ]
