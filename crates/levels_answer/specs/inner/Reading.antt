-- From the bytes of a line to its response, and from there to the bytes of its answer. Assumes nothing.
use Rattle.refusals.specs.declared.Refusal.TheVariants.{NoListing}
use Rattle.std.specs.Prelude.{ℕ, ◌+◌, ◌≤◌, ◌≡◌, false, List, ◌++◌, take}
use Rattle.std.proofs.Math.Path.{refl, sym}
use Rattle.std.proofs.Common.{ap, ◌∙◌, arith, length-append, length-take}
use Rattle.std.proofs.lemmas.Bool.{false≢true}
use Rattle.std.proofs.Math.Option.{Option}
use Rattle.std.specs.Prelude.{Option as Optional, None}
use Rattle.std.proofs.Math.ListN.{length}
use Rattle.std.proofs.lemmas.List.{take-append-le}
use Rattle.std.proofs.Math.Seq.{take-append-add}
use Rattle.lists.specs.Laws.Search.{take_put}
use Rattle.plain_table.specs.Refusing.{Lengths}
use Rattle.plain_table.specs.Plain.{Plain}
use Rattle.table.specs.Refusing.{outside}
use Rattle.table.specs.Outcomes.{Stores, Represents}
use Rattle.table.proofs.Laws.Shown.{represents_inside, represents_long, rows_counted}
use Rattle.levels_text.specs.declared.Line.{Line}
use Rattle.levels_text.specs.Kinds.{letter_of}
use Rattle.levels_text.specs.Lines.{numbers}
use Rattle.levels_text.specs.inner.Reading.{ParsedIs, Parsed, parsed_none}
use Rattle.listing_write.specs.Laws.Represented.{rows_long}
use Rattle.levels_spec.specs.declared.Response.{Response}
use Rattle.levels_spec.specs.declared.Response.TheVariants.{Refused}
use Rattle.levels_spec.specs.Response.{result, line_result}
use Rattle.levels_spec.specs.Answers.{Held, no_table, table, lent, Answering}
use Rattle.levels_spec.specs.inner.Responses.{Listable, Encoded, Responds, Serving, refuses}
use Rattle.levels_spec.specs.Laws.Results.{responds_refused}

-- a line is run, and its response is not yet encoded as text
pub record Responding (line : List ℕ) (s s' : Stores) (response : Response) : Type 0 where
  pub answers : (t : Option Plain) → Held t s → Responds (line_result (lent s) t line) s' response

-- a line of no valid form
pub wrong_responds : {line numbers' : List ℕ} {lent' : List ℕ} {r : Optional Line} → ParsedIs line lent' r numbers' → 59 ≤ length lent' → r ≡ None → (s : Stores) → Responding line s s (Refused NoListing)
unfolding line_result
wrong_responds p room e s = record { answers = λ t held. rw (parsed_none p e room) (responds_refused held (omega arith) (refuses NoListing refl)) }

-- a line of a valid form
module _ {line lent' : List ℕ} {parsed : Line} {numbers' : List ℕ} (p : Parsed line lent' parsed numbers') where
  line_read : (l : Lengths) (t : Option Plain) → result l t (letter_of parsed.kind) (take parsed.count numbers') ≡ line_result l t line
  unfolding line_result
  line_read l t = rw (p.taken, p.letter_same, p.counted, p.put, take_put lent' (numbers line))

  pub line_responds : {s s' : Stores} {response : Response} → Serving (letter_of parsed.kind) (take parsed.count numbers') s s' response → Responding line s s' response
  line_responds {s} m = record { answers = λ t held. rw (line_read (lent s) t) at (m.answers t held) }

-- A line is answered after the first bytes of a text. For every table that the stores hold before, the text and the table after are
-- those that `line_result` defines.
pub record AnswerAppended (line : List ℕ) (s s' : Stores) (text : List ℕ) (from : ℕ) (text' : List ℕ) (used : ℕ) : Type 0 where
  pub inside : used ≤ length text'
  pub text_is : (t : Option Plain) → Held t s → take used text' ≡ take from text ++ (line_result (lent s) t line).text
  pub held : (t : Option Plain) → Held t s → Held (line_result (lent s) t line).table s'

-- ---- the bytes of the answer

-- a table that the stores hold can be listed
module _ {s : Stores} {text : List ℕ} (keys : length s.keys ≤ 2048) (room : 103492 ≤ length text) where
  table_listable : {p : Plain} → Represents p s → Listable s.header s.rows text
  table_listable {p} r =
      let few : s.header.rows ≤ 1024 = omega (arith, rows_counted r, r.proper.rows_fit, (represents_long r).keys_long) in
      record {
        inside = represents_inside r;
        stored = rows_long r;
        room = omega arith;
      }

  held_listable : {t : Option Plain} → Held t s → outside s.header ≡ false → Listable s.header s.rows text
  held_listable (no_table e) f = absurd (false≢true (sym f ∙ e))
  held_listable (table r) f = table_listable r

pub encoded_answers : {line : List ℕ} {s s' : Stores} {response : Response} {text : List ℕ} {used : ℕ} → length s'.keys ≤ 2048 → 103492 ≤ length text → Responding line s s' response
    → Encoded s'.header s'.rows response text used → Answering line s s' text used
encoded_answers keys room m w =
    record {
      inside = w.inside;
      answers = λ t held.
          let k = m.answers t held in
          (w.begins (λ numbered l. held_listable keys room k.held (k.listed numbered l)) ∙ k.responds, k.held);
    }

-- The answer is written to a part of a text. The bytes before the part do not change.
pub answer_appended : {line : List ℕ} {s s' : Stores} {used : ℕ} (text part after : List ℕ) (from : ℕ) → from ≤ length text → Answering line s s' part used
    → AnswerAppended line s s' text from (take from text ++ (part ++ after)) (from + used)
answer_appended {used = used} text part after from inside m =
    let wide : length (take from text) ≡ from = rw length-take (omega arith) in
    let whole : take (from + used) (take from text ++ (part ++ after)) ≡ take from text ++ take used part =
    ap (λ (n : ℕ). take (n + used) (take from text ++ (part ++ after))) (sym wide)
    ∙ take-append-add (take from text) (part ++ after) used
    ∙ ap (λ (bytes : List ℕ). take from text ++ bytes) (take-append-le used part after m.inside) in
    record {
      inside = omega (arith, m.inside, wide, length-append (take from text) (part ++ after), length-append part after);
      text_is = λ t held. whole ∙ ap (λ (bytes : List ℕ). take from text ++ bytes) (m.answers t held).0;
      held = λ t held. (m.answers t held).1;
    }
