-- The contract of each call implies the contract of its line, for any table that the stores hold. Assumes nothing.
use Rattle.table.specs.declared.Merge.{Merge}
use Rattle.refusals.specs.declared.Refusal.{Refusal}
use Rattle.std.specs.Prelude.{◌≡◌, Result}
use Rattle.levels_spec.specs.Laws.Prelude.{ℕ, zero, suc, refl, ◌∙◌, true, List, [], length, Staged, Plain, Header, stores, body, compaction_words, lengths, merge_of, Staging, Merging, Compacting, Clearing, stage_checks_lem, merge_checks_lem, compact_checks_lem, clear_checks_lem, staging_done, staging_refused, merging_done, merging_refused, compacting_done, compacting_refused, clearing_done, clearing_refused, Served, lent}
use Rattle.refusals.specs.Refusals.{reply, first_refusal, outcome, if_accepted, answer_view}
use Rattle.plain_table.specs.Refusing.{Lengths, stage_checks, merge_checks, compact_checks, clear_checks, stores_short, words_short}
use Rattle.plain_table.specs.Calls.{staging, merging, compacting, clearing, refusal, done}
use Rattle.table.specs.Refusing.{outside, pending_outside, stage_refusal, merge_refusal, compact_refusal, clear_refusal}
use Rattle.levels_spec.specs.Response.{calls, merge_text}
use Rattle.levels_spec.specs.inner.Responses.{text_of, response_of, nothing_response, merge_response, ServedWith}
use Rattle.levels_spec.specs.Laws.Results.{response_of_refused, response_of_accepted, nothing_response_lem, responds_table, Does, calls_refused, calls_done}

-- ---- the header after a call

pub reply_ruled : {A : Type 0} (n : ℕ) (a : A) → outcome (reply n a) ≡ reply n tt
unfolding outcome reply
reply_ruled zero a = refl
reply_ruled (suc n) a = refl

-- ---- check 1 comes first

stage_outside : (h : Header) (pending : ℕ) (q : Staged) → outside h ≡ true → stage_refusal h pending q ≡ 1
unfolding stage_refusal stage_checks pending_outside first_refusal
stage_outside h pending q e = rw e

merge_outside : (h : Header) (l : Lengths) → outside h ≡ true → merge_refusal h l ≡ 1
unfolding merge_refusal merge_checks pending_outside first_refusal
merge_outside h l e = rw e

compact_outside : (h : Header) (l : Lengths) → outside h ≡ true → compact_refusal h l ≡ 1
unfolding compact_refusal compact_checks first_refusal
compact_outside h l e = rw e

clear_outside : (h : Header) (keys : ℕ) → outside h ≡ true → clear_refusal h keys ≡ 1
unfolding clear_refusal clear_checks first_refusal
clear_outside h keys e = rw e

-- ---- the four calls

module _ {h : Header} {answer : Result Header Refusal} {r : Served} (k : ServedWith (if_accepted (answer_view answer) (λ h. h) h) (response_of nothing_response answer) r) where
  pub staging_does : {q : Staged} {pending pending' : List ℕ} (rows keys sorts : List ℕ) → Staging h pending q answer pending'
      → Does (λ p. calls (lent (stores h rows keys sorts pending)) p (staging q) []) (stores h rows keys sorts pending) (stores r.header rows keys sorts pending') r.response (stage_refusal h (length pending) q)
  staging_does {q} {pending} {pending'} rows keys sorts m =
      let l : Lengths = lent (stores h rows keys sorts pending) in
      let n : ℕ = stage_refusal h (length pending) q in
      let ruled : outcome (answer_view answer) ≡ reply n tt = rw m.answers (reply_ruled n _) in
      record {
        outside_first = stage_outside h (length pending) q;
        response_refused = λ more. rw k.response_same (response_of_refused nothing_response answer n ruled more);
        stays = λ more. rw k.header_same (staging_refused m more);
        result_refused = λ p s more. calls_refused l p (staging q) [] n (stage_checks_lem s l q) more;
        result_done = λ p s none.
            rw (calls_done l p (staging q) [] n (stage_checks_lem s l q) none, k.response_same)
            (responds_table (nothing_response_lem r.header rows answer n ruled none) (rw k.header_same (unfold done in staging_done m none s)));
      }

  pub clearing_does : {keys keys' : List ℕ} (rows sorts pending : List ℕ) → Clearing h keys answer keys'
      → Does (λ p. calls (lent (stores h rows keys sorts pending)) p clearing []) (stores h rows keys sorts pending) (stores r.header rows keys' sorts pending) r.response (clear_refusal h (length keys))
  clearing_does {keys} {keys'} rows sorts pending m =
      let l : Lengths = lent (stores h rows keys sorts pending) in
      let n : ℕ = clear_refusal h (length keys) in
      record {
        outside_first = clear_outside h (length keys);
        response_refused = λ more. rw k.response_same (response_of_refused nothing_response answer n m.refusal more);
        stays = λ more. rw k.header_same (clearing_refused m more);
        result_refused = λ p s more. calls_refused l p clearing [] n (clear_checks_lem s l) more;
        result_done = λ p s none.
            rw (calls_done l p clearing [] n (clear_checks_lem s l) none, k.response_same)
            (responds_table (nothing_response_lem r.header rows answer n m.refusal none) (rw k.header_same (unfold done in clearing_done m none s)));
      }

  module _ {rows keys sorts rows' keys' sorts' live base live' base' : List ℕ} (live-words : length live ≡ 16) (base-words : length base ≡ 16) where
    pub compacting_does : (pending : List ℕ) → Compacting h (body rows keys sorts) (compaction_words live base) answer (body rows' keys' sorts') (compaction_words live' base')
        → Does (λ p. calls (lent (stores h rows keys sorts pending)) p compacting []) (stores h rows keys sorts pending) (stores r.header rows' keys' sorts' pending) r.response (compact_refusal h (lengths rows keys sorts [] live base))
    compacting_does pending m =
        let l : Lengths = lent (stores h rows keys sorts pending) in
        -- The pending store is not lent, and the checks do not depend on it.
        let lent' : Lengths = lengths rows keys sorts [] live base in
        let n : ℕ = compact_refusal h lent' in
        let same : (p : Plain) → refusal p lent' compacting ≡ refusal p l compacting =
        λ p. unfold refusal compact_checks stores_short words_short in rw (live-words, base-words)
        in
        record {
          outside_first = compact_outside h lent';
          response_refused = λ more. rw k.response_same (response_of_refused nothing_response answer n m.refusal more);
          stays = λ more. rw k.header_same (compacting_refused m more);
          result_refused = λ p s more. calls_refused l p compacting [] n (compact_checks_lem s lent' ∙ same p) more;
          result_done = λ p s none.
              rw (calls_done l p compacting [] n (compact_checks_lem s lent' ∙ same p) none, k.response_same)
              (responds_table (nothing_response_lem r.header rows' answer n m.refusal none) (rw k.header_same (unfold done in compacting_done m none s)));
        }

-- the response to a merge
merge_response_lem : (h : Header) (rows : List ℕ) (p : Plain) → text_of h rows (merge_response (merge_of p)) ≡ merge_text p
unfolding text_of merge_text
merge_response_lem h rows p = refl

module _ {h : Header} {answer : Result Merge Refusal} {r : Served} (k : ServedWith (if_accepted (answer_view answer) (λ m. m.header) h) (response_of merge_response answer) r)
    {rows keys sorts pending rows' keys' sorts' live base live' base' : List ℕ} (live-words : length live ≡ 16) (base-words : length base ≡ 16) where
  pub merging_does : Merging (stores h rows keys sorts pending) (compaction_words live base) answer (body rows' keys' sorts') (compaction_words live' base')
      → Does (λ p. calls (lent (stores h rows keys sorts pending)) p merging (merge_text p)) (stores h rows keys sorts pending) (stores r.header rows' keys' sorts' pending) r.response (merge_refusal h (lengths rows keys sorts pending live base))
  merging_does m =
      let l : Lengths = lent (stores h rows keys sorts pending) in
      let lent' : Lengths = lengths rows keys sorts pending live base in
      let n : ℕ = merge_refusal h lent' in
      let same : (p : Plain) → refusal p lent' merging ≡ refusal p l merging = λ p. unfold refusal merge_checks stores_short words_short in rw (live-words, base-words) in
      record {
        outside_first = merge_outside h lent';
        response_refused = λ more. rw k.response_same (response_of_refused merge_response answer n m.refusal more);
        stays = λ more. rw k.header_same (merging_refused m more);
        result_refused = λ p s more. calls_refused l p merging (merge_text p) n (merge_checks_lem s lent' ∙ same p) more;
        result_done = λ p s none.
            rw (calls_done l p merging (merge_text p) n (merge_checks_lem s lent' ∙ same p) none, k.response_same, response_of_accepted merge_response answer (merge_of p) (m.table none p s).answers)
            (responds_table (merge_response_lem r.header rows' p) (rw k.header_same (unfold done in merging_done m none s)));
      }
