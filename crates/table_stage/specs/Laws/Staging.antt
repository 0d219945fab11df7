-- Staged records: the checks of each kind, how a record is written, and that each outcome meets the contract. Assumes nothing.
use Rattle.refusals.specs.Laws.Numbers.{err_replies, number_some}
use Rattle.refusals.specs.declared.Refusal.{Refusal}
use Prim.Native.Nat.{ℕ, zero, suc, ◌+◌, ◌≤◌}
use Rattle.std.specs.Prelude.{◌≡◌, Bool, false, List, [], ◌∷◌, leb, ltb, length, set, Ok, Err}
use Rattle.std.proofs.Math.Path.{refl}
use Rattle.std.proofs.Common.{ap, ◌∙◌, arith, length-set, ltb-false, eqb-true}
use Rattle.std.proofs.lemmas.Bool.{not-false}
use Rattle.lists.specs.Lists.{splice}
use Rattle.lists.specs.Laws.Parts.{splice_then, set_splice, set_set_splice}
use Rattle.lists.specs.Laws.All.{or_no_left, or_no_right}
use Rattle.refusals.specs.Refusals.{accepted, reply, number}
use Rattle.plain_table.specs.Staged.{Staged, insert, remove_key, remove_row, words_of}
use Rattle.plain_table.specs.Refusing.{wrong_width, no_such_row, stage_checks, overfull}
use Rattle.plain_table.proofs.Laws.Calls.{first_refusal_no, first_refusal_rest}
use Rattle.table.specs.declared.Header.{Header}
use Rattle.refusals.specs.Refusals.{answer_view}
use Rattle.table.specs.Numbers.{opening_of}
use Rattle.table.specs.Refusing.{stage_refusal}
use Rattle.table.specs.Stores.{record_words}
use Rattle.table.specs.Outcomes.{with_pending, Staging}
use Rattle.table_stage.specs.inner.Staging.{record_refusal}
use Rattle.table.proofs.Laws.Refusals.{Inside, PendingInside, pending_inside}
use Rattle.table.proofs.Laws.Staging.{stage_accepted}

-- ---- checks

-- the check list of each kind
pub insert_refusal : (h : Header) (pending : ℕ) (cells : List ℕ) → record_refusal h pending (length cells) h.columns false 2 ≡ stage_refusal h pending (insert cells)
unfolding record_refusal overfull stage_refusal wrong_width no_such_row words_of stage_checks
insert_refusal h pending cells = refl

pub key_refusal : (h : Header) (pending : ℕ) (key : List ℕ) → record_refusal h pending (length key) h.keys false 2 ≡ stage_refusal h pending (remove_key key)
unfolding record_refusal overfull stage_refusal wrong_width no_such_row words_of stage_checks
key_refusal h pending key = refl

pub row_refusal : (h : Header) (pending row : ℕ) (key : List ℕ) → record_refusal h pending (length key) h.keys (leb h.rows row) 3 ≡ stage_refusal h pending (remove_row row key)
unfolding record_refusal overfull stage_refusal wrong_width no_such_row words_of stage_checks
row_refusal h pending row key = refl

-- what holds if all tests pass
pub record Free (h : Header) (pending cells width more : ℕ) : Type 0 where
  pub inside : PendingInside h pending
  pub as_wide : cells ≡ width
  pub free : h.pending + (width + more) ≤ pending
  pub counted : h.pending + (width + more) ≤ 4294967295

pub refusal_free : (h : Header) (pending cells width : ℕ) (gone : Bool) (more : ℕ) → record_refusal h pending cells width gone more ≡ 0 → Free h pending cells width more
unfolding record_refusal overfull
refusal_free h pending cells width gone more e =
    let b = first_refusal_rest _ 0 _ e in
    let c = first_refusal_rest _ 2 _ b in
    let f = first_refusal_no _ 6 _ (first_refusal_rest _ 4 _ c) in
    record {
      inside = pending_inside h pending (first_refusal_no _ 0 _ e);
      as_wide = eqb-true _ _ (not-false _ (first_refusal_no _ 2 _ b));
      free = ltb-false _ _ (or_no_left (ltb pending (h.pending + (width + more))) _ f);
      counted = ltb-false _ _ (or_no_right (ltb pending (h.pending + (width + more))) _ f);
    }

-- ---- the words of a record

-- the three words before a key, written one by one
pub row_head : (l : List ℕ) (at a b c : ℕ) → at + 3 ≤ length l → set (set (set l at a) (at + 1) b) (at + 2) c ≡ splice l at (a ∷ b ∷ c ∷ [])
row_head l at a b c h =
    let n : length (set (set l at a) (at + 1) b) ≡ length l = length-set (set l at a) (at + 1) b ∙ length-set l at a in
    set_splice (set (set l at a) (at + 1) b) (at + 2) c (omega arith)
    ∙ ap (λ (x : List ℕ). splice x (at + 2) (c ∷ [])) (set_set_splice l at a b (omega arith))
    ∙ splice_then l (a ∷ b ∷ []) (c ∷ []) at (omega arith)

-- ---- the contract of staging

module _ (h : Header) (pending : List ℕ) (r : Staged) where
  -- a refused record
  pub staging_refused : (q : Refusal) → number q ≡ stage_refusal h (length pending) r → Staging h pending r (Err q) pending
  staging_refused q e = record { answers = err_replies q _ e; unchanged = λ k. refl; written = λ z. absurd (number_some q (e ∙ z)) }

  -- a record that is written
  pub staging_written : (pending' : List ℕ) → stage_refusal h (length pending) r ≡ 0 → pending' ≡ splice pending h.pending (record_words h.keys r)
      → Staging h pending r (Ok (with_pending h (h.pending + words_of (opening_of h) r))) pending'
  unfolding answer_view reply
  staging_written pending' e w = record { answers = rw e; unchanged = λ k. absurd (omega arith); written = λ z. w }

  -- an accepted record: the header has passed test 1, and only its pending count changes
  pub staging_accepted : {pending' : List ℕ} {h' : Header} → Staging h pending r (Ok h') pending' → (h' ≡ with_pending h h'.pending) × Inside h
  unfolding answer_view reply
  staging_accepted {pending'} {h'} m = go (stage_refusal h (length pending) r) refl m.answers
    where
      n : ℕ
      n = h.pending + words_of (opening_of h) r

      go : (k : ℕ) → stage_refusal h (length pending) r ≡ k → accepted h' ≡ reply k (with_pending h n) → (h' ≡ with_pending h h'.pending) × Inside h
      go zero e a = let q : h' ≡ with_pending h n = cc in (rw q, (pending_inside h (length pending) (stage_accepted h (length pending) r e).inside).inside)
      go (suc k) e a = absurd (let z : ◌≡◌ {A = ℕ} 0 1 = cc in omega arith)
