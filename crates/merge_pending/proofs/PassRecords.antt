-- The words of the record at a place of the pending store, one law for each way that `record_length` returns. Assumes
-- nothing.
use Prim.Native.Nat.{ℕ, zero, suc, ◌+◌, ◌-◌, ◌≤◌, ◌<◌}
use mathlib.Core.Path.{◌≡◌, refl, sym, ap, ◌∙◌}
use mathlib.Core.Bool.{true, false, cond}
use mathlib.Core.Logic.{inl, inr}
use mathlib.Core.List.{List, [], ◌∷◌}
use native.Mathlib.Omega.{arith}
use lib.ListN.{get_or}
use Rattle.std.specs.Prelude.{None, eqb, leb}
use Rattle.std.specs.Bool.{then_some}
use borrow.Author.Tests.{ne_eqb, leb-true, leb-false}
use Rattle.lists.specs.Laws.Filter.{split}
use Rattle.lists.specs.Lists.{filter}
use Rattle.plain_table.specs.Staged.{Opening, Staged, insert, remove_key, remove_row, words_of, words_all}
use Rattle.table.specs.declared.Header.{Header}
use Rattle.table.specs.Numbers.{opening_of}
use Rattle.table.specs.inner.Records.{kind_words}
use Rattle.merge_pending.specs.inner.Becoming.{Waiting, kind_of, RecordAt, RecordLength, of_kind, Remaining, RunSkipped, CanSkip, NextRecord}
use Rattle.merge_pending.specs.Laws.Steps.{words_some, waiting_inside, waiting_kind, waiting_next}

most_kind : (r : Staged) → kind_of r ≤ 2
unfolding kind_of
most_kind (insert cells) = omega arith
most_kind (remove_key key) = omega arith
most_kind (remove_row row key) = omega arith

kind_long : (o : Opening) (kind : ℕ) → 0 < kind_words o kind
unfolding kind_words
kind_long o kind =
    elim (eqb kind 0) as (λ b. 0 < cond b (o.columns + 2) (cond (eqb kind 1) (o.keys + 2) (o.keys + 3))) [
      | true ↦ omega arith
      | false ↦ elim (eqb kind 1) as (λ b. 0 < cond b (o.keys + 2) (o.keys + 3)) [ true ↦ omega arith | false ↦ omega arith ]
    ]

module _ (h : Header) (pending : List ℕ) (at : ℕ) where
  -- the record at the place, and those after it
  abbrev pub Next : Staged → List Staged → Type 0
  Next r rest = Waiting (opening_of h) pending h.pending at (r ∷ rest)

  -- no words are left
  pub length_end : h.pending ≤ at → RecordLength h pending at None
  length_end k = λ r rest w. omega (arith, waiting_inside w, words_some (opening_of h) r)

  -- no record begins so
  pub length_unknown : 2 < get_or pending at 0 → RecordLength h pending at None
  length_unknown k = λ r rest w. omega (arith, waiting_kind w, most_kind r)

  module _ (words : ℕ) (n : words ≡ kind_words (opening_of h) (get_or pending at 0)) where
    words_of_lem : (kind : ℕ) → get_or pending at 0 ≡ kind → words ≡ kind_words (opening_of h) kind
    words_of_lem kind e = n ∙ ap (kind_words (opening_of h)) e

    words_are : (r : Staged) (rest : List Staged) → Next r rest → words ≡ words_of (opening_of h) r
    unfolding words_of kind_of kind_words
    words_are (insert cells) rest w = words_of_lem 0 (waiting_kind w)
    words_are (remove_key key) rest w = words_of_lem 1 (waiting_kind w)
    words_are (remove_row row key) rest w = words_of_lem 2 (waiting_kind w)

    -- it is whole, if no fewer words are left than it has
    pub length_tested : h.pending ≤ 4294967295 → at < h.pending → get_or pending at 0 ≤ 2
        → RecordLength h pending at (then_some (leb words (h.pending - at)) words)
    unfolding kind_words
    length_tested fits i k =
        elim (split (leb words (h.pending - at))) [
          | inl e ↦ rw e (whole (leb-true _ _ e))
          | inr e ↦ rw e (λ r rest w. let m = leb-false _ _ e in omega (arith, waiting_inside w, words_are r rest w))
        ]
      where
        whole : words ≤ h.pending - at → RecordAt h pending at words
        whole m =
            record {
              some = omega (arith, n, kind_long (opening_of h) (get_or pending at 0));
              inside = omega arith;
              fits = omega arith;
              of_insert = λ e. words_of_lem 0 e;
              of_key = λ e. words_of_lem 1 e;
              of_row = λ e. words_of_lem 2 e;
              kind = k;
              none = λ w. let e : at + 0 ≡ h.pending = unfold words_all in w.counted in omega arith;
              next = words_are;
            }

-- a record has three words at least
pub record_long : {h : Header} {pending : List ℕ} {at n : ℕ} → RecordAt h pending at n → 1 ≤ h.columns → 1 ≤ h.keys → 3 ≤ n
record_long {h} {pending} {at} {n} l a b = go (get_or pending at 0) refl
  where
    go : (k : ℕ) → get_or pending at 0 ≡ k → 3 ≤ n
    go zero e = omega (arith, l.of_insert e)
    go (suc zero) e = omega (arith, l.of_key e)
    go (suc (suc zero)) e = omega (arith, l.of_row e)
    go (suc (suc (suc k))) e = absurd (omega (arith, l.kind))

-- ---- a run of records of one kind

-- nothing is passed over yet
pub run_begin : {h : Header} {pending : List ℕ} {from kind words : ℕ} → from ≤ h.pending → RunSkipped h pending from kind words from
run_begin i = record { on = omega arith; inside = i; rest = λ of-kind wanted ne records w. record { left = records; same = refl; waiting = w } }

skipped_other : (wanted : ℕ) (r : Staged) (rest : List Staged) → of_kind wanted r ≡ false → filter (of_kind wanted) (r ∷ rest) ≡ filter (of_kind wanted) rest
unfolding filter
skipped_other wanted r rest e = rw e refl

-- one more record of the kind
pub run_again : {h : Header} {pending : List ℕ} {from kind words at : ℕ} → 0 < words → RunSkipped h pending from kind words at → get_or pending at 0 ≡ kind
    → words ≤ h.pending - at → RunSkipped h pending from kind words (at + words)
run_again {h} {pending} {from} {kind} {words} {at} some v e room =
    record {
      on = omega (arith, v.on);
      inside = omega (arith, v.inside);
      rest = λ of-kind wanted ne records w. on of-kind wanted ne records (v.rest of-kind wanted ne records w);
    }
  where
    on : ((r : Staged) → kind_of r ≡ kind → words_of (opening_of h) r ≡ words) → (wanted : ℕ) → (kind ≡ wanted → ⊥)
        → (records : List Staged) → Remaining h pending wanted at records → Remaining h pending wanted (at + words) records
    on of-kind wanted ne records l = go l.left l.same l.waiting
      where
        go : (left : List Staged) → filter (of_kind wanted) records ≡ filter (of_kind wanted) left → Waiting (opening_of h) pending h.pending at left
            → Remaining h pending wanted (at + words) records
        go [] same w = let z : at + 0 ≡ h.pending = unfold words_all in w.counted in absurd (omega arith)
        go (r ∷ rest) same w =
            let k : kind_of r ≡ kind = sym (waiting_kind w) ∙ e in
            let other : of_kind wanted r ≡ false = ne_eqb _ _ (λ q. ne (sym k ∙ q)) in
            record { left = rest; same = same ∙ skipped_other wanted r rest other; waiting = rw (← (of-kind r k)) (waiting_next w) }

-- ---- the record at a place is passed

module _ {h : Header} {pending : List ℕ} {at words : ℕ} (a : CanSkip h pending at words) where
  -- the other records are behind it
  behind : (first : Staged) (rest : List Staged) → Next h pending at first rest → Waiting (opening_of h) pending h.pending (at + words) rest
  behind first rest w = rw (a.here.next first rest w) (waiting_next w)

  -- others of its kind have as many words
  pub same_words : (r : Staged) → kind_of r ≡ get_or pending at 0 → words_of (opening_of h) r ≡ words
  unfolding words_of kind_of
  same_words (insert cells) e = sym (a.here.of_insert (sym e))
  same_words (remove_key key) e = sym (a.here.of_key (sym e))
  same_words (remove_row row key) e = sym (a.here.of_row (sym e))

  -- it is wanted itself
  pub skipped_one : {wanted : ℕ} → NextRecord h pending at words wanted (at + words)
  skipped_one =
      record {
        on = omega arith;
        inside = a.here.inside;
        rest = λ first rest w. record { left = rest; same = refl; waiting = behind first rest w };
      }

  -- it is not
  pub skipped_run : {wanted next : ℕ} → (get_or pending at 0 ≡ wanted → ⊥) → RunSkipped h pending (at + words) (get_or pending at 0) words next → NextRecord h pending at words wanted next
  skipped_run {wanted} ne v =
      record {
        on = v.on;
        inside = v.inside;
        rest = λ first rest w. v.rest same_words wanted ne rest (behind first rest w);
      }
