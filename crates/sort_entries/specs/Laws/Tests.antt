-- Laws of a test of values: the values of all rows pass exactly if those of all entries do. Assumes nothing.
use Rattle.std.specs.Prelude.{◌≤◌, ◌<◌, ◌≡◌, ◌∷◌}
use Rattle.sort_entries.specs.Laws.Prelude.{ℕ, suc, refl, inl, inr, Bool, true, List, [], map, arith, leb, ltb, length, split, all_head, all_tail, all_cons, all_snoc, bool_ext}
use Rattle.lists.specs.Lists.{all}
use Rattle.sort_entries.specs.Entries.{Entry, entry, rebuilt, value_at}
use Rattle.sort_entries.specs.Laws.Push.{last_passes, push, push_all, push_new, push_same, rebuilt_push_all}
use Rattle.sort_entries.specs.Laws.Sound.{Climb, climb_tail}
use Rattle.sort_entries.specs.Laws.Values.{climb_rises}

module _ (test : ℕ → Bool) where
  abbrev passes : List Entry → Type 0
  passes es = all (λ e. test e.value) es ≡ true

  push_all_lem : (row value : ℕ) (es : List Entry) → test value ≡ true → passes es → passes (push value row es)
  push_all_lem row value es t p =
      elim (split (last_passes (λ v. ltb v value) es)) [
        | inl l ↦ rw (push_new value row es l) (all_snoc (λ e. test e.value) es (entry value row) p t)
        | inr l ↦ rw (push_same value row es l) p
      ]

  module _ {A : Type 0} (value : A → ℕ) where
    push_all_all : (row : ℕ) (rows : List A) (es : List Entry) → all (λ x. test (value x)) rows ≡ true → passes es → passes (push_all row (map value rows) es)
    unfolding push_all
    push_all_all row [] es e p = p
    push_all_all row (x ∷ rows) es e p =
        push_all_all (suc row) rows (push (value x) row es) (all_tail (λ y. test (value y)) x rows e)
        (push_all_lem row (value x) es (all_head (λ y. test (value y)) x rows e) p)

    -- if every row's value passes, every entry's does
    pub rebuilt_all : (rows : List A) → all (λ x. test (value x)) rows ≡ true → passes (rebuilt (map value rows))
    rebuilt_all rows e = rw (rebuilt_push_all (map value rows)) (push_all_all 0 rows [] e (unfold all in refl))

  -- if every entry's value passes, every row's does, since each row has the value of an entry
  pub value_at_all : (i : ℕ) (es : List Entry) → 0 < length es → passes es → test (value_at i es) ≡ true
  unfolding value_at
  value_at_all i [] h p = absurd (omega arith)
  value_at_all i (e ∷ []) h p = all_head (λ f. test f.value) e [] p
  value_at_all i (e ∷ f ∷ es) h p =
      elim (split (leb f.row i)) [
        | inl q ↦ rw q (value_at_all i (f ∷ es) (omega arith) (all_tail (λ g. test g.value) e (f ∷ es) p))
        | inr q ↦ rw q (all_head (λ g. test g.value) e (f ∷ es) p)
      ]

  all_last : (es : List Entry) → passes es → last_passes test es ≡ true
  unfolding last_passes
  all_last [] p = refl
  all_last (e ∷ []) p = all_head (λ f. test f.value) e [] p
  all_last (e ∷ f ∷ es) p = all_last (f ∷ es) (all_tail (λ g. test g.value) e (f ∷ es) p)

  module _ (down : (a b : ℕ) → a ≤ b → test b ≡ true → test a ≡ true) where
    last_passes_lem : (es : List Entry) (n : ℕ) → Climb es n → last_passes test es ≡ true → passes es
    unfolding last_passes
    last_passes_lem [] n c l = unfold all in refl
    last_passes_lem (e ∷ []) n c l = all_cons (λ f. test f.value) e [] l (unfold all in refl)
    last_passes_lem (e ∷ f ∷ es) n c l =
        let p = last_passes_lem (f ∷ es) n (climb_tail e (f ∷ es) n c) l in
        let h = climb_rises e f es n c in
        all_cons (λ g. test g.value) e (f ∷ es) (down e.value f.value (omega arith) (all_head (λ g. test g.value) f es p)) p

    -- if entries rise and smaller values pass too, the last one decides
    pub last_all : (es : List Entry) (n : ℕ) → Climb es n → last_passes test es ≡ all (λ e. test e.value) es
    last_all es n c = bool_ext _ _ (last_passes_lem es n c) (all_last es)
