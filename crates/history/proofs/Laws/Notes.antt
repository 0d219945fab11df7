-- An accepted note guarantees what its copy holds. Assumes nothing but the contracts that histories consist of, and that of the
-- rows since a noted version.
use Rattle.history.proofs.Laws.Prelude.{ℕ, ◌+◌, ◌-◌, ◌≤◌, ◌<◌, ◌≡◌, sym, ap, ◌∙◌, true, false, ◌⊎◌, inl, inr, ◌++◌, some, zero-add, arith, length, drop, filter, elem, split, within_of, within_below, is_live, row_of, after_all, Follows, onward_all, follows_at, follows_length, follows_live, live_behind, Header, Stores, Represents, row_shown, rows_counted, noted_accepted, stored_row, Guaranteed, OldNote, accepted_number, accepted_same, live_shown}
use Rattle.offsets.specs.Subsets.{Subset, range, members}
use Rattle.offsets.specs.Laws.Forms.{elem_range}
use Rattle.plain_table.specs.Plain.{Row, Plain, live_from, live_rows, opened}
use Rattle.history.specs.Claim.{live_in}
use Rattle.history.proofs.Laws.Calls.{history_represents, steps_represents}

pub generation_shown : {p : Plain} {s : Stores} → Represents p s → s.header.generation ≡ p.generation
generation_shown r = ap (λ (h : Header). h.generation) r.shown.header

-- the members of a range, one by one
range_no : (a b i : ℕ) → i < a → elem i (members (range a b)) ≡ false
range_no a b i h = elem_range a b i ∙ within_below a (a + (b - a)) i h

range_yes : (a b i : ℕ) → a ≤ i → i < b → elem i (members (range a b)) ≡ true
range_yes a b i h k = elem_range a b i ∙ within_of a (a + (b - a)) i h (omega arith)

module _ {p q : Plain} {then now : Stores} (r : Represents p then) (s : Represents q now) (f : Follows p.rows q.rows) where
  -- a stored row is live exactly if the plain table's row is
  live_now : (i : ℕ) → i < length p.rows → is_live (stored_row now i) ≡ (row_of q i).live
  live_now i h = sym (row_shown s i (omega (arith, follows_length f))).live

  -- and then it has the cells that it had
  pub same_now : (i : ℕ) → i < then.header.rows → is_live (stored_row now i) ≡ true → stored_row now i ≡ stored_row then i
  same_now i h e =
      let k : i < length p.rows = omega (arith, rows_counted r) in
      let l : (row_of q i).live ≡ true = sym (live_now i k) ∙ e in
      let g = follows_at f i k l in
      sym ((row_shown s i (omega (arith, follows_length f))).same l)
      ∙ ap (λ (row : Row). row.cells) g
      ∙ (row_shown r i k).same (ap (λ (row : Row). row.live) (sym g) ∙ l)

  kept_or_dead : (i : ℕ) → i < then.header.rows → (stored_row now i ≡ stored_row then i) ⊎ (is_live (stored_row now i) ≡ false)
  kept_or_dead i h = elim (split (is_live (stored_row now i))) [ inl e ↦ inl (same_now i h e) | inr e ↦ inr e ]

  -- the live rows of the range since then are those behind the earlier rows
  behind : filter (λ row. elem row.number (members (range then.header.rows now.header.rows))) (live_from 0 q.rows)
      ≡ live_from (0 + length p.rows) (drop (length p.rows) q.rows)
  behind =
      let few = follows_length f in
      live_behind (λ i. elem i (members (range then.header.rows now.header.rows))) 0 (length p.rows) q.rows
      (omega arith)
      (λ i h. rw (zero-add i) (range_no _ _ i (omega (arith, rows_counted r))))
      (λ i h k. rw (zero-add i) (range_yes _ _ i (omega (arith, rows_counted r)) (omega (arith, rows_counted s))))

  together : live_in now
      ≡ filter (λ row. is_live (stored_row now row.number)) (live_in then)
      ++ filter (λ row. elem row.number (members (range then.header.rows now.header.rows))) (live_in now)
  unfolding live_rows live_in
  together =
      rw (live_shown r, live_shown s, behind)
      (follows_live 0 (λ i. is_live (stored_row now i)) f (λ i h. rw (zero-add i) (live_now i h)))

  guaranteed : Guaranteed then now (range then.header.rows now.header.rows)
  guaranteed = record { kept_or_dead = kept_or_dead; live_rows_shown = together }

pub old_note : OldNote
old_note o generation earlier later then now answer since history steps noted is =
    let r = history_represents history in
    let s = steps_represents r steps in
    let answer_is = sym is ∙ noted.answers in
    let same = (noted_accepted _ _ _ (accepted_number _ _ _ answer_is)).same in
    let f = (onward_all (after_all (opened o generation) earlier) later).follows (sym (generation_shown s) ∙ sym same ∙ generation_shown r) in
    rw (only (accepted_same _ _ _ answer_is)) (guaranteed r s f)
  where
    only : {a b : Subset} → some a ≡ some b → a ≡ b
    only e = cc
