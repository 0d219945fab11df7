-- The contract of appending an entry, in terms of `push`. Assumes nothing.
use Rattle.std.specs.Prelude.{ℕ, ◌+◌, ◌-◌, ◌*◌, ◌≤◌, ◌<◌, ◌≡◌, refl, Bool, true, cond, List, [], ◌∷◌, length, get_or, set, drop, ltb}
use Rattle.std.proofs.Common.{sym, ap, ◌∙◌, arith, lt-ltb, le-ltb}
use Rattle.lists.specs.Lists.{splice}
use Rattle.lists.specs.Laws.Parts.{set_set_splice, drop_splice}
use Rattle.sort_entries.specs.Entries.{entries_of}
use Rattle.sort_entries.specs.Laws.Stores.{length_entries_of, entries_of_appended, last_entries_of, last_none}
use Rattle.sort_entries.specs.Laws.Push.{last_passes, push, push_new, push_same, push_few}

-- the store has room for one more entry
pub record EntryFits (store : List ℕ) (n : ℕ) : Type 0 where
  pub few : n < 65536
  pub words : 2 * n + 2 ≤ length store

-- the store after `push`, with r entries: exactly two words are written, or none
pub record Append (store : List ℕ) (n value row r : ℕ) (after : List ℕ) : Type 0 where
  pub count : r ≡ length (push value row (entries_of n store))
  pub cells : after ≡ cond (last_passes (λ v. ltb v value) (entries_of n store)) (splice store (2 * n) (value ∷ row ∷ [])) store
  pub entries : entries_of r after ≡ push value row (entries_of n store)
  pub past : drop (2 * r) after ≡ drop (2 * r) store

-- ---- the return paths

-- the last entry's value, at the position that the code reads
last_read : (test : ℕ → Bool) (store : List ℕ) (n : ℕ) → 0 < n → last_passes test (entries_of n store) ≡ test (get_or store (2 * n - 2) 0)
last_read test store n h = let e : 2 * n - 2 ≡ 2 * (n - 1) = omega arith in rw e (last_entries_of test n store h)

module _ (store : List ℕ) (n value : ℕ) where
  -- the value rises: there is no entry, or the last entry's value is lower
  pub rises_none : n ≤ 0 → last_passes (λ v. ltb v value) (entries_of n store) ≡ true
  rises_none h = last_none (λ v. ltb v value) n store (omega arith)

  pub rises : 0 < n → get_or store (2 * n - 2) 0 < value → last_passes (λ v. ltb v value) (entries_of n store) ≡ true
  rises h k = last_read (λ v. ltb v value) store n h ∙ lt-ltb _ _ k

module _ (store : List ℕ) (n value row : ℕ) where
  -- the value does not rise
  pub append_same : 0 < n → value ≤ get_or store (2 * n - 2) 0 → Append store n value row n store
  append_same h k =
      let b = last_read (λ v. ltb v value) store n h ∙ le-ltb _ _ k in
      let p = push_same value row (entries_of n store) b in
      record {
        count = sym (ap length p ∙ length_entries_of n store);
        cells = rw b;
        entries = sym p;
        past = refl;
      }

  pub append_new : EntryFits store n → last_passes (λ v. ltb v value) (entries_of n store) ≡ true
      → Append store n value row (n + 1) (set (set store (2 * n) value) (2 * n + 1) row)
  append_new room b =
      let e : set (set store (2 * n) value) (2 * n + 1) row ≡ splice store (2 * n) (value ∷ row ∷ []) =
      set_set_splice store (2 * n) value row (omega (arith, room.words)) in
      let p : entries_of (n + 1) (set (set store (2 * n) value) (2 * n + 1) row) ≡ push value row (entries_of n store) =
      ap (entries_of (n + 1)) e ∙ entries_of_appended n store value row room.words ∙ sym (push_new value row (entries_of n store) b) in
      record {
        count = sym (length_entries_of (n + 1) _) ∙ ap length p;
        cells = rw b e;
        entries = p;
        past = ap (drop (2 * (n + 1))) e ∙ drop_splice store (value ∷ row ∷ []) (2 * n) room.words (2 * (n + 1)) (omega arith);
      }

-- there is at most one entry more
pub append_few : (store : List ℕ) (n value row r : ℕ) (after : List ℕ) → Append store n value row r after → r ≤ n + 1
append_few store n value row r after s =
    let a = s.count in
    let b = push_few value row (entries_of n store) in
    let c = length_entries_of n store in
    omega arith
