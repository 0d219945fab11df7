-- The request of each kind. Assumes nothing.
use Rattle.std.specs.Prelude.{◌+◌, ◌-◌, ◌≤◌, ◌<◌, ◌≡◌, ◌∷◌}
use Rattle.replay.specs.Laws.CallPrelude.{ℕ, suc, refl, sym, ap, ◌∙◌, List, [], arith, length, take, drop, get_or, ne_eqb, lt-ltb, le-ltb, part_to_end, insert, remove_key, remove_row, Refresh, staging, merging, compacting, clearing, make, refresh}
use Rattle.std.proofs.Common.{length-drop, drop-cons}
use Rattle.replay.specs.Encoding.{row_removal, refresh_in, request_of}

module _ (kind : ℕ) (words : List ℕ) where
  pub call_insert : kind ≡ 0 → request_of kind words ≡ make (staging (insert words)) ∷ []
  unfolding request_of
  call_insert e = rw e

  pub call_remove : kind ≡ 1 → request_of kind words ≡ make (staging (remove_key words)) ∷ []
  unfolding request_of
  call_remove e = rw e

  pub call_row : kind ≡ 2 → request_of kind words ≡ row_removal words
  unfolding request_of
  call_row e = rw e

  pub call_merge : kind ≡ 3 → request_of kind words ≡ make merging ∷ []
  unfolding request_of
  call_merge e = rw e

  pub call_compact : kind ≡ 4 → request_of kind words ≡ make compacting ∷ []
  unfolding request_of
  call_compact e = rw e

  pub call_clear : kind ≡ 5 → request_of kind words ≡ make clearing ∷ []
  unfolding request_of
  call_clear e = rw e

  pub call_refresh : kind ≡ 6 → request_of kind words ≡ refresh_in words
  unfolding request_of
  call_refresh e = rw e

  pub call_none : 6 < kind → request_of kind words ≡ []
  unfolding request_of
  call_none h =
      rw (ne_eqb kind 0 (λ e. omega arith), ne_eqb kind 1 (λ e. omega arith), ne_eqb kind 2 (λ e. omega arith), ne_eqb kind 3 (λ e. omega arith), ne_eqb kind 4 (λ e. omega arith), ne_eqb kind 5 (λ e. omega arith), ne_eqb kind 6 (λ e. omega arith))

-- a removal by row: none without words, else of the first
pub row_none : (words : List ℕ) → length words ≡ 0 → row_removal words ≡ []
unfolding row_removal
row_none [] e = refl
row_none (row ∷ key) e = absurd (omega arith)

pub row_some : (words : List ℕ) → 0 < length words → row_removal words ≡ make (staging (remove_row (get_or words 0 0) (take (length words - 1) (drop 1 words)))) ∷ []
unfolding row_removal
row_some [] h = absurd (omega arith)
row_some (row ∷ key) h = rw (part_to_end (row ∷ key) 1)

pub row_named : (words : List ℕ) {row : ℕ} {key : List ℕ} → words ≡ row ∷ key → row_removal words ≡ make (staging (remove_row row key)) ∷ []
unfolding row_removal
row_named words e = rw e

-- a refresh: none without columns and a stamp
pub refresh_none : (words : List ℕ) → length words < get_or words 0 0 + 2 → refresh_in words ≡ []
unfolding refresh_in
refresh_none [] h = refl
refresh_none (columns ∷ words) h = rw (le-ltb columns (length words) (omega arith))

pub refresh_some : (words : List ℕ) → get_or words 0 0 + 2 ≤ length words
    → refresh_in words ≡ refresh (record { columns = take (get_or words 0 0 + 1 - 1) (drop 1 words); values = take (length words - (get_or words 0 0 + 2)) (drop (get_or words 0 0 + 2) words); stamp = get_or words (get_or words 0 0 + 1) 0 }) ∷ []
unfolding refresh_in
refresh_some [] h = absurd (omega arith)
refresh_some (columns ∷ words) h =
    let two : columns + 2 ≡ suc (suc columns) = omega arith in
    let values : take (suc (length words) - (columns + 2)) (drop (columns + 2) (columns ∷ words)) ≡ drop (suc columns) words = part_to_end (columns ∷ words) (columns + 2) ∙ ap (λ (n : ℕ). drop n (columns ∷ words)) two in
    let named : columns + 1 - 1 ≡ columns = omega arith in
    let stamp : columns + 1 ≡ suc columns = omega arith in
    rw (lt-ltb columns (length words) (omega arith))
    (ap (λ (r : Refresh). refresh r ∷ []) (λ i. record { columns = take (sym named i) words; values = sym values i; stamp = get_or (columns ∷ words) (sym stamp i) 0 }))

-- the same by parts: none without a number of columns, so many columns and a stamp
pub refresh_empty : (words : List ℕ) → length words ≡ 0 → refresh_in words ≡ []
unfolding refresh_in
refresh_empty [] e = refl
refresh_empty (columns ∷ words) e = absurd (omega arith)

module _ (words : List ℕ) {count : ℕ} {behind : List ℕ} (e : words ≡ count ∷ behind) where
  pub refresh_cut : length behind < count → refresh_in words ≡ []
  unfolding refresh_in
  refresh_cut h = rw (e, le-ltb count (length behind) (omega arith))

  module _ {last : List ℕ} (d : last ≡ drop count behind) where
    pub refresh_unstamped : length last ≡ 0 → refresh_in words ≡ []
    unfolding refresh_in
    refresh_unstamped none = rw (e, le-ltb count (length behind) (omega (arith, length-drop count behind, ap length d, none)))

    pub refresh_named : {columns values : List ℕ} {stamp : ℕ} → columns ≡ take count behind → last ≡ stamp ∷ values
        → refresh_in words ≡ refresh (record { columns = columns; values = values; stamp = stamp }) ∷ []
    unfolding refresh_in
    refresh_named {columns} {values} {stamp} t f =
        let long : count < length behind = omega (arith, length-drop count behind, ap length d, ap length f) in
        let parts : stamp ∷ values ≡ get_or behind count 0 ∷ drop (suc count) behind = sym f ∙ d ∙ drop-cons behind count 0 long in
        let stamp_is : stamp ≡ get_or behind count 0 = cc in
        let values_are : values ≡ drop (suc count) behind = cc in
        rw (e, lt-ltb count (length behind) long, t, stamp_is, values_are)
