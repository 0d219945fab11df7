-- A plain table with another capacity. Assumes nothing.
use Rattle.archive.proofs.Laws.Prelude.{ℕ, ◌+◌, ◌≡◌, refl, ap, ap₂, Bool, not, ◌&&◌, List, [], ◌∷◌}
use Rattle.lists.specs.Lists.{all}
use Rattle.plain_table.specs.Staged.{Opening, Staged, insert, remove_key, remove_row, words_of, words_all}
use Rattle.plain_table.specs.Refusing.{wrong_width}

-- two openings with the same columns and keys
pub record SameShape (o o' : Opening) : Type 0 where
  pub columns : o.columns ≡ o'.columns
  pub keys : o.keys ≡ o'.keys

module _ {o o' : Opening} (same : SameShape o o') where
  words_same : (r : Staged) → words_of o r ≡ words_of o' r
  unfolding words_of
  words_same (insert cells) = ap (λ (n : ℕ). n + 2) same.columns
  words_same (remove_key key) = ap (λ (n : ℕ). n + 2) same.keys
  words_same (remove_row row key) = ap (λ (n : ℕ). n + 3) same.keys

  pub all_words_same : (rs : List Staged) → words_all o rs ≡ words_all o' rs
  unfolding words_all
  all_words_same [] = refl
  all_words_same (r ∷ rs) = ap₂ (λ (a b : ℕ). a + b) (words_same r) (all_words_same rs)

  width_same : (r : Staged) → wrong_width o r ≡ wrong_width o' r
  unfolding wrong_width
  width_same (insert cells) = rw same.columns
  width_same (remove_key key) = rw same.keys
  width_same (remove_row row key) = rw same.keys

  pub all_widths_same : (rs : List Staged) → all (λ r. not (wrong_width o r)) rs ≡ all (λ r. not (wrong_width o' r)) rs
  unfolding all
  all_widths_same [] = refl
  all_widths_same (r ∷ rs) = ap₂ (λ (a b : Bool). not a && b) (width_same r) (all_widths_same rs)
