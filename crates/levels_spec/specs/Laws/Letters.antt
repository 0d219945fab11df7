-- The result of a line of each letter. Assumes nothing.
use Rattle.std.specs.Prelude.{◌≡◌, ◌∷◌}
use Rattle.levels_spec.specs.Laws.Prelude.{ℕ, cond, List, [], Option, none, length, drop, get_or, known, condition_in, insert, remove_key, remove_row, Lengths, Plain, staging, merging, compacting, clearing, true, false, text_line}
use Rattle.levels_spec.specs.Response.{LineResult, printing, replied, opens, calls, queries, merge_text, fast_subset_of, range_text, list_text, served, result}
use Rattle.plain_table.specs.Staged.{opening_in}
use Rattle.std.proofs.Math.Option.{Option-elim}

-- a line on a table, refused with 1 if there is none
abbrev pub on_table : Option Plain → (Plain → LineResult) → LineResult
on_table t line = Option-elim t (printing (replied 1 []) none) line

module _ (l : Lengths) (t : Option Plain) {letter : ℕ} (ns : List ℕ) where
  pub result_open : letter ≡ 79 → result l t letter ns ≡ opens l t (opening_in ns) (get_or ns 5 0)
  unfolding result
  result_open e = rw e

  pub result_insert : letter ≡ 73 → result l t letter ns ≡ on_table t (λ p. calls l p (staging (insert ns)) [])
  unfolding result served
  result_insert e = rw e

  pub result_by_key : letter ≡ 82 → result l t letter ns ≡ on_table t (λ p. calls l p (staging (remove_key ns)) [])
  unfolding result served
  result_by_key e = rw e

  pub result_by_row : letter ≡ 75 → result l t letter ns ≡ on_table t (λ p. calls l p (staging (remove_row (get_or ns 0 0) (drop 1 ns))) [])
  unfolding result served
  result_by_row e = rw e

  pub result_merge : letter ≡ 77 → result l t letter ns ≡ on_table t (λ p. calls l p merging (merge_text p))
  unfolding result served
  result_merge e = rw e

  pub result_clear : letter ≡ 67 → result l t letter ns ≡ on_table t (λ p. calls l p clearing [])
  unfolding result served
  result_clear e = rw e

  pub result_compact : letter ≡ 71 → result l t letter ns ≡ on_table t (λ p. calls l p compacting [])
  unfolding result served
  result_compact e = rw e

  pub result_range : letter ≡ 70 → result l t letter ns ≡ on_table t (λ p. queries p (cond (known p.opening.columns (condition_in ns 0)) 0 6) (range_text (fast_subset_of p (condition_in ns 0))))
  unfolding result served
  result_range e = rw e

  pub result_version : letter ≡ 86 → result l t letter ns ≡ on_table t (λ p. queries p 0 (text_line 86 (p.generation ∷ length p.rows ∷ [])))
  unfolding result served
  result_version e = rw e

  pub result_list : letter ≡ 76 → result l t letter ns ≡ on_table t (λ p. queries p 0 (list_text false p))
  unfolding result served
  result_list e = rw e

  pub result_numbered : letter ≡ 85 → result l t letter ns ≡ on_table t (λ p. queries p 0 (list_text true p))
  unfolding result served
  result_numbered e = rw e
