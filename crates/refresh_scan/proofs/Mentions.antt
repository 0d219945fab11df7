-- The turns of the test of a row. Assumes nothing.
use Rattle.refresh_scan.proofs.Prelude.{ℕ, suc, ◌+◌, ◌≤◌, ◌<◌, ◌≡◌, sym, ◌∙◌, true, false, ◌||◌, List, add-one, length, drop, get_or, drop_of_length-le, drop-cons}
use Rattle.lists.specs.Lists.{any, elem}
use Rattle.plain_table.specs.Refreshing.{mentions}

module _ (columns values cells : List ℕ) (i : ℕ) where
  mentions_step : i < length columns
      → mentions (drop i columns) values cells ≡ (elem (get_or cells (get_or columns i 0) 0) values || mentions (drop (suc i) columns) values cells)
  unfolding mentions any
  mentions_step h = rw (drop-cons columns i 0 h)

  module _ (inv : mentions columns values cells ≡ mentions (drop i columns) values cells) where
    pub mentions_here : i < length columns → true ≡ elem (get_or cells (get_or columns i 0) 0) values → true ≡ mentions columns values cells
    mentions_here h e = sym (inv ∙ mentions_step h ∙ rw (← e))

    pub mentions_on : i < length columns → false ≡ elem (get_or cells (get_or columns i 0) 0) values → mentions columns values cells ≡ mentions (drop (i + 1) columns) values cells
    mentions_on h e = inv ∙ mentions_step h ∙ rw (← e, add-one i)

    pub mentions_end : length columns ≤ i → false ≡ mentions columns values cells
    unfolding mentions any
    mentions_end h = sym (inv ∙ rw (drop_of_length-le columns h))
