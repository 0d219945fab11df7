-- The query of each kind. Assumes nothing.
use Rattle.std.specs.Prelude.{ℕ, ◌*◌, ◌/◌, ◌≤◌, ◌<◌, ◌≡◌, List, [], ◌∷◌, length, get_or}
use Rattle.std.proofs.Common.{arith}
use borrow.Author.Tests.{eq-eqb, ne_eqb, le-leb, lt-leb}
use Rattle.offsets.specs.Subsets.{range, list}
use Rattle.constraints.specs.Encoding.{condition_in, conditions_in}
use Rattle.history.specs.Runs.{refine_one, refine_list, intersect_with, intersect_range}
use Rattle.replay_queries.specs.Encoding.{of_words, list_of, query_of}

-- a list of conditions that is complete and not too long
module _ (words : List ℕ) where
  pub list_whole : length words / 3 * 3 ≡ length words → length words / 3 ≤ 16 → list_of words ≡ refine_list (conditions_in (length words / 3) words) ∷ []
  unfolding list_of
  list_whole e m = rw (eq-eqb (length words / 3 * 3) (length words) e, le-leb (length words / 3) 16 m)

  pub list_cut : (length words / 3 * 3 ≡ length words → ⊥) → list_of words ≡ []
  unfolding list_of
  list_cut n = rw (ne_eqb (length words / 3 * 3) (length words) n)

  pub list_long : length words / 3 * 3 ≡ length words → 16 < length words / 3 → list_of words ≡ []
  unfolding list_of
  list_long e m = rw (eq-eqb (length words / 3 * 3) (length words) e, lt-leb (length words / 3) 16 m)

module _ (kind : ℕ) (words : List ℕ) where
  pub query_one : kind ≡ 0 → length words ≡ 3 → query_of kind words ≡ refine_one (condition_in words 0) ∷ []
  unfolding query_of of_words
  query_one e n = rw (e, n)

  pub query_list : kind ≡ 1 → query_of kind words ≡ list_of words
  unfolding query_of
  query_list e = rw e

  pub query_ids : kind ≡ 2 → query_of kind words ≡ intersect_with (list words) ∷ []
  unfolding query_of
  query_ids e = rw e

  pub query_ends : kind ≡ 3 → length words ≡ 2 → query_of kind words ≡ intersect_with (range (get_or words 0 0) (get_or words 1 0)) ∷ []
  unfolding query_of of_words
  query_ends e n = rw (e, n)

  pub query_range : kind ≡ 4 → length words ≡ 3 → query_of kind words ≡ intersect_range (condition_in words 0) ∷ []
  unfolding query_of of_words
  query_range e n = rw (e, n)

  -- with another number of words, or of another kind, there is no query
  pub no_one : kind ≡ 0 → (length words ≡ 3 → ⊥) → query_of kind words ≡ []
  unfolding query_of of_words
  no_one e n = rw (e, ne_eqb (length words) 3 n)

  pub no_ends : kind ≡ 3 → (length words ≡ 2 → ⊥) → query_of kind words ≡ []
  unfolding query_of of_words
  no_ends e n = rw (e, ne_eqb (length words) 2 n)

  pub no_range : kind ≡ 4 → (length words ≡ 3 → ⊥) → query_of kind words ≡ []
  unfolding query_of of_words
  no_range e n = rw (e, ne_eqb (length words) 3 n)

  pub no_kind : 4 < kind → query_of kind words ≡ []
  unfolding query_of
  no_kind h =
      rw (ne_eqb kind 0 (λ e. omega arith), ne_eqb kind 1 (λ e. omega arith), ne_eqb kind 2 (λ e. omega arith), ne_eqb kind 3 (λ e. omega arith), ne_eqb kind 4 (λ e. omega arith))
