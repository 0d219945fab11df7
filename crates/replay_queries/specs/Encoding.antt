-- An encoding of lists of queries as words: each query is a kind, a count and that number of words (`replay_frames`). An item
-- that is no query is skipped, and an incomplete item ends the list, so every list of words encodes a list of queries. Assumes nothing.
use Rattle.std.specs.Prelude.{ℕ, ◌*◌, ◌/◌, cond, ◌&&◌, List, [], ◌∷◌, length, get_or, eqb, leb}
use Rattle.offsets.specs.Subsets.{range, list}
use Rattle.constraints.specs.Encoding.{condition_in, conditions_in}
use Rattle.history.specs.Runs.{Query, refine_one, refine_list, intersect_with, intersect_range}

-- a query if there are this many words, or none
unfoldable pub of_words : ℕ → List ℕ → Query → List Query
of_words n words query = cond (eqb (length words) n) (query ∷ []) []

-- refining by a list of conditions, three words each, at most 16 of them
unfoldable pub list_of : List ℕ → List Query
list_of words =
    let n = length words / 3 in cond (eqb (n * 3) (length words) && leb n 16) (refine_list (conditions_in n words) ∷ []) []

-- the query of a kind and its words: kind 0 refines by a condition of three words, kind 1 by a list of them; kind 2 intersects with
-- these ids, kind 3 with the range of two words, kind 4 with the sort-column range of a condition of three words
unfoldable pub query_of : ℕ → List ℕ → List Query
query_of kind words =
    cond (eqb kind 0) (of_words 3 words (refine_one (condition_in words 0)))
    (cond (eqb kind 1) (list_of words)
    (cond (eqb kind 2) (intersect_with (list words) ∷ [])
    (cond (eqb kind 3) (of_words 2 words (intersect_with (range (get_or words 0 0) (get_or words 1 0))))
    (cond (eqb kind 4) (of_words 3 words (intersect_range (condition_in words 0))) []))))
