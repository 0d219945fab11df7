-- An encoding of lists of requests as words: each request is a kind, a count and that number of words (`replay_frames`). An item
-- that is no request is skipped, and an incomplete item ends the list, so every list of words encodes a list of requests. Assumes nothing.
use Rattle.std.specs.Prelude.{ℕ, suc, cond, List, [], ◌∷◌, eqb, ltb, length, take, drop, get_or}
use Rattle.plain_table.specs.Staged.{insert, remove_key, remove_row}
use Rattle.plain_table.specs.Calls.{staging, merging, compacting, clearing}
use Rattle.replay.specs.Requests.{Request, make, refresh}

-- a removal by row: the row, then the key; no request if there is no row
unfoldable pub row_removal : List ℕ → List Request
row_removal [] = []
row_removal (row ∷ key) = make (staging (remove_row row key)) ∷ []

-- a refresh: the number of columns, the columns, the stamp, then the values; no request if there is no stamp
unfoldable pub refresh_in : List ℕ → List Request
refresh_in [] = []
refresh_in (columns ∷ words) =
    cond (ltb columns (length words))
    (refresh (record { columns = take columns words; values = drop (suc columns) words; stamp = get_or words columns 0 }) ∷ [])
    []

-- the request of a kind and its words: kind 0 an insert of these cells, 1 a removal by this key, 2 a removal by row, 3 a merge, 4 a
-- compaction, 5 a clear (3 to 5 ignore their words), 6 a refresh; any other kind is no request
unfoldable pub request_of : ℕ → List ℕ → List Request
request_of kind words =
    cond (eqb kind 0) (make (staging (insert words)) ∷ [])
    (cond (eqb kind 1) (make (staging (remove_key words)) ∷ [])
    (cond (eqb kind 2) (row_removal words)
    (cond (eqb kind 3) (make merging ∷ []) (cond (eqb kind 4) (make compacting ∷ []) (cond (eqb kind 5) (make clearing ∷ [])
    (cond (eqb kind 6) (refresh_in words) []))))))
