-- Requests decoded from words, as the code has them. Assumes nothing.
use Rattle.std.specs.Prelude.{List, [], ◌∷◌, Option, None, Some}
use Rattle.plain_table.specs.Staged.{insert, remove_key, remove_row}
use Rattle.plain_table.specs.Calls.{staging, merging, compacting, clearing}
use Rattle.replay.specs.declared.calls.Request.{Request as Decoded}
use Rattle.replay.specs.declared.calls.Request.TheVariants.{Insert, RemoveKey, RemoveRow, Merge, Compact, Clear, Refresh}
use Rattle.replay.specs.Requests.{Request, make, refresh}

abbrev pub request_is : Decoded → Request
request_is (Insert cells) = make (staging (insert cells.now))
request_is (RemoveKey key) = make (staging (remove_key key.now))
request_is (RemoveRow row key) = make (staging (remove_row row key.now))
request_is Merge = make merging
request_is Compact = make compacting
request_is Clear = make clearing
request_is (Refresh columns stamp values) = refresh (record { columns = columns.now; values = values.now; stamp = stamp })

-- none or one
abbrev pub requested : Option Decoded → List Request
requested None = []
requested (Some request) = request_is request ∷ []
