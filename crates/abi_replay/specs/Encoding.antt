-- The encoding of the result of a run of queries, which is never refused, and of the steps of short histories. Assumes nothing.
use Rattle.std.specs.Prelude.{ℕ, min, List, [], ◌∷◌, Result, Ok, Err}
use Rattle.refusals.specs.Refusals.{Reply, refused, accepted, number}
use Rattle.replay_queries.specs.declared.RunAnswer.{RunAnswer}
use Rattle.refusals.specs.declared.Refusal.{Refusal}
use Rattle.short_histories.specs.declared.Step.{Step}
use Rattle.short_histories.specs.declared.Step.TheVariants.{Insert, Remove, Merge}
use Rattle.abi.specs.Encoding.{bit}

-- Whether the ids left are a range; its start and end; if they are a list, how many ids at the start of a lent list (0 for the starting
-- list), and which list: 0 the whole starting list, 1 the first lent one, 2 the second; whether an accepted query refined; how many
-- queries were taken from the list, at most 4294967295.
unfoldable pub encode_run : RunAnswer → List ℕ
encode_run l = bit l.dense ∷ l.start ∷ l.end ∷ l.count ∷ l.place ∷ bit l.refined ∷ min l.taken 4294967295 ∷ []

-- 0 for an insert with its three cells, 1 for a removal with its key, 2 for a merge
unfoldable pub encode_step : Step → List ℕ
encode_step (Insert key stamp third) = 0 ∷ key ∷ stamp ∷ third ∷ []
encode_step (Remove key) = 1 ∷ key ∷ 0 ∷ 0 ∷ []
encode_step Merge = 2 ∷ 0 ∷ 0 ∷ 0 ∷ []

-- an answer (`step_view`) in words: its number if it is refused, else the call of the step
unfoldable pub step_words : Result Step Refusal → Reply (List ℕ)
step_words (Err refusal) = refused (number refusal)
step_words (Ok step) = accepted (encode_step step)
