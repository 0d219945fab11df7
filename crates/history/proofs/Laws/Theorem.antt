-- Term 3 of the order: the claim holds for every history and for every run of queries. Assumes nothing but the contracts that the
-- claim's histories and runs consist of.
use Rattle.history.proofs.Laws.Prelude.{List, Plain, Stores, Represents, live_shown}
use Rattle.offsets.specs.Subsets.{Subset, members}
use Rattle.history.specs.Runs.{Query, Run, end, next}
use Rattle.history.specs.Claim.{live_in, Claim}
use Rattle.history.proofs.Laws.Calls.{history_represents}
use Rattle.history.proofs.Laws.Narrowing.{Narrows, narrows_not, narrows_then, narrowed_wanted, narrowed_rising}
use Rattle.history.proofs.Laws.Queries.{queried_narrows}

-- a run narrows the ids that it starts with by all accepted queries, in whichever form each query gets them
pub run_narrows : {p : Plain} {s : Stores} {a c : Subset} {qs accepted : List Query} → Represents p s → Run s a qs c accepted → Narrows s (members a) (members c) accepted
run_narrows {s = s} r (end a) = narrows_not s (members a)
run_narrows r (next queried same rest) = narrows_then (queried_narrows r queried) (rw same at (run_narrows r rest))

pub term_three : Claim
term_three o generation calls s history =
    let shown = history_represents history in
    record {
      live_rows_shown = unfold live_in in live_shown shown;
      ids_left = λ start queries end accepted run refined.
          let left = run_narrows shown run in
          (narrowed_wanted left refined, narrowed_rising left refined);
    }
