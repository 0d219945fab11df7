-- A search for a match: what it answers. Assumes nothing.
use Rattle.refusals.specs.Laws.Numbers.{err_replies, ok_replies}
use Rattle.refusals.specs.declared.Refusal.{Refusal}
use Rattle.std.specs.Prelude.{Ok, Err}
use Rattle.query_scan.proofs.Prelude.{ℕ, ◌≡◌, ap, ◌∙◌, Bool, not, List, eqb, any, Constraint, Header, Scan, Match, matches, Matched, refusal_of, ScanDone, ScanAnswered, MatchClosed, ids_visited}
use Rattle.offsets.specs.Subsets.{Subset, members}
use Rattle.query_scan.proofs.Visits.{first_decides}

module _ (h : Header) (rows : List ℕ) (subset : Subset) (conditions : List Constraint) (output : List ℕ) where
  pub match_refused : (r : Refusal) {output' : List ℕ} → ScanAnswered Match h rows subset conditions output (Err r) output' → Matched h rows subset conditions (Err r)
  unfolding refusal_of
  match_refused r a = record { answers = err_replies r _ a.0 }

  module _ (s : Scan) (output' : List ℕ) (a : ScanDone Match h rows subset conditions output s output') where
    abbrev test : ℕ → Bool
    test = matches h rows conditions

    found : not (eqb s.found.count 0) ≡ any test (members subset)
    unfolding ids_visited
    found = ap (λ (n : ℕ). not (eqb n 0)) a.grows.number ∙ first_decides test (members subset)

    pub match_answered : (answer : Bool) → MatchClosed s answer → Matched h rows subset conditions (Ok answer)
    unfolding refusal_of
    match_answered answer c = record { answers = ok_replies (c.found_is ∙ found) a.accepts }
