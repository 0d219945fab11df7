-- The contract of each C function determines what it returns, what it stores and the lent cells as far as the law of the library
-- determines its answer and those cells. Assumes nothing.
use Rattle.refusals.specs.declared.Refusal.{Refusal}
use Rattle.std.specs.Prelude.{ℕ, ◌≡◌, true, false, ◌⊎◌, List, get_or, Result}
use Rattle.std.proofs.Math.Option.{Option}
use Rattle.plain_table.specs.Staged.{opening_in}
use Rattle.lists.specs.Lists.{any}
use Rattle.refusals.specs.Refusals.{accepted}
use Rattle.offsets.specs.Subsets.{Subset}
use Rattle.table.specs.declared.Header.{Header}
use Rattle.refusals.specs.Refusals.{answer_view, found_view}
use Rattle.table.specs.Outcomes.{Body, CompactionWords}
use Rattle.history.specs.Runs.{Query}
use Rattle.replay_queries.specs.declared.RunAnswer.{RunAnswer}
use Rattle.refresh_spec.specs.Index.{is_new}
use Rattle.replay.specs.Requests.{Request}
use Rattle.replay.specs.Laws.Requests.{is_refresh}
use Rattle.replay.specs.Replays.{Replayed}
use Rattle.replay.specs.Laws.Determined.{ReplayLeft, SameReplay, replayed_determined}
use Rattle.replay_queries.specs.RunQueries.{RunMade}
use Rattle.replay_queries.specs.Laws.Determined.{RunLeft, SameRun, run_made_determined}
use Rattle.refusals.specs.Laws.Determined.{Same}
use Rattle.short_histories.specs.Sequences.{StepAnswered, PositionAnswered, SequenceAnswered}
use Rattle.abi.specs.Encoding.{encode_header, Answers, encode_number, encode_option}
use Rattle.abi.specs.Laws.Determined.{SameOutcome, answers_determined}
use Rattle.abi_replay.specs.Encoding.{encode_run, step_words}
use Rattle.short_histories.specs.Laws.Determined as library

abbrev replay_left : Result Header Refusal → Body → List ℕ → CompactionWords → List ℕ → ReplayLeft
replay_left answer b pending w index = record { answer = answer; body = b; pending = pending; words = w; index = index }

abbrev run_left : RunAnswer → List ℕ → List ℕ → RunLeft
run_left answer first second = record { answer = answer; first = first; second = second }

module _ (opening : List ℕ) (requests : List Request) (b : Body) (pending : List ℕ) (w : CompactionWords) (index : List ℕ) where
  abbrev Replays : List ℕ → ℕ → List ℕ → Body → List ℕ → CompactionWords → List ℕ → Type 0
  Replays header r header' b' pending' w' index' =
      Answers (λ a. Replayed (opening_in opening) (get_or opening 5 0) requests b pending w index a b' pending' w' index') answer_view encode_header header r header'

  -- over a new index store, or without refreshes
  pub replay_determined : (is_new index ≡ true) ⊎ (any is_refresh requests ≡ false) → {header header₁ header₂ : List ℕ} {r₁ r₂ : ℕ} (b₁ b₂ : Body) (pending₁ pending₂ : List ℕ) (w₁ w₂ : CompactionWords) (index₁ index₂ : List ℕ)
      → Replays header r₁ header₁ b₁ pending₁ w₁ index₁ → Replays header r₂ header₂ b₂ pending₂ w₂ index₂
      → SameOutcome (answer_view {A = Header}) (λ x y. SameReplay (opening_in opening) (get_or opening 5 0) requests b pending w index (replay_left x b₁ pending₁ w₁ index₁) (replay_left y b₂ pending₂ w₂ index₂)) r₁ r₂ header₁ header₂
  replay_determined sound b₁ b₂ pending₁ pending₂ w₁ w₂ index₁ index₂ =
      answers_determined (λ x y u v. replayed_determined (opening_in opening) (get_or opening 5 0) requests b pending w index sound (replay_left x b₁ pending₁ w₁ index₁) (replay_left y b₂ pending₂ w₂ index₂) u v)

module _ (h : Header) (rows sorts : List ℕ) (start : Subset) (ids : List ℕ) (queries : List Query) (first second : List ℕ) where
  abbrev Runs : List ℕ → ℕ → List ℕ → List ℕ → List ℕ → Type 0
  Runs words r words' first' second' =
      Answers (λ a. RunMade h rows sorts start ids queries first second a first' second') accepted encode_run words r words'

  pub run_queries_determined : {words words₁ words₂ : List ℕ} {r₁ r₂ : ℕ} (first₁ second₁ first₂ second₂ : List ℕ) → Runs words r₁ words₁ first₁ second₁ → Runs words r₂ words₂ first₂ second₂
      → SameOutcome accepted (λ x y. SameRun h rows sorts start ids queries first second (run_left x first₁ second₁) (run_left y first₂ second₂)) r₁ r₂ words₁ words₂
  run_queries_determined first₁ second₁ first₂ second₂ =
      answers_determined (λ x y. run_made_determined h rows sorts start ids queries first second (run_left x first₁ second₁) (run_left y first₂ second₂))

module _ {words words₁ words₂ : List ℕ} {r₁ r₂ : ℕ} where
  pub step_at_determined : (step : ℕ) → Answers (StepAnswered step) step_words (λ x. x) words r₁ words₁ → Answers (StepAnswered step) step_words (λ x. x) words r₂ words₂
      → SameOutcome step_words (λ x y. x ≡ y) r₁ r₂ words₁ words₂
  step_at_determined step = answers_determined (λ x y. library.step_determined step)

  pub position_of_determined : (sequence : List ℕ) → Answers (PositionAnswered sequence) answer_view encode_number words r₁ words₁ → Answers (PositionAnswered sequence) answer_view encode_number words r₂ words₂
      → SameOutcome (answer_view {A = ℕ}) (λ x y. x ≡ y) r₁ r₂ words₁ words₂
  position_of_determined sequence = answers_determined (λ x y. library.position_determined sequence)

  -- the sequence at a position, and the next one
  pub sequence_found_determined : (refusal : ℕ) (found : Option (List ℕ)) (output output₁ output₂ : List ℕ)
      → Answers (λ a. SequenceAnswered refusal found output a output₁) found_view encode_option words r₁ words₁ → Answers (λ a. SequenceAnswered refusal found output a output₂) found_view encode_option words r₂ words₂
      → SameOutcome (found_view {A = ℕ}) (λ x y. Same x y output₁ output₂) r₁ r₂ words₁ words₂
  sequence_found_determined refusal found output output₁ output₂ = answers_determined (λ x y. library.sequence_determined)
