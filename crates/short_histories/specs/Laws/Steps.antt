-- The seven steps in full, and that their table accepts them. Assumes nothing.
use Rattle.std.specs.Prelude.{◌≤◌, ◌≡◌, ◌≢◌}
use Rattle.short_histories.specs.Laws.Prelude.{ℕ, suc, refl, Bool, true, false, arith, eqb, le-leb, Call, staging, merging, compacting, clearing, refreshing, feeding, Result, Ok, Err, Refusal, UnknownSequence, Step, Insert, Remove, Merge}
use Rattle.lists.specs.Lists.{all}
use Rattle.refusals.specs.Refusals.{first_refusal, reply}
use Rattle.plain_table.specs.Staged.{Opening, openable, words_of}
use Rattle.plain_table.specs.Refusing.{wrong_width, no_such_row, overfull, stage_checks}
use Rattle.short_histories.specs.Sequences.{third_cell, inserting, removing, steps, call_of, step_view, StepAnswered}

-- "three columns, one key, sort column 1, capacity 6"; "all four rules": the tables that the steps are for. The comparison opens
-- them in this way; no contract mentions one
unfoldable pub short_opening : ℕ → Opening
short_opening rule = record { columns = 3; keys = 1; sort = 1; rule = rule; capacity = 6 }

-- the table can be opened, under each of the four rules
pub short_openable : (rule : ℕ) → rule ≤ 3 → openable (short_opening rule) ≡ true
unfolding openable short_opening
short_openable rule h = rw (le-leb rule 3 h)

-- a staging is not refused if five words are free, which is what an insert takes
unfoldable pub fits : ℕ → Call → Bool
fits rule (staging r) = eqb (stage_checks false (short_opening rule) 0 0 5 r) 0
fits rule merging = true
fits rule compacting = false
fits rule clearing = false
fits rule (refreshing r index) = false
fits rule (feeding rs) = false

pub steps_fit : (rule : ℕ) → all (fits rule) steps ≡ true
unfolding all fits steps inserting removing third_cell short_opening stage_checks first_refusal wrong_width no_such_row overfull words_of
steps_fit rule = refl

-- step, key, stamp, third cell
pub steps_answered : StepAnswered 0 (Ok (Insert 0 0 0)) × StepAnswered 1 (Ok (Insert 0 1 1)) × StepAnswered 2 (Ok (Insert 1 0 1)) × StepAnswered 3 (Ok (Insert 1 1 0)) × StepAnswered 4 (Ok (Remove 0)) × StepAnswered 5 (Ok (Remove 1)) × StepAnswered 6 (Ok Merge)
unfolding step_view call_of reply first_refusal steps inserting removing third_cell
steps_answered = (refl, refl, refl, refl, refl, refl, refl)

pub answered_at : (k step : ℕ) (answer : Result Step Refusal) → StepAnswered k answer → step ≡ k → StepAnswered step answer
answered_at k step answer t e = rw e t

above : (n step : ℕ) → n ≤ step → step ≢ n → suc n ≤ step
above n step h k = omega arith

above_none : (step : ℕ) → step ≢ 0 → 1 ≤ step
above_none step k = omega arith

pub past_six : (step : ℕ) → step ≢ 0 → step ≢ 1 → step ≢ 2 → step ≢ 3 → step ≢ 4 → step ≢ 5 → step ≢ 6 → 7 ≤ step
past_six step a b c d e f g =
    above 6 step (above 5 step (above 4 step (above 3 step (above 2 step (above 1 step (above_none step a) b) c) d) e) f) g

pub step_unknown : (step : ℕ) → 7 ≤ step → StepAnswered step (Err UnknownSequence)
unfolding step_view call_of reply first_refusal
step_unknown step h = rw (le-leb 7 step h)
