-- Every short history (document 02, change 10): the seven steps, all sequences of at most six of them in one list, and the maps
-- between a sequence and its place in that list. Assumes nothing.
use Rattle.std.specs.Prelude.{ℕ, zero, suc, ◌-◌, ◌≡◌, Bool, not, cond, ◌&&◌, List, [], ◌∷◌, map, length, get_or, leb, ltb, Result, Ok, Err, Option as Optional}
use Rattle.std.proofs.Math.Option
use Rattle.std.proofs.Math.Option.{Option, none, some}
use Rattle.lists.specs.Lists.{splice, all, flatten, iota, same}
use Rattle.refusals.specs.Refusals.{check, first_refusal, Reply, refused, accepted, reply, number, answer_view, found_view, Effect}
use Rattle.refusals.specs.declared.Refusal.{Refusal}
use Rattle.plain_table.specs.Staged.{insert, remove_key}
use Rattle.plain_table.specs.Calls.{Call, staging, merging}
use Rattle.short_histories.specs.declared.Step.{Step}
use Rattle.short_histories.specs.declared.Step.TheVariants.{Insert, Remove, Merge}

-- ---- the steps

-- The tables that the steps are for have "three columns, one key, sort column 1, capacity 6" and any of the four rules
-- (`short_opening` in Laws/Steps); no contract mentions a table.

-- "the third cell being the stamp for key 0 and 1 minus the stamp for key 1"
unfoldable pub third_cell : ℕ → ℕ → ℕ
third_cell zero stamp = stamp
third_cell (suc key) stamp = 1 - stamp

unfoldable pub inserting : ℕ → ℕ → Call
inserting key stamp = staging (insert (key ∷ stamp ∷ third_cell key stamp ∷ []))

unfoldable pub removing : ℕ → Call
removing key = staging (remove_key (key ∷ []))

-- "seven steps, numbered from 0 in this order: four inserts (key, then stamp rising), two removals by key (key rising), merge"
unfoldable pub steps : List Call
steps = inserting 0 0 ∷ inserting 0 1 ∷ inserting 1 0 ∷ inserting 1 1 ∷ removing 0 ∷ removing 1 ∷ merging ∷ []

-- ---- the sequences

-- the sequences of n steps, "in the order of their first differing step": those that begin with step 0, with step 1, and so on
unfoldable pub sequences : ℕ → List (List ℕ)
sequences zero = [] ∷ []
sequences (suc n) = flatten (map (λ step. map (λ rest. step ∷ rest) (sequences n)) (iota 0 7))

-- "every sequence of 0 to 6 steps", "shorter before longer"
unfoldable pub short_histories : List (List ℕ)
short_histories = flatten (map sequences (iota 0 7))

-- the place of a sequence in a list of sequences, "from 0"
unfoldable pub place_in : List (List ℕ) → List ℕ → ℕ
place_in [] sequence = 0
place_in (s ∷ ss) sequence = cond (same s sequence) 0 (suc (place_in ss sequence))

-- "the way from a sequence to its position, from 0, and back"
unfoldable pub position_of : List ℕ → ℕ
position_of sequence = place_in short_histories sequence

unfoldable pub sequence_at : ℕ → List ℕ
sequence_at position = get_or short_histories position []

-- the generator: the sequence after this one, none after the last. Started at the empty sequence, it gives all others in turn
-- (Laws/Generated); each is in the list "exactly once" (Laws/Positions)
unfoldable pub next_after : List ℕ → Option (List ℕ)
next_after sequence =
    cond (ltb (suc (position_of sequence)) (length short_histories)) (some (sequence_at (suc (position_of sequence)))) none

-- ---- refusals

-- at most 6 steps, all of them known: not "a length above 6 or an unknown step"
unfoldable pub known : List ℕ → Bool
known sequence = leb (length sequence) 6 && all (λ step. ltb step 7) sequence

-- "16, a position past the last", then 2, an output shorter than what is to be written
unfoldable pub sequence_refusal : ℕ → ℕ → ℕ
sequence_refusal position output =
    first_refusal (check (leb (length short_histories) position) 16 ∷ check (ltb output (length (sequence_at position))) 2 ∷ [])

unfoldable pub next_refusal : List ℕ → ℕ → ℕ
next_refusal sequence output =
    first_refusal (check (not (known sequence)) 15 ∷ check (ltb output (length (Option.get_or (next_after sequence) []))) 2 ∷ [])

-- ---- answers

-- the call of a step
unfoldable pub call_of : Step → Call
call_of (Insert key stamp third) = staging (insert (key ∷ stamp ∷ third ∷ []))
call_of (Remove key) = staging (remove_key (key ∷ []))
call_of Merge = merging

unfoldable pub step_view : Result Step Refusal → Reply Call
step_view (Ok step) = accepted (call_of step)
step_view (Err refusal) = refused (number refusal)

-- ---- contracts

-- "15, .. an unknown step"
abbrev pub StepAnswered : ℕ → Result Step Refusal → Type 0
StepAnswered step answer = step_view answer ≡ reply (first_refusal (check (leb 7 step) 15 ∷ [])) (get_or steps step merging)

abbrev pub PositionAnswered : List ℕ → Result ℕ Refusal → Type 0
PositionAnswered sequence answer = answer_view answer ≡ reply (first_refusal (check (not (known sequence)) 15 ∷ [])) (position_of sequence)

-- The answer is the number of steps of the sequence found, if there is one. It is at the start of the output, and nothing is changed past it; on refusal nothing is changed at all.
pub record SequenceAnswered (refusal : ℕ) (found : Option (List ℕ)) (output : List ℕ) (answer : Result (Optional ℕ) Refusal) (output' : List ℕ) : Type 0 where
  pub effect : Effect refusal (found_view answer) (Option.map length found) output output' (splice output 0 (Option.get_or found []))

abbrev pub SequenceFound : ℕ → List ℕ → Result (Optional ℕ) Refusal → List ℕ → Type 0
SequenceFound position output = SequenceAnswered (sequence_refusal position (length output)) (some (sequence_at position)) output

abbrev pub NextFound : List ℕ → List ℕ → Result (Optional ℕ) Refusal → List ℕ → Type 0
NextFound sequence output = SequenceAnswered (next_refusal sequence (length output)) (next_after sequence) output
