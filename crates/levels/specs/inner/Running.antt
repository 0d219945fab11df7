-- The loop invariant of a run, and the contract of its end. Assumes nothing.
use Rattle.std.specs.Prelude.{ℕ, suc, ◌+◌, ◌≡◌, refl, Bool, true, false, List, [], ◌++◌, length, take}
use Rattle.std.proofs.Common.{sym, inl, inr, arith, length-append}
use Rattle.std.proofs.lemmas.Bool.{false≢true}
use Rattle.std.proofs.Math.Option.{none}
use Rattle.lists.specs.Laws.Filter.{split}
use Rattle.table.specs.declared.Header.{Header}
use Rattle.table.specs.Refusing.{outside}
use Rattle.levels_spec.specs.Answers.{no_table}
use Rattle.levels_io.specs.declared.input.Input.{Input}
use Rattle.levels_io.specs.Input.{bytes_read}
use Rattle.levels_io.specs.inner.Taking.{Refilled}
use Rattle.levels_io.specs.declared.output.WriteResult.{WriteResult}
use Rattle.levels.specs.declared.State.{State}
use Rattle.levels.specs.declared.Ended.{Ended}
use Rattle.levels.specs.Run.{Program, program, Step, last_step, over_step, Steps, begin, then, Machine, machine, Holds, new_bytes, input_over, write_failed, Ran}
use Rattle.levels.specs.inner.Turns.{Within, Turned}
use Rattle.levels.specs.inner.Stepping.{begun_none}

-- the buffered bytes are written, unless an earlier write failed
pub record Finished (state : State) (handed : WriteResult) (r : Ended) : Type 0 where
  pub same_state : r.state ≡ state
  pub all_handed : handed.is_written ≡ true → r.handed.count ≡ state.used
  pub unwritten : handed.is_written ≡ false → r.handed ≡ handed

-- the steps so far
pub record Running (m : Machine) : Type 0 where
  pub within : Within m
  pub first : List ℕ
  pub reads : List (List ℕ)
  pub bytes : List ℕ
  pub here : Program
  pub steps : Steps (program none [] first []) bytes reads here
  pub holds : Holds here m
  pub reads_made : suc (length reads) + m.state.input.reads ≡ 18446744073709551615

pub running_begin : {h : Header} {input : Input} {chunk : List ℕ} (line rows keys sorts pending text : List ℕ) → outside h ≡ true → Refilled [] 18446744073709551615 chunk input
    → Running (machine (record { header = h; input = input; length = 0; used = 0 }) line chunk rows keys sorts pending text)
running_begin {input = input} {chunk = chunk} line rows keys sorts pending text none-held f =
    record {
      within = record { input_in = f.within; line_in = omega arith; text_in = omega arith };
      first = take (bytes_read input.got) chunk;
      reads = [];
      bytes = [];
      here = program none [] (take (bytes_read input.got) chunk) [];
      steps = begin;
      holds = record { table_held = no_table none-held; line_begun = begun_none line; bytes_unread = sym f.there; bytes_buffered = refl };
      reads_made = omega (arith, f.one_read);
    }

module _ {m m' : Machine} {handed : WriteResult} (v : Running m) where
  pub running_again : {over : Bool} → Turned m handed m' over → over ≡ false → Running m'
  running_again stepped goes_on =
      let t : Turned m handed m' false = rw goes_on at stepped in
      elim (split handed.is_written) [
        | inl w ↦
            let made = t.stepped.made w v.here v.holds in
            record {
              within = t.within;
              first = v.first;
              reads = v.reads ++ new_bytes m m';
              bytes = v.bytes ++ take handed.count m.text;
              here = made.0;
              steps = then v.steps made.1;
              holds = made.2;
              reads_made = omega (arith, v.reads_made, t.stepped.reads_left, length-append v.reads (new_bytes m m'));
            }
        | inr w ↦ absurd (false≢true (t.stepped.failed w).0)
      ]

-- the last step makes no read
no_read : {p q : Program} {bytes : List ℕ} {reads : List (List ℕ)} → Step p bytes reads q true → reads ≡ []
no_read (last_step handed buffered e some f) = refl
no_read (over_step e f) = refl

same_left : (m m' : Machine) → new_bytes m m' ≡ [] → length (new_bytes m m') + m'.state.input.reads ≡ m.state.input.reads
    → m'.state.input.reads ≡ m.state.input.reads
same_left m m' none_read left = omega (arith, rw none_read at left)

pub run_ends : {state : State} {handed : WriteResult} {r : Ended} {over : Bool} (m : Machine) (line chunk rows keys sorts pending text : List ℕ) → Running m
    → Turned m handed (machine state line chunk rows keys sorts pending text) over → over ≡ true → Finished state handed r
    → Ran (machine r.state line chunk rows keys sorts pending text) r.handed
run_ends {state} {handed} {r} m line chunk rows keys sorts pending text v stepped is_over f =
    let t : Turned m handed (machine state line chunk rows keys sorts pending text) true = rw is_over at stepped in
    elim (split handed.is_written) [
      | inl w ↦
          let after = machine state line chunk rows keys sorts pending text in
          let made = t.stepped.made w v.here v.holds in
          let none_read : new_bytes m after ≡ [] = no_read made.1 in
          rw f.same_state
          (record {
            first = v.first;
            reads = v.reads;
            bytes = v.bytes;
            end = v.here;
            steps = v.steps;
            last = take handed.count m.text ++ take r.handed.count text;
            ending = input_over (rw none_read at made.1) made.2 (t.stepped.at_end w refl) (f.all_handed w);
            reads_made = omega (arith, v.reads_made, same_left m after none_read t.stepped.reads_left);
          })
      | inr w ↦
          let failed = t.stepped.failed w in
          rw (f.same_state, f.unwritten w)
          (record {
            first = v.first;
            reads = v.reads;
            bytes = v.bytes;
            end = v.here;
            steps = v.steps;
            last = take handed.count text;
            ending = write_failed {p = v.here} w (rw (failed.1, failed.3) (sym v.holds.bytes_buffered));
            reads_made = omega (arith, v.reads_made, failed.2);
          })
    ]
