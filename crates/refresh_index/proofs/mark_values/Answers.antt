use Rattle.refresh_index.proofs.Prelude.{sym, ◌∙◌, arith, rules}
use Rattle.refresh_index.proofs.Goings.{marks_few}
use Rattle.refresh_index.proofs.ValueSteps.{listing_begin, value_new, value_repeated, values_end, noted_on, noted_before}
use Rattle.refresh_index.proofs.mark_values.Goals.{then-not-is_repeated, else-not-is_repeated}
use Rattle.refresh_index.proofs.mark_values.Goals as goal

pub loop-value-init : goal.loop-value-init
loop-value-init c = record { noted = c.requires.3; listing = listing_begin _ _ _ _ _ _ }

pub overflow_add-marked : goal.overflow_add-marked
overflow_add-marked c =
    let l = c.loop-value in
    let m = value_new _ _ _ _ c.args.values.now l.value-index c.loop-value-test.true l.invariant.listing c.mark_chain-marked.ensures in
    omega (arith, marks_few m c.requires.2 (λ w. search rules))

pub loop-value-preserved : goal.loop-value-preserved
loop-value-preserved c =
    let l = c.loop-value in
    let k = c.loop-value-test.true in
    let r = c.is_repeated.ensures in record {
      noted = rw r.1 (noted_on c.args.values.now l.invariant.noted);
      listing = elim c.if-not-is_repeated.branch [
        | then-not-is_repeated w ↦ rw (w.words-is, w.marked-is) (value_new _ _ _ _ c.args.values.now l.value-index k l.invariant.listing w.mark_chain-marked.ensures)
        | else-not-is_repeated w ↦
            rw (w.words-is, w.marked-is)
            (value_repeated _ _ _ _ c.args.values.now l.value-index k l.invariant.listing (noted_before c.args.values.now l.invariant.noted (sym w.if-not-is_repeated.false ∙ r.0)))
      ];
    }

pub returns : goal.returns
returns c = values_end _ _ _ _ c.args.values.now c.requires.1 _ c.loop-value-test.false c.loop-value.invariant.listing
