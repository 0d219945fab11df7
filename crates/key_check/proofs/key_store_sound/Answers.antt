use Rattle.key_check.proofs.Prelude.{ℕ, ◌+◌, ◌≡◌, refl, sym, ap, ◌∙◌, false≢true, arith, below_more, tally_yes, tally_no, tally_le, live_is, is_live_lem, rows_in_lem}
use Rattle.key_check.specs.inner.Check.{is_live_row, tally}
use Rattle.key_check.proofs.CheckSteps.{lost_row, counts_decide}
use Rattle.key_check.proofs.key_store_sound.Goals as goal

pub loop-row-init : goal.loop-row-init
loop-row-init c = (omega arith, (unfold tally in refl), λ i h. absurd (omega arith))

pub row_live-requires : goal.row_live-requires
row_live-requires c = (rows_in_lem _ _ _ c.requires, omega (arith, c.loop-row-test.true))

pub is_found-requires : goal.is_found-requires
is_found-requires c = (c.requires, omega (arith, c.loop-row-test.true))

pub returns-then-not-is_found : goal.returns-then-not-is_found
returns-then-not-is_found c =
    lost_row _ _ _ c.requires _ (live_is _ _ _ (omega (arith, c.loop-row-test.true)) (sym c.row_live.ensures ∙ c.if-row_live.true))
    (c.is_found.ensures.no c.if-not-is_found.true)

pub overflow_add-live : goal.overflow_add-live
overflow_add-live c =
    let l = c.loop-row in
    let a = c.args in
    omega (arith, l.invariant.1, tally_le (is_live_row a.t a.rows.now) l.row, c.loop-row-test.true)

pub loop-row-preserved-then-row_live : goal.loop-row-preserved-then-row_live
loop-row-preserved-then-row_live c =
    let l = c.loop-row in (
      omega arith,
      ap (λ (n : ℕ). n + 1) l.invariant.1 ∙ sym (tally_yes _ _ (sym c.row_live.ensures ∙ c.if-row_live.true)),
      below_more _ _ l.invariant.2 (λ _. c.is_found.ensures.yes c.if-not-is_found.false),
    )

pub loop-row-preserved : goal.loop-row-preserved
loop-row-preserved c =
    let l = c.loop-row in
    let e = sym c.row_live.ensures ∙ c.if-row_live.false in
    (omega arith, l.invariant.1 ∙ sym (tally_no _ _ e), below_more _ _ l.invariant.2 (λ live. absurd (false≢true (sym e ∙ is_live_lem _ _ _ live))))

pub overflow_mul-t : goal.overflow_mul-t
overflow_mul-t c = omega (arith, c.requires.most)

pub count_taken-requires : goal.count_taken-requires
count_taken-requires c = c.requires.long

pub returns : goal.returns
returns c =
    let l = c.loop-row in
    let a = c.args in
    let e : l.row ≡ a.t.rows = omega (arith, l.invariant.0, c.loop-row-test.false) in
    counts_decide _ _ _ c.requires (λ i live. l.invariant.2 i (omega (arith, live.0)) live) _ _ (l.invariant.1 ∙ ap (tally _) e) c.count_taken.ensures
