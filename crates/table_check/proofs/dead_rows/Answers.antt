use Rattle.table_check.proofs.Prelude.{ℕ, ◌+◌, ◌<◌, ◌≡◌, refl, sym, ap, ◌∙◌, arith, Inside, inside}
use Rattle.lists.specs.Lists.{count, rows_of}
use Rattle.table_check.proofs.CheckingSteps.{dead_among, dead_more, dead_same, dead_few}
use Rattle.table_check.proofs.dead_rows.Goals.{Start, then-is_dead, else-is_dead}
use Rattle.table_check.proofs.dead_rows.Goals as goal

lies : (s : Start) (row : ℕ) → row < s.args.h.rows → Inside s.args.rows.now s.args.h.columns row
lies s row = inside _ _ s.args.h.rows row s.requires.few s.requires.narrow s.requires.words

some : (s : Start) → 0 < s.args.h.columns
some s = omega (arith, s.requires.column)

pub loop-row-init : goal.loop-row-init
loop-row-init c = unfold count rows_of in refl

pub is_dead-requires : goal.is_dead-requires
is_dead-requires c = omega (arith, lies (goal.at.is_dead-requires c).Start _ c.loop-row-test.true, c.requires.column)

pub overflow_add-dead : goal.overflow_add-dead
overflow_add-dead c =
    let l = c.loop-row in
    let a = c.args in
    omega (arith, l.invariant, dead_few a.h.columns l.row a.rows.now, c.loop-row-test.true)

pub loop-row-preserved : goal.loop-row-preserved
loop-row-preserved c =
    let l = c.loop-row in
    let columns = some (goal.at.loop-row-preserved c).Start in
    let is = rw c.row_start-at.ensures at c.is_dead.ensures in
    elim c.if-is_dead.branch [
      | then-is_dead w ↦ w.dead-is ∙ ap (λ (n : ℕ). n + 1) l.invariant ∙ sym (dead_more _ _ _ columns (sym is ∙ w.if-is_dead.true))
      | else-is_dead w ↦ w.dead-is ∙ l.invariant ∙ sym (dead_same _ _ _ columns (sym is ∙ w.if-is_dead.false))
    ]

pub returns : goal.returns
returns c =
    let l = c.loop-row in
    let a = c.args in
    let e : l.row ≡ a.h.rows = omega (arith, c.loop-row-test.false) in
    l.invariant ∙ ap (λ (n : ℕ). dead_among a.h.columns n a.rows.now) e
