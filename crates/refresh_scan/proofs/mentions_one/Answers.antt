use Rattle.refresh_scan.proofs.Prelude.{sym, ◌∙◌, rules, ltb-true, all_get_d}
use Rattle.refresh_scan.proofs.Mentions.{mentions_here, mentions_on, mentions_end}
use Rattle.refresh_scan.proofs.mentions_one.Goals as goal

pub bounds-row-column : goal.bounds-row-column
bounds-row-column c = ltb-true _ _ (all_get_d _ _ c.requires.0 c.loop-i.i (search rules) 0)

pub returns-then-is_among : goal.returns-then-is_among
returns-then-is_among c =
    mentions_here _ _ _ c.loop-i.i c.loop-i.invariant c.loop-i-test.true (sym c.if-is_among.true ∙ c.is_among.ensures)

pub loop-i-preserved : goal.loop-i-preserved
loop-i-preserved c =
    mentions_on _ _ _ c.loop-i.i c.loop-i.invariant c.loop-i-test.true (sym c.if-is_among.false ∙ c.is_among.ensures)

pub returns : goal.returns
returns c = mentions_end _ _ _ c.loop-i.i c.loop-i.invariant c.loop-i-test.false
