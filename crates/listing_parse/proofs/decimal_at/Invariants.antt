-- `listing_parse::decimal_at` meets its contract. Assumes nothing.
use Rattle.listing_parse.proofs.Prelude.{◌-◌, ◌<◌, length}
use Rattle.levels_text.specs.Laws.Digits.{Digits}
use Rattle.listing_parse.proofs.Digits.{field_in}
use Rattle.listing_parse.proofs.decimal_at.Given as goal

abbrev pub invariant-loop-value : goal.invariant-loop-value
invariant-loop-value l = Digits (field_in l.text) l.start l.value l.at × (l.at < length l.text)

abbrev pub decreases-loop-value : goal.decreases-loop-value
decreases-loop-value l = length l.text - l.at
