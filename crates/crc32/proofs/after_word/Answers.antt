-- `crc32::after_word` meets its contract. Assumes nothing.
use Rattle.crc32.proofs.Prelude.{sym, ◌∙◌}
use Rattle.crc32.specs.Laws.Register.{word_at_once}
use Rattle.crc32.proofs.after_word.Goals as goal

pub returns : goal.returns
returns c = c.four_bytes.ensures ∙ sym (word_at_once c.args.register c.args.word c.ranges.word.fits)
