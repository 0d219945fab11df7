-- `crc32::crc_words` meets its contract: antt computes the test of all entries of the tables. Assumes nothing.
use Rattle.crc32.proofs.Prelude.{ℕ, refl, ap, bit_xor}
use Rattle.crc32.specs.Crc.{bit_step, bit_steps, crc32}
use Rattle.crc32.proofs.TableRule.{pairs, table, tables_from, tables_rule}
use Rattle.crc32.proofs.crc_words.Goals as goal

pub after_words-requires : goal.after_words-requires
unfolding bit_step bit_steps pairs table tables_from
after_words-requires c = tables_rule _ refl

pub returns : goal.returns
unfolding crc32
returns c = ap (λ (s : ℕ). bit_xor s 4294967295) c.after_words.ensures
