-- `key_index::size_class` meets its contract. Assumes nothing.
use Rattle.key_index.proofs.Prelude.{arith, le-leb, lt-leb}
use Rattle.key_index.specs.Slots.{size_class}
use Rattle.key_index.proofs.size_class.Goals as goal

pub returns-then-rows-gt-FOURTH_CLASS : goal.returns-then-rows-gt-FOURTH_CLASS
unfolding size_class
returns-then-rows-gt-FOURTH_CLASS c = let r = c.args.rows in rw (lt-leb r 128 (omega arith), lt-leb r 512 (omega arith), lt-leb r 2048 (omega arith), lt-leb r 8192 (omega arith))

pub returns-then-rows-gt-THIRD_CLASS : goal.returns-then-rows-gt-THIRD_CLASS
unfolding size_class
returns-then-rows-gt-THIRD_CLASS c = let r = c.args.rows in rw (lt-leb r 128 (omega arith), lt-leb r 512 (omega arith), lt-leb r 2048 (omega arith), le-leb r 8192 (omega arith))

pub returns-then-rows-gt-SECOND_CLASS : goal.returns-then-rows-gt-SECOND_CLASS
unfolding size_class
returns-then-rows-gt-SECOND_CLASS c = let r = c.args.rows in rw (lt-leb r 128 (omega arith), lt-leb r 512 (omega arith), le-leb r 2048 (omega arith))

pub returns-then-rows-gt-FIRST_CLASS : goal.returns-then-rows-gt-FIRST_CLASS
unfolding size_class
returns-then-rows-gt-FIRST_CLASS c = let r = c.args.rows in rw (lt-leb r 128 (omega arith), le-leb r 512 (omega arith))

pub returns : goal.returns
unfolding size_class
returns c = let r = c.args.rows in rw (le-leb r 128 (omega arith))
