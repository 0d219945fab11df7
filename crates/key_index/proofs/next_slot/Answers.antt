-- `key_index::next_slot` meets its contract. Assumes nothing.
use Rattle.key_index.proofs.Prelude.{sym, arith, slot_low, slot_wraps}
use Rattle.key_index.proofs.next_slot.Goals as goal

pub returns-then-up-slots : goal.returns-then-up-slots
returns-then-up-slots c = record { value = sym (slot_low _ _ _ c.if-up-slots.true); upper_bound = c.if-up-slots.true }

pub returns : goal.returns
returns c = record { value = sym (slot_wraps _ _ c.requires c.if-up-slots.false); upper_bound = omega arith }
