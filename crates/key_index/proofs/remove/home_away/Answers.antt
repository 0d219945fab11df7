-- `key_index::remove::home_away` meets its contract. Assumes nothing.
use Rattle.key_index.proofs.Prelude.{ℕ, ap, ◌∙◌, arith, slots, away, names_number}
use Rattle.key_index.proofs.ShiftSteps.{home_hash}
use Rattle.key_index.proofs.remove.home_away.Goals as goal

pub overflow_sub-word : goal.overflow_sub-word
overflow_sub-word c = omega (arith, names_number _ _ c.requires.1)

pub row_hash-hash-requires : goal.row_hash-hash-requires
row_hash-hash-requires c = (c.requires.0, omega (arith, names_number _ _ c.requires.1))

pub returns : goal.returns
returns c =
    let a = c.args in
    let home = c.home_slot-home.ensures.value ∙ home_hash a.t a.rows.now a.word _ c.row_hash-hash.ensures in
    c.slots_away.ensures ∙ ap (λ (h : ℕ). away (slots a.t) h a.at) home
