-- `key_index::empty` meets its contract. Assumes nothing.
use Rattle.std.proofs.lemmas.List.{length-take-le}
use Rattle.key_index.proofs.Prelude.{◌*◌, ◌≡◌, ap, ◌∙◌, zeros}
use Rattle.key_index.proofs.PutSteps.{empty_end, front_zeros}
use Rattle.key_index.proofs.empty.Goals as goal

pub returns : goal.returns
returns c =
    let zero : c.fill.new.self ≡ zeros (2 * c.args.room) = c.fill.ensures.after (λ y e. e) ∙ ap zeros (length-take-le (2 * c.args.room) c.args.store.now c.requires.long) in
    empty_end c.args.room c.args.store.now _ c.requires.long (rw zero (front_zeros (2 * c.args.room) c.args.store.now))
