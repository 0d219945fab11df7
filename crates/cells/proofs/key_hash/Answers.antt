-- `cells::key_hash` meets its contract. Assumes nothing.
use Rattle.std.proofs.Common.{rules, ◌≡◌, ℕ, ◌*◌, ap, sym, ◌∙◌}
use Rattle.std.specs.List.{fold}
use Rattle.cells.specs.Cells.{mixed}
use Rattle.cells.specs.Cells.Hash.{key_hash_is}
use Rattle.cells.proofs.key_hash.Goals as goal

pub returns : goal.returns
returns c =
    let folded : c.fold-hash.result ≡ fold mixed 0 c.args.key.now = search rules in
    ap (λ (n : ℕ). n * 4294967297) folded ∙ sym (key_hash_is _)
