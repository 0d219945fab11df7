-- `levels_text::write::put_bytes` meets its contract. Assumes nothing.
use Rattle.levels_text.proofs.Prelude.{◌+◌, ◌-◌, ◌≡◌, arith, length, drop-drop, appended_splice}
use Rattle.lists.specs.Lists.{splice}
use Rattle.levels_text.proofs.write.put_bytes.Goals as goal

pub returns : goal.returns
unfolding splice
returns c =
    let width : c.args.used + length c.args.bytes.now - c.args.used ≡ length c.args.bytes.now = omega arith in
    rw (width, c.copy_from_slice.ensures.after, drop-drop (length c.args.bytes.now) c.args.used c.args.text.now) (appended_splice _ _ _ c.requires)
