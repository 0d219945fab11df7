-- `merge_insert::append::rebuild_grown` meets its contract. Assumes nothing.
use Rattle.merge_insert.proofs.AppendSteps.{rebuildable, rebuilt_after_append}
use Rattle.merge_insert.proofs.append.rebuild_grown.Goals as goal

pub rebuild-requires : goal.rebuild-requires
rebuild-requires c = rebuildable _ _ _ _ _ _ c.requires _ c.grown-n.ensures _ c.index_shape.ensures

pub returns : goal.returns
returns c =
    record {
      answer = c.grown-n.ensures;
      rebuilt = rebuilt_after_append c.args.h _ _ _ _ _ _ c.grown-n.result c.grown-n.ensures _ c.index_shape.ensures c.rebuild.ensures;
    }
