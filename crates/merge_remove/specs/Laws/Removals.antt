-- The removals of a kind, as the plain table applies them. Assumes nothing.
use Rattle.std.specs.Prelude.{◌≡◌, refl}
use mathlib.Core.List.{List, [], ◌∷◌, foldl}
use Rattle.plain_table.specs.Staged.{Staged, insert, remove_key, remove_row}
use Rattle.plain_table.specs.Plain.{Plain, without_key, without_row}
use Rattle.merge_pending.specs.inner.Becoming.{kind_of}
use Rattle.merge_remove.specs.inner.Removals.{removed, removed_all}

pub removed_all_keys : (staged : List Staged) (p : Plain) → removed_all 1 staged p ≡ foldl without_key p staged
unfolding removed_all removed kind_of without_key
removed_all_keys [] p = refl
removed_all_keys (insert cells ∷ rs) p = removed_all_keys rs p
removed_all_keys (remove_key key ∷ rs) p = removed_all_keys rs (removed (remove_key key) p)
removed_all_keys (remove_row row key ∷ rs) p = removed_all_keys rs p

pub removed_all_rows : (staged : List Staged) (p : Plain) → removed_all 2 staged p ≡ foldl without_row p staged
unfolding removed_all removed kind_of without_row
removed_all_rows [] p = refl
removed_all_rows (insert cells ∷ rs) p = removed_all_rows rs p
removed_all_rows (remove_key key ∷ rs) p = removed_all_rows rs p
removed_all_rows (remove_row row key ∷ rs) p = removed_all_rows rs (removed (remove_row row key) p)
