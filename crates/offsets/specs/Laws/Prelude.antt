-- The names that the laws of this crate take from elsewhere, re-exported. It defines nothing of its own.
pub use Rattle.std.specs.Prelude.{◌+◌, ◌-◌, ◌<◌, ◌≤◌, max, min, suc, zero, ℕ, Bool, false, true, List, [], ◌∷◌, ◌⊎◌, ◌≡◌, refl, get_or, length, take}
pub use Rattle.std.proofs.Common.{inl, inr, ◌∙◌, ap, sym, arith, length-append, length-take, le-leb, le-ltb, leb-true, lt-ltb}
pub use Rattle.std.proofs.Math.Option.{Option, none, some}
pub use Rattle.std.proofs.Math.Decide.{dec_lt}
pub use Rattle.lists.specs.Laws.Filter.{and_left, and_right, count_le, filter_all, filter_same, length_filter, split}
pub use Rattle.lists.specs.Laws.Parts.{splice_nil}
pub use Rattle.lists.specs.Laws.Rising.{elem_iota, filter_elem_comm, filter_within_iota, get_d_iota, length_iota, rising_at, rising_filter, rising_iota, same_eq, same_ne, same_refl}
pub use Rattle.lists.specs.Laws.Search.{take_put}
pub use Rattle.lists.specs.Lists.{all, elem, filter, splice, within}
pub use Rattle.refusals.specs.Laws.Determined.{Same}
pub use Rattle.refusals.specs.Refusals.{Reply, accepted}
