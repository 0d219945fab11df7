-- The names that the laws of this crate take from elsewhere, re-exported. It defines nothing of its own.
pub use Rattle.std.specs.Prelude.{◌*◌, ◌+◌, ◌-◌, ◌<◌, ◌≤◌, suc, zero, ℕ, ◌&&◌, true, List, [], ◌∷◌, ◌≢◌, ◌≡◌, refl, eqb, leb, ltb, drop, get_or, length, set, take}
pub use Rattle.std.proofs.lemmas.Bool.{false≢true}
pub use Rattle.std.proofs.Common.{◌∙◌, ap, add-zero, add-one, arith, get_or-set_other, get_or-set_same, lt-length-set, eq-eqb, eqb-true, le-leb, le-ltb, leb-true, lt-ltb, ltb-true}
pub use Rattle.std.proofs.Math.Decide.{ℕ_discrete}
pub use Rattle.constraints.specs.Constraints.{is_live}
pub use Rattle.lists.specs.Laws.All.{any_at, any_of}
pub use Rattle.lists.specs.Laws.Filter.{and_left, and_right}
pub use Rattle.lists.specs.Laws.Rising.{elem_at, elem_here, elem_of, elem_there, same_eq, same_refl}
pub use Rattle.lists.specs.Lists.{elem, row_at, same}
pub use Rattle.refresh_spec.specs.Index.{IndexOf, entries_under, rows_seen}
pub use Rattle.refresh_spec.specs.inner.Finding.{leads}
pub use Rattle.refresh_spec.proofs.Laws.Chains.{chain_below, chain_here}
pub use Rattle.refresh_spec.proofs.Laws.Fronts.{chain_same}
pub use Rattle.refresh_spec.proofs.Laws.Lookup.{Names, RowHolds, holds_leads, leads_holds}
pub use Rattle.table.specs.declared.Header.{Header}
