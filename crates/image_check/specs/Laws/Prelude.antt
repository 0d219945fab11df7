-- The names that the laws of this crate take from elsewhere, re-exported. It defines nothing of its own.
pub use Rattle.std.specs.Prelude.{◌%◌, ◌*◌, ◌+◌, ◌-◌, ◌/◌, ◌<◌, ◌≤◌, suc, zero, ℕ, Bool, ◌&&◌, false, not, true, List, [], ◌++◌, ◌∷◌, ◌≡◌, refl, eqb, leb, ltb, drop, get_or, length, take}
pub use Rattle.std.proofs.Common.{true≢false, append_assoc, append-nil, inl, inr, ◌∙◌, ap, ap₂, sym, arith, drop_of_length-le, length-append, length-drop, length-take, take-append-drop, drop_at, drop-cons, drop-drop, get_or-drop, get_or-take, length-take-le, take_at, take-suc, eq-eqb, eqb-true, le-leb, leb-false, leb-true, lt-ltb, ltb-false, ltb-true, ne_eqb}
pub use Rattle.std.proofs.Math.Option.{Option, none, some}
pub use Rattle.std.proofs.Math.Decide.{ℕ_discrete}
pub use Rattle.std.proofs.lemmas.List.{get_or_at, take-append-le}
pub use Rattle.std.proofs.lemmas.Bool.{not-true}
pub use Rattle.abi.specs.Laws.Encoding.{flag_refused, header_decoded}
pub use Rattle.crc32.specs.Crc.{bytes_of, crc32}
pub use Rattle.image_check.specs.declared.parse.Layout.{Layout}
pub use Rattle.image_check.specs.inner.Parsed.{Filled, Words}
pub use Rattle.image_spec.specs.Laws.Unique.{length_packed}
pub use Rattle.lists.specs.Laws.All.{all_head, all_tail}
pub use Rattle.lists.specs.Laws.Filter.{all_get_d, all_of, and_left, and_right, split}
pub use Rattle.lists.specs.Lists.{all}
pub use Rattle.sort_entries.specs.inner.Checks.{Decides}
pub use Rattle.table.specs.Refusing.{outside}
pub use Rattle.table.specs.declared.Header.{Header}
