-- The names that the laws of this crate take from elsewhere, re-exported. It defines nothing of its own.
pub use Rattle.std.specs.Prelude.{◌*◌, ◌+◌, ◌-◌, ◌<◌, ◌≤◌, max, min, suc, zero, ℕ, Bool, ◌&&◌, ◌||◌, false, not, true, List, [], ◌++◌, ◌∷◌, map, ◌≢◌, ◌⊎◌, ◌≡◌, refl, eqb, leb, ltb, drop, get_or, length, set, take}
pub use Rattle.std.proofs.Common.{suc-le-suc, append_assoc, append-nil, inl, inr, ◌∙◌, ap, ap₂, sym, add_comm, add-suc, add-zero, mul-le-mul_right, suc-add, suc-mul, zero-add, zero-mul, add-one, arith, drop_of_length-le, length-append, length-drop, length-set, length-take, take-append-drop, drop_at, drop-drop, drop-set-lt, ext_get_or, get_or-drop, get_or-set_other, get_or-set_same, get_or-take, take-add, take_all, take_at, take-suc, take-take, eq-eqb, eqb-true, le-leb, le-ltb, leb-true, lt-ltb, ltb-true, ne_eqb}
pub use Rattle.std.proofs.Math.Bool.{and_assoc, and_comm, and-false, and-true, or_assoc}
pub use Rattle.std.proofs.lemmas.Bool.{false≢true, lt-leb}
pub use Rattle.std.proofs.Math.Decide.{dec_lt, ℕ_discrete}
pub use Rattle.std.proofs.Math.Nat.{sub-zero, suc-sub-suc}
pub use Rattle.std.proofs.Math.Seq.{drop-append-add, take-append_seam, take-nil, take-set-lt}
pub use Rattle.std.proofs.lemmas.List.{drop-set-add, set_split, take-append-le, take-set-le}
pub use borrow.Rule.Slice.PartMut.{put_mid}
