-- The names that manual proofs take from the logic, re-exported. It defines nothing of its own.
pub use mathlib.Core.Path.{◌≡◌, refl, sym, ap, subst, ◌∙◌}
pub use Prim.Native.Nat.{ℕ, ◌^◌, zero, suc}
pub use mathlib.Core.Bool.{Bool, true, false}
pub use mathlib.Core.List.{List, [], ◌∷◌, ◌++◌}
pub use lib.Dec.{ltb, T}
pub use lib.ListN.{length, take, take-append-drop}
pub use seplogic.Ra.Ura.{Ura}
pub use base.Fraction.{full_share}
pub use mir.Syntax.{Body, Place, Ty, Opd as Operand, call, seq, Lifetime, ty_array, Width, Fn, Local, local, place, copy, assign, deref, addr_of, Sym, ty_struct, Tys, field, aggregate, int, int_neg, int_big, float, opd_true, opd_false, opd_unit, ptr_const, size_of, align_of, num_of, fn_addr, vtable, rv_opd, return, Callee as Name}
pub use mir.Val.{Val, vbool, vint, vptr, WT, has_ty, Vals, vstruct, of_list, bits}
pub use base.Logic.{SProp, ent, emp, id⊢, via, fst∗, sep, ex, wand, all, apply∗, all_e, guard_i, guard_e, mono_r}
pub use base.Fml.{Lft, Share, GName, Fml, ftrue, fsep, flft, fat, froom, fdies, flent, fdead, fobs, fauth, fobor, fres}
pub use prog.Memory.{Memory, field_of, field_at}
pub use prog.Routine.{Routine, Env as Names}
pub use prog.Wp.{Heap, Calls, Env, Loops, WpFn, Closed, spot_of}
pub use contract.Monad.{Fun}
pub use contract.Running.{tables, Running}
unfoldable pub use contract.Running.{tables_of}
pub use types.Kit.{Goal, Item, Post, Seq, Step, at_ret, lands, regoal, runs, settles, step, ‵, raw, ◌⊛◌, some, later, ◌$◌, ◌∵◌, !, qed, move, drop, use1, use2, split, join, pick, rewrite, fsplit, fjoin, feq_l, frame, await, done, Soaks, updating, show, use3, feq_i, mean, nth, recast, use0, given, prop, allocs, params', passes, frees, by, each, assume, check, Go, now as at_once}
pub use types.Part.{agg, sub, look_in, Part}
pub use types.Run.{Opds, look, init, stop, hop, fld, from, load, addr, lit, of_opd, and_then, no_more, assigns, land, returns, enter, alloc1, alloc0, params1, pass1, pass0, free1, free0, Opd, Reads, Writes}
pub use types.Tokens.{lft_new, lft_end, lent_back}
pub use sound.WpLaws.{FmC, fm_of}
pub use denote.Builtin.{bool}
pub use denote.Exit.{yes}
pub use denote.Laws.{Is, shows, Typed, Tells, Lawful, Are, Ises, Spells, valss, Tellss, Lawfuls, all_Typed}
pub use denote.Memory.{mem, lone, shares, part_at}
pub use denote.Plain.{uint_Lawful, UInt, uint_vals, uint_Tells}
pub use denote.RattleType.{RattleType, RowLaws, flat, owns, mirs}
pub use denote.Ref.{ShrRef, MutRef, shr_Tells, shr_Lawful, mut_Tells, mut_Lawful}
pub use denote.Signature.{plain, types_at, Slot, AllWithin, meet_at, mut_slice_of, name_of, shr_slice_of, type_at, Signature}
pub use denote.Slice.{slice_ty, slice_val, ShrSlice, MutSlice, Room, finally, heres, coded_holeys, shr_slice_copy, shr_slice_Tells, mut_slice_Tells, shr_slice_Lawful, mut_slice_Lawful}
pub use denote.Steps.{peeks, facts, owned, nothing, only, heard, said}
pub use denote.Triple.Clauses.{Clauses, Ended, Lasts, at_exit, lasts, closing}
pub use denote.Triple.Entry.{on_entry, Args, Res}
pub use denote.Triple.Table.{entered}
pub use types.SemTy.{cells, Arr}
pub use denote.Lend.{Held, lends_slice, slice_back, lends_shr_slice}
pub use denote.Array.{Array}
pub use denote.Index.{row, whole_out, whole_in, opens_slice, closes_slice}
pub use borrow.Rule.Slice.Shared.{Sh, parts-cells}
pub use borrow.Table.Elements.{at, cut_app, join_app}
pub use borrow.Table.OneValue.{part_in}
pub use borrow.Rule.Array.Init.{part_room}
pub use borrow.Rule.Array.Share.{Room-take}
pub use contract.Lifetimes.{Shares, Lfts, toks, AllOutlive}
pub use mathlib.Core.Option.{Option, some as just, none}
pub use mir.Fields.{get_v}
pub use denote.Triple.Spec.{triple_of, Meets}
pub use denote.Triple.Statement.{Triple, Contract}
pub use denote.Triple.Call.{calls_at}
pub use prog.Model.{Model}
