-- The names that most proofs of code by hand cite, passed on from one place. Declares nothing.
pub use Rattle.std.proofs.raw_atomic.Walks.{proved, leaves, proved_at}
pub use seplogic.Ra.Ura.{Ura}
pub use mir.Syntax.{Ty, Fn, Body, Callee, named, erased, ty_ptr, ty_bool, local, value_local, place, deref, field, copy, int, assign, rv_opd, op2, ptr_eq, cond, seq, aggregate, return, skip, block, addr_of, ty_int, opd_false, eq, ty_struct, tcons, tnil, Args, Dict, a_type, dcons, dnil, ty_unit}
pub use mir.Val.{Val, vptr, of_list, has_ty, WT, vint, vbool, vstruct, vcons, vnil, vunit}
pub use base.Fraction.{full_share}
pub use base.Logic.{ent, sep, emp, id⊢, SProp, never, fst∗, via, never_e}
pub use base.Fml.{GName, Fml, ftrue, fsep, fres, flft, Share, fat, feq}
pub use prog.Model.{Model}
pub use prog.Wp.{Closed, WpFn, Calls, Loops, Tables}
pub use contract.Monad.{fact, Fun, fact_i}
pub use contract.Running.{Running, tables}
pub use types.Logic.{Logic, sem}
pub use types.Part.{whole, sub, look_in, agg}
pub use types.Kit.{‵, ◌⊛◌, some, later, at_ret, ◌$◌, ◌∵◌, !, qed, done, move, keep, use0, use1, split, split3, join, fsplit, fsplit3, fjoin, fpack, pick, await, rewrite, suffices, frame, group, fpick, Item, Goal, Seq, raw, drop, feq_l, feq_i, flt_l, flt_i, prop, by, regoal, Step, step, given, learn}
pub use types.Run.{enter, of_opd, lit, bin, addr, load, stop, fld, no_more, and_then, first, blocks, branches, skips, exec, returns, returns_within, look, well_typed, false_lit}
pub use types.ByLocal.{is, alloc_all, pass_all, free_all, look_at, get, through, sets, sets_last, env, get_in, lands_last, lands_as}
pub use denote.Builtin.{RefMutOf, bool, SliceRefMutOf}
pub use denote.Exit.{no, yes}
pub use denote.Laws.{shows}
pub use denote.Memory.{mem, cell_at, cell_raw, part_at, lone}
pub use denote.RattleType.{RattleType, owns, Valss}
pub use denote.RawPtr.{Ptr, block_ptr, null_ptr, ptr_val, Testable, tests_null, lies_at, RawPtr, in_a_block, InBlock}
pub use denote.Ref.{MutRef, mut_vals, mut_Tells}
pub use denote.Signature.{Signature, plain, type_at, mut_ref_to, types_at}
pub use denote.Steps.{nothing, opens, closes, peeks, heard, only}
pub use denote.Struct.Laws.{RawPtr-laws, usize-laws}
pub use denote.Struct.Struct.{Struct, layout, within}
pub use denote.Struct.Owning.{Owning, row, shape}
pub use denote.Struct.OwningLaws.{Tells-lowered}
pub use denote.Triple.Clauses.{Clauses, Ended, closing, Lasts, at_exit}
pub use denote.Triple.Spec.{Meets, triple_of}
pub use denote.Triple.Walked.{Stays, walk_of, says, stay_dropped, Goes-spent_ref, ends_at, stay_ref, Goes-ref, Fit, has_of, walk_Meets}
pub use mir.MapTy.{inst_fn}
pub use contract.BorrowLft.{◌⊑◌}
pub use prog.Memory.{Memory}
pub use prog.Routine.{Routine}
pub use sound.WpLaws.{fm_of, WpFn-mono}
pub use denote.Triple.Table.{entered}
pub use Rattle.core.proofs.alloc.Calls.{token, Goes-blank, handle_tells, α}
pub use Rattle.std.specs.contracts.impls.GlobalAllocator.TheImpl.{ghosts}
