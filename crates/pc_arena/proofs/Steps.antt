-- The steps of a proof by hand, for the proofs of the functions with pointers.
pub use mathlib.Core.Path.{◌≡◌, refl, sym, ap, subst, ◌∙◌}
pub use Prim.Native.Nat.{ℕ, zero, suc, ◌+◌, ◌-◌, ◌*◌, ◌<◌, ◌≤◌, ◌^◌}
pub use native.Mathlib.Omega.{arith}
pub use mathlib.Core.List.{List, [], ◌∷◌, ◌++◌}
pub use lib.Dec.{T}
pub use lib.ListN.{length, set, get_or, length-append, length-set}
pub use seplogic.Ra.Ura.{Ura}
pub use base.Fraction.{full_share}
pub use base.Fml.{Fml, Lft, GName, Share, ftrue, fsep, fat, froom, flft, fobs, fauth, fbor, fobor, Incl-trans}
pub use base.Logic.{SProp, ent, sep, emp, never, id⊢}
pub use mir.Syntax.{Ty, Body, Dict, Place, Opd as Operand, named, w64, a_type, dcons, dnil, ty_array}
pub use mir.Val.{Val, vunit, vint, vptr, vstruct, vcons, vnil, of_list, has_ty, WT}
pub use mir.MapTy.{inst_fn}
pub use mir.Raw.{raw as bare}
pub use prog.Memory.{size, align, capped}
pub use prog.Capped.{capped_is, capped_fits}
pub use prog.Wp.{Env, WpFn}
pub use types.Logic.{Logic, sem}
pub use types.Kit.{Goal, Item, Post, Seq, Sq, Step, Soaks, step, prop, runs, lands, settles, ‵, raw, ◌⊛◌, some, given, later, at_ret, ◌$◌, ◌∵◌, !, qed, by, move, keep, drop, use0, use1, use2, split, join, group, fsplit, fsplit3, fjoin, fjoin3, feq_i, flt_i, flt_l, pick, learn, await, rewrite, regoal, suffices, fpack, done}
pub use types.Match.{live, vrt, in_variant}
pub use types.Part.{agg, look_in, store_in, sub, whole}
pub use types.Run.{Opds, enter, stop, fld, load, addr, lit, unit_lit, size_lit, align_word, of_opd, bin, no_more, and_then, first, blocks, exec, init, store, look, assigns, assigns_last, returns}
pub use types.ByLocal.{alloc_all, pass_all, free_all, look_at, get, get_in, get_tag, through, sets, sets_last, lands_as, lands_last, env}
pub use types.SemTy.{Body as Lends}
pub use contract.Monad.{fact, fact_i}
pub use contract.BorrowLft.{◌⊑◌}
pub use contract.Running.{tables}
pub use denote.Builtin.{RefOf, usize}
pub use denote.Exit.{yes, no}
pub use denote.Index.{row, others, place_is, takes, puts}
pub use denote.Laws.{Is, Typed, shows}
pub use denote.Memory.{lone, mem, cell_at, part_at, hidden_shr, shared_of, shares}
pub use denote.Opens.{hide, unhide, shr_dup}
pub use denote.Param.{param, layout, bounded}
pub use denote.Param.Laws.{Laws, param_laws}
pub use denote.Plain.{uint_vals, uint_Tells}
pub use denote.RattleType.{RattleType, owns}
pub use denote.RawPtr.{Ptr, RawPtr, block_ptr, ptr_val, in_a_block, ptr_row_laws}
pub use denote.Ref.{mut_vals, mut_Tells, shr_vals, shr_Tells}
pub use denote.Shadow.{makes_shadow}
pub use denote.Signature.{types_at, plain}
pub use denote.Steps.{nothing, heard, opens, closes, peeks}
pub use denote.Struct.Struct.{Struct}
pub use denote.Struct.Owning.{shape}
pub use denote.Triple.Call.{calls_at, calls_at_last}
pub use denote.Triple.Table.{framed}
pub use denote.Triple.Walked.{Stays, stay_dropped, stay_ref, walk_of, Goes-dropped, Goes-ref}
pub use Rattle.std.specs.Mem.{type_size}
pub use Rattle.std.specs.Prelude.{Some, Ok, Err, IfOk, slice_get}
pub use Rattle.std.specs.declared.alloc.Allocator.{Ghosts}
pub use Rattle.std.proofs.alloc.Calls.{Goes-blank}
pub use Rattle.std.proofs.raw_atomic.Walks.{proved, proved_at, leaves}
pub use Rattle.std.proofs.VecSteps.El.{El, no_al}
pub use Rattle.std.proofs.VecSteps.Rows.{el_in, el_out, row_cut, row_glue, spare, unspare}
pub use Rattle.std.proofs.VecSteps.Shapes.{after}
