-- The names that the walks of the raw steps cite, from one place.
pub use mathlib.Core.Path.{◌≡◌, refl, sym, ap, subst, ◌∙◌}
pub use mathlib.Core.Bool.{true, false}
pub use mathlib.Core.List.{List, [], ◌∷◌, ◌++◌, map}
pub use Prim.Native.Nat.{ℕ, zero, suc, ◌+◌, ◌-◌, ◌*◌, ◌≤◌, ◌<◌, ◌^◌}
pub use native.Mathlib.Omega.{arith}
pub use lib.Dec.{T, lit<}
pub use lib.ListN.{length, take, drop, replicate, length-replicate, length-append, length-take, length-drop, take-append-drop}
pub use seplogic.Ra.Ura.{Ura}
pub use base.Fraction.{full_share}
pub use base.Logic.{SProp, ent, sep, emp, ex, guard, never, via, id⊢, mono_r}
pub use base.Fml.{Fml, Lft, GName, Share, Incl-trans, ftrue, fsep, fat, froom, flft, fobs, fbor}
pub use mir.Syntax.{Fn, Body, named, w64, ty_unit, ty_array}
pub use mir.MapTy.{inst_fn}
pub use mir.Val.{Val, vptr, vint, vunit, vstruct, vcons, vnil, of_list, has_ty, WT}
pub use prog.Memory.{Memory, align, capped}
pub use prog.Capped.{capped_fits}
pub use prog.Routine.{Routine}
pub use prog.Wp.{Env, Calls, Loops, Wp, WpFn, Tables, after_seq, at_return}
pub use contract.Monad.{Fun, fact, fact_i}
pub use contract.BorrowLft.{◌⊑◌}
pub use contract.Running.{tables}
unfoldable pub use contract.Running.{tables_of}
pub use sound.WpLaws.{WpFn-mono, FmC, fm_of}
pub use types.Logic.{Logic, sem}
pub use types.SemTy.{cells}
pub use types.SemTy.{Body as Borrowed}
pub use types.Kit.{Item, Goal, Seq, Step, step, prop, ⋆, ‵, raw, some, given, later, ◌⊛◌, at_ret, any_q, ◌$◌, ◌∵◌, !, qed, by, move, keep}
pub use types.Kit.{use0, use1, use2, use3, pick, learn, await, split, join, group, check, show, frame, fsplit, fsplit3, fjoin, fjoin3}
pub use types.Kit.{fpick, fpack, feq_i, feq_l, flt_i, flt_l, rewrite, suffices, done}
pub use types.Kit.{drop as skip, Post as After}
pub use types.Part.{whole, sub, agg}
pub use types.Match.{live, vrt, in_variant}
pub use types.Run.{init, stop, fld, from, lit, unit_lit, size_lit, size_word, align_word, of_opd, bin, addr, and_then, no_more}
pub use types.Run.{assigns_last, first, branches, skips, switches_on, blocks, exec, returns, enter}
pub use types.ByLocal.{alloc_all, pass_all, free_all, look_at, take_at, give_at, get, get_in, get_tag, through, sets, sets_last, lands_as}
pub use types.ByLocal.{lands_last, is, env}
pub use denote.Exit.{yes, no}
pub use denote.RattleType.{RattleType, Valss, owns}
pub use denote.Laws.{Typed, Is, shows}
pub use denote.Memory.{mem, cell_at, part_at, hidden_shr}
unfoldable pub use denote.Memory.{part_of}
pub use denote.Opens.{hide, unhide}
pub use denote.Param.{param, layout}
pub use denote.Param.Laws.{Laws, param_laws}
pub use denote.RawPtr.{Ptr, RawPtr, block_ptr, null_ptr, ptr_val, in_a_block}
pub use denote.Ref.{Bor, MutBor, ShrRef, MutRef}
pub use denote.Slice.{ShrSlice, MutSlice, slice_val, elements_shared}
pub use denote.Array.{Array}
pub use denote.Builtin.{RefOf, RefMutOf, SliceRefOf, SliceRefMutOf, usize, unit}
pub use denote.Signature.{plain, mut_ref_to}
pub use denote.Steps.{nothing, peeks, owned, opens, closes}
pub use denote.Struct.Struct.{Shape, Struct, Struct-Makes, within}
pub use denote.Struct.Owning.{shape}
pub use denote.Struct.Tuple.{Tuple, tuple_type}
pub use denote.Triple.Call.{calls_at, calls_at_last}
pub use denote.Triple.Carry.{spared}
pub use denote.Triple.Clauses.{Clauses, Ended, closing}
pub use denote.Triple.Entry.{on_entry}
pub use denote.Triple.Spec.{Meets, triple_of}
pub use denote.Triple.Statement.{Triple}
pub use denote.Triple.Table.{entered, run_framed}
pub use denote.Triple.Walked.{says, needs, Stays, stay_dropped, stay_ref, walk_of, ends_at, Goes-dropped, Goes-ref, Goes-spent_ref}
pub use denote.Triple.Walked.{walk_Meets}
pub use Rattle.core.proofs.alloc.Calls.{Al, second, token, takes_key, Takes, at_takes, Takes-goes, Takes-gives, Answered, Answer-typed}
pub use Rattle.core.proofs.alloc.Calls.{answers, gives_key, Gives, at_gives, Gives-goes, Gives-Gives, Goes-blank}
pub use Rattle.core.proofs.alloc.Shapes.{after, head, arm_body}
pub use Rattle.core.proofs.mem.Param.{El, R, el_x, elτ, args}
pub use Rattle.core.proofs.ptr.Rows.{times_below, one_below}
pub use Rattle.core.proofs.slots.Leases.{uncapped, block_ty, block_size, block_align, P}
pub use Rattle.std_alloc.proofs.RawLayout.{as_raw, as_written}
pub use Rattle.std_alloc.proofs.RcSteps.{Good, word, word-Good, first_Good}
pub use Rattle.std_alloc.proofs.ResultValues.{ok_of, err_of}
pub use Rattle.std.specs.Prelude.{Option, Some, None}
pub use Rattle.std.specs.Mem.{type_size}
