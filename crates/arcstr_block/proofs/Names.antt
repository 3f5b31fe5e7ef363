-- The names of the kit, of `arcstr_count` and of this crate's definitions that the proofs use, and the operators that a proof opens. Assumes `Logic`.
pub use Rattle.std.proofs.Common.{◌≡◌, ℕ, ◌-◌, ◌^◌, Bool, true, [], ◌∷◌, refl, arith, lit<, false, List, sym, subst, inl, inr, ◌≢◌, ap, length, zero, suc, ◌+◌}
pub use Rattle.std.proofs.Common.{◌<◌, ◌++◌, set, Some, if◌then◌else◌, eqb, eq-eqb, ne_eqb, ◌∙◌, ◌==◌, Option, None, ◌≤◌, ◌*◌, w64, T, ◌/◌, append_assoc}
pub use Rattle.std.proofs.Common.{length-append, get_or, ◌%◌, replicate, eqb-true}
pub use Rattle.std.proofs.Math.Seq.{take-append_seam, take-length}
pub use Rattle.std.proofs.lemmas.List.{append-nil, length-take-le, nil_from_length}
pub use Rattle.std.proofs.lemmas.Str.{IsUtf8-append, IsUtf8-nil}
pub use Rattle.std.specs.List.{repeat, join_by, flat_map}
pub use Rattle.std.specs.Prelude.{slice_get, bit_or, take, IsUtf8, ◌⊎◌}
pub use mathlib.Core.List.{IsPrefix, cons≢nil, head-eq_of_cons-eq, tail-eq_of_cons-eq, Mem, not-mem-nil}
pub use mathlib.Core.Logic.{dite}
pub use native.Mathlib.Decide.{ℕ_discrete, dec_le}
pub use native.Mathlib.Nat.{suc-mul, mul-zero, mul-le-mul_right}
pub use seplogic.Ra.Ura.{Ura}
pub use mir.MapTy.{inst_fn}
pub use mir.Raw.{raw as bare}
pub use mir.Syntax.{Ty, w8, ty_int, ty_array, tcons, tnil, ty_ptr, ty_struct, dcons, dnil, a_type, named, ty_unit, Fn, Args, Dict, Body}
pub use mir.Val.{Val, vint, vptr, vstruct, of_list, has_ty, WT, vcons, vnil, vunit}
pub use prog.Atomic.{either}
pub use prog.Wp.{WpFn, Env, Calls, Loops, Tables, Wp, after_seq, at_return}
pub use base.Before.{before}
pub use base.Fml.{Lft, Share, Incl, Incl-trans, Fml, fsep, fex, flft, finv, GName, fdead, fshr_bor, ftrue, fall, feq, fwand, froom, fobor, fupd, fbor, fnamed}
pub use base.Fml.{flent, fobs, fhide, Incl-refl}
unfoldable pub use base.Fml.{fseps}
pub use base.Fraction.{full_share}
pub use base.FractionLaws.{Counts-all, not-OpDef-full_share, Counts, counts_some, Counts-op}
pub use base.Growing.{growing, Least}
unfoldable pub use base.Growing.{latest, at_least}
pub use base.Logic.{emp, via, all_i, upd, never, never_e, guard, guard_i, ex, guard_e, upd_i, upd_mono, ex_e, id⊢, SProp, ent, sep, apply∗, all_e, snd∗, wand}
pub use base.Logic.{ex_i, mono_r}
pub use base.Share.{quarter, three_quarters, three_quarters_once}
pub use contract.BorrowLft.{meet_⊑_left, meet_⊑_right, ⊑_static, ◌⊑◌, ⊑_refl}
pub use contract.Monad.{fact, fact_i, Fun}
pub use contract.Running.{tables}
unfoldable pub use contract.Running.{tables_of}
pub use denote.Array.{Array, Array-row_laws}
pub use denote.Builtin.{u8, usize, u64, RefMutOf, SliceRefMutOf, unit}
pub use denote.Exit.{no, left, yes}
pub use denote.Laws.{Is, shows}
pub use denote.Memory.{cell_at, part_at, mem, hidden_shr}
unfoldable pub use denote.Memory.{part_of}
pub use denote.Opens.{Opens, unhide, hide}
pub use denote.Param.{param, bounded}
pub use denote.Param.Laws.{Laws, of_field}
pub use denote.Param.Send.{IsSend, IsSync, Common, AllSend, Frees, owning_send, struct_send, struct_sync, sendable}
pub use denote.Param.Shared.{copy_shared}
pub use denote.Plain.{uint_vals, uint_Tells}
pub use denote.RattleType.{RattleType, Valss, owns}
pub use denote.RawPtr.{block_of, Ptr, block_ptr, RawPtr, null_ptr, ptr_val, InBlock, count_of, at_block, in_block}
pub use denote.RawPtr.Bytes.{bytes, bytes_apart, bytes-room, bytes_whole}
pub use denote.Ref.{shr_vals, shr_Tells, MutBor, MutRef}
pub use denote.Shadow.{makes_shadow}
pub use denote.Sharing.{ShrLaws, said, beside, always, held}
pub use denote.SharingLaws.{beside_shr_laws, one_shr_laws, always_shr_laws, held_shr_laws, nothing_shr_laws, contraction, said_shr_laws, some_shr_laws}
pub use denote.Signature.{types_at, plain, mut_ref_to}
pub use denote.Slice.{slice_val, MutSlice}
pub use denote.Steps.{nothing, heard, only, peeks, nothing as no_item, opens, looks, shuts}
pub use denote.Struct.Field.{u8-field, u64-field, RawPtr-field}
pub use denote.Struct.Laws.{u8-laws, u8-copy, u64-laws, u64-copy, RawPtr-copy, field_copy}
pub use denote.Struct.Lending.{Lends, lent_at, lent_at_shr_laws, Lends-both, Lends-first, Lends-lies, Lends-nothing, of_Lends, lent_out, Lends-said}
pub use denote.Struct.Owning.{shape, fields, to}
pub use denote.Struct.Struct.{Struct, exits_of, within}
pub use denote.Struct.Tuple.{Tuple, tuple_type}
pub use denote.Triple.Call.{calls_at_last, calls_at}
pub use denote.Triple.Entry.{on_entry, alive}
pub use denote.Triple.Spec.{triple_of, Meets}
pub use denote.Triple.Walked.{Stays, stay_dropped, walk_of, Goes-dropped, says, needs, ends_at, Goes-spent_ref, walk_Meets}
pub use types.ByLocal.{alloc_all, pass_all, free_all, look_at, get, get_in, sets, lands_last, env, through, sets_last, is, get_tag, lands_as}
pub use types.Growing.{latest_new, latest_grows, latest_shows, latest_bounds, at_least_dup, at_least_join}
pub use types.Keyed.{entry, entries_take, entries_beside, entry_cut, entry_glue, entry_set, entries_new, entry_keyless, entries_keyless}
pub use types.Kit.{‵, ◌⊛◌, some, later, ◌$◌, ◌∵◌, !, qed, move, group, pick, use0, use1, use2, split, split3, join, fsplit, fjoin, fjoin3, fpick, fpack, await}
pub use types.Kit.{updating, now, done, raw, by, keep, fsplit3, assume, given, drop, learn, check, rewrite, suffices, settle, show, feq_l, feq_i, flt_l, flt_i}
pub use types.Kit.{frame, use3, each, at_ret, Item, ⋆, any_q, mean}
pub use types.Logic.{Logic, sem}
pub use types.Owned.{basic, own_sum}
pub use types.Part.{sub, whole, agg, look_in}
pub use types.Run.{stop, fld, lit, unit_lit, of_opd, no_more, and_then, first, blocks, exec, returns, enter, load, addr, bin, switches_on, init, assigns}
pub use types.Run.{Calls-last}
pub use types.Tokens.{lft_new, bor_new, shr_bor-open, obor_close, bor_fracture, lent_back, bor_open, obor_alter}
pub use types.Within.{tokens_halve}
pub use Rattle.core.proofs.alloc.Calls.{Al, Gives, at_gives, Gives-goes, Gives-Gives, Answer-typed, Takes, at_takes, Answered, Takes-goes, Takes-gives, answers}
pub use Rattle.core.proofs.atomic.Steps.{tail}
pub use Rattle.core.proofs.slots.Opens.{words_val}
pub use Rattle.core.proofs.tally.Steps.{word_out, word_in}
pub use Rattle.core.specs.Mem.Slots.{SamePlaces}
pub use Rattle.core.specs.Mem.Slots.Ownership.{slot, slots, owned, Filled}
pub use Rattle.core.specs.Sync.RawAtomic.{word, Shift, rests, ends, picks, enters, if_none, along, back, asks}
pub use Rattle.core.specs.declared.alloc.Allocator.{Ghosts}
pub use Rattle.core.specs.declared.slots.Slots.{Slots}
pub use Rattle.atomic_table.proofs.Calls.{found, fm, seq_cst, finds, loads, ors, exchanges, subs}
pub use Rattle.atomic_table.proofs.Walks.{leaves, proved}
pub use Rattle.atomic_table.specs.Seated.{itself, halved, unused, roster}
pub use Rattle.logbook.proofs.Fields.{lends_twice, Token, token, token_made}
pub use Rattle.arcstr_count.specs.Model.{look_reply}
pub use Rattle.arcstr_count.specs.OneBlock.{Keeps, EndsIn, IsOneBlock}
pub use Rattle.arcstr_count.specs.Word.{FlagAndCount, looked_of, cloned_of, is_last, marked_of, dropped_of, bits_of, fresh_word}
pub use Rattle.arcstr_count.specs.declared.steps.HandleState.{HandleState}
pub use Rattle.arcstr_count.specs.declared.steps.HandleState.TheVariants.{Free, Dropping, Owing, Gone}
pub use Rattle.arcstr_count.specs.declared.steps.Reply.TheVariants.{Ended, Looked, Owes, Left, Handle, Marked, Given, Count}
pub use Rattle.arcstr_count.specs.declared.steps.Step.{Step}
pub use Rattle.arcstr_count.specs.declared.steps.Step.TheVariants.{Make, Look, Clone, Begin, Sub, Back, Leak}
pub use Rattle.arcstr_block.specs.Book.{BlockName, IsLater, Book, reached, seat, steps, state_code, seat_share, book, Ends, reached_ending}
pub use Rattle.arcstr_block.specs.Handle.{IsMarkedIn}
pub use Rattle.arcstr_block.specs.Ledger.{Id, parts, unmarked, Ledger, counting, if_alive, Inv, knows, free, held_with, some_share, Phase, marked, IsPhaseOf}
pub use Rattle.arcstr_block.specs.Ledger.{rest, phase, right_to, of_block, shown, free_shown, known, permanent, with_share, seen, stated, of_block_shown}
pub use Rattle.arcstr_block.specs.Ledger.{pointer_shares}
pub use Rattle.arcstr_block.specs.Memory.{block_owns, block_shares, word_at, Fits, word_offset, block_size, block_type, length_at, rooms, word_lies}
pub use Rattle.arcstr_block.specs.Memory.{length_lies, text_lies, rim, IsText, sole_owns, in_memory}
pub use Rattle.arcstr_block.specs.Rights.{uncounted, counted, HasSeat, Right, dropping, owed, MaySee, IsFree, Looks, Finds, Gains, Begins, Leaves, fixed, Loads}
pub use Rattle.arcstr_block.specs.Rights.{right_index, right_at, right_at_index}
pub use Rattle.arcstr_block.specs.Steps.{LoadEnds, BornAs, ClonedAs}
pub use Rattle.arcstr_block.specs.Word.{IsLimit, word_of, IsMarked, IsClone, IsUnmarked, IsLast, one, IsCountWord}

pub record Operators {M : Type 1} (𝓤 : Ura M) : Type 3 where
  pub Pr : Type 2
  pub entails : Pr → Pr → Type 1
  pub both : Pr → Pr → Pr
  pub gives : Pr → Pr → Pr
  pub meaning : Fml → Pr

abbrev pub operators : {M : Type 1} {𝓤 : Ura M} → Logic 𝓤 → Operators 𝓤
operators {𝓤 = 𝓤} 𝓛 = record { Pr = SProp 𝓤; entails = ent 𝓤; both = sep 𝓤; gives = wand 𝓤; meaning = sem 𝓛 }
