-- The names that the proofs share, in one place.
pub use Rattle.std.proofs.Common.{Bool, IsFalse, IsTrue, List, None, Option, Some, [], ap, append_assoc, ap₂, arith, eq-eqb, false, filter, get_or}
pub use Rattle.std.proofs.Common.{if◌then◌else◌, inl, inr, is_none, length, map, nat_lt, ne_eqb, not, option_map, refl, set, slice_get, subst, suc, sym, true}
pub use Rattle.std.proofs.Common.{zero, ℕ, ◌&&◌, ◌++◌, ◌+◌, ◌<◌, ◌==◌, ◌||◌, ◌↔◌, ◌∙◌, ◌∷◌, ◌≡◌, ◌≢◌, ◌≤◌, ◌⊎◌}
pub use Rattle.std.proofs.lemmas.Bool.{and_parts, cases_eq}
pub use Rattle.std.proofs.lemmas.List.{get_or-set_other, get_or-set_same, length-set, set-get_or, get_or_append_left, get_or_push, length-append, length-map}
pub use Rattle.std.proofs.lemmas.List.{append-nil, length_push, map-set, map_push, nil_from_length}
pub use Rattle.std.proofs.lemmas.List.Elements.{filter-append}
pub use Rattle.std.proofs.lemmas.Option.{get_or_from_slice_get, slice_get-get_or, slice_get_within}
pub use Rattle.arcstr_count.specs.Answer.{needs, refusal_by, refusal_unless}
pub use Rattle.arcstr_count.specs.Laws.{HoldsInEveryInterleaving}
pub use Rattle.arcstr_count.specs.Model.{StandsAfter, State, accepted, after, after_from, block_on, blocks_with_given, blocks_with_word, dropping_after}
pub use Rattle.arcstr_count.specs.Model.{given_after, given_in, handles_on, handles_with_state, is_dropping, is_owing, lives, living_after, look_reply}
pub use Rattle.arcstr_count.specs.Model.{makes_after, marked_after, no_block, no_handle, numbers_below, owing_after, refusal_in, replies, replies_from, start}
pub use Rattle.arcstr_count.specs.Model.{state_in, state_on, step, unless_refused, word_after, word_in, word_on}
pub use Rattle.arcstr_count.specs.OneBlock.{EndsIn, IsInUse, IsOneBlock, Keeps, are_accepted}
pub use Rattle.arcstr_count.specs.Word.{FlagAndCount, cloned_of, dropped_of, fresh_word, is_last, looked_of, marked_of}
pub use Rattle.arcstr_count.specs.declared.faults.StepFault.{StepFault}
pub use Rattle.arcstr_count.specs.declared.faults.StepFault.TheVariants.{InDrop, IsRaw, NoHandle, NotInDrop, NotOwing, NotRaw}
pub use Rattle.arcstr_count.specs.declared.steps.BlockSummary.{BlockSummary}
pub use Rattle.arcstr_count.specs.declared.steps.HandleState.{HandleState}
pub use Rattle.arcstr_count.specs.declared.steps.HandleState.TheVariants.{Dropping, Free, Gone, Owing, Raw}
pub use Rattle.arcstr_count.specs.declared.steps.HandleSummary.{HandleSummary}
pub use Rattle.arcstr_count.specs.declared.steps.Reply.{Reply}
pub use Rattle.arcstr_count.specs.declared.steps.Reply.TheVariants.{Count, Ended, Given, Handle, Left, Looked, Made, Marked, Owes, Raw as RawReply, Refused}
pub use Rattle.arcstr_count.specs.declared.steps.Reply.TheVariants.{Static, Unraw}
pub use Rattle.arcstr_count.specs.declared.steps.Step.{Step}
pub use Rattle.arcstr_count.specs.declared.steps.Step.TheVariants.{Back, Begin, Clone, FromRaw, IntoRaw, Leak, Look, Make, Sub}
