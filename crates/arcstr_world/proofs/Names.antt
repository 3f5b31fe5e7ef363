-- The names that the proofs share, in one place.
pub use Rattle.std.proofs.Common.{Bool, Contains, IfSome, IsFalse, IsTrue, List, None, Option, Some, [], ap, append_assoc, ap₂, arith, eq-eqb, eqb-true, false}
pub use Rattle.std.proofs.Common.{filter, get_or, if◌then◌else◌, inl, inr, is_none, length, lt-ltb, ltb-false, ltb-true, nat_lt, ne_eqb, not, option_map, refl}
pub use Rattle.std.proofs.Common.{set, slice_get, slice_index, subst, suc, sym, take, true, true≢false, zero, ℕ, ◌&&◌, ◌++◌, ◌+◌, ◌<◌, ◌==◌, ◌||◌, ◌↔◌}
pub use Rattle.std.proofs.Common.{◌∙◌, ◌∷◌, ◌≡◌, ◌≢◌, ◌≤◌, ◌⊎◌}
pub use Rattle.std.proofs.Math.Logic.{∥∥₁_elim, ∥∥₁_map}
pub use Rattle.std.proofs.Math.Seq.{take-append_seam}
pub use Rattle.std.proofs.Props.{props}
pub use Rattle.std.proofs.lemmas.Bool.{and_from, and_parts, cases_eq, not-true, or_cases, or_left, or_right}
pub use Rattle.std.proofs.lemmas.List.{get_or_past, length-set, length_push, take-append-le, take_all, take_more}
pub use Rattle.std.proofs.lemmas.List.Elements.{Contains-append_cases, Contains-append_left, Contains-push, Contains-push_cases, filter-append}
pub use Rattle.std.proofs.lemmas.List.Kept.{IsStrictlyIncreasing-filter}
pub use Rattle.std.proofs.lemmas.Option.{get_or_from_slice_get, slice_get_within}
pub use Rattle.std.specs.List.Sorted.{IsStrictlyIncreasing}
pub use Rattle.arcstr_count.specs.Answer.{Need, needs, refusal_by, refusal_unless}
pub use Rattle.arcstr_count.specs.Model.{State, accepted, after, after_from, answer_after, block_on, dropping_after, given_after, given_in, handles_on}
pub use Rattle.arcstr_count.specs.Model.{handles_with_state, is_dropping, is_owing, lives, living_after, look_reply, makes_after, marked_after, no_block}
pub use Rattle.arcstr_count.specs.Model.{no_handle, numbers_below, owing_after, refusal_in, replies_from, start, state_in, state_on, step}
pub use Rattle.arcstr_count.specs.Model.{unless_refused, word_in, word_on}
pub use Rattle.arcstr_count.specs.Word.{cloned_of, is_last, looked_of}
pub use Rattle.arcstr_count.specs.declared.faults.StepFault.{StepFault}
pub use Rattle.arcstr_count.specs.declared.steps.BlockSummary.{BlockSummary}
pub use Rattle.arcstr_count.specs.declared.steps.HandleState.{HandleState}
pub use Rattle.arcstr_count.specs.declared.steps.HandleState.TheVariants.{Dropping, Free, Gone, Owing, Raw}
pub use Rattle.arcstr_count.specs.declared.steps.HandleSummary.{HandleSummary}
pub use Rattle.arcstr_count.specs.declared.steps.Reply.{Reply}
pub use Rattle.arcstr_count.specs.declared.steps.Reply.TheVariants.{Count, Refused, Static}
pub use Rattle.arcstr_count.specs.declared.steps.Step.{Step}
pub use Rattle.arcstr_count.specs.declared.steps.Step.TheVariants.{Back, Begin, Clone, FromRaw, IntoRaw, Leak, Look, Make, Sub}
pub use Rattle.arcstr_world.specs.Sentences.{AcceptedAnswer, AcceptedSentence, AcceptedWhere, AnswerSentence, BeganUnmarked, BornSentence, ByFact}
pub use Rattle.arcstr_world.specs.Sentences.{FirstThatHolds, HasAccepted, LastIsIntoRaw, LivesAlone, LivingSentence, MarkedSentence, OwesSentence}
pub use Rattle.arcstr_world.specs.Sentences.{StateSentence, UnderWaySentence, accepted_after, accepted_count, births_after, block_after, given_count}
pub use Rattle.arcstr_world.specs.Sentences.{is_back_on, is_make, passes_after, state_after}
pub use Rattle.arcstr_world.specs.Worlds.{HasHistory, IsSound, IsWorld, WorldView, is_birth}
