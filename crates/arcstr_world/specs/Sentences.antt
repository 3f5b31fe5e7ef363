-- What the model means, each as a sentence about the prefixes of a history.
--
-- A history is the list of its steps in their natural order. A prefix of it has its first n steps, for some n.
-- The laws in `src/sentences.rt` prove each sentence equal to what the step function gives.
use Rattle.std.specs.Prelude.{◌≡◌, ℕ, ◌<◌, Bool, true, false, ◌&&◌, ◌==◌, ◌⊎◌, IsTrue, IsFalse, Option, None, Some, IfSome, is_none}
use Rattle.std.specs.Prelude.{List, [], ◌∷◌, ◌++◌, length, filter, take, slice_get}
use Rattle.arcstr_count.specs.declared.steps.Step.{Step}
use Rattle.arcstr_count.specs.declared.steps.Step.TheVariants.{Make, Look, Clone, Begin, Sub, Back, Leak, IntoRaw, FromRaw}
use Rattle.arcstr_count.specs.declared.steps.HandleState.{HandleState}
use Rattle.arcstr_count.specs.declared.steps.HandleState.TheVariants.{Free, Raw, Dropping, Owing, Gone}
use Rattle.arcstr_count.specs.declared.steps.Reply.{Reply}
use Rattle.arcstr_count.specs.declared.steps.Reply.TheVariants.{Made, Count, Static, Handle, Looked, Ended, Left, Owes}
use Rattle.arcstr_count.specs.declared.steps.Reply.TheVariants.{Given, Marked, Raw as RawReply, Unraw, Refused}
use Rattle.arcstr_count.specs.declared.faults.StepFault.{StepFault}
use Rattle.arcstr_count.specs.Answer.{needs, refusal_by}
use Rattle.arcstr_count.specs.Model.{numbers_below, refusal_in, block_on, state_in, after, makes_after, marked_after, living_after}

-- ---- what a history leaves

-- the step is accepted after the history
abbrev pub accepted_after : ℕ → List Step → Step → Bool
accepted_after limit history s = is_none (refusal_in (after limit history) s)

-- how many handles were born
abbrev pub births_after : ℕ → List Step → ℕ
births_after limit history = length (after limit history).handles

-- the block of a handle, and its state; `None` for one that was never born
abbrev pub block_after : ℕ → List Step → ℕ → ℕ
block_after limit history h = block_on (after limit history) h

abbrev pub state_after : ℕ → List Step → ℕ → Option HandleState
state_after limit history h = state_in (after limit history) h

-- ---- steps in a history

-- `Make` makes a block
abbrev pub is_make : Step → Bool
is_make Make = true
is_make s = false

-- Somewhere in the history the step is accepted, after a prefix of which P holds.
pub record AcceptedWhere (limit : ℕ) (history : List Step) (s : Step) (P : List Step → Type 0) : Type 0 where
  pub prefix : List Step
  pub later : List Step
  pub stands : history ≡ prefix ++ s ∷ later
  pub accepted : IsTrue (accepted_after limit prefix s)
  pub there : P prefix

-- The history has an accepted step s.
abbrev pub HasAccepted : ℕ → List Step → Step → Type 0
HasAccepted limit history s = AcceptedWhere limit history s (λ prefix. Unit {0})

-- the step at an index of a history is accepted after the prefix before it, and passes the test there
abbrev pub passes_after : ℕ → List Step → (List Step → Step → Bool) → Option Step → Bool
passes_after limit prefix test None = false
passes_after limit prefix test (Some s) = accepted_after limit prefix s && test prefix s

-- The number of the history's accepted steps that pass the test: the number of indices i at which a step stands that
-- is accepted after the first i steps and passes the test after them.
abbrev pub accepted_count : ℕ → List Step → (List Step → Step → Bool) → ℕ
accepted_count limit history test =
    length (filter (λ i. passes_after limit (take i history) test (slice_get history i)) (numbers_below (length history)))

-- ---- accepted

-- A step is accepted after a history if its handle is there in the state that the step needs: free for `Look`, `Clone`, `Begin`, `Leak` and `IntoRaw`,
-- dropping for `Sub`, owing for `Back` and raw for `FromRaw`. `Make` is always accepted.
abbrev pub AcceptedSentence : ℕ → List Step → Step → Type 0
AcceptedSentence limit history s = IfSome (needs s) (λ need. state_after limit history need.handle ≡ Some need.state)

-- ---- births

-- Handle h is born on block b: at an accepted `Make` with h births before it, where b is the number of
-- `Make`s before it; or at an accepted `Clone` with h births before it, of a handle on b.
abbrev pub BornSentence : ℕ → List Step → ℕ → ℕ → Type 0
BornSentence limit history h b =
    AcceptedWhere limit history Make (λ prefix. (births_after limit prefix ≡ h) × (makes_after limit prefix ≡ b))
    ⊎ ((g : ℕ) × AcceptedWhere limit history (Clone g) (λ prefix. (births_after limit prefix ≡ h) × (block_after limit prefix g ≡ b)))

-- ---- marked

-- The history has an accepted `Leak` of a handle on block b.
abbrev pub HasLeak : ℕ → List Step → ℕ → Type 0
HasLeak limit history b = (h : ℕ) × AcceptedWhere limit history (Leak h) (λ prefix. block_after limit prefix h ≡ b)

-- Handle h stands on block b, which is unmarked, and more than `limit` handles live on b.
abbrev pub IsFull : ℕ → List Step → ℕ → ℕ → Type 0
IsFull limit prefix h b =
    (block_after limit prefix h ≡ b) × IsFalse (marked_after limit prefix b) × (limit < length (living_after limit prefix b))

-- The history has an accepted `Clone` of a handle on block b, after a prefix that leaves b unmarked and more than
-- `limit` handles living on b.
abbrev pub HasClonePastLimit : ℕ → List Step → ℕ → Type 0
HasClonePastLimit limit history b = (h : ℕ) × AcceptedWhere limit history (Clone h) (λ prefix. IsFull limit prefix h b)

-- Block b is marked after a history that has an accepted `Leak` on it, or an accepted `Clone` on it after a
-- prefix that leaves b unmarked and more than `limit` handles living on b.
abbrev pub MarkedSentence : ℕ → List Step → ℕ → Type 0
MarkedSentence limit history b = HasLeak limit history b ⊎ HasClonePastLimit limit history b

-- ---- the state of a handle

-- The last accepted step among `IntoRaw h` and `FromRaw h` in the history is `IntoRaw h`: it is accepted after a
-- prefix, and neither of the two is accepted later.
pub record LastIsIntoRaw (limit : ℕ) (history : List Step) (h : ℕ) : Type 0 where
  pub prefix : List Step
  pub later : List Step
  pub stands : history ≡ prefix ++ IntoRaw h ∷ later
  pub accepted : IsTrue (accepted_after limit prefix (IntoRaw h))
  pub last : (more rest : List Step) (s : Step) → later ≡ more ++ s ∷ rest → (s ≡ IntoRaw h) ⊎ (s ≡ FromRaw h)
      → IsFalse (accepted_after limit (prefix ++ IntoRaw h ∷ more) s)

-- The history has an accepted `Begin h` after a prefix that leaves the block of h unmarked.
abbrev pub BeganUnmarked : ℕ → List Step → ℕ → Type 0
BeganUnmarked limit history h =
    AcceptedWhere limit history (Begin h) (λ prefix. IsFalse (marked_after limit prefix (block_after limit prefix h)))

-- The block of h is unmarked, and h is the only handle that lives on it.
abbrev pub LivesAlone : ℕ → List Step → ℕ → Type 0
LivesAlone limit prefix h =
    IsFalse (marked_after limit prefix (block_after limit prefix h))
    × (living_after limit prefix (block_after limit prefix h) ≡ h ∷ [])

-- Handle h owes its block after a history that has no accepted `Back h`, and has an accepted `Sub h` after a prefix
-- that leaves the block unmarked and h the only handle living on it.
abbrev pub OwesSentence : ℕ → List Step → ℕ → Type 0
OwesSentence limit history h =
    AcceptedWhere limit history (Sub h) (λ prefix. LivesAlone limit prefix h)
    × (¬ HasAccepted limit history (Back h))

-- Raw, if the first fact holds; else free, if the second does; else dropping, if the third does; else owing,
-- if the fourth does; else gone.
abbrev pub FirstThatHolds : (raw free dropping owing : Type 0) → HandleState → Type 0
FirstThatHolds raw free dropping owing Raw = raw
FirstThatHolds raw free dropping owing Free = (¬ raw) × free
FirstThatHolds raw free dropping owing Dropping = (¬ raw) × (¬ free) × dropping
FirstThatHolds raw free dropping owing Owing = (¬ raw) × (¬ free) × (¬ dropping) × owing
FirstThatHolds raw free dropping owing Gone = (¬ raw) × (¬ free) × (¬ dropping) × (¬ owing)

-- After a history a handle that was born is raw, if the last accepted step among `IntoRaw h` and `FromRaw h` is
-- `IntoRaw h`; else free, if the history has no accepted `Begin h`; else dropping, if that `Begin h` came while
-- its block was unmarked and the history has no accepted `Sub h`; else owing, if it owes; else gone.
abbrev pub StateSentence : ℕ → List Step → ℕ → HandleState → Type 0
StateSentence limit history h state = FirstThatHolds
    (LastIsIntoRaw limit history h)
    (¬ HasAccepted limit history (Begin h))
    (BeganUnmarked limit history h × (¬ HasAccepted limit history (Sub h)))
    (OwesSentence limit history h)
    state

-- ---- living

-- Handle h is a living handle on block b: it stands on b, and is free, raw or dropping.
abbrev pub LivingSentence : ℕ → List Step → ℕ → ℕ → Type 0
LivingSentence limit history b h =
    (block_after limit history h ≡ b)
    × ((state_after limit history h ≡ Some Free)
    ⊎ ((state_after limit history h ≡ Some Raw) ⊎ (state_after limit history h ≡ Some Dropping)))

-- ---- a drop under way

-- A drop is under way on block b: some handle on b is dropping or owing.
abbrev pub UnderWaySentence : ℕ → List Step → ℕ → Type 0
UnderWaySentence limit history b =
    (h : ℕ) × (block_after limit history h ≡ b)
    × ((state_after limit history h ≡ Some Dropping) ⊎ (state_after limit history h ≡ Some Owing))

-- ---- how often a block was freed

-- `Back` of a handle whose block is b
abbrev pub is_back_on : (block : ℕ → ℕ) → ℕ → Step → Bool
is_back_on block b (Back h) = block h == b
is_back_on block b s = false

-- How often a block was freed: the number of accepted `Back` steps on it.
abbrev pub given_count : ℕ → List Step → ℕ → ℕ
given_count limit history b = accepted_count limit history (λ prefix s. is_back_on (λ h. block_after limit prefix h) b s)

-- ---- answers

-- Why a step is refused after a history: the table of refusals has this fault for the state that the step needs and the
-- state of its handle there. `Make` is never refused.
abbrev pub RefusedSentence : ℕ → List Step → Step → StepFault → Type 0
RefusedSentence limit history s fault = refusal_by (λ h. state_after limit history h) (needs s) ≡ Some fault

-- The first reply if the fact holds, else the second one.
abbrev pub ByFact : Type 0 → (holds fails reply : Reply) → Type 0
ByFact fact holds fails reply = (fact × (reply ≡ holds)) ⊎ ((¬ fact) × (reply ≡ fails))

-- The block of h is marked.
abbrev pub IsOnMarked : ℕ → List Step → ℕ → Type 0
IsOnMarked limit history h = IsTrue (marked_after limit history (block_after limit history h))

-- What an accepted step answers: `Make` and `Clone` the number of handles born before it; `Look` `Static` at a marked
-- block, else how many handles live on it; `Begin` `Ended` on a marked block, else `Looked`; `Sub` `Owes` if its block
-- is unmarked and no other handle lives on it, else `Left`. Each other step has one reply.
abbrev pub AcceptedAnswer : ℕ → List Step → Step → Reply → Type 0
AcceptedAnswer limit history Make reply = reply ≡ Made (births_after limit history)
AcceptedAnswer limit history (Look h) reply =
    ByFact (IsOnMarked limit history h) Static (Count (length (living_after limit history (block_after limit history h)))) reply
AcceptedAnswer limit history (Clone h) reply = reply ≡ Handle (births_after limit history)
AcceptedAnswer limit history (Begin h) reply = ByFact (IsOnMarked limit history h) Ended Looked reply
AcceptedAnswer limit history (Sub h) reply = ByFact (LivesAlone limit history h) Owes Left reply
AcceptedAnswer limit history (Back h) reply = reply ≡ Given
AcceptedAnswer limit history (Leak h) reply = reply ≡ Marked
AcceptedAnswer limit history (IntoRaw h) reply = reply ≡ RawReply
AcceptedAnswer limit history (FromRaw h) reply = reply ≡ Unraw

-- The reply to a step after a history: what it answers if it is accepted, else the fault for which it is refused.
abbrev pub AnswerSentence : ℕ → List Step → Step → Reply → Type 0
AnswerSentence limit history s reply =
    (AcceptedSentence limit history s × AcceptedAnswer limit history s reply)
    ⊎ ((fault : StepFault) × RefusedSentence limit history s fault × (reply ≡ Refused fault))
