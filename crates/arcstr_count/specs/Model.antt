-- The model of counted blocks as one step function: from a state and a step to a state and a reply. Read this file first.
--
-- A state has an entry for each handle that was born, in the order of their births, with its block and its own state, and an
-- entry for each block that was made, in the order of their making, with its count word and how often it was freed. The count
-- word of an unmarked block is the number of the handles that live on it, after every history. This is the law `words_stand` of
-- Laws.antt, which `every_interleaving` proves; `StandsAfter` below says what it means for a marked block too.
use Rattle.std.specs.Prelude.{◌≡◌, ℕ, ◌+◌, ◌<◌, ◌≤◌, Bool, true, false, ◌&&◌, ◌==◌, if◌then◌else◌, List, [], ◌∷◌, ◌++◌, length}
use Rattle.std.specs.Prelude.{zero, suc, filter, Option, None, Some, option_map, slice_get, slice_index_or, slice_set, IsTrue, IsFalse}
use Rattle.arcstr_count.specs.declared.steps.Step.{Step}
use Rattle.arcstr_count.specs.declared.steps.Step.TheVariants.{Make, Look, Clone, Begin, Sub, Back, Leak, IntoRaw, FromRaw}
use Rattle.arcstr_count.specs.declared.steps.HandleState.{HandleState}
use Rattle.arcstr_count.specs.declared.steps.HandleState.TheVariants.{Free, Raw, Dropping, Owing, Gone}
use Rattle.arcstr_count.specs.declared.steps.HandleSummary.{HandleSummary}
use Rattle.arcstr_count.specs.declared.steps.Reply.{Reply}
use Rattle.arcstr_count.specs.declared.steps.Reply.TheVariants.{Made, Count, Static, Handle, Looked, Ended, Left, Owes}
use Rattle.arcstr_count.specs.declared.steps.Reply.TheVariants.{Given, Marked, Raw as RawReply, Unraw, Refused}
use Rattle.arcstr_count.specs.declared.faults.StepFault.{StepFault}
use Rattle.arcstr_count.specs.declared.steps.BlockSummary.{BlockSummary}
use Rattle.arcstr_count.specs.Word.{FlagAndCount, fresh_word, looked_of, cloned_of, dropped_of, is_last, marked_of}
use Rattle.arcstr_count.specs.Answer.{needs, refusal_by}

pub record State : Type 0 where
  pub handles : List HandleSummary
  pub blocks : List BlockSummary

abbrev pub state_of_tables : List HandleSummary → List BlockSummary → State
state_of_tables handles blocks = record { handles = handles; blocks = blocks }

-- before the first step
abbrev pub start : State
start = state_of_tables [] []

-- ---- entries

-- what a read past the end of a table finds; no accepted step reads there
abbrev pub no_handle : HandleSummary
no_handle = record { block = 0; state = Gone }

abbrev pub no_block : BlockSummary
no_block = record { word = fresh_word; given = 0 }

-- the block and the state of a handle
abbrev pub block_on : State → ℕ → ℕ
block_on w h = (slice_index_or w.handles h no_handle).block

abbrev pub state_on : State → ℕ → HandleState
state_on w h = (slice_index_or w.handles h no_handle).state

-- the state of a handle; `None` for one that was never born
abbrev pub state_in : State → ℕ → Option HandleState
state_in w h = option_map (λ (it : HandleSummary). it.state) (slice_get w.handles h)

-- the count word of a block, and how often it was freed
abbrev pub word_in : State → ℕ → FlagAndCount
word_in w b = (slice_index_or w.blocks b no_block).word

abbrev pub given_in : State → ℕ → ℕ
given_in w b = (slice_index_or w.blocks b no_block).given

-- the count word of the block of a handle
abbrev pub word_on : State → ℕ → FlagAndCount
word_on w h = word_in w (block_on w h)

-- the handle is in another state, on the same block
abbrev pub handles_with_state : List HandleSummary → ℕ → HandleState → List HandleSummary
handles_with_state handles h state =
    slice_set handles h (record { block = (slice_index_or handles h no_handle).block; state = state })

-- the block has another count word
abbrev pub blocks_with_word : List BlockSummary → ℕ → FlagAndCount → List BlockSummary
blocks_with_word blocks b word = slice_set blocks b (record { word = word; given = (slice_index_or blocks b no_block).given })

-- the block was freed once more
abbrev pub blocks_with_given : List BlockSummary → ℕ → List BlockSummary
blocks_with_given blocks b =
    slice_set blocks b (record { word = (slice_index_or blocks b no_block).word; given = (slice_index_or blocks b no_block).given + 1 })

-- ---- steps

-- what a look answers: a number of handles, or `Static` at a marked block
abbrev pub look_reply : Option ℕ → Reply
look_reply (Some n) = Count n
look_reply None = Static

-- the state and the reply after a step that is accepted
abbrev pub accepted : ℕ → State → Step → State × Reply
accepted limit w Make = (
  record {
    handles = w.handles ++ record { block = length w.blocks; state = Free } ∷ [];
    blocks = w.blocks ++ record { word = fresh_word; given = 0 } ∷ [];
  },
  Made (length w.handles),
)
accepted limit w (Look h) = (w, look_reply (looked_of (word_on w h)))
accepted limit w (Clone h) = (
  record {
    handles = w.handles ++ record { block = block_on w h; state = Free } ∷ [];
    blocks = blocks_with_word w.blocks (block_on w h) (cloned_of limit (word_on w h));
  },
  Handle (length w.handles),
)
accepted limit w (Begin h) = (
  record w { handles = handles_with_state w.handles h (if (word_on w h).flag then Gone else Dropping) },
  if (word_on w h).flag then Ended else Looked,
)
accepted limit w (Sub h) = (
  record {
    handles = handles_with_state w.handles h (if is_last (word_on w h) then Owing else Gone);
    blocks = blocks_with_word w.blocks (block_on w h) (dropped_of (word_on w h));
  },
  if is_last (word_on w h) then Owes else Left,
)
accepted limit w (Back h) =
    (record { handles = handles_with_state w.handles h Gone; blocks = blocks_with_given w.blocks (block_on w h) }, Given)
accepted limit w (Leak h) = (record w { blocks = blocks_with_word w.blocks (block_on w h) (marked_of (word_on w h)) }, Marked)
accepted limit w (IntoRaw h) = (record w { handles = handles_with_state w.handles h Raw }, RawReply)
accepted limit w (FromRaw h) = (record w { handles = handles_with_state w.handles h Free }, Unraw)

-- why a step is refused in a state; `None` where it is accepted
abbrev pub refusal_in : State → Step → Option StepFault
refusal_in w s = refusal_by (λ h. state_in w h) (needs s)

abbrev pub unless_refused : Option StepFault → State → State × Reply → State × Reply
unless_refused None old taken = taken
unless_refused (Some fault) old taken = (old, Refused fault)

-- the state and the reply after a step: a refused one leaves the state as it was
abbrev pub step : ℕ → State → Step → State × Reply
step limit w s = unless_refused (refusal_in w s) w (accepted limit w s)

-- ---- histories: lists of steps in their natural order

-- the state after steps from a state, and after a history
abbrev pub after_from : ℕ → State → List Step → State
after_from limit w [] = w
after_from limit w (s ∷ later) = after_from limit (step limit w s).0 later

abbrev pub after : ℕ → List Step → State
after limit history = after_from limit start history

-- the replies to steps from a state, and to a history
abbrev pub replies_from : ℕ → State → List Step → List Reply
replies_from limit w [] = []
replies_from limit w (s ∷ later) = (step limit w s).1 ∷ replies_from limit (step limit w s).0 later

abbrev pub replies : ℕ → List Step → List Reply
replies limit history = replies_from limit start history

-- ---- the handles on a block

-- a handle lives while it is free, raw or dropping
abbrev pub lives : HandleState → Bool
lives Free = true
lives Raw = true
lives Dropping = true
lives s = false

abbrev pub is_dropping : HandleState → Bool
is_dropping Dropping = true
is_dropping s = false

abbrev pub is_owing : HandleState → Bool
is_owing Owing = true
is_owing s = false

-- the numbers below n, in ascending order
abbrev pub numbers_below : ℕ → List ℕ
numbers_below zero = []
numbers_below (suc n) = numbers_below n ++ n ∷ []

-- the handles on a block whose states pass a test
abbrev pub handles_on : State → ℕ → (HandleState → Bool) → List ℕ
handles_on w b test = filter (λ h. (block_on w h == b) && test (state_on w h)) (numbers_below (length w.handles))

-- ---- what a history means for blocks and handles

-- what a step answers after the history
abbrev pub answer_after : ℕ → List Step → Step → Reply
answer_after limit history s = (step limit (after limit history) s).1

-- how many blocks were made, and whether a block was
abbrev pub makes_after : ℕ → List Step → ℕ
makes_after limit history = length (after limit history).blocks

abbrev pub IsMade : ℕ → List Step → ℕ → Type 0
IsMade limit history b = b < makes_after limit history

-- the count word of a block, whether the block is marked, and how often it was freed
abbrev pub word_after : ℕ → List Step → ℕ → FlagAndCount
word_after limit history b = word_in (after limit history) b

abbrev pub marked_after : ℕ → List Step → ℕ → Bool
marked_after limit history b = (word_after limit history b).flag

abbrev pub given_after : ℕ → List Step → ℕ → ℕ
given_after limit history b = given_in (after limit history) b

-- the handles on a block that live, whose drops have looked and not subtracted, and that owe the block
abbrev pub living_after : ℕ → List Step → ℕ → List ℕ
living_after limit history b = handles_on (after limit history) b lives

abbrev pub dropping_after : ℕ → List Step → ℕ → List ℕ
dropping_after limit history b = handles_on (after limit history) b is_dropping

abbrev pub owing_after : ℕ → List Step → ℕ → List ℕ
owing_after limit history b = handles_on (after limit history) b is_owing

-- A count word stands for a block after a history: its flag says whether the block is marked; unmarked, its count is the number
-- of living handles; marked, its count is at least the number of dropping ones and at most limit + 1. The law `words_stand` of
-- Laws.antt is that the count word of each block that was made does so after every history.
pub record StandsAfter (limit : ℕ) (history : List Step) (b : ℕ) (w : FlagAndCount) : Type 0 where
  pub flag : w.flag ≡ marked_after limit history b
  pub exact : IsFalse (marked_after limit history b) → w.count ≡ length (living_after limit history b)
  pub covered : IsTrue (marked_after limit history b) → length (dropping_after limit history b) ≤ w.count
  pub bounded : IsTrue (marked_after limit history b) → w.count ≤ limit + 1
