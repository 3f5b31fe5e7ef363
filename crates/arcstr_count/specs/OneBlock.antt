-- Histories of one block, beside its count word and the states of its handles: what a running block keeps.
use Rattle.std.specs.Prelude.{◌≡◌, ◌⊎◌, ◌<◌, ℕ, Bool, true, ◌&&◌, is_none, IsTrue, List, [], ◌∷◌, ◌++◌, length, map}
use Rattle.arcstr_count.specs.declared.steps.Step.{Step}
use Rattle.arcstr_count.specs.declared.steps.HandleState.{HandleState}
use Rattle.arcstr_count.specs.declared.steps.HandleSummary.{HandleSummary}
use Rattle.arcstr_count.specs.declared.steps.Reply.{Reply}
use Rattle.arcstr_count.specs.Word.{FlagAndCount}
use Rattle.arcstr_count.specs.Model.{State, start, step, refusal_in, after, makes_after, answer_after, word_after, marked_after, living_after}

-- no step of the list is refused, one after another from the state
abbrev pub are_accepted : ℕ → State → List Step → Bool
are_accepted limit w [] = true
are_accepted limit w (s ∷ later) = is_none (refusal_in w s) && are_accepted limit (step limit w s).0 later

-- one block is made in the history, and no step of it is refused
pub record IsOneBlock (limit : ℕ) (history : List Step) : Type 0 where
  pub made : makes_after limit history ≡ 1
  pub accepted : are_accepted limit start history ≡ true

-- the states of the handles that were born in the history, in the order of their births
abbrev pub states_after : ℕ → List Step → List HandleState
states_after limit history = map (λ (it : HandleSummary). it.state) (after limit history).handles

-- The count word of the one block is the count word that the history leaves, and the seats hold the states of its handles.
pub record Keeps (limit : ℕ) (history : List Step) (word : FlagAndCount) (seats : List HandleState) : Type 0 where
  pub one_block : IsOneBlock limit history
  pub left : word ≡ word_after limit history 0
  pub states : seats ≡ states_after limit history

-- the history has one block and ends in this step, to which the step function gives this reply
pub record EndsIn (limit : ℕ) (history : List Step) (s : Step) (reply : Reply) : Type 0 where
  pub one_block : IsOneBlock limit history
  pub prefix : List Step
  pub ends : history ≡ prefix ++ s ∷ []
  pub answered : answer_after limit prefix s ≡ reply

-- The one block of the history is in use after it: the block is marked, or a handle on it lives.
pub record IsInUse (limit : ℕ) (history : List Step) : Type 0 where
  pub one_block : IsOneBlock limit history
  pub used : IsTrue (marked_after limit history 0) ⊎ (0 < length (living_after limit history 0))
