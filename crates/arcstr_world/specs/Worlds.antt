-- Worlds: what contracts see of one, and what every one keeps.
use Rattle.std.specs.Prelude.{◌≡◌, ℕ, ◌<◌, ◌≤◌, Bool, true, false, Some, List, length, slice_get}
use Rattle.arcstr_count.specs.declared.steps.Step.{Step}
use Rattle.arcstr_count.specs.declared.steps.Step.TheVariants.{Make, Clone}
use Rattle.arcstr_count.specs.declared.steps.HandleState.TheVariants.{Dropping, Owing}
use Rattle.arcstr_count.specs.declared.steps.HandleSummary.{HandleSummary}
use Rattle.arcstr_count.specs.declared.words.TheConstants.{RC_MAX}
use Rattle.arcstr_count.specs.Model.{State, after, word_in, given_in}

-- `Make` and `Clone` give birth to a handle
abbrev pub is_birth : Step → Bool
is_birth Make = true
is_birth (Clone h) = true
is_birth s = false

-- what contracts see of a world: its limit and its state
pub record WorldView : Type 0 where
  pub limit : ℕ
  pub state : State

-- the state is that after at least one history
abbrev pub HasHistory : WorldView → Type 0
HasHistory world = ∥ ((history : List Step) × (world.state ≡ after world.limit history)) ∥₁

-- what every world keeps: its limit is at most `RC_MAX`, and its state is that after a history
pub record IsWorld (limit : ℕ) (state : State) : Type 0 where
  pub limited : limit ≤ RC_MAX
  pub has_history : HasHistory (record { limit = limit; state = state })

-- what the laws give of each state after a history: a handle stands on a block that was made; the count word of a dropping
-- handle's block counts it; the block of an owing handle was not freed; no block was freed twice
pub record IsSound (w : State) : Type 0 where
  pub made : (h : ℕ) (it : HandleSummary) → slice_get w.handles h ≡ Some it → it.block < length w.blocks
  pub counted : (h : ℕ) (it : HandleSummary) → slice_get w.handles h ≡ Some it → it.state ≡ Dropping → 0 < (word_in w it.block).count
  pub unfreed : (h : ℕ) (it : HandleSummary) → slice_get w.handles h ≡ Some it → it.state ≡ Owing → given_in w it.block ≡ 0
  pub once : (b : ℕ) → given_in w b ≤ 1
