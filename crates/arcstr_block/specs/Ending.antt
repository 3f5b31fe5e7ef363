-- How a handle ended, as the history of its block says.
use Rattle.std.specs.Prelude.{◌≡◌, ◌↔◌, ℕ, IsFalse, List, []}
use Rattle.arcstr_count.specs.declared.steps.Step.{Step}
use Rattle.arcstr_count.specs.declared.steps.Step.TheVariants.{Begin, Sub}
use Rattle.arcstr_count.specs.declared.steps.Reply.TheVariants.{Ended as EndedReply, Left as LeftReply, Owes as OwesReply}
use Rattle.arcstr_count.specs.Model.{marked_after, living_after, dropping_after, owing_after, given_after}
use Rattle.arcstr_count.specs.OneBlock.{EndsIn, IsInUse, IsOneBlock}
use Rattle.arcstr_block.specs.Book.{IsLater}
use Rattle.arcstr_block.specs.Handle.{SawBack, IsMarkedIn}
use Rattle.arcstr_block.specs.declared.ending.End.{End}
use Rattle.arcstr_block.specs.declared.ending.End.TheVariants.{Ended, Left, Freed}

-- the history ends when handle h frees the block, after a subtraction of the handle that was the last one
pub record IsFreedBy (limit : ℕ) (history : List Step) (h : ℕ) : Type 0 where
  pub freed : SawBack limit history h
  pub subtracted : List Step
  pub owed : EndsIn limit subtracted (Sub h) OwesReply
  pub after : IsLater subtracted history

-- the history ends as handle h did: in its look at a block that is marked, in a subtraction that left the block in use, or when it freed the block
abbrev pub EndedAs : ℕ → List Step → ℕ → End → Type 0
EndedAs limit history h Ended = EndsIn limit history (Begin h) EndedReply × IsMarkedIn limit history
EndedAs limit history h Left = EndsIn limit history (Sub h) LeftReply × IsInUse limit history
EndedAs limit history h Freed = IsFreedBy limit history h

-- if the first history ends in the free, no handle on the block lives after it, and the second is not later; if the block is marked in the first, a second one
-- that is later does not end in the free
pub record IsFreeLast (first second : List Step) : Type 0 where
  pub alone : (limit h : ℕ) → SawBack limit first h → living_after limit first 0 ≡ []
  pub last : (limit h : ℕ) → SawBack limit first h → IsOneBlock limit second → ¬ (IsLater first second)
  pub unmarked : (limit h : ℕ) → IsMarkedIn limit first → SawBack limit second h → ¬ (IsLater first second)

-- if no handle on the one block of the history lives, none is dropping and none owes it, the block was freed once exactly if nothing marked it
abbrev pub IsFreedExactly : ℕ → List Step → Type 0
IsFreedExactly limit history = IsOneBlock limit history → living_after limit history 0 ≡ [] → dropping_after limit history 0 ≡ []
    → owing_after limit history 0 ≡ [] → ((given_after limit history 0 ≡ 1) ↔ IsFalse (marked_after limit history 0))
