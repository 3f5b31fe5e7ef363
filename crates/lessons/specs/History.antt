-- How the drops of a text and its clone end, one after the other.
use Rattle.std.specs.Prelude.{ℕ, List, Option, IfSome, IsSomeAnd}
use Rattle.arcstr_count.specs.declared.steps.Step.{Step}
use Rattle.arcstr_count.specs.declared.steps.Step.TheVariants.{Sub}
use Rattle.arcstr_count.specs.declared.steps.Reply.TheVariants.{Left}
use Rattle.arcstr_count.specs.declared.words.TheConstants.{RC_MAX}
use Rattle.arcstr_count.specs.OneBlock.{EndsIn, IsInUse}
use Rattle.arcstr_block.specs.Book.{IsLater}
use Rattle.arcstr_block.specs.Handle.{SawBack}
use Rattle.arcstr_block.specs.Ending.{IsFreedBy}
use Rattle.arcstr_block.specs.declared.seen.Seen.{Seen}

-- The second drop frees the block. Its history begins with all that the first drop had seen, which ends in the subtraction of the first handle. It has the
-- subtraction of the second handle, and the free once, at its end.
pub record FreesSecond (first second : List Step) : Type 0 where
  pub begins : IsLater first second
  pub one : ℕ
  pub left : EndsIn RC_MAX first (Sub one) Left
  pub other : ℕ
  pub freed : IsFreedBy RC_MAX second other
  pub once : (earlier : List Step) (h : ℕ) → SawBack RC_MAX earlier h → IsLater earlier second → ⊥

-- both drops have seen a history, and these are in this relation
abbrev pub OfBoth : (List Step → List Step → Type 0) → Option Seen → Option Seen → Type 0
OfBoth P first second = IsSomeAnd first (λ one. IsSomeAnd second (λ other. P one.history other.history))

-- a handle on the block lives, or the block is marked, in what was seen of it
abbrev pub IsSeenInUse : Option Seen → Type 0
IsSeenInUse seen = IfSome seen (λ seen. IsInUse RC_MAX seen.history)
