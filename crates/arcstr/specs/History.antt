-- What calls on a shared text have seen of the history of its block.
use Rattle.std.specs.Prelude.{◌≡◌, ◌↔◌, ◌⊎◌, ℕ, Option, Some, IfSome, IsNone, IsSomeAnd}
use Rattle.arcstr_count.specs.declared.words.TheConstants.{RC_MAX}
use Rattle.arcstr_block.specs.Book.{IsLater}
use Rattle.arcstr_block.specs.Handle.{IsMarkedIn, SawBack, SawClone}
use Rattle.arcstr_block.specs.Ending.{EndedAs}
use Rattle.arcstr_block.specs.declared.ending.End.{End}
use Rattle.arcstr_block.specs.declared.seen.Seen.{Seen}
use Rattle.arcstr.specs.TextView.{Kind, IsStatic, block_of}

-- what was seen, if anything was, is of the block in which a text of this kind lies
abbrev pub IsSeenOf : Kind → Option Seen → Type 0
IsSeenOf kind seen = IfSome seen (λ seen. block_of kind ≡ Some seen.block)

-- What a call on a text of this kind has seen, after what its caller had seen: nothing if the text is static, else a history of its block, which begins with
-- the one that the caller had seen, and is longer.
pub record SeesAfter (kind : Kind) (before now : Option Seen) : Type 0 where
  pub none : IsNone now ↔ IsStatic kind
  pub block : IsSeenOf kind now
  pub later : IfSome before (λ old. IfSome now (λ new. IsLater old.history new.history))

-- a text of this kind is static, or its block is marked static in what was seen
abbrev pub IsSeenStatic : Kind → Option Seen → Type 0
IsSeenStatic kind seen = IsStatic kind ⊎ IsSomeAnd seen (λ seen. IsMarkedIn RC_MAX seen.history)

-- some handle ended so, as what was seen of its block says
abbrev pub IsSeenEnd : End → Option Seen → Type 0
IsSeenEnd answer seen = IfSome seen (λ seen. (h : ℕ) × EndedAs RC_MAX seen.history h answer)

-- what was seen of a block, if anything was, ends in a clone by some handle, by which another one was born
abbrev pub IsSeenBirth : Option Seen → Type 0
IsSeenBirth seen = IfSome seen (λ seen. (h j : ℕ) × SawClone RC_MAX seen.history h j)

-- what was seen of a block ends in its free, by some handle
abbrev pub IsSeenFree : Option Seen → Type 0
IsSeenFree seen = IsSomeAnd seen (λ seen. (h : ℕ) × SawBack RC_MAX seen.history h)
