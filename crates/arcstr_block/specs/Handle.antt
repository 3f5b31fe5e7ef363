-- What contracts see of a handle on a block, and what was seen of its block's history.
use Rattle.std.specs.Prelude.{ℕ, ◌<◌, IsTrue, List, length}
use Rattle.arcstr_count.specs.declared.steps.Step.{Step}
use Rattle.arcstr_count.specs.declared.steps.Step.TheVariants.{Look, Clone, Leak, Back}
use Rattle.arcstr_count.specs.declared.steps.Reply.TheVariants.{Count, Static, Handle as HandleReply, Marked, Given}
use Rattle.arcstr_count.specs.Model.{after, marked_after}
use Rattle.arcstr_count.specs.OneBlock.{IsOneBlock, EndsIn}
use Rattle.arcstr_block.specs.Book.{BlockName}

-- the bytes of the text, the name of the block, the number of the handle in it, and the limit on the count of the block
pub record Handle : Type 0 where
  pub text : List ℕ
  pub block : BlockName
  pub seat : ℕ
  pub limit : ℕ

-- what contracts see of a permanent block: the bytes of its text, its name, the limit on its count,
-- and the prefix of its history that was seen when it was marked or found marked
pub record Kept : Type 0 where
  pub text : List ℕ
  pub block : BlockName
  pub limit : ℕ
  pub history : List Step

-- the permanent block of this handle, with this prefix of its history
abbrev pub kept_of : ℕ → Handle → List Step → Kept
kept_of limit handle history = record { text = handle.text; block = handle.block; limit = limit; history = history }

-- what the last subtraction on a block leaves owed: the block, the handle in it that was subtracted, the limit on its count,
-- and the history that ends in the subtraction
pub record Debt : Type 0 where
  pub block : BlockName
  pub seat : ℕ
  pub limit : ℕ
  pub history : List Step

-- the history ends in a look of handle h, to which the core answers this number of handles
abbrev pub SawCount : ℕ → List Step → ℕ → ℕ → Type 0
SawCount limit history h n = EndsIn limit history (Look h) (Count n)

-- the history ends in a look of handle h at a marked block
abbrev pub SawMark : ℕ → List Step → ℕ → Type 0
SawMark limit history h = EndsIn limit history (Look h) Static

-- the history ends in a clone by handle h, by which handle j was born
abbrev pub SawClone : ℕ → List Step → ℕ → ℕ → Type 0
SawClone limit history h j = EndsIn limit history (Clone h) (HandleReply j)

-- the history ends in a mark by handle h
abbrev pub SawLeak : ℕ → List Step → ℕ → Type 0
SawLeak limit history h = EndsIn limit history (Leak h) Marked

-- the history ends when handle h frees the block
abbrev pub SawBack : ℕ → List Step → ℕ → Type 0
SawBack limit history h = EndsIn limit history (Back h) Given

-- handle h was born in the history
abbrev pub IsBornIn : ℕ → List Step → ℕ → Type 0
IsBornIn limit history h = h < length (after limit history).handles

-- the history has one block, number 0, which is marked after it
pub record IsMarkedIn (limit : ℕ) (history : List Step) : Type 0 where
  pub one_block : IsOneBlock limit history
  pub marked : IsTrue (marked_after limit history 0)
