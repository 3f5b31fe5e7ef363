-- What the steps of a handle say: of another pointer to its block, and of how the handle ended.
use Rattle.std.specs.Prelude.{◌≡◌, ℕ, Bool, true, false, List}
use Rattle.arcstr_count.specs.declared.steps.Step.{Step}
use Rattle.arcstr_count.specs.declared.steps.Step.TheVariants.{Look, Begin, Sub, Leak}
use Rattle.arcstr_count.specs.declared.steps.Reply.{Reply}
use Rattle.arcstr_count.specs.declared.steps.Reply.TheVariants.{Ended as EndedReply, Looked as LookedReply, Owes as OwesReply, Left as LeftReply, Marked}
use Rattle.arcstr_count.specs.Word.{looked_of}
use Rattle.arcstr_count.specs.Model.{look_reply}
use Rattle.arcstr_count.specs.OneBlock.{EndsIn}
use Rattle.arcstr_block.specs.Word.{word_of, IsMarked, IsUnmarked, IsLast}
use Rattle.arcstr_block.specs.Book.{IsLater}
use Rattle.arcstr_block.specs.Handle.{Handle, SawClone, IsMarkedIn}
use Rattle.arcstr_block.specs.declared.pointer.Pointer.{Pointer}
use Rattle.arcstr_block.specs.declared.owed.Down.{Down}
use Rattle.arcstr_block.specs.declared.owed.Down.TheVariants.{Ended, Left, Owes}

-- the history is later than `before`, and ends in a clone by handle h, by which handle j was born
abbrev pub BornAs : ℕ → ℕ → List Step → ℕ → List Step → Type 0
BornAs limit h before j history = SawClone limit history h j × IsLater before history

-- the load of a clone by handle h: if it found the count word marked, the history is later than `before`, and ends in the birth of handle j;
-- a look: the history is later than `before`, ends in the look that found the count word, and has marked its block if the count word is marked
abbrev pub LoadEnds : Bool → ℕ → ℕ → List Step → ℕ → ℕ → List Step → Type 0
LoadEnds true limit h before word j history = IsMarked word → BornAs limit h before j history
LoadEnds false limit h before word j history =
    EndsIn limit history (Look h) (look_reply (looked_of (word_of word))) × (IsMarked word → IsMarkedIn limit history) × IsLater before history

module _ {A : Type 0} where
  -- the two have one allocator, one content, one limit and one history
  abbrev pub IsSameBlock : Pointer A → Pointer A → Type 0
  IsSameBlock q p = (q.home ≡ p.home) × (q.text ≡ p.text) × (q.limit ≡ p.limit) × (q.block ≡ p.block)

  -- what contracts see of a handle that has this pointer
  abbrev pub handle_of : Pointer A → Handle
  handle_of p = record { text = p.text; block = p.block; seat = p.seat; limit = p.limit }

  -- a clone made by p has its text and its block
  abbrev pub IsCloneOf : Pointer A → Pointer A → Type 0
  IsCloneOf q p = (q.text ≡ p.text) × (q.block ≡ p.block)

  -- what q has seen ends in this step of p's handle, and the core answered with this reply
  abbrev pub SawStep : Pointer A → Pointer A → Step → Reply → Type 0
  SawStep p q s reply = EndsIn p.limit q.history s reply

  -- a load of p that found the count word, of a clone or as a look, after the history `before`
  abbrev pub LoadedAs : Bool → Pointer A → List Step → ℕ → Pointer A → Type 0
  LoadedAs clones p before word q = LoadEnds clones p.limit p.seat before word q.seat q.history

  -- a clone of p, whose pointer is q, was born after the history `before`
  abbrev pub IsBornOf : Pointer A → List Step → Pointer A → Type 0
  IsBornOf p before q = BornAs p.limit p.seat before q.seat q.history

  -- an exchange by p of the count word old for its clone, which found the count word, after the history `before`
  abbrev pub ClonedAs : Pointer A → List Step → ℕ → ℕ → Pointer A → Type 0
  ClonedAs p before old word q = (IsMarked word → IsBornOf p before q) × (word ≡ old → IsBornOf p before q)

  -- the mark by p, which marks the block, after the history `before`
  abbrev pub LeakedAs : Pointer A → List Step → Pointer A → Type 0
  LeakedAs p before q = SawStep p q (Leak p.seat) Marked × IsMarkedIn q.limit q.history × IsLater before q.history

  -- the look of p's drop, after the history `before`
  abbrev pub BegunAs : Pointer A → List Step → ℕ → Pointer A → Type 0
  BegunAs p before word q = (q.seat ≡ p.seat) × (IsMarked word → SawStep p q (Begin p.seat) EndedReply)
      × (IsUnmarked word → SawStep p q (Begin p.seat) LookedReply) × IsLater before q.history

  -- the subtraction of p's drop, after what p has seen
  abbrev pub SubtractedAs : Pointer A → ℕ → Pointer A → Type 0
  SubtractedAs p word q = (q.seat ≡ p.seat) × (IsLast word → SawStep p q (Sub p.seat) OwesReply)
      × ((¬ IsLast word) → SawStep p q (Sub p.seat) LeftReply) × IsLater p.history q.history

-- the history ends in the look of the drop of handle h, or in its subtraction, and the core's answer has the same name
abbrev pub EndsAs : {A : Type 0} → ℕ → List Step → ℕ → Down A → Type 0
EndsAs limit history h Ended = EndsIn limit history (Begin h) EndedReply
EndsAs limit history h Left = EndsIn limit history (Sub h) LeftReply
EndsAs limit history h (Owes debt) = EndsIn limit history (Sub h) OwesReply

-- if something is owed, it is the block of this handle, with the handle's seat and limit, after this history
abbrev pub OwesAs : {A : Type 0} → Handle → List Step → Down A → Type 0
OwesAs handle history Ended = Unit {0}
OwesAs handle history Left = Unit {0}
OwesAs handle history (Owes debt) =
    (debt.block ≡ handle.block) × (debt.seat ≡ handle.seat) × (debt.limit ≡ handle.limit) × (debt.history ≡ history)
