-- The texts of a word list, which stand one after another in its bytes.
use Rattle.std.specs.Prelude.{◌≡◌, ◌≢◌, ℕ, ◌+◌, ◌<◌, ◌≤◌, ◌⊎◌, ◌↔◌, ◌++◌, List, [], ◌∷◌, length, slice_get, slice_range, AllPairs, Contains}
use Rattle.std.specs.Prelude.{Result, Some, IfOk, IsErrOf, IsOk, OnErr, OnOk}
use Rattle.std.specs.List.{concat}
use Rattle.std.specs.Str.{IsCharBoundary}
use Rattle.arcintern.specs.declared.fault.InternFault.{InternFault}
use Rattle.arcintern.specs.declared.fault.InternFault.TheVariants.{Full}
use Rattle.arcintern.specs.declared.interner.TheConstants.{MOST_TEXTS}
use Rattle.arcintern.specs.declared.word_list.TheConstants.{MOST_BYTES}
use Rattle.arcintern.specs.Texts.{KeepsTexts}

-- no two of the texts are the same
abbrev pub AreDistinct : List (List ℕ) → Type 0
AreDistinct texts = AllPairs (λ one other. one ≢ other) texts

-- one more text has no number, or its bytes do not fit behind those of the others
abbrev pub IsFullFor : List (List ℕ) → List ℕ → Type 0
IsFullFor texts word = (MOST_TEXTS ≤ length texts) ⊎ (MOST_BYTES < length (concat texts) + length word)

-- what interning a word does to the texts of a list: as `Interns`, where a text is its bytes
pub record InternsInList (old new : List (List ℕ)) (word : List ℕ) (answer : Result ℕ InternFault) : Type 0 where
  pub found : IfOk answer (λ symbol. slice_get new symbol ≡ Some word)
  pub known : Contains old word → IsOk answer
  pub same : Contains old word → new ≡ old
  pub added : (¬ Contains old word) → OnOk answer (new ≡ old ++ word ∷ [])
  pub kept : KeepsTexts old new
  pub once : AreDistinct new
  pub refused : OnErr answer (new ≡ old)
  -- `Full` comes exactly for a new word where the numbers or the bytes no longer fit
  pub full : IsErrOf answer Full ↔ ((¬ Contains old word) × IsFullFor old word)

-- the pieces of the bytes that end at these byte offsets; the first begins at `start`, and each other where the one before it ends
abbrev pub pieces : List ℕ → ℕ → List ℕ → List (List ℕ)
pieces bytes start [] = []
pieces bytes start (end ∷ ends) = slice_range bytes start end ∷ pieces bytes end ends

-- these are the ends of pieces from `start` to the end of the bytes, and no character stands in two pieces
abbrev pub AreEnds : List ℕ → ℕ → List ℕ → Type 0
AreEnds bytes start [] = start ≡ length bytes
AreEnds bytes start (end ∷ ends) = (start ≤ end) × IsCharBoundary bytes end × AreEnds bytes end ends

-- what clauses see of a table of words: the texts, and the table of their numbers
pub record WordTableView : Type 0 where
  pub texts : List (List ℕ)
  pub slots : List ℕ
  pub mask : ℕ
