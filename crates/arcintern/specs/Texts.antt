-- The texts of an interner, in the order in which they came, the symbols of a shared interner, and the faults of both.
use Rattle.std.specs.Prelude.{◌≡◌, ◌≢◌, ℕ, ◌<◌, ◌≤◌, ◌↔◌, ◌++◌, ◌∷◌, List, [], length, slice_get, AllPairs, Any, IsSomeAnd, codes}
use Rattle.std.specs.Prelude.{Result, IfOk, IsErrOf, IsOk, OnErr, OnOk}
use Rattle.std.specs.declared.io.ErrorKind.{ErrorKind}
use Rattle.std.specs.declared.io.ErrorKind.TheVariants.{InvalidInput, OutOfMemory}
use Rattle.arcstr.specs.TextView.{TextView, IsMadeOf}
use Rattle.boxcar.specs.Slot.{Named}
use Rattle.boxcar.specs.Table.{id_at}
use Rattle.arcintern.specs.declared.fault.InternFault.{InternFault}
use Rattle.arcintern.specs.declared.fault.InternFault.TheVariants.{Full, Length, Memory}
use Rattle.arcintern.specs.declared.interner.TheConstants.{MOST_TEXTS}

-- one of the texts spells this word
abbrev pub HasWord : List TextView → List ℕ → Type 0
HasWord texts word = Any (λ text. text.text ≡ word) texts

-- there is a text at the index, and it spells this word
abbrev pub IsWordAt : List TextView → ℕ → List ℕ → Type 0
IsWordAt texts index word = IsSomeAnd (slice_get texts index) (λ text. text.text ≡ word)

-- no two of the texts spell the same word
abbrev pub HasEachOnce : List TextView → Type 0
HasEachOnce texts = AllPairs (λ one other. one.text ≢ other.text) texts

-- each of the old texts is still at its index
abbrev pub KeepsTexts : {X : Type 0} → List X → List X → Type 0
KeepsTexts old new = (index : ℕ) → index < length old → slice_get new index ≡ slice_get old index

-- this text is added at the end
abbrev pub AddsText : TextView → List TextView → List TextView → Type 0
AddsText text old new = new ≡ old ++ text ∷ []

-- a new text of this word is added at the end
pub record AddsCopy (word : List ℕ) (old new : List TextView) : Type 0 where
  pub text : TextView
  pub made : IsMadeOf word text
  pub added : AddsText text old new

-- what interning a word does to the texts: if the word is new, `adds` says which text is added
pub record Interns (old new : List TextView) (word : List ℕ) (adds : List TextView → List TextView → Type 0) (answer : Result ℕ InternFault) : Type 0 where
  -- the answer is the symbol of a text that spells the word
  pub found : IfOk answer (λ symbol. IsWordAt new symbol word)
  -- a known word is never refused, and changes nothing
  pub known : HasWord old word → IsOk answer
  pub same : HasWord old word → new ≡ old
  -- a new word adds its text at the end
  pub added : (¬ HasWord old word) → OnOk answer (adds old new)
  -- each text keeps its symbol, and stands once
  pub kept : KeepsTexts old new
  pub once : HasEachOnce new
  -- a refused call changes nothing
  pub refused : OnErr answer (new ≡ old)
  -- `Full` comes exactly for a new word in an interner with `MOST_TEXTS` texts
  pub full : IsErrOf answer Full ↔ ((¬ HasWord old word) × (MOST_TEXTS ≤ length old))

-- what clauses see of a table of texts: the texts, and the table of their numbers
pub record TextTableView : Type 0 where
  pub texts : List TextView
  pub slots : List ℕ
  pub mask : ℕ

-- ---- a shared interner, and its symbols

-- what clauses see of a symbol: its number, the text that it stands for, and the row of texts that holds it, with the row's name
pub record SymbolView : Type 0 where
  pub number : ℕ
  pub text : TextView
  pub row : ℕ
  pub name : ℕ

-- the symbol is of the interner with these rows
abbrev pub IsSymbolOf : List Named → SymbolView → Type 0
IsSymbolOf rows symbol = symbol.name ≡ id_at rows symbol.row

-- the symbol is of the interner with these rows, and its text spells this word
abbrev pub IsSymbolOfWord : List Named → SymbolView → List ℕ → Type 0
IsSymbolOfWord rows symbol word = IsSymbolOf rows symbol × (symbol.text.text ≡ word)

-- ---- the faults of an interner: their texts, and their kinds as faults of reading and writing

abbrev pub intern_fault_text : InternFault → List ℕ
intern_fault_text Full = codes "interner is full"
intern_fault_text Length = codes "text is too long"
intern_fault_text Memory = codes "out of memory"

abbrev pub intern_fault_kind : InternFault → ErrorKind
intern_fault_kind Full = InvalidInput
intern_fault_kind Length = InvalidInput
intern_fault_kind Memory = OutOfMemory
