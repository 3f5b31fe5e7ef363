-- One worker's piece of the tokens of many texts, and the order of the lists in it.
use Rattle.std.specs.Prelude.{◌≡◌, ℕ, ◌<◌, ◌/◌, ◌%◌, List, length, slice_index_or, Vec, Result, IfOk}
use Rattle.std.specs.declared.alloc.Global.{Global}
use Rattle.std.specs.declared.alloc.AllocError.{AllocError}
use Rattle.arcstr.specs.TextView.{TextView}
use Rattle.arctokens.specs.Tokens.{AreTokens, TokenList}

-- row `row` of the lists has the tokens of text `number`
pub record HasTokensOf (texts : List TextView) (number : ℕ) (lists : List TokenList) (row : ℕ) : Type 0 where
  pub within : row < length lists
  pub tokens : (text : TextView) (list : TokenList) → AreTokens (slice_index_or texts number text) (slice_index_or lists row list).items

-- the lists are the piece of one worker when there are `workers` of them: they have the tokens of each of the worker's texts. The workers take the texts in
-- turn, so each worker has one text in a row
abbrev pub IsPiece : List TextView → ℕ → ℕ → List TokenList → Type 0
IsPiece texts workers worker lists =
    (number : ℕ) → number < length texts → number % workers ≡ worker → HasTokensOf texts number lists (number / workers)

-- a worker returns its piece, or an allocation failed
abbrev pub IsPieceOf : List TextView → ℕ → ℕ → Result (Vec TokenList Global) AllocError → Type 0
IsPieceOf texts workers worker piece = IfOk piece (λ lists. IsPiece texts workers worker lists.items)

-- the pieces of the first `count` workers, in the order of their numbers
pub record ArePiecesOfFirst (texts : List TextView) (workers count : ℕ) (pieces : List (Vec TokenList Global)) : Type 0 where
  pub one_each : length pieces ≡ count
  pub piece : (worker : ℕ) (d : Vec TokenList Global) → worker < count → IsPiece texts workers worker (slice_index_or pieces worker d).items

-- the pieces of all workers
abbrev pub ArePieces : List TextView → ℕ → List (Vec TokenList Global) → Type 0
ArePieces texts workers pieces = ArePiecesOfFirst texts workers workers pieces
