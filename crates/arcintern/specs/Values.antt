-- What a contract sees of a symbol map: a value or nothing for each number from 0 on, and nothing for the numbers after these.
use Rattle.std.specs.Prelude.{◌≡◌, ◌≢◌, ℕ, ◌+◌, List, [], ◌∷◌, Option, None, Some, slice_index_or}

module _ {V : Type 0} where
  -- the value of the symbol with this number
  abbrev pub value_at : List (Option V) → ℕ → Option V
  value_at map symbol = slice_index_or map symbol None

  -- each symbol has the same value in both
  abbrev pub HaveSameValues : List (Option V) → List (Option V) → Type 0
  HaveSameValues one other = (symbol : ℕ) → value_at one symbol ≡ value_at other symbol

  -- each other symbol has the same value in both
  abbrev pub HaveSameOtherValues : List (Option V) → List (Option V) → ℕ → Type 0
  HaveSameOtherValues one other symbol = (number : ℕ) → number ≢ symbol → value_at one number ≡ value_at other number

  -- the values, each with its number, where the first entry has this number
  abbrev pub pairs_from : ℕ → List (Option V) → List (ℕ × V)
  pairs_from number [] = []
  pairs_from number (None ∷ rest) = pairs_from (number + 1) rest
  pairs_from number (Some value ∷ rest) = (number, value) ∷ pairs_from (number + 1) rest
