-- The order of texts: a proper prefix of a text comes before it, and otherwise the text with the lower byte at the first difference comes first.
use Rattle.std.specs.Prelude.{◌≡◌, ◌↔◌, ◌⊎◌, ℕ, ◌<◌, List, ◌∷◌, ◌++◌}
use Rattle.std.specs.declared.cmp.Ordering.{Ordering}
use Rattle.std.specs.declared.cmp.Ordering.TheVariants.{Less, Equal, Greater}

-- the first text is a prefix of the second, which is longer
abbrev pub IsProperPrefix : List ℕ → List ℕ → Type 0
IsProperPrefix one other = (next : ℕ) × (rest : List ℕ) × (other ≡ one ++ (next ∷ rest))

-- after a common prefix, the first text has the lower byte
pub record HasLowerByteAfter (prefix one other : List ℕ) : Type 0 where
  pub low : ℕ
  pub high : ℕ
  pub lows : List ℕ
  pub highs : List ℕ
  pub below : low < high
  pub one_is : one ≡ prefix ++ (low ∷ lows)
  pub other_is : other ≡ prefix ++ (high ∷ highs)

-- the first text comes before the second
abbrev pub ComesBefore : List ℕ → List ℕ → Type 0
ComesBefore one other = IsProperPrefix one other ⊎ ((prefix : List ℕ) × HasLowerByteAfter prefix one other)

-- the result of comparing two texts
pub record IsTextOrder (one other : List ℕ) (answer : Ordering) : Type 0 where
  pub less : answer ≡ Less ↔ ComesBefore one other
  pub equal : answer ≡ Equal ↔ (one ≡ other)
  pub greater : answer ≡ Greater ↔ ComesBefore other one
