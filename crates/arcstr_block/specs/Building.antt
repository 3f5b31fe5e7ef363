-- How contracts see a text that is being built.
use Rattle.std.specs.Prelude.{ℕ, ◌+◌, ◌*◌, ◌≤◌, List, length}
use Rattle.arcstr_block.specs.Memory.{Fits}

-- the text so far, and how many bytes its block has room for
pub record Unfinished : Type 0 where
  pub text : List ℕ
  pub capacity : ℕ

-- there is room for n bytes more
abbrev pub HasRoom : Unfinished → ℕ → Type 0
HasRoom draft n = length draft.text + n ≤ draft.capacity

-- the second capacity is at least twice the first, if a block can have so much room
abbrev pub IsDoubled : ℕ → ℕ → Type 0
IsDoubled old new = Fits (2 * old) → 2 * old ≤ new
