-- How contracts see a text that is being built.
use Rattle.std.specs.Prelude.{ℕ, ◌+◌, ◌≤◌, List, [], length, Option, None, Some}
use Rattle.arcstr_block.specs.Building.{Unfinished}
pub use Rattle.arcstr_block.specs.Building.{IsDoubled}

-- the text so far, how many bytes its block has room for, and the bytes of a character that is not read whole
pub record Building : Type 0 where
  pub text : List ℕ
  pub capacity : ℕ
  pub held : List ℕ

-- a builder before its first block, and with one
abbrev pub unfinished_of : Option Unfinished → Unfinished
unfinished_of None = record { text = []; capacity = 0 }
unfinished_of (Some draft) = draft

abbrev pub building_of : Unfinished → List ℕ → Building
building_of draft held = record { text = draft.text; capacity = draft.capacity; held = held }

-- there is room for n bytes more
abbrev pub HasRoom : Building → ℕ → Type 0
HasRoom builder n = length builder.text + n ≤ builder.capacity
