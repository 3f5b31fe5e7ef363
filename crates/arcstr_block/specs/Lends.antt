-- The bytes of a block, lent for writing.
use Rattle.std.specs.Prelude.{ℕ, List}
use Rattle.std.specs.Borrow.{Fml, RattleType, MutBor, Lends, Array, u8}
use Rattle.core.specs.declared.alloc.Allocator.{Ghosts}
use Rattle.arcstr_block.specs.declared.block.Sole.{Sole}
use Rattle.arcstr_block.specs.contracts.block.Sole.{the_row as sole_row}

-- the block with these bytes
abbrev pub with_text : {A : Type 0} → Sole A → List ℕ → Sole A
with_text s xs = record { at = s.at; marker = s.marker; home = s.home; word = s.word; text = xs }

-- r is the bytes of the block s: once the loan ends, the block has what was written
abbrev pub sole_follows : (A : RattleType) → Ghosts A.Denot → MutBor (Sole A.Denot) → MutBor (List ℕ) → Fml
sole_follows A heap s r = Lends (sole_row A heap) (Array u8 0) s r (with_text s.now)
