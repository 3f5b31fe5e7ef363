use Rattle.arcstr_block.proofs.Names.{◌≡◌, replicate, SamePlaces, Filled}
use Rattle.arcstr_block.proofs.making.write_zeros.Given as goal

-- each slot below this one is written, and the items of the slots are zeros
abbrev pub invariant-loop-place : goal.invariant-loop-place
invariant-loop-place l = SamePlaces l.fn.bytes l.bytes × (l.bytes.items ≡ replicate l.fn.bytes.len 0) × Filled l.bytes.filled 0 l.place
