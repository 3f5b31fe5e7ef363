use Rattle.arcstr_block.proofs.Names.{◌≡◌, repeat}
use Rattle.arcstr_block.proofs.shared.Shared.repeat.Given as goal

-- the copies so far
abbrev pub invariant-loop : goal.invariant-loop
invariant-loop g l = (l.draft.text ≡ repeat l.counter l.text) × (l.draft.capacity ≡ l.len)
