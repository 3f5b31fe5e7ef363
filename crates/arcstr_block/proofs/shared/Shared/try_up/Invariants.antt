use Rattle.arcstr_block.proofs.Names.{IsUnmarked, IsCountWord}
use Rattle.arcstr_block.proofs.shared.Shared.try_up.Given as goal

-- the word that is tried next was found unmarked
abbrev pub invariant-loop : goal.invariant-loop
invariant-loop g l = IsUnmarked l.old × IsCountWord g.row.LIMIT l.old
