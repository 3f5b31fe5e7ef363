use Rattle.arcstr_block.proofs.Names.{IsUnmarked, IsCountWord}
use Rattle.arcstr_block.proofs.shared.Counted.exchange_until.Given as goal

-- the word that is tried next was found unmarked
abbrev pub invariant-loop : goal.invariant-loop
invariant-loop g l =
    (goal.iterator-loop g).can_next l.iterator' × (goal.iterator-loop g).is_finite l.iterator' × IsUnmarked l.old × IsCountWord g.row.LIMIT l.old
