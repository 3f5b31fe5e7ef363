use Rattle.std.proofs.Common.{length, ◌-◌}
use Rattle.arctokens.proofs.Pieces.{IsPieceBefore}
use Rattle.arctokens.proofs.workers.piece_of.Given as goal

abbrev pub invariant-loop-number : goal.invariant-loop-number
invariant-loop-number g l = IsPieceBefore l.texts l.workers l.worker l.number l.lists.items

abbrev pub decreases-loop-number : goal.decreases-loop-number
decreases-loop-number g l = length l.texts - l.number
