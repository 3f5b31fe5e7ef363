-- So far, each worker has its share, and there is capacity for the rest.
use Rattle.std.proofs.Common.{◌≤◌, length, vec_capacity}
use Rattle.arctokens.specs.Shares.{AreSharesOfFirst}
use Rattle.arctokens.proofs.workers.shares_of_all.Given as goal

abbrev pub invariant-loop-thread : goal.invariant-loop-thread
invariant-loop-thread g l =
    record {
      shares : AreSharesOfFirst g.G.Gate.passed l.texts l.workers (length l.yielded) l.gate l.shares.items;
      room : l.workers ≤ vec_capacity l.shares;
    }
