use Rattle.std.proofs.Common.{length, ◌-◌}
use Rattle.arctokens.specs.Runs.{AreAlike}
use Rattle.arctokens.proofs.words.run_end.Given as goal

abbrev pub invariant-loop-at : goal.invariant-loop-at
invariant-loop-at l = AreAlike l.text l.from l.at l.white

abbrev pub decreases-loop-at : goal.decreases-loop-at
decreases-loop-at l = length l.text - l.at
