use Rattle.std.proofs.Common.{◌≤◌}
use Rattle.lessons.proofs.empty_texts.Given as goal

abbrev pub invariant-loop-text : goal.invariant-loop-text
invariant-loop-text l = l.count ≤ l.text-index
