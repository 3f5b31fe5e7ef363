use Rattle.std.proofs.Common.{◌-◌, ◌≡◌}
use Rattle.arcintern.proofs.shared_interner.text_list.TextList.push.Given as goal

abbrev pub invariant-loop-number : goal.invariant-loop-number
invariant-loop-number g l = l.text ≡ l.fn.text

abbrev pub decreases-loop-number : goal.decreases-loop-number
decreases-loop-number g l = 4294967295 - l.number
