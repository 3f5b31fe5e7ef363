use Rattle.std.proofs.Common.{◌-◌, ◌≡◌, ◌≤◌}
use Rattle.arcintern.proofs.shared_interner.SharedTextsIterator.next.Given as goal

abbrev pub invariant-loop-self : goal.invariant-loop-self
invariant-loop-self l = (l.initial.self.index ≤ l.self.index) × (l.self.end ≡ l.initial.self.end) × (l.self.texts ≡ l.initial.self.texts)

abbrev pub decreases-loop-self : goal.decreases-loop-self
decreases-loop-self l = l.self.end - l.self.index
