use Rattle.std.proofs.Common.{◌≤◌, ◌-◌, length}
use Rattle.std.specs.Prelude.{vec_capacity}
use Rattle.arcintern.proofs.shared_interner.shard.Table.new.Given as goal

abbrev pub invariant-loop-slots : goal.invariant-loop-slots
invariant-loop-slots l = (length l.slots.items ≤ l.len) × (l.len ≤ vec_capacity l.slots)

abbrev pub decreases-loop-slots : goal.decreases-loop-slots
decreases-loop-slots l = l.len - length l.slots.items
