use Rattle.std.proofs.Common.{◌≡◌, ◌*◌, length}
use Rattle.arcintern.proofs.shared_interner.shard.Table.longer.Given as goal

abbrev pub invariant-loop-slot : goal.invariant-loop-slot
invariant-loop-slot l = length l.longer.slots.items ≡ 2 * length l.self.slots.items
