use Rattle.std.proofs.Common.{◌-◌, length}
use Rattle.arcintern.proofs.shared_interner.shard.first_of.Given as goal

abbrev pub decreases-loop-slot : goal.decreases-loop-slot
decreases-loop-slot l = length l.slots - l.offset
