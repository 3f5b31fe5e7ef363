use Rattle.std.proofs.Common.{ℕ, ◌<◌}
use Rattle.std.specs.Prelude.{slice_index}
use Rattle.arcintern.specs.Slots.{IsPlaced}
use Rattle.arcintern.proofs.slots.Slots.grow.Given as goal

abbrev pub invariant-loop-slot : goal.invariant-loop-slot
invariant-loop-slot l = (index : ℕ) → index < l.slot-index → 0 < slice_index l.slot-items index
    → IsPlaced l.longer.slots.items l.longer.mask (slice_index l.slot-items index)
