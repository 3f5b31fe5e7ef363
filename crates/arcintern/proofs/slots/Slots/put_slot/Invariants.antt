use Rattle.std.proofs.Common.{◌≢◌, ℕ, ◌-◌, ◌<◌, ◌≤◌, length}
use Rattle.std.specs.Prelude.{slice_index}
use Rattle.arcintern.proofs.slots.Slots.put_slot.Given as goal

abbrev pub invariant-loop-index : goal.invariant-loop-index
invariant-loop-index l = record {
  from_home : l.initial.index ≤ l.index;
  within : l.index ≤ length l.self.slots.items;
  others : (other : ℕ) → l.initial.index ≤ other → other < l.index → slice_index l.self.slots.items other ≢ 0;
}

abbrev pub decreases-loop-index : goal.decreases-loop-index
decreases-loop-index l = length l.self.slots.items - l.index
