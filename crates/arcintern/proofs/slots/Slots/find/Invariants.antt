use Rattle.std.proofs.Common.{◌≡◌, ◌≢◌, ℕ, ◌+◌, ◌-◌, ◌<◌, ◌≤◌, length}
use Rattle.std.specs.Prelude.{None, slice_index}
use Rattle.arcintern.specs.Slots.{slot_of}
use Rattle.arcintern.specs.declared.slots.TheConstants.{NUMBERS}
use Rattle.arcintern.proofs.slots.Slots.find.Given as goal

abbrev pub invariant-loop-index : goal.invariant-loop-index
invariant-loop-index g l = record {
  from_home : l.initial.index ≤ l.index;
  within : l.index ≤ length l.self.slots.items;
  full : (other : ℕ) → l.initial.index ≤ other → other < l.index → slice_index l.self.slots.items other ≢ 0;
  others : (other number : ℕ) → l.initial.index ≤ other → other < l.index → number + 1 < NUMBERS
      → slice_index l.self.slots.items other ≡ slot_of l.half number → goal.F-post g l.look number None;
}

abbrev pub decreases-loop-index : goal.decreases-loop-index
decreases-loop-index g l = length l.self.slots.items - l.index
