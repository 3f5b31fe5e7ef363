use Rattle.std.proofs.Common.{◌+◌, ◌-◌, ◌^◌, ◌≤◌, length}
use Rattle.std.specs.Prelude.{vec_capacity}
use Rattle.arcintern.specs.Values.{HaveSameValues}
use Rattle.arcintern.proofs.symbol_map.make_room_for.Given as goal

abbrev pub invariant-loop-values : goal.invariant-loop-values
invariant-loop-values g l = record {
  same : HaveSameValues l.values.items l.fn.values.items;
  room : l.index + 1 ≤ vec_capacity l.values;
  few : length l.fn.values.items ≤ 2 ^ 32 → length l.values.items ≤ 2 ^ 32;
}

abbrev pub decreases-loop-values : goal.decreases-loop-values
decreases-loop-values g l = l.index + 1 - length l.values.items
