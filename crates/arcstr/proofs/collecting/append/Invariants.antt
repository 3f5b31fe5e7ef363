-- The string has the texts of the items so far behind what it had.
use Rattle.std.proofs.Common.{◌≡◌, ◌++◌}
use Rattle.std.specs.List.{flat_map}
use Rattle.std.specs.String.{string_bytes}
use Rattle.arcstr.proofs.collecting.append.Given as goal

abbrev pub invariant-loop-item : goal.invariant-loop-item
invariant-loop-item g l = (goal.iterator-loop-item g).can_next l.item-iterator
    × (goal.iterator-loop-item g).is_finite l.item-iterator
    × (string_bytes l.to ≡ string_bytes l.initial.to ++ flat_map g.S.AsStr.text l.yielded)
