use Rattle.std.proofs.Common.{◌≤◌, ◌-◌, length}
use Rattle.std.specs.Prelude.{vec_capacity}
use Rattle.arcintern.proofs.shared_interner.text_list.empty_places.Given as goal

abbrev pub invariant-loop-places : goal.invariant-loop-places
invariant-loop-places g l = (length l.places.items ≤ l.len) × (l.len ≤ vec_capacity l.places)

abbrev pub decreases-loop-places : goal.decreases-loop-places
decreases-loop-places g l = l.len - length l.places.items
