use Rattle.std.proofs.Common.{◌≡◌, ◌+◌, ◌^◌, ◌≤◌, length}
use Rattle.arcintern.specs.Values.{pairs_from}
use Rattle.arcintern.proofs.symbol_map.SymbolMapIterIterator.next.Given as goal

-- only symbols without a value were passed over
abbrev pub invariant-loop-entry : goal.invariant-loop-entry
invariant-loop-entry g l =
    (l.self-inside.next + length l.self-inside.values.now ≤ 2 ^ 32) × (pairs_from l.self-inside.next l.self-inside.values.now ≡ l.fn.self)

abbrev pub decreases-loop-entry : goal.decreases-loop-entry
decreases-loop-entry g l = length l.self-inside.values.now
