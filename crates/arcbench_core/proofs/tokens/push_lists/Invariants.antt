-- The lines of the lists so far are appended.
use Rattle.std.proofs.Common.{◌≡◌, ◌++◌, take, string_bytes}
use Rattle.arcbench_core.specs.TokenLines.{lines_of_lists}
use Rattle.arcbench_core.proofs.tokens.push_lists.Given as goal

abbrev pub invariant-loop-number : goal.invariant-loop-number
invariant-loop-number g l = string_bytes l.out ≡ string_bytes l.initial.out ++ lines_of_lists 0 (take l.number l.lists)
