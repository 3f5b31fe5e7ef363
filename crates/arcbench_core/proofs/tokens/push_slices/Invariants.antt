-- The lines of the slices so far are appended.
use Rattle.std.proofs.Common.{◌≡◌, ◌++◌, take, string_bytes}
use Rattle.arcbench_core.specs.TokenLines.{slice_lines}
use Rattle.arcbench_core.proofs.tokens.push_slices.Given as goal

abbrev pub invariant-loop-slice : goal.invariant-loop-slice
invariant-loop-slice g l = string_bytes l.out ≡ string_bytes l.initial.out ++ slice_lines l.number (take l.slice-index l.slices)
