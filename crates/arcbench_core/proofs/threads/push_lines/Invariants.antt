-- The lines of the workers so far are appended.
use Rattle.std.proofs.Common.{◌≡◌, ◌++◌, string_bytes}
use Rattle.arcbench_core.specs.Threads.{worker_lines}
use Rattle.arcbench_core.proofs.threads.push_lines.Given as goal

abbrev pub invariant-loop-worker : goal.invariant-loop-worker
invariant-loop-worker l = string_bytes l.out ≡ string_bytes l.initial.out ++ worker_lines l.worker
