use Rattle.std.proofs.Common.{List, ℕ, length, string_bytes}
use Rattle.arcbench_core.specs.Line.{script_lines}
use Rattle.arcbench_core.proofs.AnsweredLines.{LinesDone}
use Rattle.arcbench_core.proofs.script.answers.answer_lines.Given as goal

abbrev pub invariant-loop-rest : goal.invariant-loop-rest
invariant-loop-rest g l =
    (done : List (List ℕ))
    × LinesDone (script_lines l.bytes) done (script_lines l.rest) l.initial.world l.world (string_bytes l.initial.out) (string_bytes l.out)

abbrev pub decreases-loop-rest : goal.decreases-loop-rest
decreases-loop-rest g l = length l.rest
