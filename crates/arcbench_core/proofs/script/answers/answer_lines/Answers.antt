use Rattle.std.proofs.Common.{[], ◌∷◌, ◌++◌}
use Rattle.arcbench_core.proofs.AnsweredLines.{one_more_done}
use Rattle.arcbench_core.proofs.script.answers.answer_lines.Goals as goal

pub loop-rest-preserved : goal.loop-rest-preserved
loop-rest-preserved g c =
    let done = c.loop-rest.invariant.0 in
    let so_far = rw c.first_line.ensures.lines at c.loop-rest.invariant.1 in (
      done ++ c.first_line.result.0.now ∷ [],
      one_more_done _ done _ _ _ c.loop-rest.world _ _ _ _ so_far c.in_ok-answer_line.ensures.limit
          c.in_ok-answer_line.ensures.state c.in_ok-answer_line.ensures.text,
    )
