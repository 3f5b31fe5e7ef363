use Rattle.std.proofs.Common.{arith}
use Rattle.std.proofs.lemmas.Grind.{common_steps}
use Rattle.arcbench_core.proofs.LineTexts.{step_written}
use Rattle.arcbench_core.proofs.script.line.step_of.Goals as goal

pub returns-clause-written : goal.returns-clause-written
returns-clause-written c = step_written c.args.line.now _ (grind (arith, common_steps))
