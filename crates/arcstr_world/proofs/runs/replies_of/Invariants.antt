use Rattle.arcstr_world.proofs.Names.{take}
use Rattle.arcstr_world.proofs.LawsOfWorlds.{HasTaken}
use Rattle.arcstr_world.proofs.runs.replies_of.Given as goal

abbrev pub invariant-loop-step : goal.invariant-loop-step
invariant-loop-step g l = HasTaken l.fn.world (take l.step-index l.steps) l.world l.replies.items
