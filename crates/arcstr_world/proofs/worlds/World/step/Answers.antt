use Rattle.arcstr_world.proofs.LawsOfWorlds.{world_taken}
use Rattle.arcstr_world.proofs.worlds.World.step.Goals as goal

pub invariant_of-self : goal.invariant_of-self
invariant_of-self g c = world_taken c.self.inside.limit c.self.inside.tables _ c.args.act c.take.result
    c.self.invariant c.take.ensures.stepped c.take.ensures.memory
