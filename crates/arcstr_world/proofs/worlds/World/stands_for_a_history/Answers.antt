use Rattle.arcstr_world.proofs.Names.{subst, HasHistory}
use Rattle.arcstr_count.proofs.LawsOfHistories.{holds_in_every_interleaving}
use Rattle.arcstr_world.proofs.worlds.World.stands_for_a_history.Goals as goal

pub returns-clause-some : goal.returns-clause-some
returns-clause-some g c = subst HasHistory c.self.view_is c.self.invariant.has_history

pub returns-clause-laws : goal.returns-clause-laws
returns-clause-laws g c history stands = holds_in_every_interleaving c.args.self.now.limit history
