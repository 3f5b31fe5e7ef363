use Rattle.arcstr_count.proofs.LawsOfHistories.{holds_in_every_interleaving}
use Rattle.arcstr_count.proofs.laws.every_interleaving.Goals as goal

pub returns : goal.returns
returns c = record { laws = holds_in_every_interleaving c.args.limit c.args.steps.now }
