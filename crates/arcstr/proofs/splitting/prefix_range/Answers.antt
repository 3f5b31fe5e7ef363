use Rattle.arcstr_range.proofs.Affixes.{lawful_prefix}
use Rattle.arcstr.proofs.splitting.prefix_range.Goals as goal

pub returns-clause-lawful : goal.returns-clause-lawful
returns-clause-lawful c = lawful_prefix c.args.text.now c.args.prefix.now c.utf8.text c.utf8.prefix c.requires.within c.requires.prefix
