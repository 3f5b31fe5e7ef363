use Rattle.arcstr_world.proofs.SentencesBlocks.{living_sentence, living_rising}
use Rattle.arcstr_world.proofs.sentences.living_is.Goals as goal

pub returns-clause-members : goal.returns-clause-members
returns-clause-members c = living_sentence c.args.limit c.args.history.now c.args.block c.args.handle

pub returns-clause-once : goal.returns-clause-once
returns-clause-once c = living_rising c.args.limit c.args.history.now c.args.block
