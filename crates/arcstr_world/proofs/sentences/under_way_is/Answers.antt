use Rattle.arcstr_world.proofs.SentencesBlocks.{dropping_sentence, owing_sentence, under_way_sentence}
use Rattle.arcstr_world.proofs.sentences.under_way_is.Goals as goal

pub returns-clause-dropping : goal.returns-clause-dropping
returns-clause-dropping c = dropping_sentence c.args.limit c.args.history.now c.args.block c.args.handle

pub returns-clause-owing : goal.returns-clause-owing
returns-clause-owing c = owing_sentence c.args.limit c.args.history.now c.args.block c.args.handle

pub returns-clause-some : goal.returns-clause-some
returns-clause-some c = under_way_sentence c.args.limit c.args.history.now c.args.block
