use Rattle.arcstr_world.proofs.SentencesHandles.{born_sentence}
use Rattle.arcstr_world.proofs.sentences.born_is.Goals as goal

pub returns : goal.returns
returns c = born_sentence c.args.limit c.args.history.now c.args.handle c.args.block
