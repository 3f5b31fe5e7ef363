use Rattle.arcstr_world.proofs.SentencesState.{state_sentence}
use Rattle.arcstr_world.proofs.sentences.state_is.Goals as goal

pub returns : goal.returns
returns c = state_sentence c.args.limit c.args.history.now c.args.handle c.args.state
