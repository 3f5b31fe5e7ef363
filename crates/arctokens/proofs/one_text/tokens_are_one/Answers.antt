use Rattle.arctokens.proofs.TextWords.{token_lists_are_equal}
use Rattle.arctokens.proofs.one_text.tokens_are_one.Goals as goal

pub returns : goal.returns
returns c = token_lists_are_equal _ _ _
