use Rattle.std.proofs.Common.{length, ◌-◌}
use Rattle.arctokens.proofs.TextWords.{AreTokensBefore}
use Rattle.arctokens.proofs.one_text.tokens.Given as goal

abbrev pub invariant-loop-word : goal.invariant-loop-word
invariant-loop-word g l = AreTokensBefore l.text l.from l.tokens.items

abbrev pub decreases-loop-word : goal.decreases-loop-word
decreases-loop-word g l = length l.whole - l.from
