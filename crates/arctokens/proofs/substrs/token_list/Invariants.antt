use Rattle.std.proofs.Common.{◌≡◌, length, ◌-◌}
use Rattle.arctokens.specs.SliceLists.{slices_in}
use Rattle.arctokens.proofs.TextWords.{AreTokensBefore}
use Rattle.arctokens.proofs.substrs.token_list.Given as goal

abbrev pub invariant-loop-word : goal.invariant-loop-word
invariant-loop-word g l =
    record {
      same : l.list.text ≡ l.text;
      tokens : AreTokensBefore l.text l.from (slices_in l.list);
    }

abbrev pub decreases-loop-word : goal.decreases-loop-word
decreases-loop-word g l = length l.whole - l.from
