-- So far, the lists of the texts before a number are in order, the others are left, and there is capacity for them.
use Rattle.std.proofs.Common.{◌≡◌, ◌≤◌, take, length, vec_len, vec_capacity}
use Rattle.arctokens.specs.Tokens.{AreTokensOfEach}
use Rattle.arctokens.proofs.Pieces.{AreLeft}
use Rattle.arctokens.proofs.many_texts.in_order_of_texts.Given as goal

abbrev pub invariant-loop-number : goal.invariant-loop-number
invariant-loop-number l =
    record {
      left : AreLeft l.texts l.workers l.number l.pieces.items;
      in_order : AreTokensOfEach (take l.number l.texts) l.lists.items;
      one_each : vec_len l.lists ≡ l.number;
      room : length l.texts ≤ vec_capacity l.lists;
    }
