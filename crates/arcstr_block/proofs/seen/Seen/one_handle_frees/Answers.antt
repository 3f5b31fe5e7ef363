-- Of the two histories one begins the other, and nothing follows the free.
use Rattle.arcstr_block.proofs.Histories.{one_frees}
use Rattle.arcstr_block.proofs.seen.Seen.one_handle_frees.Goals as goal

pub returns : goal.returns
returns c = record {
  once = λ same limit h k freed again. one_frees limit c.args.self.now.history c.args.other.now.history h k freed again
      (c.a_block_has_one_history.ensures.prefix same, c.a_block_has_one_history.ensures.longer same);
}
