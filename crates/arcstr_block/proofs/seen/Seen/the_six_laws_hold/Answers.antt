-- The laws hold of each history, so of what was seen of a running block.
use Rattle.arcstr_count.proofs.LawsOfHistories.{holds_in_every_interleaving}
use Rattle.arcstr_block.proofs.Histories.{freed_exactly}
use Rattle.arcstr_block.proofs.seen.Seen.the_six_laws_hold.Goals as goal

pub returns : goal.returns
returns c = let history = c.args.self.now.history in record {
  freed_exactly = λ limit. freed_exactly limit history;
  laws = λ limit. holds_in_every_interleaving limit history;
}
