-- The law is that of any two histories of one block.
use Rattle.arcstr_block.proofs.Histories.{a_marked_block_stays, alone_by_free, nothing_follows_the_free}
use Rattle.arcstr_block.proofs.seen.Seen.nothing_follows_the_free.Goals as goal

pub returns : goal.returns
returns c =
    let first = c.args.self.now.history in let second = c.args.other.now.history in record {
      law = record {
        alone = λ limit h freed. alone_by_free limit first h freed;
        last = λ limit h freed whole later. nothing_follows_the_free limit first second h freed whole later;
        unmarked = λ limit h marked freed later. a_marked_block_stays limit first second h marked freed later;
      };
    }
