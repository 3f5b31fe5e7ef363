use Rattle.std.proofs.Common.{◌≡◌, ℕ, length, arith}
use Rattle.std.proofs.lemmas.List.{length_push}
use Rattle.arctokens.specs.Shares.{IsShare}
use Rattle.arctokens.proofs.Pieces.{one_more}
use Rattle.arctokens.proofs.workers.shares_of_all.Goals as goal

-- the share belongs to the next worker
pub loop-thread-preserved : goal.loop-thread-preserved
loop-thread-preserved g c =
    let before = c.loop-thread.invariant in
    let shares = c.loop-thread.shares.items in
    let share = c.share_of.result in
    let count : ℕ = length c.loop-thread.yielded in
    let grown = length_push c.loop-thread.yielded c.in-Some.thread in
    let number : c.len-worker.result ≡ count = omega (arith, c.len-worker.ensures, c.loop-thread.shares.ok.0, before.shares.one_each) in
    let Is : ℕ → _ → Type 0 = λ worker s. IsShare g.G.Gate.passed c.args.texts.now c.args.workers worker c.args.gate.now s in
    record {
      shares = rw (c.push_reserved.ensures.items, grown) (record {
        one_each = omega (arith, length_push shares share, before.shares.one_each);
        share = one_more Is count shares share before.shares.one_each before.shares.share (rw number at c.share_of.ensures);
      });
      room = omega (arith, c.push_reserved.ensures.capacity, before.room);
    }
