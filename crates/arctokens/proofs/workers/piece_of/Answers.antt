use Rattle.std.proofs.Common.{◌<◌, arith}
use Rattle.arctokens.proofs.Pieces.{IsPieceBefore-more}
use Rattle.arctokens.proofs.workers.piece_of.Goals as goal

pub loop-number-preserved : goal.loop-number-preserved
loop-number-preserved g c =
    let some : 0 < c.args.workers = omega (arith, c.requires.worker) in
    IsPieceBefore-more c.args.texts.now c.args.workers c.args.worker c.loop-number.number c.loop-number.lists.items c.push.new.self.items
    c.in_ok-tokens_of_one.field-0 some c.loop-number.invariant c.in_ok-tokens_of_one.ensures c.in_ok-push.ensures.items
