use Rattle.std.proofs.Common.{◌%◌, ◌<◌, length, refl, arith}
use Rattle.std.proofs.lemmas.Nat.{mod_below}
use Rattle.arctokens.proofs.Pieces.{AreLeft-more, AreTokensOfEach-next, taken_tokens}
use Rattle.arctokens.proofs.many_texts.in_order_of_texts.Goals as goal

pub loop-number-preserved : goal.loop-number-preserved
loop-number-preserved c =
    let number = c.loop-number.number in
    let pieces = c.loop-number.pieces.items in
    let piece = c.index_mut-piece in
    let before = c.loop-number.invariant in
    let inside : number % c.args.workers < length pieces = omega (arith, before.left.one_each, mod_below number c.args.workers c.requires.some) in
    let tokens =
    taken_tokens c.args.texts.now c.args.workers number pieces piece.result.now c.index_mut.result.now c.replace-list.result before.left
    c.loop-number-test.true piece.ensures.value c.index_mut.ensures.value c.replace-list.ensures.value in
    record {
      left = AreLeft-more c.args.texts.now c.args.workers number pieces piece.result.now _ c.replace-list.new.dest before.left inside piece.ensures.value refl;
      in_order =
          AreTokensOfEach-next c.args.texts.now number c.loop-number.lists.items c.push_reserved.new.self.items c.replace-list.result
          c.loop-number-test.true before.in_order tokens c.push_reserved.ensures.items;
      one_each = omega (arith, c.push_reserved.ensures.len, before.one_each);
      room = omega (arith, c.push_reserved.ensures.capacity, before.room);
    }
