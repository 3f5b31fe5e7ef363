use Rattle.std.proofs.Common.{◌≡◌, ◌<◌, ⊎_elim, ℕ, [], ◌∷◌, ◌++◌, length, sym, subst, arith, rules, vec_len}
use Rattle.std.proofs.lemmas.Bool.{cases_lt}
use Rattle.std.proofs.lemmas.List.{length_push}
use Rattle.std.proofs.lemmas.Iterator.Adapters.{YieldsList-from_vec}
use Rattle.std.proofs.lemmas.Iterator.Consumers.{YieldsList-turn}
use Rattle.arctokens.specs.Pieces.{IsPiece}
use Rattle.arctokens.specs.Shares.{IsShare}
use Rattle.arctokens.proofs.Pieces.{one_more}
use Rattle.arctokens.proofs.workers.pieces_of_shares.Goals as goal

-- the share and its piece belong to the next worker
pub loop-share-preserved-in-Ok : goal.loop-share-preserved-in-Ok
loop-share-preserved-in-Ok g c =
    let before = c.loop-share.invariant in
    let texts = c.args.texts.now in
    let workers = c.args.workers in
    let passed = g.G.Gate.passed in
    let gate = c.args.gate.now in
    let yielded = c.loop-share.yielded in
    let count : ℕ = length yielded in
    let grown = length_push yielded c.in-Some.share in
    let turn =
    YieldsList-turn (YieldsList-from_vec {s = c.into_iter-share-iterator.result} c.args.shares.items (cc) (search rules)) yielded c.loop-share.share-iterator
    c.loop-share.yielded_by c.next.result c.next.new.self c.in-Some.share c.in-Some.is c.next.ensures.steps in
    let within : count < workers = omega (arith, turn.0, c.requires.shares.one_each) in
    let share = subst (λ s. IsShare passed texts workers count gate s) (sym turn.1) (c.requires.shares.share count c.in-Some.share within) in
    let piece = c.in-Ok.ensures texts workers count gate share in
    let pieces = c.loop-share.pieces.items in
    let so_far : vec_len c.push_reserved.new.self ≡ length (yielded ++ c.in-Some.share ∷ []) → vec_len c.loop-share.pieces ≡ count =
    λ all. omega (arith, all, c.push_reserved.ensures.len, grown) in
    record {
      at_most = omega (arith, c.push_reserved.ensures.len, before.at_most, grown);
      whole = λ all. let found = before.whole (so_far all) in rw (c.push_reserved.ensures.items, grown) (record {
        one_each = omega (arith, length_push pieces c.in-Ok.lists, found.one_each);
        piece = one_more (λ worker v. IsPiece texts workers worker v.items) count pieces c.in-Ok.lists found.one_each found.piece piece.0;
      });
      passed = λ all worker below.
          ⊎_elim (before.passed (so_far all) worker) (λ late. subst (passed gate) (omega (arith, late, below, grown)) piece.1) (cases_lt worker count);
      room = omega (arith, c.push_reserved.ensures.capacity, before.room);
    }
