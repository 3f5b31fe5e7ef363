-- There is room for one more copy.
use Rattle.arcstr_block.proofs.Names.{arith, ap, length, ◌++◌, ◌∙◌}
use Rattle.arcstr_block.proofs.Texts.{copies_room}
use Rattle.std_alloc.proofs.Concat.{repeat_push}
use Rattle.arcstr_block.proofs.shared.Shared.repeat.Goals as goal

pub append-requires : goal.append-requires
append-requires g c = let was = c.loop.invariant in record {
  room = omega (arith, ap length was.0, was.1, c.in-Some.ensures, copies_room c.loop.counter c.args.n c.args.text.now c.loop-test.true);
}

pub loop-preserved : goal.loop-preserved
loop-preserved g c = let was = c.loop.invariant in (
  c.append.ensures.text ∙ ap (λ ys. ys ++ c.args.text.now) was.0 ∙ repeat_push c.loop.counter c.args.text.now,
  c.append.ensures.capacity ∙ was.1,
)
