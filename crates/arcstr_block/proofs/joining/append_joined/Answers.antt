-- There is room for what is joined so far, the gap and the text.
use Rattle.arcstr_block.proofs.Names.{arith, sym, ap, length, length-append, ◌++◌, ◌∙◌, join_by, take}
use Rattle.arcstr_block.proofs.Texts.{joined_room, joined_more}
use Rattle.arcstr_block.proofs.joining.append_joined.Goals as goal

pub append-requires : goal.append-requires
append-requires g c =
    let was = c.loop-i.invariant in let gap = c.gap_before in
    let room = joined_room g.S.AsStr.text c.args.separator.now c.args.texts.now c.loop-i.i c.index-texts-i.result gap.result.now c.loop-i-test.true
    gap.ensures.first gap.ensures.later in record { room = omega (arith, ap length was.0, was.1, c.requires.room, room) }

pub append-requires-in-loop-i : goal.append-requires-in-loop-i
append-requires-in-loop-i g c =
    let was = c.loop-i.invariant in let gap = c.gap_before in let f = g.S.AsStr.text in let put = c.append.ensures in
    let room = joined_room f c.args.separator.now c.args.texts.now c.loop-i.i c.index-texts-i.result gap.result.now c.loop-i-test.true gap.ensures.first
    gap.ensures.later in let sum = length-append c.loop-i.draft.text gap.result.now in let text = ap length (c.as_str-text.ensures ∙ ap f c.index-texts-i.is) in
    record { room = omega (arith, ap length was.0, was.1, ap length put.text, sum, put.capacity, text, c.requires.room, room) }

pub loop-i-preserved : goal.loop-i-preserved
loop-i-preserved g c =
    let f = g.S.AsStr.text in let was = c.loop-i.invariant in let gap = c.gap_before in let put = c.append.ensures in
    let last = c.append-in-loop-i.ensures in let prefix = join_by f c.args.separator.now (take c.loop-i.i c.args.texts.now) in
    let more = joined_more f c.args.separator.now c.args.texts.now c.loop-i.i c.index-texts-i.result gap.result.now c.loop-i-test.true gap.ensures.first
    gap.ensures.later in (
      last.text ∙ ap (λ ys. ys ++ c.as_str-text.result.now) (put.text ∙ ap (λ ys. ys ++ gap.result.now) was.0)
          ∙ ap (λ ys. (prefix ++ gap.result.now) ++ ys) (c.as_str-text.ensures ∙ ap f c.index-texts-i.is) ∙ sym more,
      last.capacity ∙ put.capacity ∙ was.1,
    )
