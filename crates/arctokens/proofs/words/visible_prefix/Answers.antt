use Rattle.std.proofs.Common.{◌+◌, ◌≤◌, length, arith}
use Rattle.arctokens.proofs.Runs.{all_visible, some_visible}
use Rattle.arctokens.proofs.words.visible_prefix.Goals as goal

pub returns-then-others-eq0-clause-visible : goal.returns-then-others-eq0-clause-visible
returns-then-others-eq0-clause-visible c =
    let room : c.args.place + 16 ≤ length c.args.bytes.now = omega (arith, c.if-bytes-place-lt-LANES.false) in
    (all_visible c.args.bytes.now c.args.place c.other_bytes-others.result room c.other_bytes-others.ensures c.if-others-eq0.true).visible

pub returns-else-others-eq0 : goal.returns-else-others-eq0
returns-else-others-eq0 c =
    let room : c.args.place + 16 ≤ length c.args.bytes.now = omega (arith, c.if-bytes-place-lt-LANES.false) in
    let prefix = some_visible c.args.bytes.now c.args.place c.other_bytes-others.result room c.other_bytes-others.ensures c.if-others-eq0.false in
    record {
      within = prefix.within;
      inside = omega (arith, prefix.within, room);
      stops = λ fewer. omega (arith, prefix.within, room, fewer);
      visible = prefix.visible;
    }
