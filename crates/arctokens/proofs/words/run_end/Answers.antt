use Rattle.std.proofs.Common.{◌+◌, Bool, subst}
use Rattle.arctokens.specs.Runs.{IsCharacterBetween}
use Rattle.arctokens.proofs.Runs.{AreAlike-none, AreAlike-join, AreAlike-more, IsRun-stopped, same_kind}
use Rattle.arctokens.proofs.words.run_end.Goals as goal

pub loop-at-init : goal.loop-at-init
loop-at-init c = AreAlike-none c.args.text.now c.args.from c.args.white c.requires

-- sixteen bytes are passed at once
pub loop-at-preserved-then-passed-eq-LANES : goal.loop-at-preserved-then-passed-eq-LANES
loop-at-preserved-then-passed-eq-LANES c =
    AreAlike-join c.args.text.now c.args.from c.loop-at.at (c.loop-at.at + c.run_prefix-passed.result) c.args.white c.utf8.text c.requires c.loop-at.invariant
    c.run_prefix-passed.ensures.alike

-- the character after the passed bytes is of the other kind
pub returns-then-next-white : goal.returns-then-next-white
returns-then-next-white c =
    let next = c.character_at-next in
    let at = c.loop-at.at + c.run_prefix-passed.result in
    let alike =
    AreAlike-join c.args.text.now c.args.from c.loop-at.at at c.args.white c.utf8.text c.requires c.loop-at.invariant
    c.run_prefix-passed.ensures.alike in
    IsRun-stopped c.args.text.now c.args.from at (at + next.result.width) c.args.white next.result.white c.utf8.text alike next.ensures c.if-next-white.true

-- the character after the passed bytes is of the kind of the run
pub loop-at-preserved : goal.loop-at-preserved
loop-at-preserved c =
    let next = c.character_at-next in
    let at = c.loop-at.at + c.run_prefix-passed.result in
    let alike =
    AreAlike-join c.args.text.now c.args.from c.loop-at.at at c.args.white c.utf8.text c.requires c.loop-at.invariant
    c.run_prefix-passed.ensures.alike in
    let P : Bool → Type 0 = IsCharacterBetween c.args.text.now at (at + next.result.width) in
    AreAlike-more c.args.text.now c.args.from at (at + next.result.width) c.args.white c.utf8.text c.requires alike
    (subst P (same_kind next.result.white c.args.white c.if-next-white.false) next.ensures)
