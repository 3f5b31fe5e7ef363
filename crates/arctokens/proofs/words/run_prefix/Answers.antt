use Rattle.arctokens.proofs.Runs.{AreAlike-passed_none, AreAlike-visible}
use Rattle.arctokens.proofs.words.run_prefix.Goals as goal

pub returns-then-white-clause-alike : goal.returns-then-white-clause-alike
returns-then-white-clause-alike c = AreAlike-passed_none c.args.text.now c.args.place c.args.white c.requires.boundary

pub returns-else-white-clause-alike : goal.returns-else-white-clause-alike
returns-else-white-clause-alike c =
    let text = c.args.text.now in
    let prefix = rw c.as_bytes.ensures.value at c.visible_prefix.ensures in
    rw c.if-white.false
    (AreAlike-visible text c.args.place c.visible_prefix.result c.utf8.text c.requires.boundary prefix.inside prefix.visible)
