use Rattle.std.proofs.Common.{◌<◌, length, arith}
use Rattle.arctokens.proofs.TextWords.{IsFirstWord-runs, HasNoWord-run}
use Rattle.arctokens.proofs.words.next_word.Goals as goal

pub returns-then-start-text-clause-none : goal.returns-then-start-text-clause-none
returns-then-start-text-clause-none c =
    HasNoWord-run c.args.text.now c.args.from c.run_end-start.result c.utf8.text c.requires.boundary c.if-start-text.true
    c.run_end-start.ensures.alike

pub returns-clause-first : goal.returns-clause-first
returns-clause-first c =
    let start = c.run_end-start in
    let inside : start.result < length c.args.text.now = omega (arith, start.ensures.alike.at_end.0, c.if-start-text.false) in
    IsFirstWord-runs c.args.text.now c.args.from start.result c.run_end-end.result c.utf8.text c.requires.boundary c.requires.between inside
    start.ensures c.run_end-end.ensures
