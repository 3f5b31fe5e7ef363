-- Each handle keeps the promise of its thread, which is that of the worker with the handle's own number.
use Rattle.std.proofs.Common.{◌∙◌, ap}
use Rattle.arcbench_core.proofs.pool.join_all.Goals as goal

pub returns-in-Ok-clause-all_passed : goal.returns-in-Ok-clause-all_passed
returns-in-Ok-clause-all_passed g c worker below =
    let kept = (c.in-Ok.ensures.each worker c.args.text.now below).1 in
    let gate = ap (λ thread. thread.promise.gate.now) kept.handle_is ∙ c.requires.gates worker kept.handle below in
    let number = ap (λ thread. thread.promise.worker) kept.handle_is ∙ c.requires.numbers worker kept.handle below in
    rw (gate, number) at kept.kept.1
