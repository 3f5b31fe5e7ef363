use Rattle.std.proofs.Common.{lit<}
use Rattle.std.proofs.lemmas.Str.Pattern.{split_once_first}
use Rattle.arcbench_core.specs.Line.{newline}
use Rattle.arcbench_core.proofs.LineTexts.{script_lines-first, script_lines-none}
use Rattle.arcbench_core.proofs.tokens.first_line_of_text.Goals as goal

pub returns-in-Some-clause-lines : goal.returns-in-Some-clause-lines
returns-in-Some-clause-lines c =
    let cut = split_once_first newline c.args.text.now c.split_once.result c.split_once.ensures.cases (lit< tt) in
    let parts = rw c.in-Some.is at cut in
    rw (parts.1, parts.2) (script_lines-first c.args.text.now c.requires)

pub returns-in-None-clause-lines : goal.returns-in-None-clause-lines
returns-in-None-clause-lines c =
    let cut = split_once_first newline c.args.text.now c.split_once.result c.split_once.ensures.cases (lit< tt) in
    script_lines-none c.args.text.now c.requires (rw c.in-None.is at cut)
