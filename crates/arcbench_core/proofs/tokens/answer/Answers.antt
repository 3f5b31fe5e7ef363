use Rattle.std.proofs.Common.{string_bytes, ap, ◌∙◌}
use Rattle.arcbench_core.specs.Line.{script_lines}
use Rattle.arcbench_core.proofs.TokensPrinted.{IsTokenAnswer-lists}
use Rattle.arcbench_core.proofs.tokens.answer.Goals as goal

pub returns-clause-ok : goal.returns-clause-ok
returns-clause-ok g c =
    rw c.into_bytes.ensures.value (
    IsTokenAnswer-lists c.args.input.now (string_bytes c.new-lines.result) (string_bytes c.push_lists.new.out) c.in_ok-texts.texts.items c.deref.result.now
    c.in_ok-lists.lists.items c.deref-2.result.now (c.in_ok-texts.ensures ∙ ap script_lines c.in-Ok.ensures.cases.0) c.deref.ensures.value
    c.in_ok-lists.ensures c.deref-2.ensures.value c.new-lines.ensures.bytes c.in_ok-push_lists.ensures)
