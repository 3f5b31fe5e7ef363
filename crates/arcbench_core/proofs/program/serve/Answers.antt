use Rattle.arcbench_core.proofs.KnownUtf8.{says_by_status}
use Rattle.arcbench_core.proofs.program.serve.Goals.{in-None, in-Some-Script, in-Some-Threads, in-Some-Tokens}
use Rattle.arcbench_core.proofs.program.serve.Goals as goal

-- only the command `tokens` checks whether its input is UTF-8
pub returns-clause-not_utf8 : goal.returns-clause-not_utf8
returns-clause-not_utf8 g c no_memory no_io (n, tokens) =
    elim c.match-command_of.branch [
      | in-None w ↦ absurd (cc)
      | in-Some-Script w ↦ absurd (cc)
      | in-Some-Threads w ↦ absurd (cc)
      | in-Some-Tokens w ↦
          says_by_status _ c.match-command_of.done c.status_after.result c.status_after.ensures.ok c.status_after.ensures.fault
          (rw w.done-is w.tell_tokens-done.ensures.not_utf8) no_memory no_io
    ]
