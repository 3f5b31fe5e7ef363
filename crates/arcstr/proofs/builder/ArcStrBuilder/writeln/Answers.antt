-- What is formatted is appended piece by piece.
use Rattle.std.specs.Fmt.{with_newline}
use Rattle.arcstr.proofs.Builders.{appended_text}
use Rattle.arcstr.proofs.builder.ArcStrBuilder.writeln.Goals as goal

pub returns-in-Ok-clause-written : goal.returns-in-Ok-clause-written
returns-in-Ok-clause-written g c = appended_text _ _ (with_newline (g.D.Display.output c.args.value)) c.in-Ok.ensures.writes
