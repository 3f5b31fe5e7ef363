-- What is formatted is appended piece by piece.
use Rattle.arcstr.proofs.Builders.{appended_text}
use Rattle.arcstr.proofs.builder.ArcStrBuilder.write_fmt.Goals as goal

pub returns-in-Ok-clause-written : goal.returns-in-Ok-clause-written
returns-in-Ok-clause-written g c = appended_text _ _ (g.D.Display.output c.args.value) c.in-Ok.ensures.writes
