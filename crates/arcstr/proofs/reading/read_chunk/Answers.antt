-- What was held back and what is read are taken in.
use Rattle.std.proofs.Common.{take, drop, ap, ◌∙◌}
use Rattle.arcstr.proofs.Readings.{kept_by_text, read_behind}
use Rattle.arcstr.proofs.reading.read_chunk.Goals as goal

pub returns-in-Ok-take_in-clause-read : goal.returns-in-Ok-take_in-clause-read
returns-in-Ok-take_in-clause-read g c =
    let start = c.copy_to-start.result in let count = c.in-Ok.count in let bytes = c.read_at.new.bytes in (
      take count (drop start bytes),
      c.in-Ok.ensures.ok,
      read_behind _ c.args.builder.now.text c.args.builder.now.held bytes c.copy_to-start.new.chunk start count
          c.in-Ok-take_in.ensures.all c.in-Ok.ensures.front (c.copy_to-start.ensures.bytes ∙ ap (λ b. b.held) c.builder.view_is),
    )

pub returns-in-Err-take_in-clause-refused : goal.returns-in-Err-take_in-clause-refused
returns-in-Err-take_in-clause-refused g c =
    let start = c.copy_to-start.result in let count = c.in-Ok.count in let bytes = c.read_at.new.bytes in
    kept_by_text _ _ _ c.in-Err-take_in.fault (λ all. (
      take count (drop start bytes),
      c.in-Ok.ensures.ok,
      read_behind _ c.args.builder.now.text c.args.builder.now.held bytes c.copy_to-start.new.chunk start count
          all c.in-Ok.ensures.front (c.copy_to-start.ensures.bytes ∙ ap (λ b. b.held) c.builder.view_is),
    )) c.in-Err-take_in.ensures.refused
