-- Each read appends to what the reads before it gave.
use Rattle.std.proofs.Common.{ap, ◌∙◌, ◌++◌}
use Rattle.arcstr.specs.Reading.{HasRead}
use Rattle.arcstr.proofs.Readings.{kept_by_fault, read_more, prefix_of_longer, has_all}
use Rattle.arcstr.proofs.builder.ArcStrBuilder.read_from.Goals as goal

pub loop-preserved : goal.loop-preserved
loop-preserved g c =
    let before = c.loop.invariant in let own = c.in-Ok-true.ensures in record {
      room = rw own.long before.room;
      few = own.few;
      kept = prefix_of_longer c.take_in.new.self.text c.loop.self.text c.read_chunk.new.builder.text before.kept own.kept;
      read = read_more (g.R.Read.remaining c.args.reader.now) (g.R.Read.remaining c.loop.reader) (g.R.Read.remaining c.read_chunk.new.reader)
          c.take_in.new.self c.loop.self c.read_chunk.new.builder before.read own.read;
    }

pub returns-in-Err-read_chunk-clause-refused : goal.returns-in-Err-read_chunk-clause-refused
returns-in-Err-read_chunk-clause-refused g c =
    let before = c.loop.invariant.read in
    let held = c.in_default.ensures.all ∙ ap (λ xs. c.args.self.now.text ++ xs) (c.copy_to-held.ensures.bytes ∙ ap (λ b. b.held) c.self.view_is) in
    kept_by_fault c.read_chunk.new.builder.text
    (HasRead (g.R.Read.remaining c.loop.reader) (g.R.Read.remaining c.read_chunk.new.reader) c.loop.self c.read_chunk.new.builder)
    (HasRead (g.R.Read.remaining c.args.reader.now) (g.R.Read.remaining c.read_chunk.new.reader) c.args.self.now c.read_chunk.new.builder)
    c.in-Err-read_chunk.fault
    (λ more. read_more (g.R.Read.remaining c.args.reader.now) (g.R.Read.remaining c.loop.reader) (g.R.Read.remaining c.read_chunk.new.reader)
    c.args.self.now c.loop.self c.read_chunk.new.builder
    (before.0, before.1, before.2 ∙ ap (λ xs. xs ++ before.0) held) more) c.in-Err-read_chunk.ensures.refused

pub returns-in-Ok-false : goal.returns-in-Ok-false
returns-in-Ok-false g c =
    let before = c.loop.invariant in let own = c.in-Ok-false.ensures in let ends = own.end c.in-Ok-false.field-0-test in
    let held = c.in_default.ensures.all ∙ ap (λ xs. c.args.self.now.text ++ xs) (c.copy_to-held.ensures.bytes ∙ ap (λ b. b.held) c.self.view_is) in record {
      text = has_all (g.R.Read.remaining c.args.reader.now) (g.R.Read.remaining c.read_chunk.new.reader) c.args.self.now c.read_chunk.new.builder
          (read_more (g.R.Read.remaining c.args.reader.now) (g.R.Read.remaining c.loop.reader) (g.R.Read.remaining c.read_chunk.new.reader)
          c.args.self.now c.loop.self c.read_chunk.new.builder
          (before.read.0, before.read.1, before.read.2 ∙ ap (λ xs. xs ++ before.read.0) held) own.read) ends.0 ends.1;
      held = ends.0;
      end = ends.1;
      kept = prefix_of_longer c.args.self.now.text c.loop.self.text c.read_chunk.new.builder.text
          (prefix_of_longer c.args.self.now.text c.take_in.new.self.text c.loop.self.text c.in_default.ensures.kept before.kept) own.kept;
      refused = tt;
    }
