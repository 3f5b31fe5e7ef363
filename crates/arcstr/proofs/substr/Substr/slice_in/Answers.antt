use Rattle.arcstr.specs.Substr.{slice_within, text_of}
use Rattle.arcstr.proofs.Ranges.{no_slice, slice_at_ends}
use Rattle.arcstr.proofs.substr.Substr.slice_in.Goals as goal

pub returns-in-Ok-clause-answer : goal.returns-in-Ok-clause-answer
returns-in-Ok-clause-answer g c =
    slice_at_ends (text_of c.args.self.now) c.as_str.result.now (slice_within c.args.self.now) c.args.range c.in-Ok.start c.in-Ok.end c.clone_between.result
    c.in-Ok.ensures c.as_str.ensures.text c.clone_between.ensures.slice c.clone_between.ensures.text

pub returns-in-Err-clause-answer : goal.returns-in-Err-clause-answer
returns-in-Err-clause-answer g c =
    no_slice (text_of c.args.self.now) c.as_str.result.now (slice_within c.args.self.now) c.args.range c.in-Err.fault c.in-Err.ensures c.as_str.ensures.text
