use Rattle.arcstr.specs.Substr.{slice_within, text_of}
use Rattle.arcstr.proofs.Ranges.{lawful_behind, no_parts, parts_at_place}
use Rattle.arcstr.proofs.substr.Substr.substr_split_at.Goals as goal

pub clone_between-after-requires : goal.clone_between-after-requires
clone_between-after-requires g c =
    lawful_behind (text_of c.args.self.now) c.as_str.result.now
    (slice_within c.args.self.now) c.args.place c.in-Ok.start c.in-Ok.end c.len.result c.in-Ok.ensures c.as_str.ensures.text c.len.ensures

pub returns-in-Ok-clause-answer : goal.returns-in-Ok-clause-answer
returns-in-Ok-clause-answer g c =
    parts_at_place (text_of c.args.self.now) c.as_str.result.now (slice_within c.args.self.now) c.args.place c.in-Ok.start c.in-Ok.end c.len.result
    c.clone_between-before.result c.clone_between-after.result c.in-Ok.ensures c.as_str.ensures.text c.len.ensures c.clone_between-before.ensures.slice
    c.clone_between-before.ensures.text c.clone_between-after.ensures.slice c.clone_between-after.ensures.text

pub returns-in-Err-clause-answer : goal.returns-in-Err-clause-answer
returns-in-Err-clause-answer g c =
    no_parts (text_of c.args.self.now) c.as_str.result.now (slice_within c.args.self.now) c.args.place c.in-Err.fault c.in-Err.ensures c.as_str.ensures.text
