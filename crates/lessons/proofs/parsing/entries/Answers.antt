-- The next entry and what is behind it join to the rest before.
use Rattle.std.specs.Prelude.{codes}
use Rattle.arcstr.specs.Substr.{text_of}
use Rattle.arcstr.proofs.JoinedSlices.{joined_split}
use Rattle.lessons.proofs.parsing.entries.Goals as goal

pub loop-entry-preserved : goal.loop-entry-preserved
loop-entry-preserved g c =
    joined_split text_of (codes "; ") c.loop-entry.entries.items c.push.new.self.items c.in-Some.entry c.in-Some.behind c.loop-entry.rest
    (text_of c.args.list.now) c.loop-entry.invariant (c.in-Some.ensures.joined (codes "; ") (λ text start end found. found.1)) c.in_ok-push.ensures.items
