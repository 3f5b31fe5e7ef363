-- The lines to come are found in the head.
use Rattle.std.specs.Prelude.{All}
use Rattle.arcstr_range.specs.View.{IsFoundAt}
use Rattle.lessons.proofs.parsing.field.Given as goal

abbrev pub invariant-loop-line : goal.invariant-loop-line
invariant-loop-line l = All (λ line. IsFoundAt l.head.text line.text line.place) l.line-iterator
