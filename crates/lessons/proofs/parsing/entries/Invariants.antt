-- The entries so far join with the rest to the list.
use Rattle.std.proofs.Common.{◌≡◌, [], ◌∷◌, ◌++◌, length}
use Rattle.std.specs.Prelude.{codes}
use Rattle.std.specs.List.{join_by}
use Rattle.arcstr.specs.Substr.{text_of}
use Rattle.lessons.proofs.parsing.entries.Given as goal

abbrev pub invariant-loop-entry : goal.invariant-loop-entry
invariant-loop-entry g l = join_by text_of (codes "; ") (l.entries.items ++ l.rest ∷ []) ≡ text_of l.list

abbrev pub decreases-loop-entry : goal.decreases-loop-entry
decreases-loop-entry g l = length (text_of l.rest)
