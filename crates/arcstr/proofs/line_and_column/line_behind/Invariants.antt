-- The lines that have been passed, and those to come.
use Rattle.std.proofs.Common.{◌<◌, ◌+◌, ◌^◌, length, map}
use denote.Text.{Utf8}
use denote.Shadow.{shadow}
use Rattle.std.specs.Char.{is_newline}
use Rattle.arcstr_range.specs.Pieces.{texts_between}
use Rattle.arcstr.proofs.LinesBefore.{Passed}
use Rattle.arcstr.proofs.line_and_column.line_behind.Given as goal

abbrev pub invariant-loop-part : goal.invariant-loop-part
invariant-loop-part l =
    (goal.iterator-loop-part).can_next l.part-iterator × (goal.iterator-loop-part).is_finite l.part-iterator × shadow (Utf8 l.own)
    × (l.line + length l.part-iterator < 2 ^ 64) × Passed (texts_between is_newline l.before) l.line l.own (map (λ view. view.text) l.part-iterator)
