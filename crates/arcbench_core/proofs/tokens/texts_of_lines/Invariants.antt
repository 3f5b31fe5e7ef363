-- There is a text for each line so far, and the rest has the other lines.
use Rattle.std.proofs.Common.{◌≡◌, ◌++◌, length}
use denote.Text.{Utf8}
use denote.Shadow.{shadow}
use Rattle.arcbench_core.specs.Line.{script_lines}
use Rattle.arcbench_core.specs.TokenLines.{texts_of_shared}
use Rattle.arcbench_core.proofs.tokens.texts_of_lines.Given as goal

abbrev pub invariant-loop-rest : goal.invariant-loop-rest
invariant-loop-rest l =
    record {
      utf8 : shadow (Utf8 l.rest);
      lines : script_lines l.input ≡ texts_of_shared l.texts.items ++ script_lines l.rest;
    }

abbrev pub decreases-loop-rest : goal.decreases-loop-rest
decreases-loop-rest l = length l.rest
