-- The builder has what it had and what was read.
use Rattle.std.proofs.Common.{◌≤◌, ◌<◌, length}
use mathlib.Core.List.{IsPrefix}
use Rattle.arcstr.specs.Reading.{HasRead}
use Rattle.arcstr.proofs.builder.ArcStrBuilder.read_from.Given as goal

abbrev pub invariant-loop : goal.invariant-loop
invariant-loop g l = record {
  room : 4 ≤ length l.chunk;
  few : length l.self.held < 4;
  kept : IsPrefix l.initial.self.text l.self.text;
  read : HasRead (g.R.Read.remaining l.initial.reader) (g.R.Read.remaining l.reader) l.initial.self l.self;
}
