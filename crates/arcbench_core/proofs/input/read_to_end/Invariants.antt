use Rattle.std.proofs.Common.{◌≡◌, ◌-◌, ◌^◌, false}
use Rattle.std.specs.Prelude.{vec_len}
use Rattle.std.specs.Io.KnownBytes.{Consumes}
use Rattle.arcbench_core.proofs.input.read_to_end.Given as goal

abbrev pub invariant-loop-script : goal.invariant-loop-script
invariant-loop-script g l = record {
  sound : l.input.failed ≡ false;
  read : Consumes (g.R.Read.remaining l.initial.input.value) (g.R.Read.remaining l.input.value) l.script.items;
}

abbrev pub decreases-loop-script : goal.decreases-loop-script
decreases-loop-script g l = 2 ^ 64 - vec_len l.script
