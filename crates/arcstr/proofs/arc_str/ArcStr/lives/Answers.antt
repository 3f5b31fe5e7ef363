-- Of a counted block the law of its handle says that what was seen does not end in the free.
use Rattle.std.proofs.Common.{subst}
use Rattle.arcstr.specs.History.{IsSeenFree}
use Rattle.arcstr.proofs.arc_str.ArcStr.lives.Goals as goal

pub returns-in-Some-Some : goal.returns-in-Some-Some
returns-in-Some-Some c = record {
  unfreed = λ freed. let found = subst IsSeenFree c.in-Some-Some.is-1 freed in absurd (c.lives.ensures.unfreed found.0 found.1);
}
