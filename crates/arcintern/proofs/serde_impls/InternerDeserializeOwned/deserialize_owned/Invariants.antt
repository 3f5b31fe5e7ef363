use Rattle.std.proofs.Common.{◌-◌, length}
use Rattle.arcintern.specs.Serde.{GivesEach}
use Rattle.arcintern.specs.Texts.{HasEachOnce}
use Rattle.arcintern.specs.declared.interner.TheConstants.{MOST_TEXTS}
use Rattle.arcstr.specs.TextView.{TextView}
use Rattle.arcintern.proofs.serde_impls.InternerDeserializeOwned.deserialize_owned.Given as goal

abbrev pub invariant-loop-interner : goal.invariant-loop-interner
invariant-loop-interner g l =
    GivesEach g.F.Format.gives g.F.Format.stays (λ (text : TextView). text.text) l.initial.from l.interner l.from × HasEachOnce l.interner

abbrev pub decreases-loop-interner : goal.decreases-loop-interner
decreases-loop-interner g l = MOST_TEXTS - length l.interner
