use Rattle.std.proofs.Common.{ℕ, List, ◌-◌, length}
use Rattle.arcintern.specs.Serde.{GivesEach}
use Rattle.arcintern.specs.Words.{AreDistinct}
use Rattle.arcintern.specs.declared.interner.TheConstants.{MOST_TEXTS}
use Rattle.arcintern.proofs.serde_impls.WordListDeserializeOwned.deserialize_owned.Given as goal

abbrev pub invariant-loop-list : goal.invariant-loop-list
invariant-loop-list g l =
    GivesEach g.F.Format.gives g.F.Format.stays (λ (text : List ℕ). text) l.initial.from l.list l.from × AreDistinct l.list

abbrev pub decreases-loop-list : goal.decreases-loop-list
decreases-loop-list g l = MOST_TEXTS - length l.list
