-- There is only one first fault.
use Rattle.std.proofs.Common.{◌≡◌, ◌<◌, ◌⊎◌, inl, inr, refl, ap, arith}
use Rattle.std.specs.Prelude.{Err, IsErrOf}
use Rattle.arcstr_range.specs.declared.range.fault.RangeFault.{RangeFault}
use Rattle.arcstr_range.specs.declared.range.fault.RangeFault.TheVariants.{OutOfOrder, PastEnd, OffBoundary}
use Rattle.arcstr_range.specs.Ends.{IsFirstFault, range_fault_number}

-- different faults have different numbers
ordered : (given fault : RangeFault) →
    (given ≡ fault) ⊎ (range_fault_number given < range_fault_number fault) ⊎ (range_fault_number fault < range_fault_number given)
ordered OutOfOrder OutOfOrder = inl refl
ordered PastEnd PastEnd = inl refl
ordered OffBoundary OffBoundary = inl refl
ordered OutOfOrder _ = inr (inl (omega arith))
ordered PastEnd OutOfOrder = inr (inr (omega arith))
ordered PastEnd _ = inr (inl (omega arith))
ordered OffBoundary _ = inr (inr (omega arith))

pub IsFirstFault-unique : (rule : RangeFault → Type 0) (given fault : RangeFault) → IsFirstFault rule given → IsFirstFault rule fault → given ≡ fault
IsFirstFault-unique rule given fault first other =
    elim (ordered given fault) [
      | inl same ↦ same
      | inr apart ↦ elim apart [
        | inl before ↦ absurd (first.broken (other.kept_before given before))
        | inr after ↦ absurd (other.broken (first.kept_before fault after))
      ]
    ]

-- so a range that is refused with one first fault is refused with every first fault
pub refused_with : {T : Type 0} (rule : RangeFault → Type 0) (given : RangeFault) → IsFirstFault rule given
    → (fault : RangeFault) → IsFirstFault rule fault → IsErrOf {T = T} {E = RangeFault} (Err given) fault
refused_with rule given first fault other = ap Err (IsFirstFault-unique rule given fault first other)
