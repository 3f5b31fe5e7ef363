-- The faults of a range, the ends of a range, the rules for them, and the first fault of ends that break one.
use Rattle.std.specs.Prelude.{◌≡◌, ◌↔◌, ℕ, ◌+◌, ◌<◌, ◌≤◌, List, length, ⊤, Result, IsOk, IsErrOf, IfOk, IfErr, codes}
use Rattle.std.specs.Str.{IsCharBoundary}
use Rattle.arcstr_range.specs.declared.range.StrRange.{StrRange}
use Rattle.arcstr_range.specs.declared.range.StrRange.TheVariants.{Between, From, To, Full, Inclusive, ToInclusive}
use Rattle.arcstr_range.specs.declared.range.fault.RangeFault.{RangeFault}
use Rattle.arcstr_range.specs.declared.range.fault.RangeFault.TheVariants.{OutOfOrder, PastEnd, OffBoundary}
use Rattle.arcstr_range.specs.Text.{cut}

-- the number of a fault: rules with lower numbers are tested first. No fault has the number 3
abbrev pub range_fault_number : RangeFault → ℕ
range_fault_number OutOfOrder = 1
range_fault_number PastEnd = 2
range_fault_number OffBoundary = 4

-- the message of a fault
abbrev pub range_fault_text : RangeFault → List ℕ
range_fault_text OutOfOrder = codes "range start is after its end"
range_fault_text PastEnd = codes "range ends past the text"
range_fault_text OffBoundary = codes "range cuts a character"

-- ---- the ends of a range

-- the start and the end of a range in a sequence of this length, as unbounded natural numbers
abbrev pub ends_of : StrRange → ℕ → ℕ × ℕ
ends_of (Between start end) len = (start, end)
ends_of (From start) len = (start, len)
ends_of (To end) len = (0, end)
ends_of Full len = (0, len)
ends_of (Inclusive start last) len = (start, last + 1)
ends_of (ToInclusive last) len = (0, last + 1)

-- the rule of each fault, for a start and an end in a sequence of this length: the fault occurs if the rule is broken. A length has no characters to cut
abbrev pub length_rule : ℕ → ℕ → ℕ → RangeFault → Type 0
length_rule len start end OutOfOrder = start ≤ end
length_rule len start end PastEnd = end ≤ len
length_rule len start end OffBoundary = ⊤

-- the rule of each fault, for a start and an end in this text
abbrev pub text_rule : List ℕ → ℕ → ℕ → RangeFault → Type 0
text_rule text start end OutOfOrder = length_rule (length text) start end OutOfOrder
text_rule text start end PastEnd = length_rule (length text) start end PastEnd
text_rule text start end OffBoundary = IsCharBoundary text start × IsCharBoundary text end

-- the first fault in the order of their numbers: its rule is broken, and each earlier rule holds
pub record IsFirstFault (rule : RangeFault → Type 0) (fault : RangeFault) : Type 0 where
  pub broken : ¬ (rule fault)
  pub kept_before : (earlier : RangeFault) → range_fault_number earlier < range_fault_number fault → rule earlier

-- the result for a range: its ends, exactly if they are valid, and otherwise the first fault
pub record AnswersEnds (ends : ℕ × ℕ) (valid : Type 0) (is_first : RangeFault → Type 0) (answer : Result (ℕ × ℕ) RangeFault) : Type 0 where
  pub value : IfOk answer (λ given. given ≡ ends)
  pub lawful : IsOk answer ↔ valid
  pub fault : IfErr answer is_first
  pub only_fault : (fault : RangeFault) → is_first fault → IsErrOf answer fault

-- each rule of a length holds
pub record FitsLength (len start end : ℕ) : Type 0 where
  pub in_order : length_rule len start end OutOfOrder
  pub within : length_rule len start end PastEnd

-- the ends are valid in this text, as those of a slice of Rust's `str`: each rule of the text holds
pub record IsLawful (text : List ℕ) (start end : ℕ) : Type 0 where
  pub in_order : text_rule text start end OutOfOrder
  pub within : text_rule text start end PastEnd
  pub at_boundaries : text_rule text start end OffBoundary

-- ---- a range in a text has the ends for the text's length

abbrev pub ends_in : List ℕ → StrRange → ℕ × ℕ
ends_in text range = ends_of range (length text)

-- the bytes of the text between the ends of the range
abbrev pub cut_by : List ℕ → StrRange → List ℕ
cut_by text range = let ends = ends_in text range in cut text ends.0 ends.1

abbrev pub IsLawfulRange : List ℕ → StrRange → Type 0
IsLawfulRange text range = let ends = ends_in text range in IsLawful text ends.0 ends.1

abbrev pub IsFirstRangeFault : List ℕ → StrRange → RangeFault → Type 0
IsFirstRangeFault text range = let ends = ends_in text range in IsFirstFault (text_rule text ends.0 ends.1)
