-- The numbers and the names of the faults of a step.
use Rattle.std.specs.Prelude.{ℕ, List, codes}
use Rattle.arcstr_count.specs.declared.faults.StepFault.{StepFault}
use Rattle.arcstr_count.specs.declared.faults.StepFault.TheVariants.{NoHandle, InDrop, NotInDrop, NotOwing, IsRaw, NotRaw}

abbrev pub step_fault_number : StepFault → ℕ
step_fault_number NoHandle = 1
step_fault_number InDrop = 2
step_fault_number NotInDrop = 3
step_fault_number NotOwing = 4
step_fault_number IsRaw = 5
step_fault_number NotRaw = 6

abbrev pub step_fault_text : StepFault → List ℕ
step_fault_text NoHandle = codes "NoHandle"
step_fault_text InDrop = codes "InDrop"
step_fault_text NotInDrop = codes "NotInDrop"
step_fault_text NotOwing = codes "NotOwing"
step_fault_text IsRaw = codes "IsRaw"
step_fault_text NotRaw = codes "NotRaw"
