-- The numbers, the texts and the kinds of the faults of a world.
use Rattle.std.specs.Prelude.{ℕ, List, codes}
use Rattle.std.specs.declared.io.ErrorKind.{ErrorKind}
use Rattle.std.specs.declared.io.ErrorKind.TheVariants.{InvalidInput, OutOfMemory}
use Rattle.arcstr_world.specs.declared.faults.RunFault.{RunFault}
use Rattle.arcstr_world.specs.declared.faults.RunFault.TheVariants.{LimitTooLarge, Memory}

abbrev pub run_fault_number : RunFault → ℕ
run_fault_number LimitTooLarge = 1
run_fault_number Memory = 2

abbrev pub run_fault_text : RunFault → List ℕ
run_fault_text LimitTooLarge = codes "limit too large"
run_fault_text Memory = codes "out of memory"

-- the kind of a fault as an `io::Error`
abbrev pub run_fault_kind : RunFault → ErrorKind
run_fault_kind LimitTooLarge = InvalidInput
run_fault_kind Memory = OutOfMemory
