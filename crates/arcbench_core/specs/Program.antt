-- What the arguments of the program mean, what each command writes, and the status of each fault.
use Rattle.std.specs.Prelude.{ℕ, ◌≤◌, ◌&&◌, nat_le, if◌then◌else◌, List, [], ◌∷◌, map, ◌≡◌, ◌⊎◌}
use Rattle.std.specs.Prelude.{Option, None, Some, option_and_then, option_map, IfSome, String, string_bytes, codes}
use Rattle.std.specs.declared.alloc.Global.{Global}
use Rattle.std.specs.Str.{bytes_eq}
use Rattle.std.specs.Io.KnownBytes.{Appends}
use Rattle.arcbench_core.specs.declared.program.Command.{Command}
use Rattle.arcbench_core.specs.declared.program.Command.TheVariants.{Script, Threads, Tokens}
use Rattle.arcbench_core.specs.declared.program.Fault.{Fault}
use Rattle.arcbench_core.specs.declared.program.Fault.TheVariants.{Usage, LimitTooLarge, Memory, Io, NoThread, NotUtf8}
use Rattle.arcbench_core.specs.declared.input.InputFault.{InputFault}
use Rattle.arcbench_core.specs.declared.input.InputFault.TheVariants.{Memory as InputMemory, Io as InputIo}
use Rattle.arcbench_core.specs.declared.script.CopyFault.{CopyFault}
use Rattle.arcbench_core.specs.declared.script.CopyFault.TheVariants.{LimitTooLarge as CopyLimitTooLarge, Memory as CopyMemory, Io as CopyIo}
use Rattle.arcbench_core.specs.Script.{WritesAnswer}
use Rattle.arcbench_core.specs.Line.{number_of}
use Rattle.arcbench_core.specs.Threads.{threads_answer}
use Rattle.arcbench_core.specs.TokenLines.{WritesTokens}

-- a lawful number of workers: from 1 to 64
abbrev pub lawful_count : ℕ → Option ℕ
lawful_count n = if nat_le 1 n && nat_le n 64 then Some n else None

-- the number of workers that an argument means: a NUMBER from 1 to 64
abbrev pub worker_count : List ℕ → Option ℕ
worker_count argument = option_and_then (λ n. lawful_count n) (number_of argument)

-- the command that a first argument and a number of workers mean: `threads` or `tokens`
abbrev pub command_for : List ℕ → Option ℕ → Option Command
command_for command count =
    if bytes_eq command (codes "threads") then option_map (λ n. Threads n) count
    else (if bytes_eq command (codes "tokens") then option_map (λ n. Tokens n) count else None)

-- the command that arguments mean: `script` alone, or `threads` or `tokens` and a number of workers; other arguments mean none
abbrev pub command_of : List (List ℕ) → Option Command
command_of [] = None
command_of (command ∷ []) = if bytes_eq command (codes "script") then Some Script else None
command_of (command ∷ count ∷ []) = command_for command (worker_count count)
command_of (command ∷ next ∷ third ∷ more) = None

-- the command that the program's arguments mean
abbrev pub command_in : List (String Global) → Option Command
command_in arguments = command_of (map (λ argument. string_bytes argument) arguments)

-- the arguments mean `script`
abbrev pub IsForScript : List (String Global) → Type 0
IsForScript arguments = command_in arguments ≡ Some Script

-- the arguments mean `threads` and a number of workers
abbrev pub IsForThreads : List (String Global) → Type 0
IsForThreads arguments = (n : ℕ) × (command_in arguments ≡ Some (Threads n))

-- the arguments mean `tokens` and a number of workers
abbrev pub IsForTokens : List (String Global) → Type 0
IsForTokens arguments = (n : ℕ) × (command_in arguments ≡ Some (Tokens n))

-- the arguments mean a command that reads its input: `script`, or `tokens` and a number of workers
abbrev pub ReadsInput : List (String Global) → Type 0
ReadsInput arguments = IsForScript arguments ⊎ IsForTokens arguments

-- a command for threads or tokens has from 1 to 64 workers
abbrev pub HasLawfulCount : Command → Type 0
HasLawfulCount Script = Unit {0}
HasLawfulCount (Threads n) = (1 ≤ n) × (n ≤ 64)
HasLawfulCount (Tokens n) = (1 ≤ n) × (n ≤ 64)

-- what a command has written when it is done: the answer to the script that was read, the lines of the workers, or the lines of the
-- words of the input that was read
abbrev pub IsDone : Command → Option (List ℕ) → Option (List ℕ) → Option (List ℕ) → Type 0
IsDone Script input old new = IfSome input (λ script. WritesAnswer script old new)
IsDone (Threads n) input old new = Appends old new (threads_answer n)
IsDone (Tokens n) input old new = IfSome input (λ bytes. WritesTokens bytes old new)

-- what a command for threads can fail with
abbrev pub IsFaultOfThreads : Fault → Type 0
IsFaultOfThreads fault = (fault ≡ Memory) ⊎ (fault ≡ Io) ⊎ (fault ≡ NoThread)

-- what a command for tokens can fail with
abbrev pub IsFaultOfTokens : Fault → Type 0
IsFaultOfTokens fault = (fault ≡ Memory) ⊎ (fault ≡ Io) ⊎ (fault ≡ NotUtf8)

-- the fault of the program after a fault of a run of a script
abbrev pub fault_of : CopyFault → Fault
fault_of CopyLimitTooLarge = LimitTooLarge
fault_of CopyMemory = Memory
fault_of CopyIo = Io

-- the fault of the program whose input was not read
abbrev pub fault_of_input : InputFault → Fault
fault_of_input InputMemory = Memory
fault_of_input InputIo = Io

-- the status of the program after a fault
abbrev pub status_of : Fault → ℕ
status_of Usage = 1
status_of LimitTooLarge = 2
status_of Memory = 3
status_of Io = 4
status_of NoThread = 5
status_of NotUtf8 = 6
