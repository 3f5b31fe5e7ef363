-- The answer to a script, the texts of its replies, and what a run of the script writes and answers.
use Rattle.std.specs.Prelude.{ℕ, nat_lt, if◌then◌else◌, List, [], ◌∷◌, ◌++◌, length, map, take, slice_index_or, Option, None, Some, Result, Ok, Err, codes, ◌≡◌}
use Rattle.std.specs.List.{concat, filter_map}
use Rattle.std.specs.Fmt.{decimal}
use Rattle.std.specs.Io.KnownBytes.{Appends}
use Rattle.arcstr_count.specs.declared.steps.Step.{Step}
use Rattle.arcstr_world.specs.declared.faults.RunFault.{RunFault}
use Rattle.arcstr_world.specs.declared.faults.RunFault.TheVariants.{LimitTooLarge as RunLimitTooLarge, Memory as RunMemory}
use Rattle.arcstr_count.specs.declared.words.TheConstants.{RC_MAX}
use Rattle.arcstr_count.specs.Model.{State, step, after, numbers_below}
use Rattle.arcstr_count.specs.declared.steps.Reply.{Reply}
use Rattle.arcstr_count.specs.declared.steps.Reply.TheVariants.{Made, Count, Static, Handle, Looked, Ended, Left, Owes, Given, Marked, Raw, Unraw, Refused}
use Rattle.arcstr_count.specs.Faults.{step_fault_number, step_fault_text}
use Rattle.arcbench_core.specs.declared.script.CopyFault.{CopyFault}
use Rattle.arcbench_core.specs.declared.script.CopyFault.TheVariants.{LimitTooLarge, Memory, Io}
use Rattle.arcbench_core.specs.declared.input.InputFault.{InputFault}
use Rattle.arcbench_core.specs.declared.input.InputFault.TheVariants.{Memory as InputMemory, Io as InputIo}
use Rattle.arcbench_core.specs.Line.{newline, script_lines, step_of, limit_in}

-- ---- the text of a reply

-- one or two words, and a number in decimal if the reply has one, without the end of the line
abbrev pub reply_text : Reply → List ℕ
reply_text (Made h) = codes "made " ++ decimal h
reply_text (Count n) = codes "count " ++ decimal n
reply_text Static = codes "static"
reply_text (Handle h) = codes "handle " ++ decimal h
reply_text Looked = codes "looked"
reply_text Ended = codes "ended"
reply_text Left = codes "left"
reply_text Owes = codes "owes"
reply_text Given = codes "given"
reply_text Marked = codes "marked"
reply_text Raw = codes "raw"
reply_text Unraw = codes "unraw"
reply_text (Refused fault) =
    codes "refused " ++ decimal (step_fault_number fault) ++ codes " " ++ step_fault_text fault

-- ---- the answer

-- the history of lines: the steps of the lines that have one
abbrev pub steps_of : List (List ℕ) → List Step
steps_of lines = filter_map step_of lines

-- the state after a line's step, if the line has one
abbrev pub state_with : ℕ → State → Option Step → State
state_with limit w None = w
state_with limit w (Some s) = (step limit w s).0

-- the answer to a line in a state, by its step: `bad` if it has none, else the text of the model's reply
abbrev pub answer_by : ℕ → State → Option Step → List ℕ
answer_by limit w None = codes "bad"
answer_by limit w (Some s) = reply_text (step limit w s).1

-- the answer to a line after the lines before it
abbrev pub line_answer : ℕ → List (List ℕ) → List ℕ → List ℕ
line_answer limit before line = answer_by limit (after limit (steps_of before)) (step_of line)

-- the answer to the line at an index, ended by a newline
abbrev pub answer_at : ℕ → List (List ℕ) → ℕ → List ℕ
answer_at limit lines k = line_answer limit (take k lines) (slice_index_or lines k []) ++ newline ∷ []

-- the answers to all lines, joined
abbrev pub answers : ℕ → List (List ℕ) → List ℕ
answers limit lines = concat (map (λ k. answer_at limit lines k) (numbers_below (length lines)))

abbrev pub bad_limit : List ℕ
bad_limit = codes "bad limit" ++ newline ∷ []

-- the answer to lines whose first line sets this limit, or none
abbrev pub answer_under : Option ℕ → List (List ℕ) → Result (List ℕ) RunFault
answer_under None later = Ok bad_limit
answer_under (Some limit) later =
    if nat_lt RC_MAX limit then Err RunLimitTooLarge else Ok (answers limit later)

abbrev pub answer_to_lines : List (List ℕ) → Result (List ℕ) RunFault
answer_to_lines [] = Ok bad_limit
answer_to_lines (first ∷ later) = answer_under (limit_in first) later

-- the answer to a script, or the fault that its limit is too large
abbrev pub answer_to : List ℕ → Result (List ℕ) RunFault
answer_to script = answer_to_lines (script_lines script)

-- ---- a run of a script, and its faults

-- the bytes that a writer holds grow by the answer to the script, and by nothing else
abbrev pub WritesAnswer : List ℕ → Option (List ℕ) → Option (List ℕ) → Type 0
WritesAnswer script old new = (answer : List ℕ) × (answer_to script ≡ Ok answer) × Appends old new answer

abbrev pub copy_fault_number : CopyFault → ℕ
copy_fault_number LimitTooLarge = 1
copy_fault_number Memory = 2
copy_fault_number Io = 3

abbrev pub copy_fault_text : CopyFault → List ℕ
copy_fault_text LimitTooLarge = codes "limit too large"
copy_fault_text Memory = codes "out of memory"
copy_fault_text Io = codes "io"

-- the fault of a run whose answer met a fault
abbrev pub copy_fault_from : RunFault → CopyFault
copy_fault_from RunLimitTooLarge = LimitTooLarge
copy_fault_from RunMemory = Memory

-- the fault of a run whose script was not read
abbrev pub copy_fault_of_input : InputFault → CopyFault
copy_fault_of_input InputMemory = Memory
copy_fault_of_input InputIo = Io
