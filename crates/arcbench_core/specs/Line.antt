-- The lines of a script: how its bytes are cut, what a NUMBER is, which step a line stands for, and the text of that line.
use Rattle.std.specs.Prelude.{ℕ, ◌^◌, Bool, not, ◌&&◌, ◌==◌, nat_lt, if◌then◌else◌, List, [], ◌∷◌, length, slice_index}
use Rattle.std.specs.Prelude.{Option, None, Some, option_and_then, codes, ◌<◌, ◌++◌}
use Rattle.std.specs.List.{slice_split, before_first, after_first}
use Rattle.std.specs.Str.{bytes_eq, all_ascii_digits}
use Rattle.std.specs.Str.Parse.{digits_value}
use Rattle.std.specs.Fmt.{decimal}
use Rattle.arcstr_count.specs.declared.steps.Step.{Step}
use Rattle.arcstr_count.specs.declared.steps.Step.TheVariants.{Make, Look, Clone, Begin, Sub, Back, Leak, IntoRaw, FromRaw}

-- ---- bytes

abbrev pub newline : ℕ
newline = 10

abbrev pub space : ℕ
space = 32

abbrev pub plus_sign : ℕ
plus_sign = 43

-- the digit 0
abbrev pub zero_digit : ℕ
zero_digit = 48

-- ---- lines

-- a last part that is empty is not a line
abbrev pub without_empty_last : List (List ℕ) → List (List ℕ)
without_empty_last [] = []
without_empty_last ([] ∷ []) = []
without_empty_last (part ∷ parts) = part ∷ without_empty_last parts

-- the lines of a script, or of the input of `tokens`: the bytes cut at each newline
abbrev pub script_lines : List ℕ → List (List ℕ)
script_lines bytes = without_empty_last (slice_split (λ b. b == newline) bytes)

-- ---- commands and numbers

-- the command of a line: what is before its first space
abbrev pub command_part : List ℕ → List ℕ
command_part line = before_first (λ b. b == space) line

-- what is after the first space of a line
abbrev pub after_command : List ℕ → List ℕ
after_command line = after_first (λ b. b == space) line

-- at least one decimal digit, with a value below 2 ^ 64
abbrev pub is_decimal : List ℕ → Bool
is_decimal text = all_ascii_digits text && nat_lt 0 (length text) && nat_lt (digits_value 10 text) (2 ^ 64)

-- a 0 before other bytes
abbrev pub has_idle_zero : List ℕ → Bool
has_idle_zero text = (slice_index text 0 == zero_digit) && nat_lt 1 (length text)

-- the value of a NUMBER, which has no idle zero; `None` for any other text
abbrev pub number_of : List ℕ → Option ℕ
number_of text = if is_decimal text && not (has_idle_zero text) then Some (digits_value 10 text) else None

-- ---- steps

-- the step that a command stands for, on a handle
abbrev pub step_named : List ℕ → ℕ → Option Step
step_named command h =
    if bytes_eq command (codes "look") then Some (Look h)
    else (if bytes_eq command (codes "clone") then Some (Clone h)
    else (if bytes_eq command (codes "begin") then Some (Begin h)
    else (if bytes_eq command (codes "sub") then Some (Sub h)
    else (if bytes_eq command (codes "back") then Some (Back h)
    else (if bytes_eq command (codes "leak") then Some (Leak h)
    else (if bytes_eq command (codes "raw") then Some (IntoRaw h)
    else (if bytes_eq command (codes "unraw") then Some (FromRaw h)
    else None)))))))

-- the step of a line: `make`, or a command, one space, and the number of a handle; any other line has none
abbrev pub step_of : List ℕ → Option Step
step_of line =
    if bytes_eq line (codes "make") then Some Make
    else option_and_then (λ h. step_named (command_part line) h) (number_of (after_command line))

-- the limit that a first line `limit NUMBER` sets; any other line sets none
abbrev pub limit_in : List ℕ → Option ℕ
limit_in line = if bytes_eq (command_part line) (codes "limit") then number_of (after_command line) else None

-- ---- the text of the line that stands for a step: nine forms, and no other line has a step

abbrev pub line_text : Step → List ℕ
line_text Make = codes "make"
line_text (Look h) = codes "look " ++ decimal h
line_text (Clone h) = codes "clone " ++ decimal h
line_text (Begin h) = codes "begin " ++ decimal h
line_text (Sub h) = codes "sub " ++ decimal h
line_text (Back h) = codes "back " ++ decimal h
line_text (Leak h) = codes "leak " ++ decimal h
line_text (IntoRaw h) = codes "raw " ++ decimal h
line_text (FromRaw h) = codes "unraw " ++ decimal h

abbrev pub limit_text : ℕ → List ℕ
limit_text n = codes "limit " ++ decimal n

-- the number of the step's handle, if it has one, is below 2 ^ 64
abbrev pub HasHandle : Step → Type 0
HasHandle Make = Unit {0}
HasHandle (Look h) = h < 2 ^ 64
HasHandle (Clone h) = h < 2 ^ 64
HasHandle (Begin h) = h < 2 ^ 64
HasHandle (Sub h) = h < 2 ^ 64
HasHandle (Back h) = h < 2 ^ 64
HasHandle (Leak h) = h < 2 ^ 64
HasHandle (IntoRaw h) = h < 2 ^ 64
HasHandle (FromRaw h) = h < 2 ^ 64
