-- The count word of a block: the static flag, which says that the block is marked static, and a count.
use Rattle.std.specs.Prelude.{ℕ, ◌+◌, ◌-◌, ◌*◌, Bool, true, false, not, ◌&&◌, ◌==◌, nat_lt, if◌then◌else◌, Option, None, Some}

pub record FlagAndCount : Type 0 where
  pub flag : Bool
  pub count : ℕ

-- the number that stands for a count word: twice the count, plus 1 if the flag is set
abbrev pub bits_of : FlagAndCount → ℕ
bits_of w = (if w.flag then 1 else 0) + 2 * w.count

-- the count word of a new block: unmarked, with count 1
abbrev pub fresh_word : FlagAndCount
fresh_word = record { flag = false; count = 1 }

-- what a look finds: `None` at a marked count word, else the count
abbrev pub looked_of : FlagAndCount → Option ℕ
looked_of w = if w.flag then None else Some w.count

-- after a clone: a marked count word stays as it was; a count above the limit sets the flag; else the count grows by one
abbrev pub cloned_of : ℕ → FlagAndCount → FlagAndCount
cloned_of limit w =
    if w.flag then w
    else (if nat_lt limit w.count then record { flag = true; count = w.count }
    else record { flag = false; count = w.count + 1 })

-- after a subtraction: the count falls by one
abbrev pub dropped_of : FlagAndCount → FlagAndCount
dropped_of w = record { flag = w.flag; count = w.count - 1 }

-- a subtraction at this count word is the last one: the count word is unmarked with count 1
abbrev pub is_last : FlagAndCount → Bool
is_last w = not w.flag && (w.count == 1)

-- after a mark: the flag is set and the count stays
abbrev pub marked_of : FlagAndCount → FlagAndCount
marked_of w = record { flag = true; count = w.count }
