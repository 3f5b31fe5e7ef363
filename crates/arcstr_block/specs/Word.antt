-- What the number of a block's count word says: whether the block is marked, and a count. `bits_of` of `arcstr_count` is the encoding; only this file
-- has its numbers.
use Rattle.std.specs.Prelude.{◌≡◌, ◌≢◌, ℕ, ◌+◌, ◌/◌, ◌%◌, ◌==◌, ◌<◌, ◌≤◌, true, false}
use Rattle.arcstr_count.specs.Word.{FlagAndCount, bits_of, fresh_word}
use Rattle.arcstr_count.specs.declared.words.TheConstants.{RC_MAX}

-- the static flag as a number
abbrev pub mark : ℕ
mark = bits_of (record { flag = true; count = 0 })

-- a count of one as a number, which is also the count word of a new block
abbrev pub one : ℕ
one = bits_of fresh_word

-- the unmarked count word that counts k
abbrev pub counting_word : ℕ → ℕ
counting_word k = bits_of (record { flag = false; count = k })

-- the count in the number
abbrev pub count_in : ℕ → ℕ
count_in n = n / 2

-- the count word that a number stands for
abbrev pub word_of : ℕ → FlagAndCount
word_of n = record { flag = n % 2 == 1; count = n / 2 }

abbrev pub IsMarked : ℕ → Type 0
IsMarked word = word % 2 ≡ 1

abbrev pub IsUnmarked : ℕ → Type 0
IsUnmarked word = word % 2 ≡ 0

-- a subtraction at this count word is the last one: the count word is unmarked with a count of one
abbrev pub IsLast : ℕ → Type 0
IsLast word = word ≡ one

-- a limit on a count
abbrev pub IsLimit : ℕ → Type 0
IsLimit limit = limit ≤ RC_MAX

-- an unmarked count word counts from 1 to limit + 1
abbrev pub IsCountWord : ℕ → ℕ → Type 0
IsCountWord limit word = IsUnmarked word → (0 < count_in word) × (count_in word ≤ limit + 1)

-- a clone of the unmarked count word old: with the static flag if the count is above the limit, else with one more
abbrev pub IsClone : ℕ → ℕ → ℕ → Type 0
IsClone limit old new = IsUnmarked old × (limit < count_in old → new ≡ old + mark) × (count_in old ≤ limit → new ≡ old + one)

-- the unmarked count word that an exchange of old found in its place
abbrev pub IsOtherWord : ℕ → ℕ → ℕ → Type 0
IsOtherWord limit old found = IsUnmarked found × IsCountWord limit found × (found ≢ old)
