-- Worked examples, checked by computation: what histories leave of a block, and the replies of scripts/histories.scripts.
use Rattle.arcstr_count.proofs.Names.{◌≡◌, List, [], ◌∷◌, refl, ℕ, true, false, Step, Make, Look, Clone, Begin, Sub, Back, Leak, IntoRaw, FromRaw, FlagAndCount}
use Rattle.arcstr_count.proofs.Names.{Made, Count, Static, Handle, Looked, Ended, Left, Owes, Given, Marked, RawReply, Unraw, Refused, replies}
use Rattle.arcstr_count.proofs.Names.{NoHandle, InDrop, NotInDrop, NotOwing, IsRaw, NotRaw}
use Rattle.arcstr_count.proofs.Names.{living_after, dropping_after, owing_after, given_after, word_after}

-- what a history leaves of block 0: its word, and the handles on it that live, are dropping and owe it
abbrev LeavesBlock : ℕ → List Step → FlagAndCount → (living dropping owing : List ℕ) → (given : ℕ) → Type 0
LeavesBlock limit history w living dropping owing given =
    (word_after limit history 0 ≡ w)
    × (living_after limit history 0 ≡ living)
    × (dropping_after limit history 0 ≡ dropping)
    × (owing_after limit history 0 ≡ owing)
    × (given_after limit history 0 ≡ given)

-- a mark between another drop's look and its subtraction, which subtracts from the marked word
crossing_mark-before : LeavesBlock 5 (Make ∷ Clone 0 ∷ Begin 0 ∷ Leak 1 ∷ []) (record { flag = true; count = 2 }) (0 ∷ 1 ∷ []) (0 ∷ []) [] 0
crossing_mark-before = (refl, refl, refl, refl, refl)

crossing_mark-after : LeavesBlock 5 (Make ∷ Clone 0 ∷ Begin 0 ∷ Leak 1 ∷ Sub 0 ∷ []) (record { flag = true; count = 1 }) (1 ∷ []) [] [] 0
crossing_mark-after = (refl, refl, refl, refl, refl)

-- a drop on a marked block ends at once, and the count of the word is then no longer the number of handles
crossing_mark-ended : LeavesBlock 5 (Make ∷ Clone 0 ∷ Begin 0 ∷ Leak 1 ∷ Sub 0 ∷ Begin 1 ∷ []) (record { flag = true; count = 1 }) [] [] [] 0
crossing_mark-ended = (refl, refl, refl, refl, refl)

-- clones past the limit mark, and count no further
words_past_the_limit : LeavesBlock 1 (Make ∷ Clone 0 ∷ Clone 0 ∷ Clone 0 ∷ []) (record { flag = true; count = 2 }) (0 ∷ 1 ∷ 2 ∷ 3 ∷ []) [] [] 0
words_past_the_limit = (refl, refl, refl, refl, refl)

-- two drops that cross: the one that subtracts last owes the block, and then frees it
crossing_drops-both : LeavesBlock 5 (Make ∷ Clone 0 ∷ Begin 0 ∷ Begin 1 ∷ []) (record { flag = false; count = 2 }) (0 ∷ 1 ∷ []) (0 ∷ 1 ∷ []) [] 0
crossing_drops-both = (refl, refl, refl, refl, refl)

crossing_drops-owed : LeavesBlock 5 (Make ∷ Clone 0 ∷ Begin 0 ∷ Begin 1 ∷ Sub 1 ∷ Sub 0 ∷ []) (record { flag = false; count = 0 }) [] [] (0 ∷ []) 0
crossing_drops-owed = (refl, refl, refl, refl, refl)

crossing_drops-freed : LeavesBlock 5 (Make ∷ Clone 0 ∷ Begin 0 ∷ Begin 1 ∷ Sub 1 ∷ Sub 0 ∷ Back 0 ∷ []) (record { flag = false; count = 0 }) [] [] [] 1
crossing_drops-freed = (refl, refl, refl, refl, refl)

-- a raw value lives and counts
raw_value : LeavesBlock 5 (Make ∷ Clone 0 ∷ IntoRaw 1 ∷ Begin 0 ∷ Sub 0 ∷ []) (record { flag = false; count = 1 }) (1 ∷ []) [] [] 0
raw_value = (refl, refl, refl, refl, refl)

-- limit 0: the first clone marks, and the block is never freed
words_at_limit_zero : LeavesBlock 0 (Make ∷ Clone 0 ∷ Begin 0 ∷ Begin 1 ∷ []) (record { flag = true; count = 1 }) [] [] [] 0
words_at_limit_zero = (refl, refl, refl, refl, refl)

-- ---- the replies to the lists of scripts/histories.scripts that have steps alone

-- mark between another drop's look and its subtraction
history_1 : replies 5 (Make ∷ Clone 0 ∷ Begin 0 ∷ Leak 1 ∷ Sub 0 ∷ Begin 1 ∷ []) ≡ Made 0 ∷ Handle 1 ∷ Looked ∷ Marked ∷ Left ∷ Ended ∷ []
history_1 = refl

-- a clone past the limit
history_2 : replies 1 (Make ∷ Clone 0 ∷ Look 0 ∷ Clone 0 ∷ Look 0 ∷ Clone 0 ∷ Look 0 ∷ [])
    ≡ Made 0 ∷ Handle 1 ∷ Count 2 ∷ Handle 2 ∷ Static ∷ Handle 3 ∷ Static ∷ []
history_2 = refl

-- crossing drops
history_3 : replies 5 (Make ∷ Clone 0 ∷ Begin 0 ∷ Begin 1 ∷ Sub 1 ∷ Sub 0 ∷ Back 1 ∷ Back 0 ∷ Look 0 ∷ [])
    ≡ Made 0 ∷ Handle 1 ∷ Looked ∷ Looked ∷ Left ∷ Owes ∷ Refused NotOwing ∷ Given ∷ Refused NoHandle ∷ []
history_3 = refl

-- limit 0
history_4 : replies 0 (Make ∷ Clone 0 ∷ Look 1 ∷ []) ≡ Made 0 ∷ Handle 1 ∷ Static ∷ []
history_4 = refl

-- raw and back
history_5 : replies 5 (Make ∷ IntoRaw 0 ∷ Look 0 ∷ FromRaw 0 ∷ Look 0 ∷ []) ≡ Made 0 ∷ RawReply ∷ Refused IsRaw ∷ Unraw ∷ Count 1 ∷ []
history_5 = refl

-- a mark while two drops are under way
history_6 : replies 5 (Make ∷ Clone 0 ∷ Clone 0 ∷ Begin 0 ∷ Begin 1 ∷ Sub 0 ∷ Leak 2 ∷ Sub 1 ∷ Begin 2 ∷ Look 2 ∷ [])
    ≡ Made 0 ∷ Handle 1 ∷ Handle 2 ∷ Looked ∷ Looked ∷ Left ∷ Marked ∷ Left ∷ Ended ∷ Refused NoHandle ∷ []
history_6 = refl

-- refused steps change nothing
history_7 : replies 5 (Make ∷ Begin 0 ∷ Leak 0 ∷ Sub 0 ∷ Sub 0 ∷ Back 0 ∷ Back 0 ∷ Back 7 ∷ [])
    ≡ Made 0 ∷ Looked ∷ Refused InDrop ∷ Owes ∷ Refused NoHandle ∷ Given ∷ Refused NotOwing ∷ Refused NoHandle ∷ []
history_7 = refl

-- no steps
history_8 : replies 5 ([]) ≡ []
history_8 = refl

-- a mark stays
history_9 : replies 5 (Make ∷ Leak 0 ∷ Leak 0 ∷ Clone 0 ∷ Look 1 ∷ Begin 1 ∷ Begin 0 ∷ []) ≡ Made 0 ∷ Marked ∷ Marked ∷ Handle 1 ∷ Static ∷ Ended ∷ Ended ∷ []
history_9 = refl

-- the steps that a raw handle refuses
history_10 : replies 5 (Make ∷ IntoRaw 0 ∷ IntoRaw 0 ∷ Sub 0 ∷ Back 0 ∷ FromRaw 0 ∷ FromRaw 0 ∷ [])
    ≡ Made 0 ∷ RawReply ∷ Refused IsRaw ∷ Refused NotInDrop ∷ Refused NotOwing ∷ Unraw ∷ Refused NotRaw ∷ []
history_10 = refl

-- a raw handle stays in the count
history_11 : replies 5 (Make ∷ Clone 0 ∷ IntoRaw 1 ∷ Begin 0 ∷ Sub 0 ∷ FromRaw 0 ∷ FromRaw 1 ∷ Begin 1 ∷ Sub 1 ∷ Back 1 ∷ [])
    ≡ Made 0 ∷ Handle 1 ∷ RawReply ∷ Looked ∷ Left ∷ Refused NoHandle ∷ Unraw ∷ Looked ∷ Owes ∷ Given ∷ []
history_11 = refl

-- two blocks
history_12 : replies 5 (Make ∷ Make ∷ Clone 0 ∷ Begin 1 ∷ Sub 1 ∷ Back 1 ∷ Look 0 ∷ []) ≡ Made 0 ∷ Made 1 ∷ Handle 2 ∷ Looked ∷ Owes ∷ Given ∷ Count 2 ∷ []
history_12 = refl

-- limit 0, one handle
history_13 : replies 0 (Make ∷ Begin 0 ∷ Sub 0 ∷ Back 0 ∷ Look 0 ∷ []) ≡ Made 0 ∷ Looked ∷ Owes ∷ Given ∷ Refused NoHandle ∷ []
history_13 = refl

-- limit 0, two handles
history_14 : replies 0 (Make ∷ Clone 0 ∷ Begin 0 ∷ Begin 1 ∷ []) ≡ Made 0 ∷ Handle 1 ∷ Ended ∷ Ended ∷ []
history_14 = refl

-- limit 1, a clone while a drop is under way
history_15 : replies 1 (Make ∷ Clone 0 ∷ Begin 0 ∷ Clone 1 ∷ Sub 0 ∷ Begin 1 ∷ Begin 2 ∷ []) ≡ Made 0 ∷ Handle 1 ∷ Looked ∷ Handle 2 ∷ Left ∷ Ended ∷ Ended ∷ []
history_15 = refl

-- limit 1, a clone after the subtraction
history_16 : replies 1 (Make ∷ Clone 0 ∷ Begin 0 ∷ Sub 0 ∷ Clone 1 ∷ Look 1 ∷ Begin 1 ∷ Begin 2 ∷ Sub 2 ∷ Sub 1 ∷ Back 1 ∷ [])
    ≡ Made 0 ∷ Handle 1 ∷ Looked ∷ Left ∷ Handle 2 ∷ Count 2 ∷ Looked ∷ Looked ∷ Left ∷ Owes ∷ Given ∷ []
history_16 = refl
