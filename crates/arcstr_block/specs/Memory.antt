-- The memory of a block: one piece, with the bytes of the text at its address, the count word at the first multiple of 8 past them, and the length of
-- the text 8 bytes after the count word.
use Rattle.std.specs.Prelude.{ℕ, ◌+◌, ◌-◌, ◌*◌, ◌/◌, ◌^◌, ◌<◌, List, [], length, IsUtf8}
use base.Fraction.{full_share}
use base.Fml.{Lft, Fml, ftrue, fsep, fex, fwand, froom}
use mir.Syntax.{Ty, w8, w64, ty_int, ty_array, ty_struct, tcons, tnil}
use mir.Raw.{raw}
use denote.RawPtr.{Ptr, InBlock, block_of, count_of, lies_at, ◌+ₚ◌}
use denote.Builtin.{u8, usize}
use denote.Array.{Array}
use denote.Sharing.{beside, said}
use denote.Struct.Lending.{lent_at}
use Rattle.core.specs.Sync.RawAtomic.{word}

-- the least number of bytes that is too long for a block
abbrev pub least_too_long : ℕ
least_too_long = 2 ^ 63 - 25

-- a text of n bytes fits in a block
abbrev pub Fits : ℕ → Type 0
Fits n = n < least_too_long

-- the bytes are a text, in UTF-8, that fits in a block
abbrev pub IsText : List ℕ → Type 0
IsText xs = Fits (length xs) × IsUtf8 xs

-- the word offset: how many bytes past the address of a block its count word lies, after a text of n bytes
abbrev pub word_offset : ℕ → ℕ
word_offset n = (n + 7) / 8 * 8

-- the size in bytes of a block for a text of n bytes: 16 plus n, rounded up to a multiple of 8
abbrev pub block_size : ℕ → ℕ
block_size n = (16 + n + 7) / 8 * 8

-- the machine's type for such a block
abbrev pub block_type : ℕ → Ty
block_type n = ty_struct [] (tcons (ty_array (ty_int w8) n) (tcons (ty_int w64) (tcons (ty_int w64) tnil)))

-- where the count word and the length lie after a text of n bytes
abbrev pub tail_at : Ptr → ℕ → Ptr
tail_at p n = p +ₚ word_offset n

abbrev pub word_at : Ptr → ℕ → ℕ
word_at p n = count_of p + word_offset n + 0

abbrev pub length_at : Ptr → ℕ → Ptr
length_at p n = tail_at p n +ₚ 8

-- room for the bytes, the count word and the length, o bytes into the memory b
abbrev pub rooms : ℕ → ℕ → ℕ → Fml
rooms n b o = let u : ℕ = o + word_offset n in
    fsep (froom (ty_array (ty_int w8) n) b o) (fsep (froom (ty_int w64) b (u + 0)) (fsep (froom (ty_int w64) b (u + 8)) ftrue))

-- the count word w after a text of n bytes
abbrev pub word_lies : Ptr → ℕ → ℕ → Fml
word_lies p n w = word (block_of p) (word_at p n) w

-- the length, which is n, and the bytes xs
abbrev pub length_lies : Ptr → ℕ → Fml
length_lies p n = lies_at usize full_share (length_at p n) n

abbrev pub text_lies : Ptr → List ℕ → Fml
text_lies p xs = lies_at (Array u8 (length xs)) full_share p xs

-- the address is in memory, and the statement about the text holds there
abbrev pub in_memory : Ptr → Type 0 → Fml
in_memory p said = fex (InBlock p × said) (λ _. ftrue)

module _ (holds : Ty → Ptr → Fml) where
  -- what remains of a block for n bytes: the way back from its three rooms to the whole, and the right to free it
  abbrev pub rim : ℕ → Ptr → Fml
  rim n p = fsep (fwand (rooms n (block_of p) (count_of p)) (froom (raw (block_type n)) (block_of p) (count_of p))) (holds (raw (block_type n)) p)

  -- what a block owns beside its count word: the length, the bytes and the rim
  abbrev pub block_owns : Ptr → List ℕ → Fml
  block_owns p xs = fsep (length_lies p (length xs)) (fsep (text_lies p xs) (rim (length xs) p))

  -- a block whose bytes are elsewhere
  abbrev pub blank_owns : Ptr → ℕ → ℕ → Fml
  blank_owns p w n = fsep (in_memory p (Fits n)) (fsep (word_lies p n w) (fsep (length_lies p n) (rim n p)))

  -- a block that has one owner
  abbrev pub sole_owns : Ptr → ℕ → List ℕ → Fml
  sole_owns p w xs = fsep (in_memory p (Fits (length xs))) (fsep (word_lies p (length xs) w) (block_owns p xs))

-- what is shared of a block: the length and the bytes
abbrev pub block_shares : Ptr → List ℕ → Lft → Fml
block_shares p xs = beside (lent_at usize (length_at p (length xs)) (length xs)) (lent_at (Array u8 (length xs)) p xs)
