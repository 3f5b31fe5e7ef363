-- How the texts of a shared interner lie in its list: in rows of places. The first eight rows have four places each, the next eight rows eight, and so on.
use Rattle.std.specs.Prelude.{◌≡◌, ℕ, zero, suc, ◌+◌, ◌-◌, ◌*◌, ◌/◌, ◌%◌, ◌^◌, ◌<◌, nat_lt, if◌then◌else◌}
use Rattle.arcintern.specs.declared.shared_interner.TheConstants.{ROW_VALUES}

-- how many places a row has
abbrev pub span : ℕ → ℕ
span row = 2 ^ (row / 8 + 2)

-- the text with this number lies in this row, in the place with this index. The rows before it have (8 + row % 8) * span row - 32 places
abbrev pub IsAt : ℕ → ℕ → ℕ → Type 0
IsAt number row column = (column < span row) × ((8 + row % 8) * span row + column ≡ number + 32)

-- the exponent of the greatest power of two up to a number, for a number of at most so many bits and one
unfoldable pub top_of : ℕ → ℕ → ℕ
top_of zero number = 0
top_of (suc bits) number = if nat_lt number 2 then 0 else suc (top_of bits (number / 2))

-- the row where the text with this number lies. Eight rows hold the numbers that have one exponent when 32 is added
unfoldable pub row_of : ℕ → ℕ
row_of number = (top_of 32 (number + 32) - 5) * 8 + ((number + 32) * 8 / 2 ^ top_of 32 (number + 32) - 8)

-- the index of its place in that row
unfoldable pub column_of : ℕ → ℕ
column_of number = (number + 32) * 8 % 2 ^ top_of 32 (number + 32) / 8

-- the number in the bits of a symbol, and the row
abbrev pub number_in : ℕ → ℕ
number_in bits = bits / ROW_VALUES

abbrev pub row_in : ℕ → ℕ
row_in bits = bits % ROW_VALUES
