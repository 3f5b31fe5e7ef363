-- The faults of making a text: when each comes, its number, its text, and its kind as an I/O error.
use Rattle.std.specs.Prelude.{◌≡◌, ◌≤◌, ◌⊎◌, ◌++◌, ℕ, List, length, IsUtf8, codes}
use Rattle.std.specs.Fmt.{decimal}
use Rattle.std.specs.declared.io.ErrorKind.{ErrorKind}
use Rattle.std.specs.declared.io.ErrorKind.TheVariants.{InvalidInput, OutOfMemory, InvalidData}
use Rattle.std.specs.Str.{IsValidUpTo}
use Rattle.std.specs.Str.Lossy.{utf8_valid_len}
use Rattle.arcstr_block.specs.Memory.{least_too_long}
use Rattle.arcstr_block.specs.declared.fault.TextFault.{TextFault}
use Rattle.arcstr_block.specs.declared.fault.TextFault.TheVariants.{Length, Memory, Utf8}

-- a text of n bytes is too long for a block
abbrev pub IsTooLong : ℕ → Type 0
IsTooLong n = least_too_long ≤ n

-- a text of n bytes is refused for its length if it is too long, and otherwise only for an allocation failure
abbrev pub IsFaultOfMaking : ℕ → TextFault → Type 0
IsFaultOfMaking n fault = ((fault ≡ Length) × IsTooLong n) ⊎ (fault ≡ Memory)

-- bytes that are not UTF-8 are refused with the length of their longest prefix that is UTF-8
abbrev pub IsFaultOfBytes : List ℕ → TextFault → Type 0
IsFaultOfBytes bytes fault = (¬ IsUtf8 bytes) × IsValidUpTo bytes (utf8_valid_len bytes) × (fault ≡ Utf8 (utf8_valid_len bytes))

-- n bytes are refused before they are filled, or because of what the closure left in them
abbrev pub IsFaultOfFilling : (List ℕ → Type 0) → ℕ → TextFault → Type 0
IsFaultOfFilling Leaves n fault = IsFaultOfMaking n fault ⊎ ((bytes : List ℕ) × Leaves bytes × (length bytes ≡ n) × IsFaultOfBytes bytes fault)

abbrev pub text_fault_number : TextFault → ℕ
text_fault_number Length = 1
text_fault_number Memory = 2
text_fault_number (Utf8 n) = 3

abbrev pub text_fault_text : TextFault → List ℕ
text_fault_text Length = codes "text is too long"
text_fault_text Memory = codes "out of memory"
text_fault_text (Utf8 n) = codes "bytes are not UTF-8 from place " ++ decimal n

abbrev pub text_fault_kind : TextFault → ErrorKind
text_fault_kind Length = InvalidInput
text_fault_kind Memory = OutOfMemory
text_fault_kind (Utf8 n) = InvalidData
