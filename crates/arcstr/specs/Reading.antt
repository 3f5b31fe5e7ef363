-- The faults of reading a text.
use Rattle.std.specs.Prelude.{◌≡◌, ◌≢◌, ℕ, List, ◌++◌, length, Option, ⊤}
use Rattle.std.specs.Io.KnownBytes.{Consumes}
use Rattle.std.specs.IoError.{error_kind}
use Rattle.std.specs.declared.io.ErrorKind.TheVariants.{Interrupted}
use Rattle.arcstr_block.specs.declared.fault.TextFault.{TextFault}
use Rattle.arcstr_block.specs.declared.fault.TextFault.TheVariants.{Length, Memory, Utf8}
use Rattle.arcstr.specs.Building.{Building}
use Rattle.arcstr.specs.declared.reading.ReadFault.{ReadFault}
use Rattle.arcstr.specs.declared.reading.ReadFault.TheVariants.{Io, Text}

-- the builder has these bytes behind what it had: at the end of its text, or held as the beginning of a character
abbrev pub HasTaken : Building → Building → List ℕ → Type 0
HasTaken old new bytes = new.text ++ new.held ≡ (old.text ++ old.held) ++ bytes

-- the builder has every byte that was taken from the reader
abbrev pub HasRead : Option (List ℕ) → Option (List ℕ) → Building → Building → Type 0
HasRead before after old new = (bytes : List ℕ) × Consumes before after bytes × HasTaken old new bytes

-- the fault is not that of an interrupted read
abbrev pub IsNoInterrupt : ReadFault → Type 0
IsNoInterrupt (Io error) = error_kind error ≢ Interrupted
IsNoInterrupt (Text fault) = ⊤

-- why bytes were not taken into this text: there is no room for them, and none is lost, or they are no UTF-8 from the end of the text on
abbrev pub IsFaultOfTaking : List ℕ → Type 0 → TextFault → Type 0
IsFaultOfTaking text kept Length = kept
IsFaultOfTaking text kept Memory = kept
IsFaultOfTaking text kept (Utf8 n) = n ≡ length text

-- why reading ended before the end of the input, when this text was read: an error of the reader, and no byte is lost, or a fault of the text
abbrev pub IsFaultOfReading : List ℕ → Type 0 → ReadFault → Type 0
IsFaultOfReading text kept (Io error) = (error_kind error ≢ Interrupted) × kept
IsFaultOfReading text kept (Text fault) = IsFaultOfTaking text kept fault
