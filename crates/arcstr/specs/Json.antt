-- Results of reading a text from a JSON value, and the faults.
use Rattle.std.specs.Prelude.{◌≡◌, ◌↔◌, ℕ, List, [], length, Option, Some, None, Result, Ok, IsErrOf, IsSomeAnd, IfOk, codes}
use Rattle.std.specs.declared.io.ErrorKind.{ErrorKind}
use Rattle.std.specs.declared.io.ErrorKind.TheVariants.{InvalidData, InvalidInput, OutOfMemory}
use Rattle.serde_json.specs.Find.{as_str}
use Rattle.serde_json.specs.View.{view}
use Rattle.serde_json.specs.declared.value.Value.{Value}
use Rattle.arcstr.specs.Making.{IsTooLong}
use Rattle.arcstr.specs.declared.json.JsonFault.{JsonFault}
use Rattle.arcstr.specs.declared.json.JsonFault.TheVariants.{NotText, Length, Memory}
use Rattle.arcstr.specs.Substr.{SubstrView, IsWholeOfMade, empty_slice}
use Rattle.arcstr.specs.TextView.{TextView, IsMadeOf, literal_of}

-- the text of a JSON value, if it is a string
abbrev pub text_in : Value → Option (List ℕ)
text_in value = as_str (view value)

-- the result of reading a value's text into a handle: a handle on the text, or the one on nothing if the text is empty; an error if the value is not a
-- string, if its text is too long for a block, or if the allocation fails
pub record ReadsText {T : Type 0} (value : Value) (is_on : List ℕ → T → Type 0) (nothing : T) (answer : Result T JsonFault) : Type 0 where
  pub made : IfOk answer (λ made. IsSomeAnd (text_in value) (λ text. is_on text made))
  pub not_text : IsErrOf answer NotText ↔ (text_in value ≡ None)
  pub empty : text_in value ≡ Some [] → answer ≡ Ok nothing
  pub too_long : IsErrOf answer Length ↔ IsSomeAnd (text_in value) (λ text. IsTooLong (length text))

-- the result for a shared text
abbrev pub ReadsArcStr : Value → Result TextView JsonFault → Type 0
ReadsArcStr value answer = ReadsText value IsMadeOf (literal_of []) answer

-- the result for a shared slice, which is all of the value's text
abbrev pub ReadsSubstr : Value → Result SubstrView JsonFault → Type 0
ReadsSubstr value answer = ReadsText value IsWholeOfMade empty_slice answer

-- ---- the faults

-- the number of a fault
abbrev pub json_fault_number : JsonFault → ℕ
json_fault_number NotText = 1
json_fault_number Length = 2
json_fault_number Memory = 3

-- the message of a fault
abbrev pub json_fault_text : JsonFault → List ℕ
json_fault_text NotText = codes "value is not a text"
json_fault_text Length = codes "text is too long"
json_fault_text Memory = codes "out of memory"

-- the kind of a fault as an `io::Error`
abbrev pub json_fault_kind : JsonFault → ErrorKind
json_fault_kind NotText = InvalidData
json_fault_kind Length = InvalidInput
json_fault_kind Memory = OutOfMemory
