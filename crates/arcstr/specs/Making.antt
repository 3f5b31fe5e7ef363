-- Results and errors of the calls that make texts, and of formatting into one.
use Rattle.std.specs.Prelude.{◌≡◌, ◌*◌, ◌⊎◌, ◌↔◌, ℕ, List, [], length, Result, Ok, IsUtf8, IfOk, IfErr, IsErrOf, OnOk}
use Rattle.std.specs.List.{repeat}
use Rattle.std.specs.Str.Lossy.{utf8_valid_len}
use Rattle.arcstr_block.specs.declared.fault.TextFault.{TextFault}
use Rattle.arcstr_block.specs.declared.fault.TextFault.TheVariants.{Length, Utf8}
pub use Rattle.arcstr_block.specs.Making.{IsTooLong, IsFaultOfMaking, IsFaultOfBytes, IsFaultOfFilling}
use Rattle.arcstr.specs.TextView.{TextView, IsMadeOf, literal_of}

-- why a copy of bytes fails: they are not UTF-8, or the text cannot be made
abbrev pub IsFaultOfCopying : List ℕ → TextFault → Type 0
IsFaultOfCopying bytes fault = IsFaultOfBytes bytes fault ⊎ (IsUtf8 bytes × IsFaultOfMaking (length bytes) fault)

-- the result of making a handle on a copy of this text: a handle that is one, or the one on nothing if the text is empty; an error if it is too long, or if
-- the allocation fails
pub record AnswersMaking {T : Type 0} (text : List ℕ) (is_copy : T → Type 0) (nothing : T) (answer : Result T TextFault) : Type 0 where
  pub made : IfOk answer is_copy
  pub empty : text ≡ [] → answer ≡ Ok nothing
  pub too_long : IsErrOf answer Length ↔ IsTooLong (length text)
  pub refused : IfErr answer (IsFaultOfMaking (length text))

-- the result of copying this text, which is the empty literal if it is empty
abbrev pub AnswersCopy : List ℕ → Result TextView TextFault → Type 0
AnswersCopy text answer = AnswersMaking text (IsMadeOf text) (literal_of []) answer

-- the result of making a handle on a copy of these bytes if they are UTF-8: a handle that is one, or the one on nothing if there are no bytes; an error if
-- they are not UTF-8, with the length of their longest prefix that is, if they are too many, or if the allocation fails
pub record AnswersUtf8 {T : Type 0} (bytes : List ℕ) (is_copy : T → Type 0) (nothing : T) (answer : Result T TextFault) : Type 0 where
  pub made : IfOk answer is_copy
  pub empty : bytes ≡ [] → answer ≡ Ok nothing
  pub text : OnOk answer (IsUtf8 bytes)
  pub no_text : ¬ (IsUtf8 bytes) → IsErrOf answer (Utf8 (utf8_valid_len bytes))
  pub too_long : IsUtf8 bytes → (IsErrOf answer Length ↔ IsTooLong (length bytes))
  pub refused : IfErr answer (IsFaultOfCopying bytes)

-- the result of joining n copies of this text: the joined text, which is the empty literal if n is 0 or the text is empty; an error if it is too long, or if
-- the allocation fails
pub record AnswersCopies (n : ℕ) (text : List ℕ) (answer : Result TextView TextFault) : Type 0 where
  pub made : IfOk answer (IsMadeOf (repeat n text))
  pub no_copies : n ≡ 0 → answer ≡ Ok (literal_of [])
  pub no_text : text ≡ [] → answer ≡ Ok (literal_of [])
  pub too_long : IsErrOf answer Length ↔ IsTooLong (n * length text)
  pub refused : IfErr answer (IsFaultOfMaking (n * length text))

-- the result if this text is printed: the text, made as any other; an error if an allocation fails, or if the text is too long
pub record AnswersPrinted (text : List ℕ) (answer : Result TextView TextFault) : Type 0 where
  pub made : IfOk answer (IsMadeOf text)
  pub not_too_long : OnOk answer (¬ IsTooLong (length text))
  pub refused : IfErr answer (IsFaultOfMaking (length text))
