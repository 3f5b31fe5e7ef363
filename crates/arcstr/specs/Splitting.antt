-- Results of the calls that split a text. As in `Slicing`, `between` maps two byte offsets of the receiver's own text to its slice. Definitions of std say
-- what a search for a pattern finds, and the parts around it.
use Rattle.std.specs.Prelude.{◌≡◌, ◌↔◌, ◌≤◌, ℕ, ◌+◌, ◌-◌, List, ◌∷◌, ◌++◌, length, take, drop, Contains, encode_utf8, encode_utf8_all}
use Rattle.std.specs.Prelude.{Option, Result, IsSome, IfSome, IsOk, IfOk, IsErrOf}
use Rattle.std.specs.Char.{len_utf8}
use Rattle.std.specs.Str.{chars}
use Rattle.std.specs.Str.Pattern.{FindsChar}
use Rattle.arcstr_range.specs.declared.range.StrRange.TheVariants.{To}
use Rattle.arcstr_range.specs.declared.range.fault.RangeFault.{RangeFault}
use Rattle.arcstr_range.specs.Ends.{IsLawfulRange, IsFirstRangeFault}
use Rattle.arcstr.specs.Substr.{SubstrView, text_of}

-- the slice lies at the start of the receiver's text
abbrev pub LiesAtStart : (ℕ → ℕ → SubstrView) → SubstrView → Type 0
LiesAtStart between slice = slice ≡ between 0 (length (text_of slice))

-- the slice lies at the end of the receiver's text
abbrev pub LiesAtEnd : List ℕ → (ℕ → ℕ → SubstrView) → SubstrView → Type 0
LiesAtEnd text between slice = slice ≡ between (length text - length (text_of slice)) (length text)

-- two slices lie one after the other between two byte offsets of their parent's text: the first starts at the first offset, and the second ends at the other
pub record AreInOrder (start end : ℕ) (parts : SubstrView × SubstrView) : Type 0 where
  pub starts : parts.0.start ≡ start
  pub before : parts.0.start ≤ parts.0.end
  pub between : parts.0.end ≤ parts.1.start
  pub after : parts.1.start ≤ parts.1.end
  pub ends : parts.1.end ≡ end

-- the result of `substr_split_at`: the slices before and after the offset, exactly if the range up to it is valid, and otherwise that range's first fault
pub record AnswersSplitAt (text : List ℕ) (between : ℕ → ℕ → SubstrView) (place : ℕ) (answer : Result (SubstrView × SubstrView) RangeFault) : Type 0 where
  pub lawful : IsOk answer ↔ IsLawfulRange text (To place)
  pub refused : (fault : RangeFault) → IsErrOf answer fault ↔ IsFirstRangeFault text (To place) fault
  pub before : IfOk answer (λ parts. parts.0 ≡ between 0 place)
  pub after : IfOk answer (λ parts. parts.1 ≡ between place (length text))
  pub text_before : IfOk answer (λ parts. text_of parts.0 ≡ take place text)
  pub text_after : IfOk answer (λ parts. text_of parts.1 ≡ drop place text)

-- ---- splits at a character

-- in each text, the search finds what a search for the character finds
abbrev pub FindsCharacter : (List ℕ → Option (ℕ × ℕ) → Type 0) → ℕ → Type 0
FindsCharacter finds character = (text : List ℕ) (answer : Option (ℕ × ℕ)) → finds text answer → FindsChar character text answer

-- the character starts at the offset, and no character before it is the same
pub record IsFirstPlace (text : List ℕ) (character place : ℕ) : Type 0 where
  pub before : List ℕ
  pub after : List ℕ
  pub split : chars text ≡ before ++ character ∷ after
  pub others : ¬ (Contains before character)
  pub measured : length (encode_utf8_all before) ≡ place

-- the slices lie before and after the first occurrence of the character; the first, the UTF-8 of the character and the second join to the text
pub record AreAround (text : List ℕ) (between : ℕ → ℕ → SubstrView) (character : ℕ) (parts : SubstrView × SubstrView) : Type 0 where
  pub place : ℕ
  pub first : IsFirstPlace text character place
  pub before : parts.0 ≡ between 0 place
  pub after : parts.1 ≡ between (place + len_utf8 character) (length text)
  pub joined : text_of parts.0 ++ encode_utf8 character ++ text_of parts.1 ≡ text

-- the result of `substr_split_once` at a character: the slices around its first occurrence, exactly if the text has it
pub record AnswersSplit (text : List ℕ) (between : ℕ → ℕ → SubstrView) (character : ℕ) (answer : Option (SubstrView × SubstrView)) : Type 0 where
  pub found : IsSome answer ↔ Contains (chars text) character
  pub value : IfSome answer (AreAround text between character)
