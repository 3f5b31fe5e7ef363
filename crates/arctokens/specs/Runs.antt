-- Runs of a text: characters that are all white space, or of which none is white space.
use Rattle.std.specs.Prelude.{◌≡◌, ◌⊎◌, ℕ, ◌<◌, ◌≤◌, List, [], ◌∷◌, length, Bool, true, not, ◌&&◌, nat_lt, IsTrue, All}
use Rattle.std.specs.Char.{is_whitespace}
use Rattle.std.specs.Str.{IsCharBoundary, chars}
use Rattle.arcstr_range.specs.Text.{cut}
use Rattle.arctokens.specs.Words.{IsFirstAfter, IsWord}

-- exactly one character of the text lies between the two byte offsets, and it is white space exactly if `white` is true
pub record IsCharacterBetween (text : List ℕ) (start end : ℕ) (white : Bool) : Type 0 where
  pub in_order : start < end
  pub at_end : IsCharBoundary text end
  pub character : ℕ
  pub alone : chars (cut text start end) ≡ character ∷ []
  pub kind : is_whitespace character ≡ white

abbrev pub space : ℕ
space = 32

-- a byte above the space and below 128: a visible ASCII character, or the delete character (127)
abbrev pub is_visible : ℕ → Bool
is_visible byte = nat_lt space byte && nat_lt byte 128

abbrev pub IsVisible : ℕ → Type 0
IsVisible byte = IsTrue (is_visible byte)

-- the characters are all white space, or none is
abbrev pub AreOfKind : Bool → List ℕ → Type 0
AreOfKind white characters = All (λ character. is_whitespace character ≡ white) characters

-- the characters between the two byte offsets are all white space, or none is
pub record AreAlike (text : List ℕ) (start end : ℕ) (white : Bool) : Type 0 where
  pub in_order : start ≤ end
  pub at_end : IsCharBoundary text end
  pub kinds : AreOfKind white (chars (cut text start end))

-- the characters are of one kind, and the next one, if any, is of the other kind
pub record IsRun (text : List ℕ) (start end : ℕ) (white : Bool) : Type 0 where
  pub alike : AreAlike text start end white
  pub longest : (end ≡ length text) ⊎ IsFirstAfter text end (not white)

-- no word lies across `place`: it is the start or the end of the text, or white space follows it
abbrev pub IsBetweenWords : List ℕ → ℕ → Type 0
IsBetweenWords text place = (place ≡ 0) ⊎ ((place ≡ length text) ⊎ IsFirstAfter text place true)

-- the byte offsets are those of the first word that starts at or after `from`
pub record IsFirstWord (text : List ℕ) (from start end : ℕ) : Type 0 where
  pub word : IsWord text start end
  pub not_before : from ≤ start
  pub first : (other_start other_end : ℕ) → IsWord text other_start other_end → from ≤ other_start → start ≤ other_start

-- no word starts at or after `from`
abbrev pub HasNoWord : List ℕ → ℕ → Type 0
HasNoWord text from = (start end : ℕ) → IsWord text start end → start < from
