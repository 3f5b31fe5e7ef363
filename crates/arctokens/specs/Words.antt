-- The words of a text: its longest runs of characters that are not white space. A text is the list of its bytes, and offsets into it count bytes. White
-- space is that of Rust's `char::is_whitespace`.
use Rattle.std.specs.Prelude.{◌≡◌, ◌⊎◌, ℕ, ◌<◌, List, [], ◌∷◌, ◌++◌, length, Bool, true, IsFalse, All, AllPairs, Contains}
use Rattle.std.specs.Char.{is_whitespace}
use Rattle.std.specs.Str.{IsCharBoundary, chars}
use Rattle.arcstr_range.specs.Text.{cut}

-- a character lies before `place`, and the last one is white space exactly if `white` is true
pub record IsLastBefore (text : List ℕ) (place : ℕ) (white : Bool) : Type 0 where
  pub prefix : List ℕ
  pub character : ℕ
  pub split : chars (cut text 0 place) ≡ prefix ++ character ∷ []
  pub kind : is_whitespace character ≡ white

-- a character lies after `place`, and the first one is white space exactly if `white` is true
pub record IsFirstAfter (text : List ℕ) (place : ℕ) (white : Bool) : Type 0 where
  pub character : ℕ
  pub rest : List ℕ
  pub split : chars (cut text place (length text)) ≡ character ∷ rest
  pub kind : is_whitespace character ≡ white

-- a word lies between the two byte offsets: they are boundaries in order, no character between them is white space, and on each side there is white space or
-- no more text
pub record IsWord (text : List ℕ) (start end : ℕ) : Type 0 where
  pub in_order : start < end
  pub at_start : IsCharBoundary text start
  pub at_end : IsCharBoundary text end
  pub not_white : All (λ character. IsFalse (is_whitespace character)) (chars (cut text start end))
  pub white_before : (start ≡ 0) ⊎ IsLastBefore text start true
  pub white_after : (end ≡ length text) ⊎ IsFirstAfter text end true

-- a word lies in the text
abbrev pub HasWord : List ℕ → Type 0
HasWord text = (start : ℕ) × (end : ℕ) × IsWord text start end

-- one pair of byte offsets starts before another
abbrev pub StartsBefore : ℕ × ℕ → ℕ × ℕ → Type 0
StartsBefore one other = one.0 < other.0

-- the pairs of byte offsets are the words of the text: each is a word, they are in ascending order, and every word is among them
pub record AreWords (text : List ℕ) (words : List (ℕ × ℕ)) : Type 0 where
  pub each_is_word : All (λ word. IsWord text word.0 word.1) words
  pub rising : AllPairs StartsBefore words
  pub every_word : (start end : ℕ) → IsWord text start end → Contains words (start, end)
