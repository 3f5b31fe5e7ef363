-- What the program prints of the words of its input's lines.
use Rattle.std.specs.Prelude.{◌≡◌, ℕ, ◌+◌, List, [], ◌∷◌, ◌++◌, map, Option, codes}
use Rattle.std.specs.Fmt.{decimal}
use Rattle.std.specs.Io.KnownBytes.{Appends}
use Rattle.std.specs.List.{AllZip, concat}
use Rattle.arcstr.specs.Substr.{SubstrView}
use Rattle.arcstr.specs.TextView.{TextView}
use Rattle.arcstr_range.specs.Text.{cut}
use Rattle.arctokens.specs.Tokens.{TokenList}
use Rattle.arctokens.specs.Words.{AreWords}
use Rattle.arcbench_core.specs.Line.{newline, script_lines}

-- the line of a word of a text, `I A..B TEXT`: the number of the text, the byte offsets of the word, and its bytes
abbrev pub word_line : ℕ → List ℕ → ℕ × ℕ → List ℕ
word_line number text word =
    decimal number ++ codes " " ++ decimal word.0 ++ codes ".." ++ decimal word.1 ++ codes " " ++ cut text word.0 word.1 ++ newline ∷ []

-- the lines of the words of a text
abbrev pub word_lines : ℕ → List ℕ → List (ℕ × ℕ) → List ℕ
word_lines number text words = concat (map (λ word. word_line number text word) words)

-- the lines of the words of texts, which are numbered from a given number on
abbrev pub lines_from : ℕ → List (List ℕ) → List (List (ℕ × ℕ)) → List ℕ
lines_from number [] words = []
lines_from number (text ∷ texts) [] = []
lines_from number (text ∷ texts) (words ∷ more) = word_lines number text words ++ lines_from (number + 1) texts more

-- the output has, for each line of the input as a text, the lines of its words, in order; the texts are numbered from 0
pub record IsTokenAnswer (input output : List ℕ) : Type 0 where
  pub words : List (List (ℕ × ℕ))
  pub are_words : AllZip AreWords (script_lines input) words
  pub lines : output ≡ lines_from 0 (script_lines input) words

-- the bytes that a writer holds grow by that answer, and by nothing else
abbrev pub WritesTokens : List ℕ → Option (List ℕ) → Option (List ℕ) → Type 0
WritesTokens input old new = (answer : List ℕ) × IsTokenAnswer input answer × Appends old new answer

-- ---- the same for slices of shared texts

-- the texts of shared texts
abbrev pub texts_of_shared : List TextView → List (List ℕ)
texts_of_shared texts = map (λ shared. shared.text) texts

-- the line of a slice
abbrev pub slice_line : ℕ → SubstrView → List ℕ
slice_line number slice = word_line number slice.parent.text (slice.start, slice.end)

abbrev pub slice_lines : ℕ → List SubstrView → List ℕ
slice_lines number slices = concat (map (λ slice. slice_line number slice) slices)

-- the lines of lists of slices, which are numbered from a given number on
abbrev pub lines_of_lists : ℕ → List TokenList → List ℕ
lines_of_lists number [] = []
lines_of_lists number (list ∷ lists) = slice_lines number list.items ++ lines_of_lists (number + 1) lists
