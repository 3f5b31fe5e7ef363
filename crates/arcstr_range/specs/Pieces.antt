-- The parts, lines and words of a view: lists of views, each at its place.
use Rattle.std.specs.Prelude.{◌≡◌, ℕ, ◌+◌, ◌==◌, All, Bool, List, [], ◌∷◌, map, length, encode_utf8, encode_utf8_all, nat_lt}
use Rattle.std.specs.Char.{is_newline, is_whitespace}
use Rattle.std.specs.List.{filter, slice_split, zip}
use Rattle.std.specs.Str.{chars}
use Rattle.std.specs.Str.Lines.{lines}
use Rattle.arcstr_range.specs.Ends.{IsLawful}
use Rattle.arcstr_range.specs.View.{IsFoundAt, StandsAt, View, part_of, view_at}

-- texts one after another from a place on, with a separator after each as long as there are separators
abbrev pub laid_out : ℕ → List (List ℕ) → List (List ℕ) → List View
laid_out place [] separators = []
laid_out place (text ∷ texts) [] = view_at text place ∷ laid_out (place + length text) texts []
laid_out place (text ∷ texts) (separator ∷ separators) = view_at text place ∷ laid_out (place + length text + length separator) texts separators

-- the texts between the characters that pass the test, as std's `slice_split` cuts the characters
unfoldable pub texts_between : (ℕ → Bool) → List ℕ → List (List ℕ)
texts_between test text = map encode_utf8_all (slice_split test (chars text))

-- the characters that pass the test, as texts
unfoldable pub separators_of : (ℕ → Bool) → List ℕ → List (List ℕ)
separators_of test text = map encode_utf8 (filter test (chars text))

-- the parts of a view between the characters that pass the test
unfoldable pub parts_between : (ℕ → Bool) → View → List View
parts_between test view = laid_out view.place (texts_between test view.text) (separators_of test view.text)

-- the parts of a view between the occurrences of a character
unfoldable pub parts_at : ℕ → View → List View
parts_at separator = parts_between (λ c. c == separator)

-- the lines of a view: those of std's `lines`, each at the start of a part between newlines
unfoldable pub lines_of : View → List View
lines_of view = map (λ line. view_at line.0 line.1.place) (zip (lines view.text) (parts_between is_newline view))

abbrev pub is_not_empty : List ℕ → Bool
is_not_empty text = nat_lt 0 (length text)

abbrev pub has_text : View → Bool
has_text view = is_not_empty view.text

-- the words of a view: its parts between white space that are not empty
unfoldable pub words_of : View → List View
words_of view = filter has_text (parts_between is_whitespace view)

-- the first word of the view lies between the two byte offsets of its text, and the other words lie after it
pub record IsFirstWordAt (view : View) (start end : ℕ) : Type 0 where
  pub words : words_of view ≡ part_of view start end ∷ words_of (part_of view end (length view.text))
  pub word : IsLawful view.text start end
  pub behind : IsLawful view.text end (length view.text)

-- each of the views is found wherever the whole view is found, and stands, even if it is empty, wherever the whole view stands
pub record AreFoundWith (whole : View) (views : List View) : Type 0 where
  pub each : (parent : List ℕ) → IsFoundAt parent whole.text whole.place → All (λ view. IsFoundAt parent view.text view.place) views
  pub standing : (parent : List ℕ) → StandsAt parent whole.text whole.place → All (λ view. StandsAt parent view.text view.place) views
