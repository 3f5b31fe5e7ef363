-- The line and the column of a place in a text.
use Rattle.std.specs.Prelude.{◌≡◌, ℕ, ◌+◌, List, [], ◌∷◌, ◌++◌, length}
use Rattle.std.specs.Char.{is_newline}
use Rattle.std.specs.Str.{chars}
use Rattle.arcstr_range.specs.Pieces.{texts_between}
use Rattle.arcstr_range.specs.Text.{cut}
use Rattle.arcstr.specs.declared.line_and_column.LineAndColumn.{LineAndColumn}

-- newlines end the earlier lines of the text before a place, and `own` is what the place's own line has before it. Lines and columns are counted from 1, and
-- columns in characters
pub record EndsAt (before : List ℕ) (place : LineAndColumn) : Type 0 where
  pub earlier : List (List ℕ)
  pub own : List ℕ
  pub lines : texts_between is_newline before ≡ earlier ++ own ∷ []
  pub line : place.line ≡ length earlier + 1
  pub column : place.column ≡ length (chars own) + 1

-- the byte offset of the text has this line and this column
abbrev pub StandsInLine : List ℕ → ℕ → LineAndColumn → Type 0
StandsInLine text offset place = EndsAt (cut text 0 offset) place
