-- Views: texts with their place in a parent, and where a view is found.
use Rattle.std.specs.Prelude.{◌≡◌, ℕ, ◌+◌, ◌⊎◌, List, [], length}
use Rattle.arcstr_range.specs.Text.{cut}
use Rattle.arcstr_range.specs.Ends.{IsLawful}

-- a view is a text and its place
pub record View : Type 0 where
  pub text : List ℕ
  pub place : ℕ

abbrev pub view_at : List ℕ → ℕ → View
view_at text place = record { text = text; place = place }

-- where the view ends, as measured by its place
abbrev pub end_of : View → ℕ
end_of view = view.place + length view.text

-- the view of the text between two byte offsets of the view's own text
abbrev pub part_of : View → ℕ → ℕ → View
part_of view start end = view_at (cut view.text start end) (view.place + start)

-- the parent has the text at the place, as a valid slice
pub record StandsAt (parent text : List ℕ) (place : ℕ) : Type 0 where
  pub lawful : IsLawful parent place (place + length text)
  pub same : cut parent place (place + length text) ≡ text

-- a text is found at a place of the parent if it is empty or stands there. It is no `abbrev`, so that a search joins any number of `IsFoundWith` without a look
-- at what is found
unfoldable pub IsFoundAt : List ℕ → List ℕ → ℕ → Type 0
IsFoundAt parent text place = (text ≡ []) ⊎ StandsAt parent text place

-- the part is found wherever the whole view is found
abbrev pub IsFoundWith : View → View → Type 0
IsFoundWith whole part = (parent : List ℕ) → IsFoundAt parent whole.text whole.place → IsFoundAt parent part.text part.place
