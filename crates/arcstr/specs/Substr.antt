-- How contracts see a shared slice: its parent, and its byte range in the parent's text.
use Rattle.std.specs.Prelude.{◌≡◌, ℕ, ◌+◌, List, [], length}
use Rattle.arcstr_range.specs.Ends.{IsLawful}
use Rattle.arcstr_range.specs.Text.{cut}
use Rattle.arcstr.specs.TextView.{TextView, IsMadeOf, literal_of}

-- a shared slice in a contract, with byte offsets in the parent's text
pub record SubstrView : Type 0 where
  pub parent : TextView
  pub start : ℕ
  pub end : ℕ

-- the slice of a parent between two byte offsets
abbrev pub slice_of : TextView → ℕ → ℕ → SubstrView
slice_of parent start end = record { parent = parent; start = start; end = end }

-- the slice of all of a parent's text
abbrev pub whole_of : TextView → SubstrView
whole_of parent = slice_of parent 0 (length parent.text)

-- the slice of all of a text that a making call returns for these bytes
pub record IsWholeOfMade (bytes : List ℕ) (slice : SubstrView) : Type 0 where
  pub made : IsMadeOf bytes slice.parent
  pub whole : slice ≡ whole_of slice.parent

-- the slice of nothing: of the empty literal, from 0 to 0
abbrev pub empty_slice : SubstrView
empty_slice = slice_of (literal_of []) 0 0

-- the slice's own text
abbrev pub text_of : SubstrView → List ℕ
text_of slice = cut slice.parent.text slice.start slice.end

-- its byte range is valid in its parent's text
abbrev pub IsSoundSlice : SubstrView → Type 0
IsSoundSlice slice = IsLawful slice.parent.text slice.start slice.end

-- the slice between two byte offsets of a slice's own text: of the same parent, at the sums of the offsets
abbrev pub slice_within : SubstrView → ℕ → ℕ → SubstrView
slice_within outer start end = slice_of outer.parent (outer.start + start) (outer.start + end)
