-- How contracts see a list of slices of one text: the text, and two byte offsets for each slice.
use Rattle.std.specs.Prelude.{ℕ, List, ◌++◌, All, map}
use Rattle.arcstr_range.specs.Ends.{IsLawful}
use Rattle.arcstr.specs.TextView.{TextView}
use Rattle.arcstr.specs.Substr.{SubstrView, slice_of}

-- a list of slices in a contract, with byte offsets in the text
pub record SubstrsView : Type 0 where
  pub text : TextView
  pub ranges : List (ℕ × ℕ)

-- the list as the code stores it: the ranges with offsets of four bytes, and then those with offsets of eight
abbrev pub substrs_of : TextView → List (ℕ × ℕ) → List (ℕ × ℕ) → SubstrsView
substrs_of text near far = record { text = text; ranges = near ++ far }

-- the slices of the list
abbrev pub slices_in : SubstrsView → List SubstrView
slices_in list = map (λ range. slice_of list.text range.0 range.1) list.ranges

-- each range is valid in the text
abbrev pub IsSoundList : SubstrsView → Type 0
IsSoundList list = All (λ range. IsLawful list.text.text range.0 range.1) list.ranges
