-- Results of the slicing calls. Each definition takes the receiver's own text, and the slice between two byte offsets of that text: `slice_of` for a shared
-- text, `slice_within` for a shared slice.
use Rattle.std.specs.Prelude.{◌≡◌, ◌≢◌, ◌↔◌, ◌≤◌, ℕ, false, List, [], map, Option, Result, Ok, IsOk, IsErrOf, IsSome, IfOk, IfSome, ◌+◌, length}
use Rattle.std.specs.Iterator.{Drains}
use Rattle.std.specs.List.{AllZip}
use Rattle.std.specs.declared.ops.Range.{Range}
use Rattle.arcstr_range.specs.declared.range.StrRange.{StrRange}
use Rattle.arcstr_range.specs.declared.range.StrRange.TheVariants.{Between}
use Rattle.arcstr_range.specs.declared.range.fault.RangeFault.{RangeFault}
use Rattle.arcstr_range.specs.Ends.{ends_in, cut_by, IsLawfulRange, IsFirstRangeFault}
use Rattle.arcstr_range.specs.Text.{SpellsBetween}
use Rattle.arcstr_range.specs.Matches.{AreParts}
use Rattle.arcstr_range.specs.View.{View, end_of, view_at}
use Rattle.arcstr.specs.Substr.{SubstrView, empty_slice, text_of}

-- the slice lies between two byte offsets of its parent's text
pub record LiesBetween (start end : ℕ) (slice : SubstrView) : Type 0 where
  pub from : start ≤ slice.start
  pub ordered : slice.start ≤ slice.end
  pub to : slice.end ≤ end

-- the result for a range: the slice between its ends, with the text between them, exactly if the range is valid in the text, and otherwise its first fault
pub record AnswersRange (text : List ℕ) (between : ℕ → ℕ → SubstrView) (range : StrRange) (answer : Result SubstrView RangeFault) : Type 0 where
  pub value : IfOk answer (λ slice. slice ≡ between (ends_in text range).0 (ends_in text range).1)
  pub same_text : IfOk answer (λ slice. text_of slice ≡ cut_by text range)
  pub lawful : IsOk answer ↔ IsLawfulRange text range
  pub refused : (fault : RangeFault) → IsErrOf answer fault ↔ IsFirstRangeFault text range fault

-- the result for the two byte offsets that a closure returns: the slice of nothing if they are equal, and otherwise the result for that range
pub record AnswersFoundRange (text : List ℕ) (between : ℕ → ℕ → SubstrView) (found : Range ℕ) (answer : Result SubstrView RangeFault) : Type 0 where
  pub equal_ends : found.start ≡ found.end → answer ≡ Ok empty_slice
  pub other_ends : found.start ≢ found.end → AnswersRange text between (Between found.start found.end) answer

-- the slice that a found view shows: the slice of nothing for an empty view, and otherwise the slice that starts at the view's place; its text is the view's
pub record IsSliceOfView (between : ℕ → ℕ → SubstrView) (view : View) (slice : SubstrView) : Type 0 where
  pub empty : view.text ≡ [] → slice ≡ empty_slice
  pub there : view.text ≢ [] → slice ≡ between view.place (end_of view)
  pub same_text : text_of slice ≡ view.text

-- the slices that views show, one after another, even of empty ones
abbrev pub slices_of : (ℕ → ℕ → SubstrView) → List View → List SubstrView
slices_of between views = map (λ view. between view.place (end_of view)) views

-- the slice that a view shows, even of an empty one, with the view's text
pub record Shows (between : ℕ → ℕ → SubstrView) (encloses : SubstrView → Type 0) (view : View) (slice : SubstrView) : Type 0 where
  pub there : slice ≡ between view.place (end_of view)
  pub same_text : text_of slice ≡ view.text
  pub within : encloses slice

-- each slice shows one of the views that calls of an iterator's `next` give until it ends, in order
pub record ShowAll {I V S : Type 0} (steps : I → Option V → I → Type 0) (shows : V → S → Type 0) (views : I) (slices : List S) : Type 0 where
  pub given : List V
  pub all : Drains steps views given
  pub each : AllZip shows given slices

-- the slices are those of the parts of the text between the matches that the searches find
pub record AreSlicesOfParts (finds : List ℕ → Option (ℕ × ℕ) → Type 0) (text : List ℕ) (between : ℕ → ℕ → SubstrView) (slices : List SubstrView) : Type 0 where
  pub parts : List View
  pub cut : AreParts finds false (view_at text 0) parts
  pub shown : slices ≡ slices_of between parts

-- the bytes that `get` returns for a range: those between its ends, exactly if Rust's `str` has a slice there
pub record AnswersGet (text : List ℕ) (range : StrRange) (answer : Option (List ℕ)) : Type 0 where
  pub some : IsSome answer ↔ IsLawfulRange text range
  pub value : IfSome answer (λ part. part ≡ cut_by text range)
  pub characters : IfSome answer (SpellsBetween text (ends_in text range).0 (ends_in text range).1)

-- ---- white space removed around a text

-- the slice has the byte range and the text of the view that a trim of the whole text leaves
pub record IsTrimmed (trims : View → View → Type 0) (text : List ℕ) (between : ℕ → ℕ → SubstrView) (slice : SubstrView) : Type 0 where
  pub place : ℕ
  pub longest : trims (view_at text 0) (view_at (text_of slice) place)
  pub there : slice ≡ between place (place + length (text_of slice))
