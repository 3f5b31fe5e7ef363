-- Lists of slices of one text: each range is valid, and a list that grows by one range grows by one slice.
use Rattle.std.proofs.Common.{◌≡◌, ◌∙◌, ℕ, ◌+◌, ◌<◌, List, [], ◌∷◌, ◌++◌, length, get_or, map, ap, sym, subst, arith}
use Rattle.std.proofs.lemmas.List.{append_assoc, get_or-append-add, length-append, map_push}
use Rattle.std.proofs.lemmas.List.Elements.{All-push}
use Rattle.std.specs.Prelude.{All}
use Rattle.arcstr_range.specs.Ends.{IsLawful}
use Rattle.arcstr.specs.TextView.{TextView}
use Rattle.arcstr.specs.Substr.{SubstrView, slice_of}
use Rattle.arctokens.specs.SliceLists.{SubstrsView, IsSoundList, slices_in, substrs_of}

-- the range is valid in the text
abbrev IsRangeOf : TextView → ℕ × ℕ → Type 0
IsRangeOf text range = IsLawful text.text range.0 range.1

-- a range with offsets of eight bytes, as the code finds it
pub IsLawful-far : (text : TextView) (near far items : List (ℕ × ℕ)) (number : ℕ) (range : ℕ × ℕ) → IsSoundList (substrs_of text near far)
    → items ≡ far → number < length items → range ≡ get_or items number range → IsLawful text.text range.0 range.1
IsLawful-far text near far items number range sound same within found =
    let there : get_or far number range ≡ range = ap (λ (l : List (ℕ × ℕ)). get_or l number range) (sym same) ∙ sym found in
    subst (IsRangeOf text) (get_or-append-add near far number range ∙ there)
    (sound (length near + number) range (omega (arith, length-append near far, ap length same, within)))

pub IsSoundList-push_far : (text : TextView) (near far pushed : List (ℕ × ℕ)) (start end : ℕ) → IsSoundList (substrs_of text near far)
    → IsLawful text.text start end → pushed ≡ far ++ (start, end) ∷ [] → IsSoundList (substrs_of text near pushed)
IsSoundList-push_far text near far pushed start end sound lawful grown =
    subst (All (IsRangeOf text)) (append_assoc near far ((start, end) ∷ []) ∙ ap (λ l. near ++ l) (sym grown))
    (All-push (IsRangeOf text) (near ++ far) (start, end) sound lawful)

-- the slices of the text at these ranges
abbrev slices_at : TextView → List (ℕ × ℕ) → List SubstrView
slices_at text ranges = map (λ range. slice_of text range.0 range.1) ranges

pub slices_in-none : (list : SubstrsView) → list.ranges ≡ [] → slices_in list ≡ []
slices_in-none list none = ap (slices_at list.text) none

pub slices_in-push : (text : TextView) (list pushed : SubstrsView) (start end : ℕ) → list.text ≡ text → pushed.text ≡ list.text
    → pushed.ranges ≡ list.ranges ++ (start, end) ∷ [] → slices_in pushed ≡ slices_in list ++ slice_of text start end ∷ []
slices_in-push text list pushed start end of_text same grown =
    ap (λ t. slices_at t pushed.ranges) same
    ∙ ap (slices_at list.text) grown
    ∙ map_push (λ (range : ℕ × ℕ). slice_of list.text range.0 range.1) list.ranges (start, end)
    ∙ ap (λ t. slices_in list ++ slice_of t start end ∷ []) of_text
