-- Facts about texts and their slices: copies of an empty text, the whole text, and what a trim leaves.
use Rattle.std.proofs.Common.{◌≡◌, ℕ, zero, suc, List, [], ◌∷◌, length, refl, sym, subst, arith}
use Rattle.std.specs.List.{repeat}
use Rattle.std.specs.Str.{IsUtf8}
use Rattle.std.proofs.lemmas.Str.{IsCharBoundary-start, IsCharBoundary-end}
use Rattle.arcstr_range.proofs.FoundParts.{lawful_both, lawful_end, lawful_start}
use Rattle.arcstr_range.specs.Ends.{IsLawful}
use Rattle.arcstr_range.specs.Trim.{Trims, TrimsEnd, TrimsStart}
use Rattle.arcstr_range.specs.View.{View, end_of, view_at}

-- copies of an empty text are the empty text
pub copies_of_nothing : (n : ℕ) (text : List ℕ) → length text ≡ 0 → repeat n text ≡ []
copies_of_nothing zero text e = refl
copies_of_nothing (suc n) [] e = copies_of_nothing n [] e
copies_of_nothing (suc n) (b ∷ bs) e = absurd (omega arith)

-- the range of the whole text is valid
pub IsLawful-whole : (text : List ℕ) → IsUtf8 text → IsLawful text 0 (length text)
IsLawful-whole text utf8 = record {
  in_order = omega arith;
  within = omega arith;
  at_boundaries = (IsCharBoundary-start text utf8, IsCharBoundary-end text);
}

-- the range that a trim leaves is valid, even if it is empty
pub IsLawful-trim_start : (text : List ℕ) (old new : View) (start end : ℕ) → IsUtf8 text → old ≡ view_at text 0 → TrimsStart old new →
    start ≡ new.place → end ≡ end_of new → IsLawful text start end
IsLawful-trim_start text old new start end utf8 is trims at_start at_end =
    subst (λ e. IsLawful text start e) (sym at_end)
    (subst (λ s. IsLawful text s (end_of new)) (sym at_start) (lawful_start text new utf8 (subst (λ o. TrimsStart o new) is trims)))

pub IsLawful-trim_end : (text : List ℕ) (old new : View) (start end : ℕ) → IsUtf8 text → old ≡ view_at text 0 → TrimsEnd old new →
    start ≡ new.place → end ≡ end_of new → IsLawful text start end
IsLawful-trim_end text old new start end utf8 is trims at_start at_end =
    subst (λ e. IsLawful text start e) (sym at_end)
    (subst (λ s. IsLawful text s (end_of new)) (sym at_start) (lawful_end text new utf8 (subst (λ o. TrimsEnd o new) is trims)))

pub IsLawful-trim : (text : List ℕ) (old new : View) (start end : ℕ) → IsUtf8 text → old ≡ view_at text 0 → Trims old new →
    start ≡ new.place → end ≡ end_of new → IsLawful text start end
IsLawful-trim text old new start end utf8 is trims at_start at_end =
    subst (λ e. IsLawful text start e) (sym at_end)
    (subst (λ s. IsLawful text s (end_of new)) (sym at_start) (lawful_both text new utf8 (subst (λ o. Trims o new) is trims)))

-- the functions whose proofs use this ruleset name it
pub ruleset whole_ranges = (IsLawful-whole)
