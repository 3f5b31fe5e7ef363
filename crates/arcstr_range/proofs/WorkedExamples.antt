-- Worked examples of the definitions, by computation.
use lib.Utf8.{encode}
use Rattle.std.proofs.Common.{◌≡◌, ℕ, ◌+◌, ◌-◌, ◌^◌, List, [], ◌∷◌, get_or, refl, ap, inl, inr, arith, rules}
use Rattle.std.specs.Prelude.{codes}
use Rattle.std.specs.Str.{chars, trim, trim_start, trim_end}
use Rattle.arcstr_range.specs.declared.range.StrRange.TheVariants.{Between, From, To, Full, Inclusive, ToInclusive}
use Rattle.arcstr_range.specs.declared.range.fault.RangeFault.TheVariants.{OutOfOrder, PastEnd, OffBoundary}
use Rattle.arcstr_range.specs.Ends.{ends_of, length_rule, text_rule, FitsLength, IsLawful, IsFirstFault}
use Rattle.arcstr_range.specs.Text.{IsPrefixLength, SpellsBetween, cut}
use Rattle.arcstr_range.specs.View.{view_at, part_of, IsFoundAt}

-- the bytes of an `a` and an e with an acute accent
abbrev a_acute : List ℕ
a_acute = 97 ∷ 195 ∷ 169 ∷ []

abbrev greatest : ℕ
greatest = 2 ^ 64 - 1

-- the first length that does not fit in 32 bits
abbrev wide : ℕ
wide = 2 ^ 32

-- ends
ends_between : ends_of (Between 9 8) 3 ≡ (9, 8)
ends_between = refl

ends_from : ends_of (From 2) 5 ≡ (2, 5)
ends_from = refl

ends_to : ends_of (To 4) 3 ≡ (0, 4)
ends_to = refl

ends_full : ends_of Full 7 ≡ (0, 7)
ends_full = refl

ends_inclusive : ends_of (Inclusive 3 2) 3 ≡ (3, 3)
ends_inclusive = refl

-- an inclusive end of `usize::MAX` does not wrap to 0
ends_unbounded : ends_of (ToInclusive greatest) 10 ≡ (0, 2 ^ 64)
ends_unbounded = refl

ends_wide : ends_of (ToInclusive (wide - 1)) wide ≡ (0, wide)
ends_wide = refl

-- lengths, including some that do not fit in 32 bits
fits_wide : FitsLength wide 0 wide
fits_wide = search rules

fits_wide_empty : FitsLength wide wide wide
fits_wide_empty = search rules

fits_greatest : FitsLength greatest 0 greatest
fits_greatest = search rules

past_greatest : IsFirstFault (length_rule greatest 0 (2 ^ 64)) PastEnd
past_greatest = search rules

past_short_end : IsFirstFault (length_rule 10 0 wide) PastEnd
past_short_end = search rules

wide_out_of_order : IsFirstFault (length_rule wide (wide + 1) wide) OutOfOrder
wide_out_of_order = search rules

order_before_end : IsFirstFault (length_rule 3 9 8) OutOfOrder
order_before_end = search rules

-- texts
lawful_whole : IsLawful a_acute 0 3
lawful_whole = search rules

lawful_empty : IsLawful a_acute 3 3
lawful_empty = search rules

inside : IsFirstFault (text_rule a_acute 0 2) OffBoundary
inside = search rules

inside_empty : IsFirstFault (text_rule a_acute 2 2) OffBoundary
inside_empty = search rules

past_end : IsFirstFault (text_rule a_acute 0 4) PastEnd
past_end = search rules

-- boundaries and slices
before_accent : IsPrefixLength a_acute 1
unfolding chars encode
before_accent = record { prefix = 97 ∷ []; rest = 233 ∷ []; split = refl; measured = refl }

accent_spelled : SpellsBetween a_acute 1 3 (195 ∷ 169 ∷ [])
unfolding chars encode
accent_spelled =
    record { before = 97 ∷ []; between = 233 ∷ []; after = []; split = refl; measured_start = refl; measured_end = refl; spelled = refl }

accent : cut a_acute 1 3 ≡ 195 ∷ 169 ∷ []
accent = refl

-- views
part : part_of (view_at a_acute 5) 1 3 ≡ view_at (195 ∷ 169 ∷ []) 6
part = refl

found : IsFoundAt (codes "abab") (codes "ab") 2
unfolding IsFoundAt
found = inr (search rules)

found_elsewhere : IsFoundAt (codes "abab") (codes "ab") 1 → ⊥
unfolding IsFoundAt
found_elsewhere (inl empty) = cc
found_elsewhere (inr stands) = omega (arith, ap (λ (l : List ℕ). get_or l 0 0) stands.same)

empty_anywhere : IsFoundAt (codes "abab") [] greatest
unfolding IsFoundAt
empty_anywhere = inl refl

-- white space, including some of two bytes
trimmed : trim (codes "  a ") ≡ codes "a"
unfolding trim_start trim_end chars encode
trimmed = refl

trimmed_wide : trim_start (194 ∷ 160 ∷ 97 ∷ []) ≡ 97 ∷ []
unfolding trim_start chars encode
trimmed_wide = refl
