-- White space at the ends of a text, and the trims of a view from those of its text.
use Rattle.std.proofs.Common.{◌≡◌, ℕ, zero, suc, ◌+◌, ◌<◌, ◌≤◌, ◌⊎◌, inl, inr, Bool, true, false, cond, ◌&&◌, nat_eq, List, [], ◌∷◌, ◌++◌, length, refl, ap}
use Rattle.std.proofs.Common.{arith, length-append, ◌-◌}
use Rattle.std.specs.Char.{is_whitespace}
use Rattle.std.specs.List.{AllPass}
use Rattle.std.specs.Str.{skip_leading_whitespace, drop_trailing_whitespace, IsUtf8, chars, trim_start, trim_end}
use Rattle.std.proofs.lemmas.Bool.{and_parts}
use Rattle.std.proofs.lemmas.Bool.Decides.{nat_tests}
use Rattle.arcstr_range.specs.Trim.{IsLongestWhitePrefix, IsLongestWhiteSuffix, TrimsStart, TrimsEnd}
use Rattle.std.specs.Prelude.{encode_utf8_all}
use Rattle.arcstr_range.proofs.Boundaries.{halves_join_to_text}
use Rattle.arcstr_range.specs.View.{View}

abbrev AreWhite : List ℕ → Type 0
AreWhite = AllPass is_whitespace

AreWhite-nil : AreWhite []
AreWhite-nil k d below = absurd (omega arith)

AreWhite-cons : (c : ℕ) (cs : List ℕ) → is_whitespace c ≡ true → AreWhite cs → AreWhite (c ∷ cs)
AreWhite-cons c cs white rest zero d below = white
AreWhite-cons c cs white rest (suc k) d below = rest k d (omega arith)

AreWhite-rest : (c : ℕ) (cs : List ℕ) → AreWhite (c ∷ cs) → AreWhite cs
AreWhite-rest c cs white k d below = white (suc k) d (omega arith)

AreWhite-first : (c : ℕ) (cs : List ℕ) → AreWhite (c ∷ cs) → is_whitespace c ≡ true
AreWhite-first c cs white = white 0 0 (omega arith)

-- the longest white prefix after one more character is added
longest_prefix : (c : ℕ) (cs prefix rest : List ℕ) → IsLongestWhitePrefix cs prefix rest
    → (other others_rest : List ℕ) → c ∷ cs ≡ other ++ others_rest → AreWhite other → length other ≤ length prefix + 1
longest_prefix c cs prefix rest h [] others_rest e white = omega arith
longest_prefix c cs prefix rest h (o ∷ other) others_rest e white =
    let short = h.longest other others_rest (cc) (AreWhite-rest o other white) in
    omega (arith, short)

no_prefix : (c : ℕ) (cs : List ℕ) → is_whitespace c ≡ false
    → (other others_rest : List ℕ) → c ∷ cs ≡ other ++ others_rest → AreWhite other → length other ≤ 0
no_prefix c cs black [] others_rest e white = omega arith
no_prefix c cs black (o ∷ other) others_rest e white =
    let same : c ≡ o = cc in
    let first = AreWhite-first o other white in
    absurd (cc)

prefix_of_more : (b : Bool) (c : ℕ) (cs rest : List ℕ) → is_whitespace c ≡ b
    → (prefix : List ℕ) × IsLongestWhitePrefix cs prefix rest
    → (prefix : List ℕ) × IsLongestWhitePrefix (c ∷ cs) prefix (cond b rest (c ∷ cs))
prefix_of_more true c cs rest white (prefix, h) = (
  c ∷ prefix,
  record {
    split = ap (λ l. c ∷ l) h.split;
    white = AreWhite-cons c prefix white h.white;
    longest = λ other others_rest e w. let short = longest_prefix c cs prefix rest h other others_rest e w in omega (arith, short);
  },
)
prefix_of_more false c cs rest black (prefix, h) =
    ([], record { split = refl; white = AreWhite-nil; longest = no_prefix c cs black })

-- `skip_leading_whitespace` skips the longest white prefix
pub IsLongestWhitePrefix-skip : (cs : List ℕ) → (prefix : List ℕ) × IsLongestWhitePrefix cs prefix (skip_leading_whitespace cs)
IsLongestWhitePrefix-skip [] =
    ([], record { split = refl; white = AreWhite-nil; longest = λ other others_rest e w. omega (arith, ap length e, length-append other others_rest) })
IsLongestWhitePrefix-skip (c ∷ cs) = prefix_of_more (is_whitespace c) c cs (skip_leading_whitespace cs) refl (IsLongestWhitePrefix-skip cs)

-- a suffix of a list is no longer than the list
end_is_short : (cs others_rest other : List ℕ) → cs ≡ others_rest ++ other → length other ≤ length cs
end_is_short cs others_rest other e = omega (arith, ap length e, length-append others_rest other)

-- the longest white suffix after one more character is added, if only white space follows that character
all_suffix : (c : ℕ) (cs rest suffix : List ℕ) → is_whitespace c ≡ true → length rest ≡ 0 → IsLongestWhiteSuffix cs rest suffix
    → IsLongestWhiteSuffix (c ∷ cs) [] (c ∷ suffix)
all_suffix c cs [] suffix white empty h =
    record {
      split = ap (λ l. c ∷ l) h.split;
      white = AreWhite-cons c suffix white h.white;
      longest = λ others_rest other e w. let short = end_is_short (c ∷ cs) others_rest other e in omega (arith, short, ap length h.split);
    }
all_suffix c cs (x ∷ rest) suffix white empty h = absurd (omega arith)

-- otherwise that suffix does not grow
same_suffix : (c : ℕ) (cs rest suffix : List ℕ) → (is_whitespace c ≡ false) ⊎ (0 < length rest) → IsLongestWhiteSuffix cs rest suffix
    → (others_rest other : List ℕ) → c ∷ cs ≡ others_rest ++ other → AreWhite other → length other ≤ length suffix
same_suffix c cs rest suffix kept h [] [] e w = omega arith
same_suffix c cs rest suffix (inl black) h [] (o ∷ other) e w =
    let same : c ≡ o = cc in
    let first = AreWhite-first o other w in
    absurd (cc)
same_suffix c cs rest suffix (inr more) h [] (o ∷ other) e w =
    let same : cs ≡ other = cc in
    let short = h.longest [] other same (AreWhite-rest o other w) in
    absurd (omega (arith, more, short, ap length same, ap length h.split, length-append rest suffix))
same_suffix c cs rest suffix kept h (x ∷ others_rest) other e w = h.longest others_rest other (cc) w

kept_by : (white : Bool) (n : ℕ) → (white && nat_eq n 0) ≡ false → (white ≡ false) ⊎ (0 < n)
kept_by false n kept = inl refl
kept_by true n kept = inr (grind (arith, nat_tests))

suffix_of_more : (b : Bool) (c : ℕ) (cs rest : List ℕ) → (is_whitespace c && nat_eq (length rest) 0) ≡ b
    → (suffix : List ℕ) × IsLongestWhiteSuffix cs rest suffix
    → (suffix : List ℕ) × IsLongestWhiteSuffix (c ∷ cs) (cond b [] (c ∷ rest)) suffix
suffix_of_more true c cs rest all_white (suffix, h) =
    let parts = and_parts (is_whitespace c) (nat_eq (length rest) 0) all_white in
    (c ∷ suffix, all_suffix c cs rest suffix parts.0 (grind (arith, nat_tests, parts.1)) h)
suffix_of_more false c cs rest kept (suffix, h) = (
  suffix,
  record {
    split = ap (λ l. c ∷ l) h.split;
    white = h.white;
    longest = same_suffix c cs rest suffix (kept_by (is_whitespace c) (length rest) kept) h;
  },
)

-- `drop_trailing_whitespace` drops the longest white suffix
pub IsLongestWhiteSuffix-drop : (cs : List ℕ) → (suffix : List ℕ) × IsLongestWhiteSuffix cs (drop_trailing_whitespace cs) suffix
IsLongestWhiteSuffix-drop [] =
    ([], record { split = refl; white = AreWhite-nil; longest = λ others_rest other e w. end_is_short [] others_rest other e })
IsLongestWhiteSuffix-drop (c ∷ cs) = suffix_of_more _ c cs (drop_trailing_whitespace cs) refl (IsLongestWhiteSuffix-drop cs)

-- ==== the trims of a view, from the trims of its text

-- the place moves by the bytes that the text loses
pub trims_start : (old new : View) → IsUtf8 old.text → new.text ≡ trim_start old.text
    → new.place ≡ old.place + (length old.text - length new.text) → TrimsStart old new
unfolding trim_start
trims_start old new utf8 text place =
    let skipped = IsLongestWhitePrefix-skip (chars old.text) in
    let rest = skip_leading_whitespace (chars old.text) in
    let whole = halves_join_to_text old.text skipped.0 rest utf8 skipped.1.split in
    record {
      prefix = skipped.0;
      rest = rest;
      removed = skipped.1;
      text = text;
      place = omega (arith, place, ap length whole, ap length text, length-append (encode_utf8_all skipped.0) (encode_utf8_all rest));
    }

pub trims_end : (old new : View) → new.text ≡ trim_end old.text → new.place ≡ old.place → TrimsEnd old new
unfolding trim_end
trims_end old new text place =
    let dropped = IsLongestWhiteSuffix-drop (chars old.text) in
    record {
      rest = drop_trailing_whitespace (chars old.text);
      suffix = dropped.0;
      removed = dropped.1;
      text = text;
      place = place;
    }
