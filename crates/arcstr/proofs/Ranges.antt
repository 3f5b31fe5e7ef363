-- The results of the calls that slice a text at a range, from the tests of the range's ends.
use Rattle.std.proofs.Common.{◌≡◌, ℕ, List, length, refl, sym, ap, subst, ◌∙◌}
use Rattle.std.specs.Prelude.{Result, Ok, Err}
use Rattle.arcstr_range.proofs.Affixes.{cut_is_drop, cut_is_take, lawful_rest}
use Rattle.arcstr_range.specs.declared.range.StrRange.{StrRange}
use Rattle.arcstr_range.specs.declared.range.StrRange.TheVariants.{To}
use Rattle.arcstr_range.specs.declared.range.fault.RangeFault.{RangeFault}
use Rattle.arcstr_range.specs.Ends.{AnswersEnds, IsFirstRangeFault, IsLawful, IsLawfulRange, ends_in}
use Rattle.arcstr_range.specs.Text.{cut}
use Rattle.arcstr.specs.Slicing.{AnswersRange}
use Rattle.arcstr.specs.Splitting.{AnswersSplitAt}
use Rattle.arcstr.specs.Substr.{SubstrView, text_of}

-- the tests of the ends of a range in a text have this result
abbrev pub TestsEnds : List ℕ → StrRange → Result (ℕ × ℕ) RangeFault → Type 0
TestsEnds text range answer = AnswersEnds (ends_in text range) (IsLawfulRange text range) (IsFirstRangeFault text range) answer

-- `read` is the text whose range was tested
module _ (text read : List ℕ) (between : ℕ → ℕ → SubstrView) where
  tests_own : (range : StrRange) (answer : Result (ℕ × ℕ) RangeFault) → TestsEnds read range answer → read ≡ text → TestsEnds text range answer
  tests_own range answer tests same = subst (λ (t : List ℕ). TestsEnds t range answer) same tests

  -- a range that passes the tests gives the slice between its ends
  pub slice_at_ends : (range : StrRange) (start end : ℕ) (slice : SubstrView) → TestsEnds read range (Ok (start, end)) → read ≡ text
      → slice ≡ between start end → text_of slice ≡ cut text start end → AnswersRange text between range (Ok slice)
  slice_at_ends range start end slice tests same is own_text =
      let own = tests_own range (Ok (start, end)) tests same in
      record {
        value = is ∙ ap (λ (ends : ℕ × ℕ). between ends.0 ends.1) own.value;
        same_text = own_text ∙ ap (λ (ends : ℕ × ℕ). cut text ends.0 ends.1) own.value;
        lawful = own.lawful;
        refused = λ fault. (λ err. absurd (cc), λ first. let err = own.only_fault fault first in absurd (cc));
      }

  -- a range that a test refuses gives the same fault
  pub no_slice : (range : StrRange) (fault : RangeFault) → TestsEnds read range (Err fault) → read ≡ text → AnswersRange text between range (Err fault)
  no_slice range fault tests same =
      let own = tests_own range (Err fault) tests same in
      record {
        value = tt;
        same_text = tt;
        lawful = own.lawful;
        refused = λ other. (
          λ err. let is : fault ≡ other = cc in subst (IsFirstRangeFault text range) is own.fault,
          λ first. let err = own.only_fault other first in cc,
        );
      }

  -- the rest of the text behind a place that passes the tests has a valid range
  pub lawful_behind : (place start end last : ℕ) → TestsEnds read (To place) (Ok (start, end)) → read ≡ text → last ≡ length text → IsLawful text end last
  lawful_behind place start end last tests same long =
      let own = tests_own (To place) (Ok (start, end)) tests same in
      subst (λ (ends : ℕ × ℕ). IsLawful text ends.1 last) (sym own.value)
      (subst (IsLawful text place) (sym long) (lawful_rest text place (own.lawful.0 refl)))

  -- a place that passes the tests splits the text
  pub parts_at_place : (place start end last : ℕ) (before after : SubstrView) → TestsEnds read (To place) (Ok (start, end)) → read ≡ text → last ≡ length text
      → before ≡ between start end → text_of before ≡ cut text start end → after ≡ between end last → text_of after ≡ cut text end last
      → AnswersSplitAt text between place (Ok (before, after))
  parts_at_place place start end last before after tests same long is_before text_before is_after text_after =
      let own = tests_own (To place) (Ok (start, end)) tests same in
      record {
        lawful = own.lawful;
        refused = λ fault. (λ err. absurd (cc), λ first. let err = own.only_fault fault first in absurd (cc));
        before = is_before ∙ ap (λ (ends : ℕ × ℕ). between ends.0 ends.1) own.value;
        after = is_after ∙ ap (λ (ends : ℕ × ℕ). between ends.1 last) own.value ∙ ap (between place) long;
        text_before = text_before ∙ ap (λ (ends : ℕ × ℕ). cut text ends.0 ends.1) own.value ∙ cut_is_take text place;
        text_after = text_after ∙ ap (λ (ends : ℕ × ℕ). cut text ends.1 last) own.value ∙ ap (cut text place) long ∙ cut_is_drop text place;
      }

  -- a place that a test refuses gives the same fault
  pub no_parts : (place : ℕ) (fault : RangeFault) → TestsEnds read (To place) (Err fault) → read ≡ text → AnswersSplitAt text between place (Err fault)
  no_parts place fault tests same =
      let own = tests_own (To place) (Err fault) tests same in
      record {
        lawful = own.lawful;
        refused = λ other. (
          λ err. let is : fault ≡ other = cc in subst (IsFirstRangeFault text (To place)) is own.fault,
          λ first. let err = own.only_fault other first in cc,
        );
        before = tt;
        after = tt;
        text_before = tt;
        text_after = tt;
      }
