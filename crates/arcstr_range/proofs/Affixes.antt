-- UTF-8 prefixes and suffixes of a text: they lie at boundaries, and are found wherever the text is found.
use Rattle.std.proofs.Common.{◌≡◌, ℕ, ◌+◌, ◌-◌, ◌≤◌, List, length, take, drop, sym, subst, ◌∙◌, arith}
use Rattle.std.specs.Str.{IsUtf8}
use Rattle.std.proofs.lemmas.List.{length-drop, take_all}
use Rattle.std.proofs.lemmas.Slice.{between_is}
use Rattle.std.proofs.lemmas.Str.{IsCharBoundary-end, IsCharBoundary-from_drop, IsCharBoundary-from_take, IsCharBoundary-start}
use Rattle.arcstr_range.proofs.FoundParts.{found_part}
use Rattle.arcstr_range.specs.Ends.{IsLawful}
use Rattle.arcstr_range.specs.Text.{cut}
use Rattle.arcstr_range.specs.View.{IsFoundAt}

-- a prefix lies from 0 to its length
pub lawful_prefix : (text prefix : List ℕ) → IsUtf8 text → IsUtf8 prefix → length prefix ≤ length text → prefix ≡ take (length prefix) text
    → IsLawful text 0 (length prefix)
lawful_prefix text prefix utf8 own within is =
    record {
      in_order = omega arith;
      within = within;
      at_boundaries = (IsCharBoundary-start text utf8, IsCharBoundary-from_take text (length prefix) utf8 within (subst IsUtf8 is own));
    }

pub cut_prefix : (text prefix : List ℕ) → prefix ≡ take (length prefix) text → cut text 0 (length prefix) ≡ prefix
cut_prefix text prefix is = between_is text 0 (length prefix) ∙ sym is

pub found_prefix : (parent text prefix : List ℕ) (place : ℕ) → IsUtf8 text → IsUtf8 prefix → length prefix ≤ length text → prefix ≡ take (length prefix) text
    → IsFoundAt parent text place → IsFoundAt parent prefix place
found_prefix parent text prefix place utf8 own within is found =
    let lawful = lawful_prefix text prefix utf8 own within is in
    let here : place + 0 ≡ place = omega arith in
    subst (λ n. IsFoundAt parent prefix n) here
    (subst (λ bytes. IsFoundAt parent bytes (place + 0)) (cut_prefix text prefix is) (found_part parent text place 0 (length prefix) lawful found))

-- a suffix lies from the text's length less its own to the end
pub lawful_suffix : (text suffix : List ℕ) → IsUtf8 text → IsUtf8 suffix → length suffix ≤ length text → suffix ≡ drop (length text - length suffix) text
    → IsLawful text (length text - length suffix) (length text)
lawful_suffix text suffix utf8 own within is =
    record {
      in_order = omega arith;
      within = omega arith;
      at_boundaries = (IsCharBoundary-from_drop text (length text - length suffix) (omega arith) (subst IsUtf8 is own), IsCharBoundary-end text);
    }

pub cut_suffix : (text suffix : List ℕ) → length suffix ≤ length text → suffix ≡ drop (length text - length suffix) text
    → cut text (length text - length suffix) (length text) ≡ suffix
cut_suffix text suffix within is =
    let start = length text - length suffix in
    take_all (length text - start) (drop start text) (omega (arith, length-drop start text)) ∙ sym is

pub found_suffix : (parent text suffix : List ℕ) (place : ℕ) → IsUtf8 text → IsUtf8 suffix → length suffix ≤ length text
    → suffix ≡ drop (length text - length suffix) text → IsFoundAt parent text place → IsFoundAt parent suffix (place + (length text - length suffix))
found_suffix parent text suffix place utf8 own within is found =
    let lawful = lawful_suffix text suffix utf8 own within is in
    subst (λ bytes. IsFoundAt parent bytes (place + (length text - length suffix))) (cut_suffix text suffix within is)
    (found_part parent text place (length text - length suffix) (length text) lawful found)

-- the rest of a text after the end of a prefix has a valid range
pub lawful_rest : (text : List ℕ) (place : ℕ) → IsLawful text 0 place → IsLawful text place (length text)
lawful_rest text place lawful =
    record {
      in_order = lawful.within;
      within = omega arith;
      at_boundaries = (lawful.at_boundaries.1, IsCharBoundary-end text);
    }

pub cut_is_take : (text : List ℕ) (place : ℕ) → cut text 0 place ≡ take place text
cut_is_take text place = between_is text 0 place

pub cut_is_drop : (text : List ℕ) (place : ℕ) → cut text place (length text) ≡ drop place text
cut_is_drop text place = take_all (length text - place) (drop place text) (omega (arith, length-drop place text))

-- the functions whose proofs use these rulesets name them
pub ruleset slices_of_prefixes = (lawful_prefix, cut_prefix)

pub ruleset slices_of_suffixes = (lawful_suffix, cut_suffix)

pub ruleset slices_of_rests = (lawful_rest, cut_is_take, cut_is_drop)
