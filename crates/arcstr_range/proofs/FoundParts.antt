-- Parts and trims of a view are found wherever the view is found.
use Rattle.std.proofs.Common.{◌≡◌, ℕ, ◌+◌, ◌-◌, ◌<◌, ◌≤◌, ◌⊎◌, inl, inr, List, [], length, get_or, take, drop, refl, sym, ap, subst, ◌∙◌, arith}
use Rattle.std.specs.Prelude.{◌++◌, encode_utf8_all}
use Rattle.std.specs.Str.{IsUtf8, IsCharBoundary, chars, trim_end, trim_start}
use Rattle.std.proofs.lemmas.Bool.{cases_lt}
use Rattle.std.proofs.lemmas.List.{length-append, length-take-le, length-drop, get_or-take, get_or-drop, drop_at, take_all, take_at}
use Rattle.std.proofs.lemmas.Slice.{between_is}
use Rattle.std.proofs.lemmas.Str.{IsCharBoundary-end, IsCharBoundary-start, IsUtf8-between}
use Rattle.arcstr_range.proofs.Boundaries.{IsCharBoundary-from_prefix, cut-cut, halves_join_to_text}
use Rattle.arcstr_range.proofs.Trims.{trims_end, trims_start}
use Rattle.arcstr_range.specs.Ends.{IsLawful}
use Rattle.arcstr_range.specs.Text.{cut}
use Rattle.arcstr_range.specs.Trim.{Trims, TrimsEnd, TrimsStart}
use Rattle.arcstr_range.specs.View.{IsFoundAt, StandsAt, View, end_of, view_at}

pub length-cut : (text : List ℕ) (start end : ℕ) → start ≤ end → end ≤ length text → length (cut text start end) ≡ end - start
length-cut text start end in_order within = length-take-le (end - start) (drop start text) (omega (arith, length-drop start text))

-- a boundary of a part is a boundary of the whole
boundary_of_part : (text : List ℕ) (start end place : ℕ) → start ≤ end → IsCharBoundary text end → IsCharBoundary (cut text start end) place
    → IsCharBoundary text (start + place)
boundary_of_part text start end place in_order at_end at =
    let size = length-cut text start end in_order at_end.0 in
    (omega (arith, size, at.0), λ below lead. by size (cases_lt place (end - start)) below lead)
  where
    by : length (cut text start end) ≡ end - start → (place < end - start) ⊎ (end - start ≤ place)
        → start + place < length text → 128 ≤ get_or text (start + place) 0 → 192 ≤ get_or text (start + place) 0
    by size (inl inside) below lead =
        let read = get_or-take (end - start) (drop start text) place 0 inside in
        let read_whole = get_or-drop start text place 0 in
        let part = at.1 (omega (arith, size, inside)) (omega (arith, read, read_whole, lead)) in
        omega (arith, read, read_whole, part)
    by size (inr past) below lead =
        let same : start + place ≡ end = omega (arith, size, at.0, past) in
        subst (λ n. 192 ≤ get_or text n 0) (sym same)
        (at_end.1 (subst (λ n. n < length text) same below) (subst (λ n. 128 ≤ get_or text n 0) same lead))

cut-nil : (start end : ℕ) → cut [] start end ≡ []
cut-nil start end = grind arith

stands_part : (parent text : List ℕ) (place start end : ℕ) → IsLawful text start end → StandsAt parent text place
    → StandsAt parent (cut text start end) (place + start)
stands_part parent text place start end sliced at =
    let size = length-cut text start end sliced.in_order sliced.within in
    let boundary : (k : ℕ) → IsCharBoundary text k → IsCharBoundary parent (place + k) =
    λ k own. boundary_of_part parent place (place + length text) k (omega arith) at.lawful.at_boundaries.1
    (subst (λ bytes. IsCharBoundary bytes k) (sym at.same) own) in
    let ends : place + start + length (cut text start end) ≡ place + end = omega (arith, size, sliced.in_order) in
    record {
      lawful = record {
        in_order = omega arith;
        within = omega (arith, ends, sliced.within, at.lawful.within);
        at_boundaries = (boundary start sliced.at_boundaries.0, subst (λ n. IsCharBoundary parent n) (sym ends) (boundary end sliced.at_boundaries.1));
      };
      same =
          ap (λ n. cut parent (place + start) n) ends
          ∙ cut-cut parent place (place + length text) start end (omega arith) (omega (arith, ap length at.same, sliced.within))
          ∙ ap (λ bytes. cut bytes start end) at.same;
    }

-- a part of a view is found wherever the view is found
pub found_part : (parent text : List ℕ) (place start end : ℕ) → IsLawful text start end → IsFoundAt parent text place
    → IsFoundAt parent (cut text start end) (place + start)
unfolding IsFoundAt
found_part parent text place start end sliced (inl empty) = inl (ap (λ bytes. cut bytes start end) empty ∙ cut-nil start end)
found_part parent text place start end sliced (inr at) = inr (stands_part parent text place start end sliced at)

-- a text that stands in a parent starts at a boundary
starts_at_boundary : (parent text : List ℕ) (place : ℕ) → StandsAt parent text place → IsCharBoundary text 0
starts_at_boundary parent text place at = (
  omega arith,
  λ below lead.
      let ends : place + length text - place ≡ length text = omega arith in
      let read = get_or-take (place + length text - place) (drop place parent) 0 0 (omega (arith, below)) in
      let read_whole = get_or-drop place parent 0 0 in
      let same : get_or (cut parent place (place + length text)) 0 0 ≡ get_or text 0 0 = ap (λ (l : List ℕ). get_or l 0 0) at.same in
      let zero_more : get_or parent (place + 0) 0 ≡ get_or parent place 0 = ap (λ (n : ℕ). get_or parent n 0) (omega arith) in
      let first : 192 ≤ get_or parent place 0 =
      at.lawful.at_boundaries.0.1 (omega (arith, at.lawful.within)) (omega (arith, read, read_whole, same, zero_more, lead)) in
      omega (arith, read, read_whole, same, zero_more, first),
)

-- what holds of a text at a place holds of each part of it at its place, and the text starts at a boundary
pub record PassesToParts (P : List ℕ → ℕ → Type 0) : Type 0 where
  pub part : (text : List ℕ) (place start end : ℕ) → IsLawful text start end → P text place → P (cut text start end) (place + start)
  pub start : (text : List ℕ) (place : ℕ) → P text place → IsCharBoundary text 0

pub stands_passes : (parent : List ℕ) → PassesToParts (StandsAt parent)
stands_passes parent = record { part = stands_part parent; start = starts_at_boundary parent }

start_of_found : (parent text : List ℕ) (place : ℕ) → IsFoundAt parent text place → IsCharBoundary text 0
unfolding IsFoundAt
start_of_found parent text place (inl empty) = (omega arith, λ below lead. absurd (omega (arith, ap length empty)))
start_of_found parent text place (inr at) = starts_at_boundary parent text place at

pub found_passes : (parent : List ℕ) → PassesToParts (IsFoundAt parent)
found_passes parent = record { part = found_part parent; start = start_of_found parent }

-- the new view is the part of the old one between two byte offsets of its text
record IsPart (old new : View) : Type 0 where
  pub start : ℕ
  pub end : ℕ
  pub sliced : IsLawful old.text start end
  pub text : cut old.text start end ≡ new.text
  pub place : old.place + start ≡ new.place

found_IsPart : (parent : List ℕ) (old new : View) → IsPart old new → IsFoundAt parent old.text old.place → IsFoundAt parent new.text new.place
found_IsPart parent old new part found =
    subst (λ n. IsFoundAt parent new.text n) part.place
    (subst (λ bytes. IsFoundAt parent bytes (old.place + part.start)) part.text (found_part parent old.text old.place part.start part.end part.sliced found))

stands_IsPart : (parent : List ℕ) (old new : View) → IsPart old new → StandsAt parent old.text old.place → StandsAt parent new.text new.place
stands_IsPart parent old new part at =
    subst (λ n. StandsAt parent new.text n) part.place
    (subst (λ bytes. StandsAt parent bytes (old.place + part.start)) part.text (stands_part parent old.text old.place part.start part.end part.sliced at))

seam : (text prefix rest : List ℕ) → IsUtf8 text → chars text ≡ prefix ++ rest → IsCharBoundary text (length (encode_utf8_all prefix))
seam text prefix rest utf8 split =
    IsCharBoundary-from_prefix text _ utf8 (record { prefix = prefix; rest = rest; split = split; measured = refl })

IsPart-trim_start : (old new : View) → IsUtf8 old.text → TrimsStart old new → IsPart old new
IsPart-trim_start old new utf8 trims =
    let prefix = encode_utf8_all trims.prefix in
    let rest = encode_utf8_all trims.rest in
    let whole = halves_join_to_text old.text trims.prefix trims.rest utf8 trims.removed.split in
    let size : length old.text ≡ length prefix + length rest = ap length whole ∙ length-append prefix rest in
    let behind : drop (length prefix) old.text ≡ rest = ap (drop (length prefix)) whole ∙ drop_at prefix rest (length prefix) refl in
    record {
      start = length prefix;
      end = length old.text;
      sliced = record {
        in_order = omega (arith, size);
        within = omega arith;
        at_boundaries = (seam old.text trims.prefix trims.rest utf8 trims.removed.split, IsCharBoundary-end old.text);
      };
      text = ap (take (length old.text - length prefix)) behind ∙ take_all (length old.text - length prefix) rest (omega (arith, size)) ∙ sym trims.text;
      place = sym trims.place;
    }

IsPart-trim_end : (old new : View) → IsUtf8 old.text → TrimsEnd old new → IsPart old new
IsPart-trim_end old new utf8 trims =
    let rest = encode_utf8_all trims.rest in
    let suffix = encode_utf8_all trims.suffix in
    let whole = halves_join_to_text old.text trims.rest trims.suffix utf8 trims.removed.split in
    record {
      start = 0;
      end = length rest;
      sliced = record {
        in_order = omega arith;
        within = omega (arith, ap length whole, length-append rest suffix);
        at_boundaries = (IsCharBoundary-start old.text utf8, seam old.text trims.rest trims.suffix utf8 trims.removed.split);
      };
      text = between_is old.text 0 (length rest) ∙ ap (take (length rest)) whole ∙ take_at rest suffix (length rest) refl ∙ sym trims.text;
      place = omega (arith, trims.place);
    }

pub stands_whole : (text : List ℕ) → IsUtf8 text → StandsAt text text 0
stands_whole text utf8 =
    let ends : 0 + length text ≡ length text = omega arith in
    record {
      lawful = record {
        in_order = omega arith;
        within = omega arith;
        at_boundaries = (IsCharBoundary-start text utf8, subst (λ n. IsCharBoundary text n) (sym ends) (IsCharBoundary-end text));
      };
      same = ap (λ n. cut text 0 n) ends ∙ between_is text 0 (length text) ∙ take_all (length text) text (omega arith);
    }

-- a whole text is found in itself
pub found_whole : (text : List ℕ) → IsUtf8 text → IsFoundAt text text 0
unfolding IsFoundAt
found_whole text utf8 = inr (stands_whole text utf8)

-- the same for the trims of std
pub found_std_trim_start : (parent text trimmed : List ℕ) (place : ℕ) → IsUtf8 text → trimmed ≡ trim_start text
    → IsFoundAt parent text place → IsFoundAt parent trimmed (place + (length text - length trimmed))
found_std_trim_start parent text trimmed place utf8 same =
    let old = view_at text place in
    let new = view_at trimmed (place + (length text - length trimmed)) in
    found_IsPart parent old new (IsPart-trim_start old new utf8 (trims_start old new utf8 same refl))

pub found_std_trim_end : (parent text trimmed : List ℕ) (place : ℕ) → IsUtf8 text → trimmed ≡ trim_end text
    → IsFoundAt parent text place → IsFoundAt parent trimmed place
found_std_trim_end parent text trimmed place utf8 same =
    let old = view_at text place in
    let new = view_at trimmed place in
    found_IsPart parent old new (IsPart-trim_end old new utf8 (trims_end old new same refl))

-- ---- what a trim leaves of a whole text stands in that text, even if it is empty

stands_start : (text : List ℕ) (new : View) → IsUtf8 text → TrimsStart (view_at text 0) new → StandsAt text new.text new.place
stands_start text new utf8 trims =
    let old = view_at text 0 in
    stands_IsPart text old new (IsPart-trim_start old new utf8 trims) (stands_whole text utf8)

stands_end : (text : List ℕ) (new : View) → IsUtf8 text → TrimsEnd (view_at text 0) new → StandsAt text new.text new.place
stands_end text new utf8 trims =
    let old = view_at text 0 in
    stands_IsPart text old new (IsPart-trim_end old new utf8 trims) (stands_whole text utf8)

stands_both : (text : List ℕ) (new : View) → IsUtf8 text → Trims (view_at text 0) new → StandsAt text new.text new.place
stands_both text new utf8 trims =
    let part = IsPart-trim_start (view_at text 0) trims.middle utf8 trims.start in
    let own = IsUtf8-between text part.start part.end utf8 part.sliced.in_order part.sliced.at_boundaries.0 part.sliced.at_boundaries.1 in
    stands_IsPart text trims.middle new (IsPart-trim_end trims.middle new (subst IsUtf8 part.text own) trims.end)
    (stands_start text trims.middle utf8 trims.start)

pub lawful_start : (text : List ℕ) (new : View) → IsUtf8 text → TrimsStart (view_at text 0) new → IsLawful text new.place (end_of new)
lawful_start text new utf8 trims = (stands_start text new utf8 trims).lawful

pub cut_start : (text : List ℕ) (new : View) → IsUtf8 text → TrimsStart (view_at text 0) new → cut text new.place (end_of new) ≡ new.text
cut_start text new utf8 trims = (stands_start text new utf8 trims).same

-- a trim of the start leaves the end
pub ends_start : (text : List ℕ) (new : View) → IsUtf8 text → TrimsStart (view_at text 0) new → end_of new ≡ length text
ends_start text new utf8 trims =
    omega (
      arith,
      trims.place,
      ap length trims.text,
      ap length (halves_join_to_text text trims.prefix trims.rest utf8 trims.removed.split),
      length-append (encode_utf8_all trims.prefix) (encode_utf8_all trims.rest),
    )

pub lawful_end : (text : List ℕ) (new : View) → IsUtf8 text → TrimsEnd (view_at text 0) new → IsLawful text new.place (end_of new)
lawful_end text new utf8 trims = (stands_end text new utf8 trims).lawful

pub cut_end : (text : List ℕ) (new : View) → IsUtf8 text → TrimsEnd (view_at text 0) new → cut text new.place (end_of new) ≡ new.text
cut_end text new utf8 trims = (stands_end text new utf8 trims).same

pub lawful_both : (text : List ℕ) (new : View) → IsUtf8 text → Trims (view_at text 0) new → IsLawful text new.place (end_of new)
lawful_both text new utf8 trims = (stands_both text new utf8 trims).lawful

pub cut_both : (text : List ℕ) (new : View) → IsUtf8 text → Trims (view_at text 0) new → cut text new.place (end_of new) ≡ new.text
cut_both text new utf8 trims = (stands_both text new utf8 trims).same

-- the functions whose proofs use these rulesets name them
pub ruleset trimmed_starts = (lawful_start, cut_start, ends_start)

pub ruleset trimmed_ends = (lawful_end, cut_end)

pub ruleset trimmed_texts = (lawful_both, cut_both)
