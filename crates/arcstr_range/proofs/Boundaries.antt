-- Boundaries and slices of a text in terms of its characters.
use Rattle.std.proofs.Common.{◌≡◌, ℕ, ◌+◌, ◌-◌, ◌≤◌, true, List, [], ◌∷◌, ◌++◌, length, take, drop, refl, sym, ap, subst, ◌∙◌, arith}
use Rattle.std.specs.Prelude.{encode_utf8_all}
use Rattle.std.specs.Str.{chars, all_scalars, IsUtf8, IsCharBoundary}
use Rattle.std.proofs.lemmas.List.{take-append-drop, length-take, length-take-le, drop-drop, take-take}
use Rattle.std.proofs.lemmas.Slice.{between_is}
use Rattle.std.proofs.lemmas.Str.{IsUtf8-take, IsUtf8-between, chars-append, encodes-chars, scalars-chars, encodes-append, IsCharBoundary-at_seam}
use Rattle.arcstr_range.specs.Text.{IsPrefixLength, SpellsBetween, cut}

-- the rest of a list of scalar values after a prefix is a list of scalar values
pub scalars-rest : (prefix rest : List ℕ) → all_scalars (prefix ++ rest) ≡ true → all_scalars rest ≡ true
scalars-rest [] rest h = h
scalars-rest (c ∷ prefix) rest h = scalars-rest prefix rest (grind arith)

-- a boundary is the byte length of the characters before it
pub IsPrefixLength-from_boundary : (text : List ℕ) (place : ℕ) → IsUtf8 text → IsCharBoundary text place → IsPrefixLength text place
IsPrefixLength-from_boundary text place utf8 boundary =
    let prefix_utf8 = IsUtf8-take text place utf8 boundary in
    record {
      prefix = chars (take place text);
      rest = chars (drop place text);
      split = ap chars (sym (take-append-drop place text)) ∙ chars-append (take place text) (drop place text) prefix_utf8;
      measured = ap length (encodes-chars (take place text) prefix_utf8) ∙ length-take-le place text boundary.0;
    }

-- a text is the UTF-8 of its characters before a split and of those behind it
pub halves_join_to_text : (text prefix rest : List ℕ) → IsUtf8 text → chars text ≡ prefix ++ rest → text ≡ encode_utf8_all prefix ++ encode_utf8_all rest
halves_join_to_text text prefix rest utf8 split = sym (encodes-chars text utf8) ∙ ap encode_utf8_all split ∙ encodes-append prefix rest

pub IsCharBoundary-from_prefix : (text : List ℕ) (place : ℕ) → IsUtf8 text → IsPrefixLength text place → IsCharBoundary text place
IsCharBoundary-from_prefix text place utf8 at =
    let rest_utf8 : IsUtf8 (encode_utf8_all at.rest) =
    (at.rest, (scalars-rest at.prefix at.rest (ap all_scalars (sym at.split) ∙ scalars-chars text utf8), refl)) in
    subst (λ (n : ℕ). IsCharBoundary text n) at.measured (IsCharBoundary-at_seam text _ _ (halves_join_to_text text at.prefix at.rest utf8 at.split) rest_utf8)

-- a prefix of a text is a shorter prefix and the part between
take-cut : (text : List ℕ) (start end : ℕ) → start ≤ end → take end text ≡ take start text ++ cut text start end
take-cut text start end in_order =
    sym (take-append-drop start (take end text))
    ∙ ap (λ prefix. prefix ++ drop start (take end text)) (take-take start end text in_order)
    ∙ ap (λ part. take start text ++ part) (sym (between_is text start end))

-- the part between two boundaries spells the characters between them
pub SpellsBetween-cut : (text : List ℕ) (start end : ℕ) → IsUtf8 text → start ≤ end → IsCharBoundary text start → IsCharBoundary text end
    → SpellsBetween text start end (cut text start end)
SpellsBetween-cut text start end utf8 in_order at_start at_end =
    let start_utf8 = IsUtf8-take text start utf8 at_start in
    let end_utf8 = IsUtf8-take text end utf8 at_end in
    let until_end : chars (take end text) ≡ chars (take start text) ++ chars (cut text start end) =
    ap chars (take-cut text start end in_order) ∙ chars-append (take start text) (cut text start end) start_utf8 in
    record {
      before = chars (take start text);
      between = chars (cut text start end);
      after = chars (drop end text);
      split =
          ap chars (sym (take-append-drop end text)) ∙ chars-append (take end text) (drop end text) end_utf8
          ∙ ap (λ prefix. prefix ++ chars (drop end text)) until_end;
      measured_start = ap length (encodes-chars (take start text) start_utf8) ∙ length-take-le start text at_start.0;
      measured_end =
          ap (λ prefix. length (encode_utf8_all prefix)) (sym until_end)
          ∙ ap length (encodes-chars (take end text) end_utf8) ∙ length-take-le end text at_end.0;
      spelled = sym (encodes-chars (cut text start end) (IsUtf8-between text start end utf8 in_order at_start at_end));
    }

-- a cut of a cut is one cut of the whole, at the sums of the offsets
pub cut-cut : (text : List ℕ) (start end from to : ℕ) → start ≤ end → to ≤ length (cut text start end)
    → cut text (start + from) (start + to) ≡ cut (cut text start end) from to
cut-cut text start end from to in_order within =
    let short : to ≤ end - start = omega (arith, length-take (end - start) (drop start text)) in
    let size : start + to - (start + from) ≡ to - from = omega arith in
    ap (λ n. take n (drop (start + from) text)) size
    ∙ ap (λ rest. take (to - from) rest) (sym (drop-drop from start text))
    ∙ between_is (drop start text) from to
    ∙ ap (λ prefix. drop from prefix) (sym (take-take to (end - start) (drop start text) short))
    ∙ sym (between_is (cut text start end) from to)

-- the functions whose proofs use these rulesets name them
pub ruleset prefixes_at_boundaries = (IsPrefixLength-from_boundary, IsCharBoundary-from_prefix)

pub ruleset slices_by_characters = (SpellsBetween-cut)
