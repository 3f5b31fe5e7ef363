-- The lines of a view, one after another; their texts are those of std, and they are found where the view is found.
use borrow.Author.Tests.{ne_eqb, eqb-true}
use Rattle.std.proofs.Common.{◌≡◌, ℕ, ◌+◌, ◌-◌, ◌<◌, Option, None, Some, IfNone, IfSome, take, drop, ◌==◌, false, cond, List, [], ◌∷◌, ◌++◌, map, length, All}
use Rattle.std.proofs.Common.{refl, sym, ap, ◌∙◌, arith, ◌≤◌, Bool, true, get_or, subst}
use Rattle.std.specs.Prelude.{MatchOption, encode_utf8, encode_utf8_all}
use Rattle.std.specs.Char.{is_newline}
use Rattle.std.specs.List.{slice_split, zip, onto_first}
use Rattle.std.specs.Str.{IsUtf8, NoCharPasses, chars}
use Rattle.std.specs.Str.Lines.{lines, lines_of_parts, strip_carriage_return}
use Rattle.std.specs.Str.Pattern.{FindsChar, MatchBeginsAt}
use Rattle.std.proofs.lemmas.List.{nil_from_length, take-append-drop, take_all, length-drop, append-nil, length-map}
use Rattle.std.proofs.lemmas.List.Elements.{All-from_get_or, All-nil, All-cons, All-head, All-tail}
use Rattle.std.proofs.lemmas.List.Splits.{length-slice_split, slice_split_at, slice_split_none, slice_split-cons_no, slice_split-cons_yes}
use Rattle.std.proofs.lemmas.Slice.{between_is}
use Rattle.std.proofs.lemmas.Slice.Zip.{length-zip}
use Rattle.std.proofs.lemmas.Str.{encode_ascii, IsCharBoundary-before_ascii, encodes-chars}
use Rattle.std.proofs.lemmas.Str.Pattern.{NoCharPasses-char}
use Rattle.arcstr_range.specs.Pieces.{lines_of, parts_at, parts_between, AreFoundWith, texts_between}
use Rattle.arcstr_range.specs.Text.{cut}
use Rattle.arcstr_range.specs.View.{View, part_of, view_at, IsFoundAt, StandsAt}
use Rattle.arcstr_range.proofs.Pieces.{HoldsOf, before_place, few_parts, of_parts, parts_last, texts_of_parts}
use Rattle.arcstr_range.specs.Ends.{IsLawful}
use Rattle.arcstr_range.proofs.FoundParts.{PassesToParts, found_passes, stands_passes}

abbrev newline : ℕ
newline = 10

abbrev carriage_return : ℕ
carriage_return = 13

pub no_newline : (text : List ℕ) → NoCharPasses is_newline text → All (λ byte. (byte == newline) ≡ false) text
no_newline text none =
    All-from_get_or (λ byte. (byte == newline) ≡ false) text 0 (λ i below. ne_eqb _ newline (NoCharPasses-char newline text i none (omega arith) below))

lines_of_parts-cons : (part : List ℕ) (parts : List (List ℕ)) → 0 < length parts
    → lines_of_parts (part ∷ parts) ≡ strip_carriage_return part ∷ lines_of_parts parts
lines_of_parts-cons part [] some = absurd (omega arith)
lines_of_parts-cons part (next ∷ parts) some = refl

-- the first line of a text that has a newline, and the lines after it
lines_first : (text prefix rest : List ℕ) → NoCharPasses is_newline prefix → text ≡ prefix ++ (encode_utf8 newline ++ rest)
    → lines text ≡ strip_carriage_return prefix ∷ lines rest
lines_first text prefix rest none split =
    ap lines (split ∙ ap (λ (l : List ℕ). prefix ++ (l ++ rest)) (encode_ascii newline (omega arith)))
    ∙ ap lines_of_parts (slice_split_at (λ byte. byte == newline) prefix newline rest (no_newline prefix none) refl)
    ∙ lines_of_parts-cons prefix (slice_split (λ byte. byte == newline) rest) (omega (arith, length-slice_split (λ byte. byte == newline) rest))

-- the only line of a text without a newline
lines_last : (text : List ℕ) → NoCharPasses is_newline text → 0 < length text → lines text ≡ text ∷ []
lines_last text none some =
    ap lines_of_parts (slice_split_none (λ byte. byte == newline) text (no_newline text none))
    ∙ ap (λ test. cond test [] (text ∷ [])) (ne_eqb (length text) 0 (λ e. omega arith))

-- the lines at the places of the parts
abbrev pub views_at : List (List ℕ) → List View → List View
views_at texts parts = map (λ line. view_at line.0 line.1.place) (zip texts parts)

pub first_line_none : (view : View) (answer : Option ℕ) → IsUtf8 view.text
    → MatchOption answer (FindsChar newline view.text None) (MatchBeginsAt (FindsChar newline) view.text)
    → IfNone answer (0 < length view.text → lines_of view ≡ view ∷ [])
unfolding lines_of
first_line_none view None utf8 cases =
    λ some. ap (λ (l : List (List ℕ)). views_at l (parts_between is_newline view)) (lines_last view.text cases some)
    ∙ ap (views_at (view.text ∷ [])) (parts_last is_newline view.place view.text utf8 cases)
first_line_none view (Some place) utf8 cases = tt

module _ (view : View) (place : ℕ) (utf8 : IsUtf8 view.text) (at : MatchBeginsAt (FindsChar newline) view.text place) where
  behind_newline : cut view.text (place + 1) (length view.text) ≡ drop at.0 view.text
  behind_newline =
      ap (λ (start : ℕ). cut view.text start (length view.text)) (sym at.1.1.ends)
      ∙ take_all (length view.text - at.0) (drop at.0 view.text) (omega (arith, length-drop at.0 view.text))

  texts_of_lines : lines view.text ≡ strip_carriage_return (cut view.text 0 place) ∷ lines (cut view.text (place + 1) (length view.text))
  texts_of_lines =
      lines_first view.text (take place view.text) (drop at.0 view.text) at.1.0
      (sym (take-append-drop place view.text) ∙ ap (λ (l : List ℕ). take place view.text ++ l) at.1.1.split)
      ∙ ap (λ (l : List ℕ). strip_carriage_return l ∷ lines (drop at.0 view.text)) (sym (between_is view.text 0 place))
      ∙ ap (λ (l : List ℕ). strip_carriage_return (cut view.text 0 place) ∷ lines l) (sym behind_newline)

  parts_of_lines : parts_between is_newline view ≡ part_of view 0 place ∷ parts_between is_newline (part_of view (place + 1) (length view.text))
  unfolding parts_at
  parts_of_lines = before_place newline view place utf8 at

  line_before : lines_of view ≡ view_at (strip_carriage_return (cut view.text 0 place)) view.place ∷ lines_of (part_of view (place + 1) (length view.text))
  unfolding lines_of
  line_before =
      ap (λ (l : List (List ℕ)). views_at l (parts_between is_newline view)) texts_of_lines
      ∙ ap (views_at (strip_carriage_return (cut view.text 0 place) ∷ lines (cut view.text (place + 1) (length view.text)))) parts_of_lines
      ∙ ap (λ (n : ℕ). view_at (strip_carriage_return (cut view.text 0 place)) n ∷ lines_of (part_of view (place + 1) (length view.text))) (omega arith)

pub first_line_some : (view : View) (answer : Option ℕ) → IsUtf8 view.text
    → MatchOption answer (FindsChar newline view.text None) (MatchBeginsAt (FindsChar newline) view.text)
    → IfSome answer (λ place. lines_of view ≡ view_at (strip_carriage_return (cut view.text 0 place)) view.place
    ∷ lines_of (part_of view (place + 1) (length view.text)))
first_line_some view None utf8 cases = tt
first_line_some view (Some place) utf8 cases = line_before view place utf8 cases

-- an empty view has no line
pub no_lines : (view : View) → length view.text ≡ 0 → lines_of view ≡ []
unfolding lines_of
no_lines view empty = ap (λ (l : List ℕ). views_at (lines l) (parts_between is_newline view)) (nil_from_length view.text empty)

pub no_lines_at_end : (view : View) (n : ℕ) → lines_of (part_of view n n) ≡ []
no_lines_at_end view n = no_lines (part_of view n n) (grind arith)

-- ==== the lines of a view have the texts of std's `lines`, and are found where the view is found

-- ---- the parts between newlines, by characters and by bytes

-- the first part with more bytes before it
abbrev with_prefix : List ℕ → List (List ℕ) → List (List ℕ)
with_prefix prefix [] = prefix ∷ []
with_prefix prefix (part ∷ parts) = (prefix ++ part) ∷ parts

with_prefix-nil : (parts : List (List ℕ)) → 0 < length parts → with_prefix [] parts ≡ parts
with_prefix-nil [] some = absurd (omega arith)
with_prefix-nil (part ∷ parts) some = refl

with_prefix-cons : (x : ℕ) (xs : List ℕ) (parts : List (List ℕ)) → onto_first x (with_prefix xs parts) ≡ with_prefix (x ∷ xs) parts
with_prefix-cons x xs [] = refl
with_prefix-cons x xs (part ∷ parts) = refl

abbrev parts_of_bytes : List ℕ → List (List ℕ)
parts_of_bytes = slice_split (λ byte. byte == newline)

parts_behind : (prefix rest : List ℕ) → All (λ byte. (byte == newline) ≡ false) prefix
    → parts_of_bytes (prefix ++ rest) ≡ with_prefix prefix (parts_of_bytes rest)
parts_behind [] rest fail = sym (with_prefix-nil (parts_of_bytes rest) (omega (arith, length-slice_split (λ byte. byte == newline) rest)))
parts_behind (x ∷ prefix) rest fail =
    slice_split-cons_no (λ byte. byte == newline) x (prefix ++ rest) (All-head (λ byte. (byte == newline) ≡ false) x prefix fail)
    ∙ ap (onto_first x) (parts_behind prefix rest (All-tail (λ byte. (byte == newline) ≡ false) x prefix fail))
    ∙ with_prefix-cons x prefix (parts_of_bytes rest)

encoded-onto_first : (c : ℕ) (parts : List (List ℕ)) → map encode_utf8_all (onto_first c parts) ≡ with_prefix (encode_utf8 c) (map encode_utf8_all parts)
encoded-onto_first c [] = ap (λ (l : List ℕ). l ∷ []) (append-nil (encode_utf8 c))
encoded-onto_first c (part ∷ parts) = refl

parts_at_one : (c : ℕ) (cs : List ℕ) (b : Bool) → is_newline c ≡ b → map encode_utf8_all (slice_split is_newline cs) ≡ parts_of_bytes (encode_utf8_all cs)
    → map encode_utf8_all (slice_split is_newline (c ∷ cs)) ≡ parts_of_bytes (encode_utf8_all (c ∷ cs))
parts_at_one c cs true is same =
    ap (map encode_utf8_all) (slice_split-cons_yes is_newline c cs is)
    ∙ ap (λ (l : List (List ℕ)). [] ∷ l) same
    ∙ ap (λ (l : List ℕ). parts_of_bytes (l ++ encode_utf8_all cs)) (sym (ap encode_utf8 (eqb-true c newline is) ∙ encode_ascii newline (omega arith)))
parts_at_one c cs false is same =
    ap (map encode_utf8_all) (slice_split-cons_no is_newline c cs is)
    ∙ encoded-onto_first c (slice_split is_newline cs)
    ∙ ap (with_prefix (encode_utf8 c)) same
    ∙ sym (parts_behind (encode_utf8 c) (encode_utf8_all cs) (no_newline (encode_utf8 c) (c ∷ [], append-nil (encode_utf8 c), (is, tt))))

parts_by_bytes : (cs : List ℕ) → map encode_utf8_all (slice_split is_newline cs) ≡ parts_of_bytes (encode_utf8_all cs)
parts_by_bytes [] = refl
parts_by_bytes (c ∷ cs) = parts_at_one c cs (is_newline c) refl (parts_by_bytes cs)

texts_by_bytes : (view : View) → IsUtf8 view.text → map (λ part. part.text) (parts_between is_newline view) ≡ parts_of_bytes view.text
unfolding texts_between
texts_by_bytes view utf8 =
    texts_of_parts is_newline view ∙ parts_by_bytes (chars view.text) ∙ ap parts_of_bytes (encodes-chars view.text utf8)

-- ---- the lines of the parts

some_if : (part : List ℕ) (empty : Bool) → length (cond empty [] (part ∷ [])) ≤ 1
some_if part true = omega arith
some_if part false = omega arith

lines_of_parts-le : (parts : List (List ℕ)) → length (lines_of_parts parts) ≤ length parts
lines_of_parts-le [] = omega arith
lines_of_parts-le (part ∷ []) = some_if part (length part == 0)
lines_of_parts-le (part ∷ next ∷ parts) = omega (arith, lines_of_parts-le (next ∷ parts))

texts_of_views_at : (texts : List (List ℕ)) (parts : List View) → length texts ≤ length parts → map (λ line. line.text) (views_at texts parts) ≡ texts
texts_of_views_at [] parts within = refl
texts_of_views_at (text ∷ texts) [] within = absurd (omega arith)
texts_of_views_at (text ∷ texts) (part ∷ parts) within = ap (λ (l : List (List ℕ)). text ∷ l) (texts_of_views_at texts parts (omega arith))

pub texts_of_lines_of : (view : View) → IsUtf8 view.text → map (λ line. line.text) (lines_of view) ≡ lines view.text
unfolding lines_of
texts_of_lines_of view utf8 =
    let parts = parts_between is_newline view in
    let size : length parts ≡ length (parts_of_bytes view.text) = sym (length-map parts (λ (part : View). part.text)) ∙ ap length (texts_by_bytes view utf8) in
    texts_of_views_at (lines view.text) parts (omega (arith, size, lines_of_parts-le (parts_of_bytes view.text)))

-- ---- the lines are found and stand

module _ (P : List ℕ → ℕ → Type 0) (passes : PassesToParts P) where
  of_prefix : (text : List ℕ) (place n : ℕ) → n < length text → get_or text n 0 < 128 → P text place → P (take n text) place
  of_prefix text place n below ascii holds =
      let boundary = IsCharBoundary-before_ascii text n below ascii in
      let sliced : IsLawful text 0 n = record { in_order = omega arith; within = omega arith; at_boundaries = (passes.start text place holds, boundary) } in
      subst (λ (l : List ℕ). P l place) (between_is text 0 n)
      (subst (λ (m : ℕ). P (cut text 0 n) m) (omega arith) (passes.part text place 0 n sliced holds))

  of_stripped_by : (text : List ℕ) (place : ℕ) (ends : Bool) → (get_or text (length text - 1) 0 == carriage_return) ≡ ends → P text place
      → P (cond ends (take (length text - 1) text) text) place
  of_stripped_by [] place true is holds = absurd (cc)
  of_stripped_by (x ∷ xs) place true is holds =
      let text = x ∷ xs in
      of_prefix text place (length text - 1) (omega arith) (omega (arith, eqb-true _ carriage_return is)) holds
  of_stripped_by text place false is holds = holds

  of_view_at_one : (part : View) (empty : Bool) → HoldsOf P part → All (HoldsOf P) (views_at (cond empty [] (part.text ∷ [])) (part ∷ []))
  of_view_at_one part true holds = All-nil (HoldsOf P)
  of_view_at_one part false holds = All-cons (HoldsOf P) part [] holds (All-nil (HoldsOf P))

  of_views_at : (parts : List View) → All (HoldsOf P) parts → All (HoldsOf P) (views_at (lines_of_parts (map (λ part. part.text) parts)) parts)
  of_views_at [] holds = All-nil (HoldsOf P)
  of_views_at (part ∷ []) holds = of_view_at_one part (length part.text == 0) (All-head (HoldsOf P) part [] holds)
  of_views_at (part ∷ next ∷ parts) holds =
      All-cons (HoldsOf P) (view_at (strip_carriage_return part.text) part.place) _
      (of_stripped_by part.text part.place (get_or part.text (length part.text - 1) 0 == carriage_return) refl (All-head (HoldsOf P) part (next ∷ parts) holds))
      (of_views_at (next ∷ parts) (All-tail (HoldsOf P) part (next ∷ parts) holds))

  of_lines : (view : View) → IsUtf8 view.text → HoldsOf P view → All (HoldsOf P) (lines_of view)
  unfolding lines_of
  of_lines view utf8 holds =
      let parts = parts_between is_newline view in
      subst (λ (l : List (List ℕ)). All (HoldsOf P) (views_at (lines_of_parts l) parts)) (texts_by_bytes view utf8)
      (of_views_at parts (of_parts P passes is_newline view utf8 holds))

pub found_lines : (view : View) → IsUtf8 view.text → AreFoundWith view (lines_of view)
found_lines view utf8 = record {
  each = λ parent. of_lines (IsFoundAt parent) (found_passes parent) view utf8;
  standing = λ parent. of_lines (StandsAt parent) (stands_passes parent) view utf8;
}

pub few_lines : (view : View) → IsUtf8 view.text → length (lines_of view) ≤ length view.text + 1
unfolding lines_of
few_lines view utf8 =
    let parts = parts_between is_newline view in
    omega (
      arith,
      few_parts is_newline view utf8,
      length-zip (lines view.text) parts,
      length-map (zip (lines view.text) parts) (λ (line : List ℕ × View). view_at line.0 line.1.place),
    )

-- the functions whose proofs use these rulesets name them
pub ruleset first_newlines = (first_line_none, first_line_some)

pub ruleset empty_views = (no_lines, no_lines_at_end)

pub ruleset facts_of_lines = (texts_of_lines_of, found_lines, few_lines)
