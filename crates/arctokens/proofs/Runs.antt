-- Runs of characters: the characters next to a byte offset and their kind, how a run grows by a character or by visible ASCII, and where it ends.
use Rattle.std.proofs.Common.{◌≡◌, ℕ, ◌+◌, ◌-◌, ◌<◌, ◌≤◌, List, [], ◌∷◌, ◌++◌, length, take, drop, refl, sym, ap, ◌∙◌, arith, zero, suc, get_or, Bool, true}
use Rattle.std.proofs.Common.{false, subst, append_assoc, inl, inr, not, ◌%◌, ◌^◌, cond, map, w8, Fits}
use Rattle.std.proofs.lemmas.Bool.{and_parts}
use Rattle.std.proofs.lemmas.Bool.Decides.{nat_tests}
use Rattle.std.proofs.lemmas.List.{take-append-drop, length-take-le, length-drop, take-take, drop-drop, drop-take, append-nil, drop_more, take_at, get_or_at}
use Rattle.std.proofs.lemmas.List.{length-append, same_from_push, length-map}
use Rattle.std.proofs.lemmas.List.Elements.{All-nil, All-push, All-append}
use Rattle.std.proofs.lemmas.Simd.{length-chunk, mask_l-mod, tops_compared, zip2_splat, zip2_splat_left, map-map, run_in_chunk_fails, run_in_chunk_le}
use Rattle.std.proofs.lemmas.Simd.{first_set_mask_l}
use Rattle.std.proofs.lemmas.Str.{IsUtf8-between, chars-append, encodes-chars, IsUtf8-encode, IsUtf8-drop, IsCharBoundary-after_ascii}
use Rattle.std.proofs.lemmas.Str.{IsCharBoundary-past_char, cons_from_encodes, chars-IsAscii, chars-nil, chars_past_char, len_utf8_bounds, length-encode}
use Rattle.std.proofs.lemmas.Str.{IsCharBoundary-start}
use Rattle.std.specs.Char.{is_whitespace, len_utf8, IsScalar}
use Rattle.std.specs.Prelude.{encode_utf8_all, encode_utf8}
use Rattle.std.specs.Simd.Lanes.{mask_l, zip2}
use Rattle.std.specs.Str.{chars, IsUtf8, IsCharBoundary, all_scalars, IsAscii}
use lib.Count.{count_trailing_zeros}
use lib.Dec.{leb, eqb}
use lib.Lanes.{Each1, top}
use lib.ListN.{replicate}
use lib.Utf8.{scalar}
use mathlib.Core.Bool.{beq}
use Rattle.arcstr_range.specs.Text.{cut}
use Rattle.arctokens.specs.Runs.{IsCharacterBetween, AreOfKind, AreAlike, IsRun, IsVisible, is_visible}
use Rattle.arctokens.specs.Words.{IsFirstAfter, IsLastBefore}
use mir.Val.{hbits}

-- ---- the characters between boundaries, the first and the last of them

-- the part between two offsets is the part before an offset between them, and the part after it
pub cut-split : (text : List ℕ) (start middle end : ℕ) → start ≤ middle → middle ≤ end
    → cut text start end ≡ cut text start middle ++ cut text middle end
cut-split text start middle end low high =
    let rest = drop start text in
    let near : middle - start ≤ end - start = omega arith in
    let whole : end - start ≡ (middle - start) + (end - middle) = omega arith in
    let there : start + (middle - start) ≡ middle = omega arith in
    sym (take-append-drop (middle - start) (take (end - start) rest))
    ∙ ap (λ prefix. prefix ++ drop (middle - start) (take (end - start) rest)) (take-take (middle - start) (end - start) rest near)
    ∙ ap (λ back. take (middle - start) rest ++ back)
    (ap (λ n. drop (middle - start) (take n rest)) whole ∙ drop-take (middle - start) (end - middle) rest
    ∙ ap (λ l. take (end - middle) l) (drop-drop (middle - start) start text ∙ ap (λ n. drop n text) there))

pub chars-split : (text : List ℕ) (start middle end : ℕ) → IsUtf8 text → IsCharBoundary text start → IsCharBoundary text middle
    → start ≤ middle → middle ≤ end → chars (cut text start end) ≡ chars (cut text start middle) ++ chars (cut text middle end)
chars-split text start middle end utf8 at_start at_middle low high =
    ap chars (cut-split text start middle end low high)
    ∙ chars-append (cut text start middle) (cut text middle end) (IsUtf8-between text start middle utf8 low at_start at_middle)

pub length_of_cut : (text : List ℕ) (start end : ℕ) → start ≤ end → end ≤ length text → length (cut text start end) ≡ end - start
length_of_cut text start end in_order within =
    let short : end - start ≤ length (drop start text) = omega (arith, length-drop start text) in
    length-take-le (end - start) (drop start text) short

-- a list that is not empty has a first element
pub record HasFirst (characters : List ℕ) : Type 0 where
  pub first : ℕ
  pub rest : List ℕ
  pub split : characters ≡ first ∷ rest

-- a list that is not empty has a last element
pub record HasLast (characters : List ℕ) : Type 0 where
  pub prefix : List ℕ
  pub last : ℕ
  pub split : characters ≡ prefix ++ last ∷ []

first_of_bytes : (characters : List ℕ) → 0 < length (encode_utf8_all characters) → HasFirst characters
first_of_bytes [] some = absurd (omega arith)
first_of_bytes (c ∷ cs) some = record { first = c; rest = cs; split = refl }

-- between two boundaries, the first before the second, there is a first character
pub first_between : (text : List ℕ) (start end : ℕ) → IsUtf8 text → IsCharBoundary text start → IsCharBoundary text end → start < end
    → HasFirst (chars (cut text start end))
first_between text start end utf8 at_start at_end in_order =
    let low : start ≤ end = omega arith in
    let spelled = encodes-chars (cut text start end) (IsUtf8-between text start end utf8 low at_start at_end) in
    first_of_bytes _ (omega (arith, ap length spelled, length_of_cut text start end low at_end.0))

last_of_cons : (c : ℕ) (cs : List ℕ) → HasLast (c ∷ cs)
last_of_cons c [] = record { prefix = []; last = c; split = refl }
last_of_cons c (d ∷ cs) =
    let more = last_of_cons d cs in
    record { prefix = c ∷ more.prefix; last = more.last; split = ap (λ l. c ∷ l) more.split }

last_of : (characters : List ℕ) → HasFirst characters → HasLast characters
last_of [] some = absurd (cc)
last_of (c ∷ cs) some = last_of_cons c cs

-- between two boundaries, the first before the second, there is a last character
pub last_between : (text : List ℕ) (start end : ℕ) → IsUtf8 text → IsCharBoundary text start → IsCharBoundary text end → start < end
    → HasLast (chars (cut text start end))
last_between text start end utf8 at_start at_end in_order =
    last_of _ (first_between text start end utf8 at_start at_end in_order)

-- ---- one character, found by its first byte or by its bytes

IsAscii-one : (byte : ℕ) → byte < 128 → IsAscii (byte ∷ [])
IsAscii-one byte low zero = low
IsAscii-one byte low (suc i) = omega arith

-- a byte below 128 is a character
pub ascii_between : (text : List ℕ) (place : ℕ) → IsUtf8 text → place < length text → get_or text place 0 < 128
    → IsCharacterBetween text place (place + 1) (is_whitespace (get_or text place 0))
ascii_between text place utf8 inside low =
    let width : place + 1 - place ≡ 1 = omega arith in
    let one : cut text place (place + 1) ≡ get_or text place 0 ∷ [] =
    ap (λ n. take n (drop place text)) width ∙ ap (λ rest. take 1 rest) (drop_more text place 0 inside) in
    record {
      in_order = omega arith;
      at_end = IsCharBoundary-after_ascii text place utf8 inside low;
      character = get_or text place 0;
      alone = ap chars one ∙ chars-IsAscii _ (IsAscii-one (get_or text place 0) low);
      kind = refl;
    }

chars-encode : (c : ℕ) → IsScalar c → chars (encode_utf8 c) ≡ c ∷ []
chars-encode c scalar =
    chars_past_char (encode_utf8 c) [] c (IsUtf8-encode c scalar) (sym (append-nil (encode_utf8 c))) ∙ ap (λ rest. c ∷ rest) chars-nil

-- the first character of a text is a scalar value
IsScalar-first : (text rest : List ℕ) (c : ℕ) → IsUtf8 text → text ≡ encode_utf8 c ++ rest → IsScalar c
IsScalar-first text rest c (characters, (are_scalars, spelled)) begins =
    let more = cons_from_encodes characters rest c (spelled ∙ begins) in
    (and_parts (scalar c) (all_scalars more.0) (ap all_scalars (sym more.1) ∙ are_scalars)).0

-- a character whose bytes start at `place`
pub spelled_between : (text rest : List ℕ) (place c : ℕ) → IsUtf8 text → IsCharBoundary text place
    → drop place text ≡ encode_utf8 c ++ rest → IsCharacterBetween text place (place + len_utf8 c) (is_whitespace c)
spelled_between text rest place c utf8 boundary stands =
    let after = IsUtf8-drop text place utf8 boundary in
    let scalar = IsScalar-first (drop place text) rest c after stands in
    let width : place + len_utf8 c - place ≡ len_utf8 c = omega arith in
    let one : cut text place (place + len_utf8 c) ≡ encode_utf8 c =
    ap (λ n. take n (drop place text)) width ∙ ap (λ l. take (len_utf8 c) l) stands ∙ take_at (encode_utf8 c) rest (len_utf8 c) (length-encode c) in
    record {
      in_order = omega (arith, (len_utf8_bounds c).0);
      at_end = IsCharBoundary-past_char text rest place c boundary.0 after stands;
      character = c;
      alone = ap chars one ∙ chars-encode c scalar;
      kind = refl;
    }

-- ---- the characters next to an offset in a run are of the run's kind

-- each of the characters is of the kind of the run
kind_within : (white : Bool) (prefix rest : List ℕ) (character : ℕ) (all : List ℕ) → all ≡ prefix ++ character ∷ rest → AreOfKind white all
    → is_whitespace character ≡ white
kind_within white prefix rest character all split kinds =
    let within : length prefix < length all = omega (arith, ap length split, length-append prefix (character ∷ rest)) in
    let there = ap (λ l. get_or l (length prefix) 0) split ∙ get_or_at prefix character rest 0 (length prefix) refl in
    subst (λ c. is_whitespace c ≡ white) there (kinds (length prefix) 0 within)

-- the character after an offset in a run
pub kind_after : (text : List ℕ) (start place end : ℕ) (white : Bool) → IsUtf8 text → IsCharBoundary text start → IsCharBoundary text place
    → start ≤ place → place < end → AreAlike text start end white → IsFirstAfter text place white
kind_after text start place end white utf8 at_start at_place low high alike =
    let here = first_between text place end utf8 at_place alike.at_end high in
    let whole = chars-split text start place end utf8 at_start at_place low (omega (arith, high)) ∙ ap (λ l. chars (cut text start place) ++ l) here.split in
    record {
      character = here.first;
      rest = here.rest ++ chars (cut text end (length text));
      split =
          chars-split text place end (length text) utf8 at_place alike.at_end (omega (arith, high)) alike.at_end.0
          ∙ ap (λ l. l ++ chars (cut text end (length text))) here.split;
      kind = kind_within white (chars (cut text start place)) here.rest here.first _ whole alike.kinds;
    }

-- the character before an offset in a run
pub kind_before : (text : List ℕ) (start place end : ℕ) (white : Bool) → IsUtf8 text → IsCharBoundary text start → IsCharBoundary text place
    → start < place → place ≤ end → AreAlike text start end white → IsLastBefore text place white
kind_before text start place end white utf8 at_start at_place low high alike =
    let here = last_between text start place utf8 at_start at_place low in
    let after = chars (cut text place end) in
    let whole =
    chars-split text start place end utf8 at_start at_place (omega (arith, low)) high ∙ ap (λ l. l ++ after) here.split
    ∙ append_assoc here.prefix (here.last ∷ []) after in
    record {
      prefix = chars (cut text 0 start) ++ here.prefix;
      character = here.last;
      split =
          chars-split text 0 start place utf8 (IsCharBoundary-start text utf8) at_start (omega arith) (omega (arith, low))
          ∙ ap (λ l. chars (cut text 0 start) ++ l) here.split
          ∙ sym (append_assoc (chars (cut text 0 start)) here.prefix (here.last ∷ []));
      kind = kind_within white here.prefix after here.last _ whole alike.kinds;
    }

-- the character after an offset has only one kind, and so has the character before it
pub one_after : (text : List ℕ) (place : ℕ) → IsFirstAfter text place true → IsFirstAfter text place false → ⊥
one_after text place one other =
    let same : one.character ∷ one.rest ≡ other.character ∷ other.rest = sym one.split ∙ other.split in
    let character : one.character ≡ other.character = cc in
    let kinds : true ≡ false = sym one.kind ∙ ap is_whitespace character ∙ other.kind in
    cc

pub one_before : (text : List ℕ) (place : ℕ) → IsLastBefore text place true → IsLastBefore text place false → ⊥
one_before text place one other =
    let same = same_from_push one.prefix other.prefix one.character other.character (sym one.split ∙ other.split) in
    let kinds : true ≡ false = sym one.kind ∙ ap is_whitespace same.1 ∙ other.kind in
    cc

-- there is no character after the end
pub none_after_end : (text : List ℕ) (place : ℕ) (white : Bool) → place ≡ length text → IsFirstAfter text place white → ⊥
none_after_end text place white all one =
    let width : length text - place ≡ 0 = omega arith in
    let none : chars (cut text place (length text)) ≡ [] = ap (λ n. chars (take n (drop place text))) width ∙ chars-nil in
    let same : [] ≡ one.character ∷ one.rest = sym none ∙ one.split in
    cc

-- ---- how a run grows, and where it ends

pub AreAlike-none : (text : List ℕ) (place : ℕ) (white : Bool) → IsCharBoundary text place → AreAlike text place place white
AreAlike-none text place white boundary =
    let width : place - place ≡ 0 = omega arith in
    let none : chars (cut text place place) ≡ [] = ap (λ n. chars (take n (drop place text))) width ∙ chars-nil in
    record {
      in_order = omega arith;
      at_end = boundary;
      kinds = subst (AreOfKind white) (sym none) (All-nil (λ c. is_whitespace c ≡ white));
    }

pub AreAlike-more : (text : List ℕ) (start end next : ℕ) (white : Bool) → IsUtf8 text → IsCharBoundary text start
    → AreAlike text start end white → IsCharacterBetween text end next white → AreAlike text start next white
AreAlike-more text start end next white utf8 at_start alike one =
    let grown : chars (cut text start next) ≡ chars (cut text start end) ++ one.character ∷ [] =
    chars-split text start end next utf8 at_start alike.at_end alike.in_order (omega (arith, one.in_order))
    ∙ ap (λ l. chars (cut text start end) ++ l) one.alone in
    record {
      in_order = omega (arith, alike.in_order, one.in_order);
      at_end = one.at_end;
      kinds = subst (AreOfKind white) (sym grown) (All-push (λ c. is_whitespace c ≡ white) _ one.character alike.kinds one.kind);
    }

pub AreAlike-passed_none : (text : List ℕ) (place : ℕ) (white : Bool) → IsCharBoundary text place → AreAlike text place (place + 0) white
AreAlike-passed_none text place white boundary =
    let same : place ≡ place + 0 = omega arith in
    subst (λ n. AreAlike text place n white) same (AreAlike-none text place white boundary)

-- two adjacent runs of one kind
pub AreAlike-join : (text : List ℕ) (start middle end : ℕ) (white : Bool) → IsUtf8 text → IsCharBoundary text start
    → AreAlike text start middle white → AreAlike text middle end white → AreAlike text start end white
AreAlike-join text start middle end white utf8 at_start one other =
    let split = chars-split text start middle end utf8 at_start one.at_end one.in_order other.in_order in
    record {
      in_order = omega (arith, one.in_order, other.in_order);
      at_end = other.at_end;
      kinds = subst (AreOfKind white) (sym split) (All-append (λ c. is_whitespace c ≡ white) _ _ one.kinds other.kinds);
    }

-- visible ASCII characters are not white space
black_byte : (byte : ℕ) → IsVisible byte → is_whitespace byte ≡ false
black_byte byte visible = grind (arith, nat_tests)

low_byte : (byte : ℕ) → IsVisible byte → byte < 128
low_byte byte visible = grind (arith, nat_tests)

pub AreAlike-visible : (text : List ℕ) (place count : ℕ) → IsUtf8 text → IsCharBoundary text place → place + count ≤ length text
    → ((k : ℕ) → place ≤ k → k < place + count → IsVisible (get_or text k 0)) → AreAlike text place (place + count) false
AreAlike-visible text place zero utf8 boundary inside visible =
    AreAlike-passed_none text place false boundary
AreAlike-visible text place (suc count) utf8 boundary inside visible =
    let before = AreAlike-visible text place count utf8 boundary (omega arith) (λ k low high. visible k low (omega arith)) in
    let here = visible (place + count) (omega arith) (omega arith) in
    let next : place + count + 1 ≡ place + suc count = omega arith in
    let one = ascii_between text (place + count) utf8 (omega arith) (low_byte (get_or text (place + count) 0) here) in
    let black = subst (λ kind. IsCharacterBetween text (place + count) (place + count + 1) kind) (black_byte (get_or text (place + count) 0) here) one in
    subst (λ n. AreAlike text place n false) next (AreAlike-more text place (place + count) (place + count + 1) false utf8 boundary before black)

-- two kinds that the code finds different, or equal
other_kind : (kind white : Bool) → not (beq kind white) ≡ true → kind ≡ not white
other_kind true true differ = absurd (cc)
other_kind true false differ = refl
other_kind false true differ = refl
other_kind false false differ = absurd (cc)

pub same_kind : (kind white : Bool) → not (beq kind white) ≡ false → kind ≡ white
same_kind true true same = refl
same_kind true false same = absurd (cc)
same_kind false true same = absurd (cc)
same_kind false false same = refl

-- the character at the end of a run is of the other kind
pub IsRun-stopped : (text : List ℕ) (start end next : ℕ) (white kind : Bool) → IsUtf8 text → AreAlike text start end white
    → IsCharacterBetween text end next kind → not (beq kind white) ≡ true → IsRun text start end white
IsRun-stopped text start end next white kind utf8 alike one differ =
    record {
      alike = alike;
      longest = inr (record {
        character = one.character;
        rest = chars (cut text next (length text));
        split =
            chars-split text end next (length text) utf8 alike.at_end one.at_end (omega (arith, one.in_order)) one.at_end.0
            ∙ ap (λ l. l ++ chars (cut text next (length text))) one.alone;
        kind = one.kind ∙ other_kind kind white differ;
      });
    }

-- the text ends with the run
pub IsRun-at_end : (text : List ℕ) (start end : ℕ) (white : Bool) → AreAlike text start end white → length text ≤ end → IsRun text start end white
IsRun-at_end text start end white alike all =
    record { alike = alike; longest = inl (omega (arith, alike.at_end.0)) }

-- ---- which bytes of a vector are visible ASCII characters

-- a byte less 33, modulo 256
abbrev lowered : ℕ → ℕ → ℕ
lowered a b = (a + (256 - b)) % 256

-- the lowered byte is at least 95 exactly if the byte is not visible
other_lane : (byte : ℕ) → byte < 256 → leb 95 (lowered byte 33) ≡ not (is_visible byte)
other_lane byte small = grind (arith, nat_tests)

other_lanes : (bytes : List ℕ) → Each1 (Fits w8) bytes → map (λ byte. leb 95 (lowered byte 33)) bytes ≡ map (λ byte. not (is_visible byte)) bytes
other_lanes [] fit = refl
other_lanes (byte ∷ bytes) fit =
    let here = other_lane byte fit.0.fits in
    let rest = other_lanes bytes fit.1 in
    cc

-- the mask that the comparison gives
abbrev lane_mask : List ℕ → ℕ
lane_mask bytes = mask_l (map (top (hbits w8)) (zip2 (λ a b. cond (leb a b) (2 ^ 8 - 1) 0) (replicate 16 95) (zip2 lowered bytes (replicate 16 33)))) % 2 ^ 64

pub lane_mask-others : (bytes : List ℕ) → length bytes ≡ 16 → Each1 (Fits w8) bytes → lane_mask bytes ≡ mask_l (map (λ byte. not (is_visible byte)) bytes)
lane_mask-others bytes long fit =
    let low : List ℕ = map (λ byte. lowered byte 33) bytes in
    let long_low : length low ≡ 16 = length-map bytes (λ byte. lowered byte 33) ∙ long in
    let few : length (map (λ byte. not (is_visible byte)) bytes) ≤ 64 = omega (arith, length-map bytes (λ byte. not (is_visible byte)), long) in
    ap (λ l. mask_l (map (top (hbits w8)) (zip2 (λ a b. cond (leb a b) (2 ^ 8 - 1) 0) (replicate 16 95) l)) % 2 ^ 64) (zip2_splat lowered bytes 16 33 long)
    ∙ ap (λ ms. mask_l ms % 2 ^ 64)
    (tops_compared w8 leb (replicate 16 95) low ∙ zip2_splat_left leb 95 16 low long_low
    ∙ map-map (λ y. leb 95 y) (λ byte. lowered byte 33) bytes ∙ other_lanes bytes fit)
    ∙ mask_l-mod (map (λ byte. not (is_visible byte)) bytes) 64 few

visible_from : (byte : ℕ) → not (is_visible byte) ≡ false → IsVisible byte
visible_from byte is = by_lane (is_visible byte) is
  where
    by_lane : (lane : Bool) → not lane ≡ false → lane ≡ true
    by_lane true set = refl
    by_lane false unset = absurd (cc)

-- the bytes before the first set lane are visible; if no lane is set, all sixteen are
pub record IsVisiblePrefix (bytes : List ℕ) (place count : ℕ) : Type 0 where
  pub within : count ≤ 16
  pub visible : (k : ℕ) → place ≤ k → k < place + count → IsVisible (get_or bytes k 0)

prefix_by_count : (bytes : List ℕ) (place mask count : ℕ) → place + 16 ≤ length bytes
    → mask ≡ mask_l (map (λ byte. not (is_visible byte)) (take 16 (drop place bytes))) → count ≡ cond (eqb mask 0) 16 (count_trailing_zeros 64 mask)
    → IsVisiblePrefix bytes place count
prefix_by_count bytes place mask count room is counted =
    let other : ℕ → Bool = λ byte. not (is_visible byte) in
    let chunk = take 16 (drop place bytes) in
    let first = first_set_mask_l other chunk 16 (length-chunk place 16 bytes room) (omega arith) in
    let run = counted ∙ ap (λ m. cond (eqb m 0) 16 (count_trailing_zeros 64 m)) is ∙ first in
    record {
      within = run_in_chunk_le other bytes place 16 count 0 room run;
      visible = λ k low high. visible_from (get_or bytes k 0) (run_in_chunk_fails other bytes place 16 count 0 room run k low high);
    }

pub all_visible : (bytes : List ℕ) (place mask : ℕ) → place + 16 ≤ length bytes
    → mask ≡ mask_l (map (λ byte. not (is_visible byte)) (take 16 (drop place bytes))) → mask ≡ 0 → IsVisiblePrefix bytes place 16
all_visible bytes place mask room is none = prefix_by_count bytes place mask 16 room is (rw none refl)

pub some_visible : (bytes : List ℕ) (place mask : ℕ) → place + 16 ≤ length bytes
    → mask ≡ mask_l (map (λ byte. not (is_visible byte)) (take 16 (drop place bytes))) → (mask ≡ 0 → ⊥)
    → IsVisiblePrefix bytes place (count_trailing_zeros 64 mask)
some_visible bytes place mask room is some = prefix_by_count bytes place mask _ room is (grind (arith, nat_tests))
