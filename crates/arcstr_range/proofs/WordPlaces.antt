-- The words of a view, one after another.
use borrow.Author.Tests.{lt-ltb}
use Rattle.std.proofs.Common.{◌≡◌, ℕ, ◌+◌, ◌-◌, ◌<◌, ◌≤◌, Bool, true, false, cond, None, Some, Bor, List, [], ◌∷◌, ◌++◌, map, length, All, take, drop, refl}
use Rattle.std.proofs.Common.{sym, ap, subst, ◌∙◌, append_assoc, arith}
use Rattle.std.specs.Prelude.{encode_utf8, encode_utf8_all, nat_lt}
use Rattle.std.specs.Char.{IsScalar, is_not_whitespace, is_whitespace}
use Rattle.std.specs.List.{filter, slice_split}
use Rattle.std.specs.Str.{IsCharBoundary, IsUtf8, NoCharPasses, NonePass, all_scalars, chars, skip_leading_whitespace, trim_start}
use Rattle.std.specs.Str.Iter.{split_whitespace_rest, split_whitespace_steps}
use Rattle.std.specs.declared.str.SplitWhitespace.{SplitWhitespace}
use Rattle.std.proofs.lemmas.List.{append-nil, drop_at, length-append, take_all, take_at}
use Rattle.std.proofs.lemmas.List.Elements.{All-nil, All-cons, All-filter, All-head, All-tail}
use Rattle.std.proofs.lemmas.List.Splits.{slice_split-cons_yes, slice_split_at, slice_split_none}
use Rattle.std.proofs.lemmas.List.Sums.{count_by-le-length, length-filter}
use Rattle.std.proofs.lemmas.Str.{IsCharBoundary-at_seam, IsCharBoundary-end, chars-encodes, chars_from_encodes, encode_same, encodes-chars, scalars-chars}
use Rattle.std.proofs.lemmas.Str.{len_utf8_bounds, length-encode}
use Rattle.arcstr_range.specs.Text.{cut}
use Rattle.arcstr_range.specs.Pieces.{AreFoundWith, IsFirstWordAt, has_text, is_not_empty, laid_out, parts_between, separators_of, texts_between, words_of}
use Rattle.arcstr_range.specs.View.{IsFoundAt, StandsAt, View, part_of, view_at}
use Rattle.arcstr_range.proofs.Boundaries.{scalars-rest}
use Rattle.arcstr_range.proofs.FoundParts.{found_passes, stands_passes}
use Rattle.arcstr_range.proofs.Pieces.{HoldsOf, few_parts, filter_before, filter_none, filter_one, of_parts, texts_of_parts}

abbrev IsBlack : ℕ → Type 0
IsBlack c = is_whitespace c ≡ false

abbrev IsWhite : ℕ → Type 0
IsWhite c = is_whitespace c ≡ true

-- ---- words of characters that start at a place

abbrev words_from : ℕ → List ℕ → List View
words_from place cs = filter has_text (laid_out place (map encode_utf8_all (slice_split is_whitespace cs)) (map encode_utf8 (filter is_whitespace cs)))

words_of_is : (view : View) → words_of view ≡ words_from view.place (chars view.text)
unfolding words_of parts_between texts_between separators_of
words_of_is view = refl

-- white space only moves the place
words_past_one : (place c : ℕ) (cs : List ℕ) → IsWhite c → words_from place (c ∷ cs) ≡ words_from (place + length (encode_utf8 c)) cs
words_past_one place c cs white =
    ap (λ (parts : List (List ℕ)). filter has_text (laid_out place (map encode_utf8_all parts) (map encode_utf8 (filter is_whitespace (c ∷ cs)))))
    (slice_split-cons_yes is_whitespace c cs white)
    ∙ ap (λ (l : List ℕ). filter has_text (laid_out place ([] ∷ map encode_utf8_all (slice_split is_whitespace cs)) (map encode_utf8 l)))
    (filter_one is_whitespace c cs true white)
    ∙ ap (λ (n : ℕ). words_from n cs) (omega arith)

words_past : (place : ℕ) (gap cs : List ℕ) → All IsWhite gap → words_from place (gap ++ cs) ≡ words_from (place + length (encode_utf8_all gap)) cs
words_past place [] cs white = ap (λ (n : ℕ). words_from n cs) (omega arith)
words_past place (c ∷ gap) cs white =
    words_past_one place c (gap ++ cs) (All-head IsWhite c gap white)
    ∙ words_past (place + length (encode_utf8 c)) gap cs (All-tail IsWhite c gap white)
    ∙ ap (λ (n : ℕ). words_from n cs) (omega (arith, length-append (encode_utf8 c) (encode_utf8_all gap)))

keep_one : (view : View) (views : List View) (b : Bool) → has_text view ≡ b
    → filter has_text (view ∷ views) ≡ cond b (view ∷ filter has_text views) (filter has_text views)
keep_one view views b is = ap (λ (x : Bool). cond x (view ∷ filter has_text views) (filter has_text views)) is

-- there are no characters, or the first is white space
abbrev IsEndOrWhite : List ℕ → Type 0
IsEndOrWhite [] = Unit {0}
IsEndOrWhite (c ∷ cs) = IsWhite c

-- a word comes first
words_at_word : (place : ℕ) (word rest : List ℕ) → All IsBlack word → IsEndOrWhite rest → nat_lt 0 (length (encode_utf8_all word)) ≡ true
    → words_from place (word ++ rest) ≡ view_at (encode_utf8_all word) place ∷ words_from (place + length (encode_utf8_all word)) rest
words_at_word place word [] black end some =
    let whole : word ++ [] ≡ word = append-nil word in
    ap (words_from place) whole
    ∙ ap (λ (parts : List (List ℕ)). filter has_text (laid_out place (map encode_utf8_all parts) (map encode_utf8 (filter is_whitespace word))))
    (slice_split_none is_whitespace word black)
    ∙ ap (λ (l : List ℕ). filter has_text (laid_out place (encode_utf8_all word ∷ []) (map encode_utf8 l))) (filter_none is_whitespace word black)
    ∙ keep_one (view_at (encode_utf8_all word) place) [] true some
words_at_word place word (c ∷ rest) black white some =
    ap (λ (parts : List (List ℕ)). filter has_text (laid_out place (map encode_utf8_all parts) (map encode_utf8 (filter is_whitespace (word ++ c ∷ rest)))))
    (slice_split_at is_whitespace word c rest black white)
    ∙ ap (λ (l : List ℕ). filter has_text (laid_out place (encode_utf8_all word ∷ map encode_utf8_all (slice_split is_whitespace rest)) (map encode_utf8 l)))
    (filter_before is_whitespace word c rest black white)
    ∙ keep_one (view_at (encode_utf8_all word) place) (laid_out (place + length (encode_utf8_all word) + length (encode_utf8 c))
    (map encode_utf8_all (slice_split is_whitespace rest)) (map encode_utf8 (filter is_whitespace rest))) true some
    ∙ ap (λ (l : List View). view_at (encode_utf8_all word) place ∷ l) (sym (words_past_one (place + length (encode_utf8_all word)) c rest white))

-- ---- from std's cuts of bytes to cuts of characters

-- a prefix of the characters' bytes that spells characters is a prefix of the characters
record PrefixOf (cs prefix : List ℕ) (behind : List ℕ) : Type 0 where
  pub rest : List ℕ
  pub split : cs ≡ prefix ++ rest
  pub spelled : encode_utf8_all rest ≡ behind

prefix_of : (cs prefix behind : List ℕ) → encode_utf8_all cs ≡ encode_utf8_all prefix ++ behind → PrefixOf cs prefix behind
prefix_of cs [] behind same = record { rest = cs; split = refl; spelled = same }
prefix_of [] (f ∷ prefix) behind same =
    absurd (omega (
      arith,
      ap length same,
      length-append (encode_utf8 f ++ encode_utf8_all prefix) behind,
      length-append (encode_utf8 f)
          (encode_utf8_all prefix),
      length-encode f,
      (len_utf8_bounds f).0,
    ))
prefix_of (c ∷ cs) (f ∷ prefix) behind same =
    let both = encode_same c f (encode_utf8_all cs) (encode_utf8_all prefix ++ behind) (same ∙ append_assoc (encode_utf8 f) (encode_utf8_all prefix) behind) in
    let more = prefix_of cs prefix behind both.1 in
    record { rest = more.rest; split = ap (λ (x : ℕ). x ∷ cs) both.0 ∙ ap (λ (l : List ℕ). f ∷ l) more.split; spelled = more.spelled }

not_black : (c : ℕ) (b : Bool) → is_whitespace c ≡ b → is_not_whitespace c ≡ false → IsWhite c
not_black c true is white = is
not_black c false is white = absurd (cc)

all_white : (cs : List ℕ) → NonePass is_not_whitespace cs → All IsWhite cs
all_white [] none = All-nil IsWhite
all_white (c ∷ cs) none = All-cons IsWhite c cs (not_black c (is_whitespace c) refl none.0) (all_white cs none.1)

all_black : (cs : List ℕ) → NonePass is_whitespace cs → All IsBlack cs
all_black [] none = All-nil IsBlack
all_black (c ∷ cs) none = All-cons IsBlack c cs none.0 (all_black cs none.1)

end_or_white : (cs behind more : List ℕ) → encode_utf8_all cs ≡ behind
    → (0 < length behind → (c : ℕ) × (is_whitespace c ≡ true) × (behind ≡ encode_utf8 c ++ more) × IsScalar c) → IsEndOrWhite cs
end_or_white [] behind more spelled ends = tt
end_or_white (c ∷ cs) behind more spelled ends =
    let first = ends (omega (arith, ap length spelled, length-append (encode_utf8 c) (encode_utf8_all cs), length-encode c, (len_utf8_bounds c).0)) in
    subst IsWhite (sym (encode_same c first.0 (encode_utf8_all cs) more (spelled ∙ first.2)).0) first.1

skip_one : (c : ℕ) (cs : List ℕ) (b : Bool) → is_whitespace c ≡ b → skip_leading_whitespace (c ∷ cs) ≡ cond b (skip_leading_whitespace cs) (c ∷ cs)
skip_one c cs b is = ap (λ (x : Bool). cond x (skip_leading_whitespace cs) (c ∷ cs)) is

skip_gap : (gap cs : List ℕ) → All IsWhite gap → skip_leading_whitespace (gap ++ cs) ≡ skip_leading_whitespace cs
skip_gap [] cs white = refl
skip_gap (c ∷ gap) cs white = skip_one c (gap ++ cs) true (All-head IsWhite c gap white) ∙ skip_gap gap cs (All-tail IsWhite c gap white)

skip_word : (word rest : List ℕ) → All IsBlack word → 0 < length (encode_utf8_all word) → skip_leading_whitespace (word ++ rest) ≡ word ++ rest
skip_word [] rest black some = absurd (omega (arith, some))
skip_word (c ∷ word) rest black some = skip_one c (word ++ rest) false (All-head IsBlack c word black)

module _ (view : View) (gap word behind more : List ℕ) (utf8 : IsUtf8 view.text) (split : view.text ≡ gap ++ (word ++ behind)) (some : 0 < length word)
    (white : NoCharPasses is_not_whitespace gap) (black : NoCharPasses is_whitespace word)
    (ends : 0 < length behind → (c : ℕ) × (is_whitespace c ≡ true) × (behind ≡ encode_utf8 c ++ more) × IsScalar c) where
  after_gap : PrefixOf (chars view.text) white.0 (word ++ behind)
  after_gap =
      prefix_of (chars view.text) white.0 (word ++ behind) (encodes-chars view.text utf8 ∙ split ∙ ap (λ (l : List ℕ). l ++ (word ++ behind)) (sym white.1))

  after_word : PrefixOf after_gap.rest black.0 behind
  after_word = prefix_of after_gap.rest black.0 behind (after_gap.spelled ∙ ap (λ (l : List ℕ). l ++ behind) (sym black.1))

  characters : chars view.text ≡ white.0 ++ (black.0 ++ after_word.rest)
  characters = after_gap.split ∙ ap (λ (l : List ℕ). white.0 ++ l) after_word.split

  scalars_after_gap : all_scalars after_gap.rest ≡ true
  scalars_after_gap = scalars-rest white.0 after_gap.rest (ap all_scalars (sym after_gap.split) ∙ scalars-chars view.text utf8)

  scalars_after_word : all_scalars after_word.rest ≡ true
  scalars_after_word = scalars-rest black.0 after_word.rest (ap all_scalars (sym after_word.split) ∙ scalars_after_gap)

  chars_behind : chars behind ≡ after_word.rest
  chars_behind = ap chars (sym after_word.spelled) ∙ chars-encodes after_word.rest scalars_after_word

  some_word : 0 < length (encode_utf8_all black.0)
  some_word = omega (arith, ap length black.1, some)

  words_are : words_of view ≡ view_at word (view.place + length gap) ∷ words_of (view_at behind (view.place + length gap + length word))
  words_are =
      words_of_is view ∙ ap (words_from view.place) characters
      ∙ words_past view.place white.0 (black.0 ++ after_word.rest) (all_white white.0 white.2)
      ∙ words_at_word (view.place + length (encode_utf8_all white.0)) black.0 after_word.rest (all_black black.0 black.2)
      (end_or_white after_word.rest behind more after_word.spelled ends) (lt-ltb 0 (length (encode_utf8_all black.0)) some_word)
      ∙ ap (λ (l : List ℕ). view_at (encode_utf8_all black.0) (view.place + length l)
      ∷ words_from (view.place + length l + length (encode_utf8_all black.0)) after_word.rest) white.1
      ∙ ap (λ (l : List ℕ). view_at l (view.place + length gap) ∷ words_from (view.place + length gap + length l) after_word.rest) black.1
      ∙ ap (λ (l : List ℕ). view_at word (view.place + length gap) ∷ words_from (view.place + length gap + length word) l) (sym chars_behind)
      ∙ ap (λ (l : List View). view_at word (view.place + length gap) ∷ l) (sym (words_of_is (view_at behind (view.place + length gap + length word))))

  halves : view.text ≡ (gap ++ word) ++ behind
  halves = split ∙ sym (append_assoc gap word behind)

  size : length view.text ≡ length gap + (length word + length behind)
  size = ap length split ∙ length-append gap (word ++ behind) ∙ ap (λ (n : ℕ). length gap + n) (length-append word behind)

  cut_word : cut view.text (length gap) (length gap + length word) ≡ word
  cut_word =
      ap (λ (l : List ℕ). take (length gap + length word - length gap) (drop (length gap) l)) split
      ∙ ap (take (length gap + length word - length gap)) (drop_at gap (word ++ behind) (length gap) refl)
      ∙ take_at word behind (length gap + length word - length gap) (omega arith)

  cut_behind : cut view.text (length gap + length word) (length view.text) ≡ behind
  cut_behind =
      let left : behind ≡ drop (length gap + length word) view.text =
      sym (ap (drop (length gap + length word)) halves ∙ drop_at (gap ++ word) behind (length gap + length word) (length-append gap word)) in
      ap (take (length view.text - (length gap + length word))) (sym left)
      ∙ take_all (length view.text - (length gap + length word)) behind (omega (arith, size))

  at_start : IsCharBoundary view.text (length gap)
  at_start = IsCharBoundary-at_seam view.text gap (word ++ behind) split (after_gap.rest, (scalars_after_gap, after_gap.spelled))

  at_end : IsCharBoundary view.text (length gap + length word)
  at_end =
      subst (IsCharBoundary view.text) (length-append gap word)
      (IsCharBoundary-at_seam view.text (gap ++ word) behind halves (after_word.rest, (scalars_after_word, after_word.spelled)))

  first_at : IsFirstWordAt view (length gap) (length gap + length word)
  first_at =
      record {
        words =
            words_are
            ∙ ap (λ (l : List ℕ). view_at l (view.place + length gap) ∷ words_of (view_at behind (view.place + length gap + length word))) (sym cut_word)
            ∙ ap (λ (l : List ℕ). part_of view (length gap) (length gap + length word) ∷ words_of (view_at l (view.place + length gap + length word)))
            (sym cut_behind)
            ∙ ap (λ (n : ℕ). part_of view (length gap) (length gap + length word)
            ∷ words_of (view_at (cut view.text (length gap + length word) (length view.text)) n)) (omega arith);
        word = record { in_order = omega arith; within = omega (arith, size); at_boundaries = (at_start, at_end) };
        behind = record { in_order = omega (arith, size); within = omega arith; at_boundaries = (at_end, IsCharBoundary-end view.text) };
      }

  trimmed_is : trim_start view.text ≡ word ++ behind
  unfolding trim_start
  trimmed_is =
      ap (λ (l : List ℕ). encode_utf8_all (skip_leading_whitespace l)) characters
      ∙ ap encode_utf8_all (skip_gap white.0 (black.0 ++ after_word.rest) (all_white white.0 white.2)
      ∙ skip_word black.0 after_word.rest (all_black black.0 black.2) some_word)
      ∙ ap encode_utf8_all (sym after_word.split) ∙ after_gap.spelled

  first_from_trim : (trimmed : List ℕ) → trimmed ≡ trim_start view.text
      → IsFirstWordAt view (length view.text - length trimmed) (length view.text - length trimmed + length word)
  first_from_trim trimmed same =
      let start : length gap ≡ length view.text - length trimmed = omega (arith, size, ap length (same ∙ trimmed_is), length-append word behind) in
      subst (λ (n : ℕ). IsFirstWordAt view n (n + length word)) start first_at

no_words : (view : View) → IsUtf8 view.text → NoCharPasses is_not_whitespace view.text → words_of view ≡ []
no_words view utf8 none =
    let same : none.0 ≡ chars view.text = chars_from_encodes none.0 view.text utf8 none.1 in
    words_of_is view ∙ ap (words_from view.place) (sym same ∙ sym (append-nil none.0)) ∙ words_past view.place none.0 [] (all_white none.0 none.2)

-- the first result of std's `split_whitespace`
pub first_word_none : (view : View) (s t : SplitWhitespace) → IsUtf8 view.text → split_whitespace_rest s ≡ view.text → split_whitespace_steps s None t
    → words_of view ≡ []
first_word_none view s t utf8 rest steps = no_words view utf8 (subst (NoCharPasses is_not_whitespace) rest steps.1)

pub first_word_some : (view : View) (s t : SplitWhitespace) (word : Bor (List ℕ)) (trimmed : List ℕ) → IsUtf8 view.text → split_whitespace_rest s ≡ view.text
    → split_whitespace_steps s (Some word) t → trimmed ≡ trim_start view.text
    → IsFirstWordAt view (length view.text - length trimmed) (length view.text - length trimmed + length word.now)
first_word_some view s t word trimmed utf8 rest steps same =
    first_from_trim view steps.0 word.now (split_whitespace_rest t) steps.5.0 utf8 (sym rest ∙ steps.1) steps.2 steps.3 steps.4 steps.5.1 trimmed same

texts_kept : (part : View) (parts : List View) (kept : Bool)
    → map (λ view. view.text) (filter has_text parts) ≡ filter is_not_empty (map (λ view. view.text) parts)
    → map (λ view. view.text) (cond kept (part ∷ filter has_text parts) (filter has_text parts))
    ≡ cond kept (part.text ∷ filter is_not_empty (map (λ view. view.text) parts)) (filter is_not_empty (map (λ view. view.text) parts))
texts_kept part parts true same = ap (λ (l : List (List ℕ)). part.text ∷ l) same
texts_kept part parts false same = same

texts_with_text : (parts : List View) → map (λ view. view.text) (filter has_text parts) ≡ filter is_not_empty (map (λ view. view.text) parts)
texts_with_text [] = refl
texts_with_text (part ∷ parts) = texts_kept part parts (has_text part) (texts_with_text parts)

pub texts_of_words : (view : View) → map (λ word. word.text) (words_of view) ≡ filter is_not_empty (texts_between is_whitespace view.text)
unfolding words_of
texts_of_words view = texts_with_text (parts_between is_whitespace view) ∙ ap (filter is_not_empty) (texts_of_parts is_whitespace view)

pub found_words : (view : View) → IsUtf8 view.text → AreFoundWith view (words_of view)
unfolding words_of
found_words view utf8 =
    let parts = parts_between is_whitespace view in
    record {
      each = λ parent found. All-filter has_text (HoldsOf (IsFoundAt parent)) parts
          (of_parts (IsFoundAt parent) (found_passes parent) is_whitespace view utf8 found);
      standing =
          λ parent at. All-filter has_text (HoldsOf (StandsAt parent)) parts (of_parts (StandsAt parent) (stands_passes parent) is_whitespace view utf8 at);
    }

pub few_words : (view : View) → IsUtf8 view.text → length (words_of view) ≤ length view.text + 1
unfolding words_of
few_words view utf8 =
    let parts = parts_between is_whitespace view in
    omega (arith, few_parts is_whitespace view utf8, length-filter has_text parts, count_by-le-length has_text parts)

-- the function whose proof uses these rulesets names them
pub ruleset facts_of_words = (texts_of_words, found_words, few_words)
