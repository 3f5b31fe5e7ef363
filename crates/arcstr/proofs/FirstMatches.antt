-- A split around the first match of a character is a split at its first byte offset.
use Rattle.std.proofs.Common.{◌≡◌, ℕ, ◌==◌, Option, None, Some, false, List, [], ◌∷◌, ◌++◌, length, take, drop, All, Contains, IfSome, refl, sym, ap, subst}
use Rattle.std.proofs.Common.{◌∙◌, append_assoc, arith}
use Rattle.std.specs.Prelude.{◌+◌, ◌-◌, encode_utf8}
use Rattle.std.specs.Char.{len_utf8}
use Rattle.std.specs.Str.{chars, IsCharBoundary, IsUtf8, NoCharPasses, NonePass}
use Rattle.std.specs.Str.Pattern.{FindsChar, MatchBeginsAt, SplitsAroundMatch}
use Rattle.std.proofs.lemmas.List.{take-append-drop, length-take-le}
use Rattle.std.proofs.lemmas.List.Elements.{All-nil, All-cons, All-contains, Contains-append_right}
use Rattle.std.proofs.lemmas.Str.{IsUtf8-take, IsUtf8-drop, chars-append, chars_from_encodes, chars_past_char, encodes-chars}
use Rattle.arcstr_range.specs.Matches.{FindsOnly}
use Rattle.arcstr.specs.Splitting.{AnswersSplit, AreAround, FindsCharacter, IsFirstPlace}
use Rattle.arcstr.specs.Substr.{SubstrView, text_of}

all_others : (character : ℕ) (characters : List ℕ) → NonePass (λ c. c == character) characters → All (λ c. (c == character) ≡ false) characters
all_others character [] none = All-nil (λ c. (c == character) ≡ false)
all_others character (c ∷ cs) none = All-cons (λ d. (d == character) ≡ false) c cs none.0 (all_others character cs none.1)

-- a text does not contain a character that none of its characters equals
not_among : (character : ℕ) (text : List ℕ) → IsUtf8 text → NoCharPasses (λ c. c == character) text → ¬ (Contains (chars text) character)
not_among character text utf8 none among =
    let same : none.0 ≡ chars text = chars_from_encodes none.0 text utf8 none.1 in
    let other : (character == character) ≡ false =
    All-contains (λ c. (c == character) ≡ false) none.0 character (all_others character none.0 none.2) (subst (λ cs. Contains cs character) (sym same) among) in
    absurd (grind (arith, other))

-- if `find` returns an offset, the character starts there, and no character before it is the same
first_at : (text : List ℕ) (character place : ℕ) → IsUtf8 text → MatchBeginsAt (FindsChar character) text place → IsFirstPlace text character place
first_at text character place utf8 at =
    let prefix_utf8 = IsUtf8-take text place utf8 at.3 in
    let rest_utf8 = IsUtf8-drop text place utf8 at.3 in
    record {
      before = chars (take place text);
      after = chars (drop at.0 text);
      split =
          ap chars (sym (take-append-drop place text)) ∙ chars-append (take place text) (drop place text) prefix_utf8
          ∙ ap (λ rest. chars (take place text) ++ rest) (chars_past_char (drop place text) (drop at.0 text) character rest_utf8 at.1.1.split);
      others = not_among character (take place text) prefix_utf8 at.1.0;
      measured = ap length (encodes-chars (take place text) prefix_utf8) ∙ length-take-le place text at.3.0;
    }

has_first : (text : List ℕ) (character place : ℕ) → IsFirstPlace text character place → Contains (chars text) character
has_first text character place first =
    subst (λ cs. Contains cs character) (sym first.split) (Contains-append_right first.before (character ∷ first.after) character (0, omega arith, refl))

-- a text without a match does not contain the character; `read` is the text that was searched
pub not_split : (finds : List ℕ → Option (ℕ × ℕ) → Type 0) (text read : List ℕ) (between : ℕ → ℕ → SubstrView) (answer : Option (SubstrView × SubstrView))
    → (character : ℕ) → FindsCharacter finds character → finds read None → read ≡ text → IsUtf8 read → answer ≡ None
    → AnswersSplit text between character answer
not_split finds text read between answer character at_character none same utf8 is =
    let without : ¬ (Contains (chars text) character) =
    subst (λ bytes. ¬ (Contains (chars bytes) character)) same (not_among character read utf8 (at_character read None none)) in
    subst (AnswersSplit text between character) (sym is) (record {
      found = (λ some. absurd (grind (arith, some)), λ among. absurd (without among));
      value = tt;
    })

around : (finds : List ℕ → Option (ℕ × ℕ) → Type 0) (text before after : List ℕ) (between : ℕ → ℕ → SubstrView) (parts : SubstrView × SubstrView)
    (character : ℕ)
    → IsUtf8 text → IsCharBoundary text (length before) → IsCharBoundary text (length text - length after) → SplitsAroundMatch finds text before after
    → text_of parts.0 ≡ before → text_of parts.1 ≡ after → parts.0 ≡ between 0 (length before) → parts.1 ≡ between (length text - length after) (length text)
    → FindsCharacter finds character → AreAround text between character parts
around finds text before after between parts character utf8 begins ends split is_before is_after there there_after at_character =
    let match_is = at_character text (Some (split.0, split.1)) split.2 in
    let end : length text - length after ≡ split.1 = omega (arith, split.7) in
    let at : MatchBeginsAt (FindsChar character) text split.0 =
    (split.1, match_is, split.5, subst (IsCharBoundary text) split.6 begins, subst (IsCharBoundary text) end ends) in
    let start : length text - length after ≡ split.0 + len_utf8 character = omega (arith, split.7, match_is.1.ends) in
    record {
      place = split.0;
      first = first_at text character split.0 utf8 at;
      before = there ∙ ap (between 0) split.6;
      after = there_after ∙ ap (λ place. between place (length text)) start;
      joined =
          ap (λ prefix. prefix ++ encode_utf8 character ++ text_of parts.1) (is_before ∙ split.3)
          ∙ ap (λ rest. take split.0 text ++ encode_utf8 character ++ rest) (is_after ∙ split.4)
          ∙ append_assoc (take split.0 text) (encode_utf8 character) (drop split.1 text)
          ∙ ap (λ rest. take split.0 text ++ rest) (sym match_is.1.split)
          ∙ take-append-drop split.0 text;
    }

-- if there is a match, the slices with the texts around it lie around the first occurrence of the character
pub split_around : (finds : List ℕ → Option (ℕ × ℕ) → Type 0) (text read before after : List ℕ) (between : ℕ → ℕ → SubstrView) (one other : SubstrView)
    → (character : ℕ) → FindsCharacter finds character → SplitsAroundMatch finds read before after → read ≡ text → IsUtf8 read
    → IsCharBoundary text (length before) → IsCharBoundary text (length text - length after)
    → text_of one ≡ before → text_of other ≡ after → one ≡ between 0 (length before) → other ≡ between (length text - length after) (length text)
    → AnswersSplit text between character (Some (one, other))
split_around finds text read before after between one other character at_character split same utf8 begins ends is_before is_after there there_after =
    let own = subst IsUtf8 same utf8 in
    let parted = subst (λ bytes. SplitsAroundMatch finds bytes before after) same split in
    let value = around finds text before after between (one, other) character own begins ends parted is_before is_after there there_after at_character in
    record { found = (λ some. has_first text character value.place value.first, λ among. refl); value = value }

-- the same for the single character of a pattern, if the pattern matches a single character

pub not_split_at_single : (finds : List ℕ → Option (ℕ × ℕ) → Type 0) (text read : List ℕ) (between : ℕ → ℕ → SubstrView)
    (answer : Option (SubstrView × SubstrView))
    → (single : Option ℕ) → finds read None → read ≡ text → IsUtf8 read → answer ≡ None
    → IfSome single (λ character. FindsCharacter finds character → AnswersSplit text between character answer)
not_split_at_single finds text read between answer None none same utf8 is = tt
not_split_at_single finds text read between answer (Some character) none same utf8 is =
    λ at_character. not_split finds text read between answer character at_character none same utf8 is

pub split_around_single : (finds : List ℕ → Option (ℕ × ℕ) → Type 0) (text read before after : List ℕ) (between : ℕ → ℕ → SubstrView) (one other : SubstrView)
    → (single : Option ℕ) → SplitsAroundMatch finds read before after → read ≡ text → IsUtf8 read
    → IsCharBoundary text (length before) → IsCharBoundary text (length text - length after)
    → text_of one ≡ before → text_of other ≡ after → one ≡ between 0 (length before) → other ≡ between (length text - length after) (length text)
    → IfSome single (λ character. FindsCharacter finds character → AnswersSplit text between character (Some (one, other)))
split_around_single finds text read before after between one other None split same utf8 begins ends is_before is_after there there_after = tt
split_around_single finds text read before after between one other (Some character) split same utf8 begins ends is_before is_after there there_after =
    λ at_character. split_around finds text read before after between one other character at_character split same utf8 begins ends is_before is_after there
    there_after

-- ---- around a text

-- the slices with the texts around a match join with it to the text
pub split_joins : (finds : List ℕ → Option (ℕ × ℕ) → Type 0) (text read before after : List ℕ) (one other : SubstrView) (wanted : List ℕ)
    → SplitsAroundMatch finds read before after → read ≡ text → text_of one ≡ before → text_of other ≡ after → FindsOnly finds wanted
    → text_of one ++ wanted ++ text_of other ≡ text
split_joins finds text read before after one other wanted split same is_before is_after only =
    ap (λ (l : List ℕ). l ++ wanted ++ text_of other) (is_before ∙ split.3)
    ∙ ap (λ (l : List ℕ). take split.0 read ++ wanted ++ l) (is_after ∙ split.4)
    ∙ append_assoc (take split.0 read) wanted (drop split.1 read)
    ∙ ap (λ (l : List ℕ). take split.0 read ++ l) (sym (only read split.0 split.1 split.2).split)
    ∙ take-append-drop split.0 read ∙ same

-- the functions whose proofs use this ruleset name it
pub ruleset texts_without_matches = (not_split_at_single)
