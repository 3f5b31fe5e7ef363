-- The words of a text: they are runs, which do not overlap; the tokens before a byte offset; and a text has one list of words.
use Rattle.std.proofs.Common.{◌≡◌, ◌⊎◌, inl, inr, ℕ, ◌<◌, ◌≤◌, true, false, List, length, subst, arith, [], ◌∷◌, ◌++◌, get_or, map, refl, sym, ap, ◌∙◌, zero}
use Rattle.std.proofs.Common.{suc}
use Rattle.std.proofs.lemmas.Bool.{cases_lt, cases_order}
use Rattle.std.proofs.lemmas.List.{map_push}
use Rattle.std.proofs.lemmas.List.Elements.{All-nil, All-push, All-weaker, Contains-append_left, Contains-push, All-contains}
use Rattle.std.proofs.lemmas.List.Quantifiers.{all_pairs_push}
use Rattle.std.proofs.lemmas.Str.{IsCharBoundary-start}
use Rattle.std.specs.Prelude.{All, AllPairs, Contains}
use Rattle.std.specs.Str.{IsUtf8, IsCharBoundary}
use Rattle.arcstr.specs.Substr.{SubstrView, slice_of}
use Rattle.arcstr.specs.TextView.{TextView}
use Rattle.arcstr_range.specs.Ends.{IsLawful}
use Rattle.arctokens.proofs.Runs.{kind_after, kind_before, one_after, one_before}
use Rattle.arctokens.specs.Runs.{AreAlike, IsRun, IsBetweenWords, IsFirstWord, HasNoWord}
use Rattle.arctokens.specs.Tokens.{AreTokens}
use Rattle.arctokens.specs.Words.{IsLastBefore, IsFirstAfter, IsWord, StartsBefore, AreWords}

-- ---- words and runs: a run that follows white space is a word, and no other word starts in either run

-- the characters of a word are of one kind
word_alike : (text : List ℕ) (start end : ℕ) → IsWord text start end → AreAlike text start end false
word_alike text start end word =
    record { in_order = omega (arith, word.in_order); at_end = word.at_end; kinds = word.not_white }

-- no word starts in white space
starts_past_white : (text : List ℕ) (from start a b : ℕ) → IsUtf8 text → IsCharBoundary text from → AreAlike text from start true
    → IsWord text a b → from ≤ a → a < start → ⊥
starts_past_white text from start a b utf8 at_from white word low high =
    one_after text a (kind_after text from a start true utf8 at_from word.at_start low high white)
    (kind_after text a a b false utf8 word.at_start word.at_start (omega arith) word.in_order (word_alike text a b word))

-- no word starts inside another word
pub none_inside : (text : List ℕ) (start end a b : ℕ) → IsUtf8 text → IsWord text start end → IsWord text a b → start < a → a < end → ⊥
none_inside text start end a b utf8 word inner low high = of_case inner.white_before
  where
    of_case : (a ≡ 0) ⊎ IsLastBefore text a true → ⊥
    of_case (inl first) = omega (arith, low, first)
    of_case (inr white) =
        one_before text a white
        (kind_before text start a end false utf8 word.at_start inner.at_start low (omega (arith, high)) (word_alike text start end word))

-- no word ends inside another word with the same start
none_shorter : (text : List ℕ) (start end longer : ℕ) → IsUtf8 text → IsWord text start end → IsWord text start longer → end < longer → ⊥
none_shorter text start end longer utf8 word other short = of_case word.white_after
  where
    of_case : (end ≡ length text) ⊎ IsFirstAfter text end true → ⊥
    of_case (inl all) = omega (arith, short, all, other.at_end.0)
    of_case (inr white) =
        one_after text end white
        (kind_after text start end longer false utf8 other.at_start word.at_end (omega (arith, word.in_order)) short (word_alike text start longer other))

-- words with the same start are equal
pub one_end : (text : List ℕ) (start end other : ℕ) → IsUtf8 text → IsWord text start end → IsWord text start other → end ≡ other
one_end text start end other utf8 word again = of_case (cases_order end other)
  where
    of_case : (end ≡ other) ⊎ ((end < other) ⊎ (other < end)) → end ≡ other
    of_case (inl same) = same
    of_case (inr (inl short)) = absurd (none_shorter text start end other utf8 word again short)
    of_case (inr (inr long)) = absurd (none_shorter text start other end utf8 again word long)

-- a run that starts at a character that is not white space, and contains no white space, is not empty
grows : (text : List ℕ) (start end : ℕ) → start < length text → IsFirstAfter text start false → IsRun text start end false → start < end
grows text start end inside black run = of_case (cases_lt start end) run.longest
  where
    of_case : (start < end) ⊎ (end ≤ start) → (end ≡ length text) ⊎ IsFirstAfter text end true → start < end
    of_case (inl more) next = more
    of_case (inr none) (inl all) = absurd (omega arith)
    of_case (inr none) (inr white) =
        let same : end ≡ start = omega (arith, run.alike.in_order) in
        absurd (one_after text start (subst (λ n. IsFirstAfter text n true) same white) black)

-- a run of white space that starts between words has white space, or nothing, before the character after it
opens : (text : List ℕ) (from start : ℕ) → IsUtf8 text → IsCharBoundary text from → IsBetweenWords text from → start < length text
    → AreAlike text from start true → IsFirstAfter text start false → (start ≡ 0) ⊎ IsLastBefore text start true
opens text from start utf8 at_from between inside white black = of_case (cases_lt from start) between
  where
    of_case : (from < start) ⊎ (start ≤ from) → IsBetweenWords text from → (start ≡ 0) ⊎ IsLastBefore text start true
    of_case (inl more) where_from =
        inr (kind_before text from start start true utf8 at_from white.at_end more (omega arith) white)
    of_case (inr none) (inl first) = inl (omega (arith, white.in_order, first))
    of_case (inr none) (inr (inl all)) = absurd (omega (arith, white.in_order, all))
    of_case (inr none) (inr (inr next)) =
        let same : from ≡ start = omega (arith, white.in_order) in
        absurd (one_after text start (subst (λ n. IsFirstAfter text n true) same next) black)

black_after : (text : List ℕ) (place : ℕ) → place < length text → (place ≡ length text) ⊎ IsFirstAfter text place false → IsFirstAfter text place false
black_after text place inside (inl all) = absurd (omega arith)
black_after text place inside (inr next) = next

-- no word starts between `from` and the end of a run of white space at `from`
starts_later : (text : List ℕ) (from start a b : ℕ) → IsUtf8 text → IsCharBoundary text from → AreAlike text from start true
    → IsWord text a b → from ≤ a → start ≤ a
starts_later text from start a b utf8 at_from white word low = of_case (cases_lt a start)
  where
    of_case : (a < start) ⊎ (start ≤ a) → start ≤ a
    of_case (inl early) = absurd (starts_past_white text from start a b utf8 at_from white word low early)
    of_case (inr late) = late

-- a run of white space, and a run of other characters after it, give the first word
pub IsFirstWord-runs : (text : List ℕ) (from start end : ℕ) → IsUtf8 text → IsCharBoundary text from → IsBetweenWords text from
    → start < length text → IsRun text from start true → IsRun text start end false → IsFirstWord text from start end
IsFirstWord-runs text from start end utf8 at_from between inside white run =
    let black = black_after text start inside white.longest in
    record {
      word = record {
        in_order = grows text start end inside black run;
        at_start = white.alike.at_end;
        at_end = run.alike.at_end;
        not_white = run.alike.kinds;
        white_before = opens text from start utf8 at_from between inside white.alike black;
        white_after = run.longest;
      };
      not_before = white.alike.in_order;
      first = λ a b word low. starts_later text from start a b utf8 at_from white.alike word low;
    }

-- if only white space follows, there is no word
pub HasNoWord-run : (text : List ℕ) (from start : ℕ) → IsUtf8 text → IsCharBoundary text from → start ≡ length text
    → AreAlike text from start true → HasNoWord text from
HasNoWord-run text from start utf8 at_from all white a b word = of_case (cases_lt a from)
  where
    of_case : (a < from) ⊎ (from ≤ a) → a < from
    of_case (inl early) = early
    of_case (inr late) =
        let past = starts_later text from start a b utf8 at_from white word late in
        absurd (omega (arith, past, all, word.in_order, word.at_end.0))

-- ---- the tokens before a byte offset, from none to all of them

-- the words that start before `place`, all of which end at or before it
pub record AreWordsBefore (text : List ℕ) (place : ℕ) (words : List (ℕ × ℕ)) : Type 0 where
  pub each_is_word : All (λ word. IsWord text word.0 word.1) words
  pub each_ends : All (λ word. word.1 ≤ place) words
  pub rising : AllPairs StartsBefore words
  pub every_word : (start end : ℕ) → IsWord text start end → start < place → Contains words (start, end)

-- the tokens before `place` between words
pub record AreTokensBefore (text : TextView) (place : ℕ) (slices : List SubstrView) : Type 0 where
  pub boundary : IsCharBoundary text.text place
  pub between : IsBetweenWords text.text place
  pub words : List (ℕ × ℕ)
  pub are_words : AreWordsBefore text.text place words
  pub slices_of_words : slices ≡ map (λ word. slice_of text word.0 word.1) words

pub AreTokensBefore-start : (text : TextView) → IsUtf8 text.text → AreTokensBefore text 0 []
AreTokensBefore-start text utf8 =
    record {
      boundary = IsCharBoundary-start text.text utf8;
      between = inl refl;
      words = [];
      are_words = record {
        each_is_word = All-nil _;
        each_ends = All-nil _;
        rising = λ i j d low high. absurd (omega arith);
        every_word = λ start end word low. absurd (omega arith);
      };
      slices_of_words = refl;
    }

-- the first word at or after `place` comes after all others
starts_last : (text : List ℕ) (place start : ℕ) (words : List (ℕ × ℕ)) → AreWordsBefore text place words → place ≤ start
    → (k : ℕ) (d : ℕ × ℕ) → k < length words → (get_or words k d).0 < start
starts_last text place start words before late k d within =
    omega (arith, (before.each_is_word k d within).in_order, before.each_ends k d within)

-- a word that starts before the end of the next word is that word or one before it
word_cases : (text : List ℕ) (place start end a b : ℕ) (words : List (ℕ × ℕ)) → IsUtf8 text → AreWordsBefore text place words
    → IsFirstWord text place start end → IsWord text a b → a < end → Contains (words ++ (start, end) ∷ []) (a, b)
word_cases text place start end a b words utf8 before next word low = by_place (cases_lt a place)
  where
    Wanted : Type 0
    Wanted = Contains (words ++ (start, end) ∷ []) (a, b)

    by_start : (start < a) ⊎ (a ≤ start) → start ≤ a → Contains (words ++ (start, end) ∷ []) (a, b)
    by_start (inl inside) late = absurd (none_inside text start end a b utf8 next.word word inside low)
    by_start (inr there) late =
        let same_start : start ≡ a = omega arith in
        let same_end : end ≡ b = one_end text start end b utf8 next.word (subst (λ n. IsWord text n b) (sym same_start) word) in
        subst (λ (w : ℕ × ℕ). Contains (words ++ (start, end) ∷ []) w) (cc) (Contains-push words (start, end))

    by_place : (a < place) ⊎ (place ≤ a) → Contains (words ++ (start, end) ∷ []) (a, b)
    by_place (inl early) = Contains-append_left words _ (a, b) (before.every_word a b word early)
    by_place (inr late) = by_start (cases_lt start a) (next.first a b word late)

-- one more word
AreTokensBefore-more : (text : TextView) (place start end : ℕ) (slices : List SubstrView) → IsUtf8 text.text
    → AreTokensBefore text place slices → IsFirstWord text.text place start end
    → AreTokensBefore text end (slices ++ slice_of text start end ∷ [])
AreTokensBefore-more text place start end slices utf8 before next =
    let words = before.words in
    let low = next.not_before in
    record {
      boundary = next.word.at_end;
      between = inr next.word.white_after;
      words = words ++ (start, end) ∷ [];
      are_words = record {
        each_is_word = All-push (λ w. IsWord text.text w.0 w.1) words (start, end) before.are_words.each_is_word next.word;
        each_ends =
            All-push (λ w. w.1 ≤ end) words (start, end)
            (All-weaker (λ w. w.1 ≤ place) (λ w. w.1 ≤ end) (λ w near. omega (arith, near, low, next.word.in_order)) words before.are_words.each_ends)
            (omega arith);
        rising = all_pairs_push StartsBefore words (start, end) before.are_words.rising (starts_last text.text place start words before.are_words low);
        every_word = λ a b word early. word_cases text.text place start end a b words utf8 before.are_words next word early;
      };
      slices_of_words =
          ap (λ l. l ++ slice_of text start end ∷ []) before.slices_of_words
          ∙ sym (map_push (λ (w : ℕ × ℕ). slice_of text w.0 w.1) words (start, end));
    }

-- one more token, as the code adds it: the slice of a clone of the text
pub AreTokensBefore-push : (text clone : TextView) (place start end : ℕ) (slices pushed : List SubstrView) (slice : SubstrView) → IsUtf8 text.text
    → AreTokensBefore text place slices → IsFirstWord text.text place start end
    → pushed ≡ slices ++ slice ∷ [] → slice ≡ slice_of clone start end → clone ≡ text → AreTokensBefore text end pushed
AreTokensBefore-push text clone place start end slices pushed slice utf8 before next grown taken same =
    let grown_by : pushed ≡ slices ++ slice_of text start end ∷ [] =
    grown ∙ ap (λ s. slices ++ s ∷ []) (taken ∙ ap (λ (parent : TextView). slice_of parent start end) same) in
    subst (AreTokensBefore text end) (sym grown_by) (AreTokensBefore-more text place start end slices utf8 before next)

-- if no word starts at or after `place`, the tokens before it are all tokens
pub AreTokens-before : (text : TextView) (place : ℕ) (slices : List SubstrView) → AreTokensBefore text place slices
    → HasNoWord text.text place → AreTokens text slices
AreTokens-before text place slices before none =
    record {
      words = before.words;
      are_words = record {
        each_is_word = before.are_words.each_is_word;
        rising = before.are_words.rising;
        every_word = λ start end word. before.are_words.every_word start end word (none start end word);
      };
      slices_of_words = before.slices_of_words;
    }

-- the range of a word is valid
pub IsLawful-word : (text : List ℕ) (start end : ℕ) → IsWord text start end → IsLawful text start end
IsLawful-word text start end word =
    record {
      in_order = omega (arith, word.in_order);
      within = word.at_end.0;
      at_boundaries = (word.at_start, word.at_end);
    }

-- ---- two ascending lists with the same members are equal

member_cases : (x : ℕ × ℕ) (xs : List (ℕ × ℕ)) (w : ℕ × ℕ) → Contains (x ∷ xs) w → (x ≡ w) ⊎ Contains xs w
member_cases x xs w (zero, below, same) = inl same
member_cases x xs w (suc k, below, same) = inr (k, (omega arith), same)

Contains-first : (x : ℕ × ℕ) (xs : List (ℕ × ℕ)) → Contains (x ∷ xs) x
Contains-first x xs = (0, (omega arith), refl)

Contains-later : (x : ℕ × ℕ) (xs : List (ℕ × ℕ)) (w : ℕ × ℕ) → Contains xs w → Contains (x ∷ xs) w
Contains-later x xs w (k, below, same) = (suc k, (omega arith), same)

-- the first element of an ascending list starts before each other one
first_before : (x : ℕ × ℕ) (xs : List (ℕ × ℕ)) (w : ℕ × ℕ) → AllPairs StartsBefore (x ∷ xs) → Contains xs w → x.0 < w.0
first_before x xs w rising (k, below, same) =
    let P : ℕ × ℕ → Type 0 = λ v. x.0 < v.0 in
    subst P same (rising 0 (suc k) w (omega arith) (omega arith))

rest_rises : (x : ℕ × ℕ) (xs : List (ℕ × ℕ)) → AllPairs StartsBefore (x ∷ xs) → AllPairs StartsBefore xs
rest_rises x xs rising i j d low high = rising (suc i) (suc j) d (omega arith) (omega arith)

-- each member of the first list is a member of the second
abbrev AreMembers : List (ℕ × ℕ) → List (ℕ × ℕ) → Type 0
AreMembers xs ys = (w : ℕ × ℕ) → Contains xs w → Contains ys w

-- if each of two ascending lists contains the first element of the other, their first elements are equal
same_first : (x y : ℕ × ℕ) (xs ys : List (ℕ × ℕ)) → AllPairs StartsBefore (x ∷ xs) → AllPairs StartsBefore (y ∷ ys)
    → (y ≡ x) ⊎ Contains ys x → (x ≡ y) ⊎ Contains xs y → x ≡ y
same_first x y xs ys xs_rise ys_rise (inl same) there = sym same
same_first x y xs ys xs_rise ys_rise (inr here) (inl same) = same
same_first x y xs ys xs_rise ys_rise (inr here) (inr there) =
    let after = first_before y ys x ys_rise here in
    let before = first_before x xs y xs_rise there in
    absurd (omega arith)

rest_members : (x y : ℕ × ℕ) (xs ys : List (ℕ × ℕ)) → AllPairs StartsBefore (x ∷ xs) → x ≡ y → AreMembers (x ∷ xs) (y ∷ ys) → AreMembers xs ys
rest_members x y xs ys rising same members w within = of_case (member_cases y ys w (members w (Contains-later x xs w within)))
  where
    of_case : (y ≡ w) ⊎ Contains ys w → Contains ys w
    of_case (inl first) =
        let again : x ≡ w = same ∙ first in
        let before = first_before x xs w rising within in
        absurd (omega (arith, ap (λ (v : ℕ × ℕ). v.0) again))
    of_case (inr later) = later

-- two ascending lists with the same members are equal
same_rising : (xs ys : List (ℕ × ℕ)) → AllPairs StartsBefore xs → AllPairs StartsBefore ys → AreMembers xs ys → AreMembers ys xs → xs ≡ ys
same_rising [] [] xs_rise ys_rise there back = refl
same_rising [] (y ∷ ys) xs_rise ys_rise there back = absurd (omega (arith, (back y (Contains-first y ys)).1))
same_rising (x ∷ xs) [] xs_rise ys_rise there back = absurd (omega (arith, (there x (Contains-first x xs)).1))
same_rising (x ∷ xs) (y ∷ ys) xs_rise ys_rise there back =
    let first : x ≡ y =
    same_first x y xs ys xs_rise ys_rise (member_cases y ys x (there x (Contains-first x xs))) (member_cases x xs y (back y (Contains-first y ys))) in
    let rest : xs ≡ ys =
    same_rising xs ys (rest_rises x xs xs_rise) (rest_rises y ys ys_rise)
    (rest_members x y xs ys xs_rise first there) (rest_members y x ys xs ys_rise (sym first) back) in
    cc

-- the list of the words of a text is unique
pub words_are_one : (text : List ℕ) (words others : List (ℕ × ℕ)) → AreWords text words → AreWords text others → words ≡ others
words_are_one text words others one other =
    same_rising words others one.rising other.rising
    (λ w within. other.every_word w.0 w.1 (All-contains (λ (v : ℕ × ℕ). IsWord text v.0 v.1) words w one.each_is_word within))
    (λ w within. one.every_word w.0 w.1 (All-contains (λ (v : ℕ × ℕ). IsWord text v.0 v.1) others w other.each_is_word within))

-- the list of its tokens is unique
pub token_lists_are_equal : (text : TextView) (slices others : List SubstrView) → AreTokens text slices → AreTokens text others → slices ≡ others
token_lists_are_equal text slices others one other =
    one.slices_of_words
    ∙ ap (λ words. map (λ (word : ℕ × ℕ). slice_of text word.0 word.1) words) (words_are_one text.text one.words other.words one.are_words other.are_words)
    ∙ sym other.slices_of_words
