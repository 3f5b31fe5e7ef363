-- The lines of slices, one slice and one list at a time; they are the lines of the words.
use Rattle.std.proofs.Common.{◌≡◌, ℕ, ◌+◌, ◌<◌, List, [], ◌∷◌, ◌++◌, length, map, take, get_or, refl, sym, ap, subst, ◌∙◌, arith}
use Rattle.std.specs.List.{AllZip, concat}
use Rattle.std.proofs.lemmas.List.{map-append, append-nil, append_assoc, length-take-le, take_more}
use Rattle.std.proofs.lemmas.List.Folds.{concat-append}
use Rattle.arcstr.specs.Substr.{SubstrView, slice_of}
use Rattle.arcstr.specs.TextView.{TextView}
use Rattle.arctokens.specs.Tokens.{AreTokensOfEach, TokenList}
use Rattle.arctokens.specs.Words.{AreWords}
use Rattle.arcbench_core.specs.Line.{script_lines}
use Rattle.arcbench_core.specs.TokenLines.{IsTokenAnswer, word_line, word_lines, lines_from, texts_of_shared, slice_line, slice_lines, lines_of_lists}

-- one more slice
slice_lines-push : (number : ℕ) (slices : List SubstrView) (slice : SubstrView)
    → slice_lines number (slices ++ slice ∷ []) ≡ slice_lines number slices ++ slice_line number slice
slice_lines-push number slices slice =
    let line : SubstrView → List ℕ = slice_line number in
    ap concat (map-append line slices (slice ∷ [])) ∙ concat-append (map line slices) (line slice ∷ [])
    ∙ ap (λ end. concat (map line slices) ++ end) (append-nil (line slice))

pub slice_lines-more : (number : ℕ) (slices : List SubstrView) (k : ℕ) (slice : SubstrView) → k < length slices → slice ≡ get_or slices k slice
    → slice_lines number (take (k + 1) slices) ≡ slice_lines number (take k slices) ++ slice_line number slice
slice_lines-more number slices k slice within read =
    ap (slice_lines number) (take_more slices k slice within) ∙ slice_lines-push number (take k slices) (get_or slices k slice)
    ∙ ap (λ s. slice_lines number (take k slices) ++ slice_line number s) (sym read)

-- what is appended after what was appended before
pub appended-more : (start before after passed line all : List ℕ) → after ≡ before ++ line
    → before ≡ start ++ passed → all ≡ passed ++ line → after ≡ start ++ all
appended-more start before after passed line all grown so_far more =
    grown ∙ ap (λ prefix. prefix ++ line) so_far ∙ append_assoc start passed line ∙ ap (λ lines. start ++ lines) (sym more)

-- one more list
lines_of_lists-push : (number : ℕ) (lists : List TokenList) (list : TokenList)
    → lines_of_lists number (lists ++ list ∷ []) ≡ lines_of_lists number lists ++ slice_lines (number + length lists) list.items
lines_of_lists-push number [] list =
    let same : number ≡ number + 0 = omega arith in
    append-nil (slice_lines number list.items) ∙ ap (λ n. slice_lines n list.items) same
lines_of_lists-push number (first ∷ lists) list =
    let same : number + 1 + length lists ≡ number + length (first ∷ lists) = omega arith in
    ap (λ rest. slice_lines number first.items ++ rest) (lines_of_lists-push (number + 1) lists list)
    ∙ sym (append_assoc (slice_lines number first.items) (lines_of_lists (number + 1) lists) (slice_lines (number + 1 + length lists) list.items))
    ∙ ap (λ n. (slice_lines number first.items ++ lines_of_lists (number + 1) lists) ++ slice_lines n list.items) same

pub lines_of_lists-more : (lists : List TokenList) (k : ℕ) (list : TokenList) (slices : List SubstrView) → k < length lists
    → list ≡ get_or lists k list → slices ≡ list.items
    → lines_of_lists 0 (take (k + 1) lists) ≡ lines_of_lists 0 (take k lists) ++ slice_lines k slices
lines_of_lists-more lists k list slices within read same =
    let number : 0 + length (take k lists) ≡ k = omega (arith, length-take-le k lists (omega arith)) in
    ap (lines_of_lists 0) (take_more lists k list within) ∙ lines_of_lists-push 0 (take k lists) (get_or lists k list)
    ∙ ap (λ n. lines_of_lists 0 (take k lists) ++ slice_lines n (get_or lists k list).items) number
    ∙ ap (λ (l : TokenList). lines_of_lists 0 (take k lists) ++ slice_lines k l.items) (sym read)
    ∙ ap (λ s. lines_of_lists 0 (take k lists) ++ slice_lines k s) (sym same)

-- the lines of the tokens of a text are those of its words
slice_lines-words : (number : ℕ) (text : TextView) (words : List (ℕ × ℕ))
    → slice_lines number (map (λ word. slice_of text word.0 word.1) words) ≡ word_lines number text.text words
slice_lines-words number text [] = refl
slice_lines-words number text (word ∷ words) = ap (λ rest. word_line number text.text word ++ rest) (slice_lines-words number text words)

-- the words of each text, whose lines are the lines of all lists
pub record HasWords (number : ℕ) (texts : List TextView) (lists : List TokenList) : Type 0 where
  pub words : List (List (ℕ × ℕ))
  pub are_words : AllZip AreWords (texts_of_shared texts) words
  pub lines : lines_of_lists number lists ≡ lines_from number (texts_of_shared texts) words

pub HasWords-tokens : (number : ℕ) (texts : List TextView) (lists : List TokenList) → AreTokensOfEach texts lists → HasWords number texts lists
HasWords-tokens number [] [] are = record { words = []; are_words = tt; lines = refl }
HasWords-tokens number [] (list ∷ lists) are = absurd are
HasWords-tokens number (text ∷ texts) [] are = absurd are
HasWords-tokens number (text ∷ texts) (list ∷ lists) are =
    let more = HasWords-tokens (number + 1) texts lists are.1 in
    let here = are.0 in
    record {
      words = here.words ∷ more.words;
      are_words = (here.are_words, more.are_words);
      lines =
          ap (λ prefix. prefix ++ lines_of_lists (number + 1) lists) (ap (slice_lines number) here.slices_of_words ∙ slice_lines-words number text here.words)
          ∙ ap (λ rest. word_lines number text.text here.words ++ rest) more.lines;
    }

-- the lines of all lists are the answer to the input whose lines are the texts
pub IsTokenAnswer-lists : (input start output : List ℕ) (texts read : List TextView) (lists shown : List TokenList)
    → texts_of_shared texts ≡ script_lines input → read ≡ texts → AreTokensOfEach read lists → shown ≡ lists
    → start ≡ [] → output ≡ start ++ lines_of_lists 0 shown → IsTokenAnswer input output
IsTokenAnswer-lists input start output texts read lists shown of_lines same_texts are same_lists empty printed =
    let has = HasWords-tokens 0 read lists are in
    let same : texts_of_shared read ≡ script_lines input = ap texts_of_shared same_texts ∙ of_lines in
    record {
      words = has.words;
      are_words = subst (λ (l : List (List ℕ)). AllZip AreWords l has.words) same has.are_words;
      lines =
          printed ∙ ap (λ l. l ++ lines_of_lists 0 shown) empty ∙ ap (lines_of_lists 0) same_lists ∙ has.lines
          ∙ ap (λ l. lines_from 0 l has.words) same;
    }

-- the functions whose proofs use these rulesets name them
pub ruleset one_slice_more = (slice_lines-more, append_assoc)

pub ruleset one_list_more = (lines_of_lists-more, append_assoc)
