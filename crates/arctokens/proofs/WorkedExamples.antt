-- Worked examples of the definitions, by computation.
use Rattle.std.proofs.Common.{◌≡◌, ℕ, List, [], ◌∷◌, length, ◌⊎◌, false, true, refl, sym, ◌∙◌, inl, inr, ap, arith, rules}
use Rattle.std.specs.Prelude.{IsFalse}
use Rattle.std.specs.Char.{is_whitespace}
use Rattle.std.specs.Str.{chars}
use Rattle.std.proofs.lemmas.List.Elements.{All-nil, All-cons}
use Rattle.arctokens.specs.Words.{AreWords, IsFirstAfter, IsWord}

-- the bytes of ` aé  b `
abbrev accented : List ℕ
accented = 32 ∷ 97 ∷ 195 ∷ 169 ∷ 32 ∷ 32 ∷ 98 ∷ 32 ∷ []

-- the bytes of `a`, a no-break space (A0) and `b`
abbrev wide_space : List ℕ
wide_space = 97 ∷ 194 ∷ 160 ∷ 98 ∷ []

abbrev IsWordCharacter : ℕ → Type 0
IsWordCharacter character = IsFalse (is_whitespace character)

-- a word of two characters and three bytes
accented_word : IsWord accented 1 4
unfolding chars
accented_word =
    record {
      in_order = omega arith;
      at_start = search rules;
      at_end = search rules;
      not_white = All-cons IsWordCharacter 97 (233 ∷ []) refl (All-cons IsWordCharacter 233 [] refl (All-nil IsWordCharacter));
      white_before = inr (record { prefix = []; character = 32; split = refl; kind = refl });
      white_after = inr (record { character = 32; rest = 32 ∷ 98 ∷ 32 ∷ []; split = refl; kind = refl });
    }

-- a part of it is not a word, since the next character is not white space
short_word : IsWord accented 1 2 → ⊥
unfolding chars
short_word word = of_case word.white_after
  where
    of_case : (2 ≡ length accented) ⊎ IsFirstAfter accented 2 true → ⊥
    of_case (inl all) = omega (arith, all)
    of_case (inr next) =
        let character : next.character ≡ 233 = cc (next.split) in
        let white : false ≡ true = sym (ap is_whitespace character) ∙ next.kind in
        cc

-- the first word, and the last one, which follows white space of two bytes
word_before_wide_space : IsWord wide_space 0 1
unfolding chars
word_before_wide_space =
    record {
      in_order = omega arith;
      at_start = search rules;
      at_end = search rules;
      not_white = All-cons IsWordCharacter 97 [] refl (All-nil IsWordCharacter);
      white_before = inl refl;
      white_after = inr (record { character = 160; rest = 98 ∷ []; split = refl; kind = refl });
    }

word_after_wide_space : IsWord wide_space 3 4
unfolding chars
word_after_wide_space =
    record {
      in_order = omega arith;
      at_start = search rules;
      at_end = search rules;
      not_white = All-cons IsWordCharacter 98 [] refl (All-nil IsWordCharacter);
      white_before = inr (record { prefix = 97 ∷ []; character = 160; split = refl; kind = refl });
      white_after = inl refl;
    }

-- a word has a character
no_empty_word : IsWord accented 4 4 → ⊥
no_empty_word word = omega (arith, word.in_order)

-- a zero-width space is not white space
zero_width : is_whitespace 8203 ≡ false
zero_width = refl

-- the empty text has no word
empty_text_has_no_words : AreWords [] []
empty_text_has_no_words =
    record {
      each_is_word = All-nil _;
      rising = λ i j d low high. absurd (omega arith);
      every_word = λ start end word. absurd (omega (arith, word.in_order, word.at_end.0));
    }
