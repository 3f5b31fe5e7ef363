-- The parts of a view, one after another.
use Rattle.std.proofs.Common.{◌≡◌, ℕ, ◌+◌, ◌-◌, ◌<◌, ◌≤◌, Bool, true, false, cond, ◌==◌, Option, None, Some, IfNone, IfSome, take, drop, eq-eqb, List, [], ◌∷◌}
use Rattle.std.proofs.Common.{◌++◌, map, length, All, refl, sym, ap, subst, ◌∙◌, arith}
use Rattle.std.specs.Prelude.{MatchOption, encode_utf8, encode_utf8_all}
use Rattle.std.specs.Char.{len_utf8}
use Rattle.std.specs.List.{filter, onto_first, slice_split}
use Rattle.std.specs.Str.{IsCharBoundary, IsUtf8, all_scalars, NoCharPasses, NonePass, chars}
use Rattle.std.specs.Str.Pattern.{FindsChar, MatchBeginsAt}
use Rattle.std.proofs.lemmas.List.Elements.{All-nil, All-cons, All-head, All-tail}
use Rattle.std.proofs.lemmas.List.Splits.{length-slice_split, slice_split_at, slice_split_none}
use Rattle.std.proofs.lemmas.List.Sums.{count_by-le-length}
use Rattle.std.proofs.lemmas.Str.{chars-append, chars_past_char, chars_from_encodes, encodes-chars, length-encode, length-le-encodes, encodes-append}
use Rattle.std.proofs.lemmas.Str.{scalars-chars, IsCharBoundary-at_seam, IsCharBoundary-end, IsCharBoundary-start, IsUtf8-drop, IsUtf8-take}
use Rattle.std.proofs.lemmas.List.{append-nil, drop_at, length-append, length-drop, length-map, length-take-le, take-append-drop, take_all, take_at}
use Rattle.std.proofs.lemmas.Slice.{between_is}
use Rattle.arcstr_range.specs.Pieces.{AreFoundWith, laid_out, parts_at, parts_between, separators_of, texts_between}
use Rattle.arcstr_range.specs.Ends.{IsLawful}
use Rattle.arcstr_range.specs.Text.{cut}
use Rattle.arcstr_range.specs.View.{IsFoundAt, StandsAt, View, part_of, view_at}
use Rattle.arcstr_range.proofs.Boundaries.{scalars-rest}
use Rattle.arcstr_range.proofs.FoundParts.{PassesToParts, found_passes, stands_passes}

module _ (test : ℕ → Bool) where
  abbrev Fails : ℕ → Type 0
  Fails c = test c ≡ false

  all_fail : (characters : List ℕ) → NonePass test characters → All Fails characters
  all_fail [] none = All-nil Fails
  all_fail (c ∷ cs) none = All-cons Fails c cs none.0 (all_fail cs none.1)

  -- the characters of a text in which none passes
  chars_fail : (text : List ℕ) → IsUtf8 text → NoCharPasses test text → All Fails (chars text)
  chars_fail text utf8 none = subst (All Fails) (chars_from_encodes none.0 text utf8 none.1) (all_fail none.0 none.2)

  pub filter_one : (c : ℕ) (cs : List ℕ) (b : Bool) → test c ≡ b → filter test (c ∷ cs) ≡ cond b (c ∷ filter test cs) (filter test cs)
  filter_one c cs b e = ap (λ (x : Bool). cond x (c ∷ filter test cs) (filter test cs)) e

  pub filter_before : (prefix : List ℕ) (c : ℕ) (rest : List ℕ) → All Fails prefix → test c ≡ true → filter test (prefix ++ c ∷ rest) ≡ c ∷ filter test rest
  filter_before [] c rest fail pass = filter_one c rest true pass
  filter_before (x ∷ prefix) c rest fail pass =
      filter_one x (prefix ++ c ∷ rest) false (All-head Fails x prefix fail) ∙ filter_before prefix c rest (All-tail Fails x prefix fail) pass

  pub filter_none : (characters : List ℕ) → All Fails characters → filter test characters ≡ []
  filter_none [] fail = refl
  filter_none (x ∷ xs) fail = filter_one x xs false (All-head Fails x xs fail) ∙ filter_none xs (All-tail Fails x xs fail)

  -- the characters of a text that consists of a prefix, a character and a rest
  chars_of_three : (text prefix rest : List ℕ) (c : ℕ) → IsUtf8 prefix → IsUtf8 (encode_utf8 c ++ rest) → text ≡ prefix ++ (encode_utf8 c ++ rest)
      → chars text ≡ chars prefix ++ c ∷ chars rest
  chars_of_three text prefix rest c prefix_utf8 behind_utf8 split =
      ap chars split ∙ chars-append prefix (encode_utf8 c ++ rest) prefix_utf8
      ∙ ap (λ (l : List ℕ). chars prefix ++ l) (chars_past_char (encode_utf8 c ++ rest) rest c behind_utf8 refl)

  texts_first : (text prefix rest : List ℕ) (c : ℕ) → IsUtf8 prefix → IsUtf8 (encode_utf8 c ++ rest) → text ≡ prefix ++ (encode_utf8 c ++ rest)
      → NoCharPasses test prefix → test c ≡ true → texts_between test text ≡ prefix ∷ texts_between test rest
  unfolding texts_between
  texts_first text prefix rest c prefix_utf8 behind_utf8 split none pass =
      ap (λ (l : List ℕ). map encode_utf8_all (slice_split test l)) (chars_of_three text prefix rest c prefix_utf8 behind_utf8 split)
      ∙ ap (map encode_utf8_all) (slice_split_at test (chars prefix) c (chars rest) (chars_fail prefix prefix_utf8 none) pass)
      ∙ ap (λ (l : List ℕ). l ∷ map encode_utf8_all (slice_split test (chars rest))) (encodes-chars prefix prefix_utf8)

  separators_first : (text prefix rest : List ℕ) (c : ℕ) → IsUtf8 prefix → IsUtf8 (encode_utf8 c ++ rest) → text ≡ prefix ++ (encode_utf8 c ++ rest)
      → NoCharPasses test prefix → test c ≡ true → separators_of test text ≡ encode_utf8 c ∷ separators_of test rest
  unfolding separators_of
  separators_first text prefix rest c prefix_utf8 behind_utf8 split none pass =
      ap (λ (l : List ℕ). map encode_utf8 (filter test l)) (chars_of_three text prefix rest c prefix_utf8 behind_utf8 split)
      ∙ ap (map encode_utf8) (filter_before (chars prefix) c (chars rest) (chars_fail prefix prefix_utf8 none) pass)

  -- the first part ends before the first character that passes
  pub parts_first : (place : ℕ) (text prefix rest : List ℕ) (c : ℕ) → IsUtf8 prefix → IsUtf8 (encode_utf8 c ++ rest) → text ≡ prefix ++ (encode_utf8 c ++ rest)
      → NoCharPasses test prefix → test c ≡ true
      → parts_between test (view_at text place) ≡ view_at prefix place ∷ parts_between test (view_at rest (place + length prefix + length (encode_utf8 c)))
  unfolding parts_between
  parts_first place text prefix rest c prefix_utf8 behind_utf8 split none pass =
      ap (λ (l : List (List ℕ)). laid_out place l (separators_of test text)) (texts_first text prefix rest c prefix_utf8 behind_utf8 split none pass)
      ∙ ap (λ (l : List (List ℕ)). laid_out place (prefix ∷ texts_between test rest) l)
      (separators_first text prefix rest c prefix_utf8 behind_utf8 split none pass)

  -- if no character passes, the only part is the whole
  pub parts_last : (place : ℕ) (text : List ℕ) → IsUtf8 text → NoCharPasses test text → parts_between test (view_at text place) ≡ view_at text place ∷ []
  unfolding parts_between texts_between separators_of
  parts_last place text utf8 none =
      let fail = chars_fail text utf8 none in
      ap (λ (l : List (List ℕ)). laid_out place (map encode_utf8_all l) (separators_of test text)) (slice_split_none test (chars text) fail)
      ∙ ap (λ (l : List ℕ). laid_out place (encode_utf8_all (chars text) ∷ []) (map encode_utf8 l)) (filter_none (chars text) fail)
      ∙ ap (λ (l : List ℕ). view_at l place ∷ []) (encodes-chars text utf8)

-- ---- the texts of the parts, and where they are found

texts_laid_out : (place : ℕ) (texts separators : List (List ℕ)) → map (λ view. view.text) (laid_out place texts separators) ≡ texts
texts_laid_out place [] separators = refl
texts_laid_out place (text ∷ texts) [] = ap (λ (l : List (List ℕ)). text ∷ l) (texts_laid_out (place + length text) texts [])
texts_laid_out place (text ∷ texts) (separator ∷ separators) =
    ap (λ (l : List (List ℕ)). text ∷ l) (texts_laid_out (place + length text + length separator) texts separators)

pub texts_of_parts : (test : ℕ → Bool) (view : View) → map (λ part. part.text) (parts_between test view) ≡ texts_between test view.text
unfolding parts_between
texts_of_parts test view = texts_laid_out view.place (texts_between test view.text) (separators_of test view.text)

-- there are at most as many separators as bytes
pub few_parts : (test : ℕ → Bool) (view : View) → IsUtf8 view.text → length (parts_between test view) ≤ length view.text + 1
unfolding texts_between
few_parts test view utf8 =
    let texts = ap length (texts_of_parts test view) in
    omega (
      arith,
      texts,
      length-map (parts_between test view) (λ (part : View). part.text),
      length-map (slice_split test (chars view.text)) encode_utf8_all,
      length-slice_split test (chars view.text),
      count_by-le-length test (chars view.text),
      length-le-encodes (chars view.text),
      ap length (encodes-chars view.text utf8),
    )

-- the characters of the parts, with the separators between them
abbrev joined : List (List ℕ) → List ℕ → List ℕ
joined [] separators = []
joined (part ∷ parts) [] = part ++ joined parts []
joined (part ∷ parts) (separator ∷ separators) = part ++ (separator ∷ joined parts separators)

joined-onto_first : (c : ℕ) (parts : List (List ℕ)) (separators : List ℕ) → 0 < length parts
    → joined (onto_first c parts) separators ≡ c ∷ joined parts separators
joined-onto_first c [] separators some = absurd (omega arith)
joined-onto_first c (part ∷ parts) [] some = refl
joined-onto_first c (part ∷ parts) (separator ∷ separators) some = refl

module _ (test : ℕ → Bool) where
  joined_one : (c : ℕ) (cs : List ℕ) (b : Bool) → joined (slice_split test cs) (filter test cs) ≡ cs
      → joined (cond b ([] ∷ slice_split test cs) (onto_first c (slice_split test cs))) (cond b (c ∷ filter test cs) (filter test cs)) ≡ c ∷ cs
  joined_one c cs true same = ap (λ (l : List ℕ). c ∷ l) same
  joined_one c cs false same =
      joined-onto_first c (slice_split test cs) (filter test cs) (omega (arith, length-slice_split test cs)) ∙ ap (λ (l : List ℕ). c ∷ l) same

  joined_parts : (cs : List ℕ) → joined (slice_split test cs) (filter test cs) ≡ cs
  joined_parts [] = refl
  joined_parts (c ∷ cs) = joined_one c cs (test c) (joined_parts cs)

abbrev pub HoldsOf : (List ℕ → ℕ → Type 0) → View → Type 0
HoldsOf P view = P view.text view.place

-- what holds of a view and passes to its parts holds of the parts between characters
module _ (P : List ℕ → ℕ → Type 0) (passes : PassesToParts P) where
  -- the two halves of a text
  module _ (prefix rest : List ℕ) (place : ℕ) (whole_utf8 : IsUtf8 (prefix ++ rest)) (rest_utf8 : IsUtf8 rest) (holds : P (prefix ++ rest) place) where
    at_seam : IsCharBoundary (prefix ++ rest) (length prefix)
    at_seam = IsCharBoundary-at_seam (prefix ++ rest) prefix rest refl rest_utf8

    of_prefix : P prefix place
    of_prefix =
        let sliced : IsLawful (prefix ++ rest) 0 (length prefix) =
        record { in_order = omega arith; within = at_seam.0; at_boundaries = (IsCharBoundary-start (prefix ++ rest) whole_utf8, at_seam) } in
        subst (λ (l : List ℕ). P l place) (between_is (prefix ++ rest) 0 (length prefix) ∙ take_at prefix rest (length prefix) refl)
        (subst (λ (n : ℕ). P (cut (prefix ++ rest) 0 (length prefix)) n) (omega arith) (passes.part (prefix ++ rest) place 0 (length prefix) sliced holds))

    of_rest : P rest (place + length prefix)
    of_rest =
        let size = length-append prefix rest in
        let sliced : IsLawful (prefix ++ rest) (length prefix) (length (prefix ++ rest)) =
        record { in_order = at_seam.0; within = omega arith; at_boundaries = (at_seam, IsCharBoundary-end (prefix ++ rest)) } in
        subst (λ (l : List ℕ). P l (place + length prefix))
        (ap (take (length (prefix ++ rest) - length prefix)) (drop_at prefix rest (length prefix) refl)
        ∙ take_all (length (prefix ++ rest) - length prefix) rest (omega (arith, size)))
        (passes.part (prefix ++ rest) place (length prefix) (length (prefix ++ rest)) sliced holds)

  -- the text of a list of characters, and its two halves
  of_halves : (prefix rest : List ℕ) (place : ℕ) → all_scalars (prefix ++ rest) ≡ true → P (encode_utf8_all (prefix ++ rest)) place
      → P (encode_utf8_all prefix) place × P (encode_utf8_all rest) (place + length (encode_utf8_all prefix))
  of_halves prefix rest place scalars holds =
      let whole = subst (λ (l : List ℕ). P l place) (encodes-append prefix rest) holds in
      let whole_utf8 : IsUtf8 (encode_utf8_all prefix ++ encode_utf8_all rest) = (prefix ++ rest, (scalars, encodes-append prefix rest)) in
      let rest_utf8 : IsUtf8 (encode_utf8_all rest) = (rest, (scalars-rest prefix rest scalars, refl)) in (
        of_prefix (encode_utf8_all prefix) (encode_utf8_all rest) place whole_utf8 rest_utf8 whole,
        of_rest (encode_utf8_all prefix) (encode_utf8_all rest) place whole_utf8 rest_utf8 whole,
      )

  of_laid_out : (parts : List (List ℕ)) (separators : List ℕ) (place : ℕ) → all_scalars (joined parts separators) ≡ true
      → P (encode_utf8_all (joined parts separators)) place → All (HoldsOf P) (laid_out place (map encode_utf8_all parts) (map encode_utf8 separators))
  of_laid_out [] separators place scalars holds = All-nil (HoldsOf P)
  of_laid_out (part ∷ parts) [] place scalars holds =
      let halves = of_halves part (joined parts []) place scalars holds in
      All-cons (HoldsOf P) (view_at (encode_utf8_all part) place) _ halves.0
      (of_laid_out parts [] (place + length (encode_utf8_all part)) (scalars-rest part (joined parts []) scalars) halves.1)
  of_laid_out (part ∷ parts) (separator ∷ separators) place scalars holds =
      let behind = separator ∷ joined parts separators in
      let halves = of_halves part behind place scalars holds in
      let behind_scalars = scalars-rest part behind scalars in
      let next = place + length (encode_utf8_all part) in
      let both = of_halves (separator ∷ []) (joined parts separators) next behind_scalars halves.1 in
      All-cons (HoldsOf P) (view_at (encode_utf8_all part) place) _ halves.0
      (of_laid_out parts separators (next + length (encode_utf8 separator)) (scalars-rest (separator ∷ []) (joined parts separators) behind_scalars)
      (subst (λ (l : List ℕ). P (encode_utf8_all (joined parts separators)) (next + length l)) (append-nil (encode_utf8 separator)) both.1))

  pub of_parts : (test : ℕ → Bool) (view : View) → IsUtf8 view.text → HoldsOf P view → All (HoldsOf P) (parts_between test view)
  unfolding parts_between texts_between separators_of
  of_parts test view utf8 holds =
      let same = joined_parts test (chars view.text) in
      of_laid_out (slice_split test (chars view.text)) (filter test (chars view.text)) view.place (ap all_scalars same ∙ scalars-chars view.text utf8)
      (subst (λ (l : List ℕ). P l view.place) (sym (ap encode_utf8_all same ∙ encodes-chars view.text utf8)) holds)

-- ---- parts at a character, from the results of std's `find`

-- if the text has the character
module _ (c : ℕ) (view : View) (place : ℕ) (utf8 : IsUtf8 view.text) (at : MatchBeginsAt (FindsChar c) view.text place) where
  around : view.text ≡ take place view.text ++ (encode_utf8 c ++ drop at.0 view.text)
  around = sym (take-append-drop place view.text) ∙ ap (λ (l : List ℕ). take place view.text ++ l) at.1.1.split

  prefix_is : part_of view 0 place ≡ view_at (take place view.text) view.place
  prefix_is = ap (λ (l : List ℕ). view_at l (view.place + 0)) (between_is view.text 0 place) ∙ ap (λ (n : ℕ). view_at (take place view.text) n) (omega arith)

  behind_is : part_of view (place + len_utf8 c) (length view.text)
      ≡ view_at (drop at.0 view.text) (view.place + length (take place view.text) + length (encode_utf8 c))
  behind_is =
      let cut_is : cut view.text (place + len_utf8 c) (length view.text) ≡ drop at.0 view.text =
      ap (λ (start : ℕ). cut view.text start (length view.text)) (sym at.1.1.ends)
      ∙ take_all (length view.text - at.0) (drop at.0 view.text) (omega (arith, length-drop at.0 view.text)) in
      ap (λ (l : List ℕ). view_at l (view.place + (place + len_utf8 c))) cut_is
      ∙ ap (λ (n : ℕ). view_at (drop at.0 view.text) n) (omega (arith, length-encode c, length-take-le place view.text at.3.0))

  pub before_place : parts_at c view ≡ part_of view 0 place ∷ parts_at c (part_of view (place + len_utf8 c) (length view.text))
  unfolding parts_at
  before_place =
      parts_first (λ d. d == c) view.place view.text (take place view.text) (drop at.0 view.text) c (IsUtf8-take view.text place utf8 at.3)
      (subst IsUtf8 at.1.1.split (IsUtf8-drop view.text place utf8 at.3)) around at.1.0 (eq-eqb c c refl)
      ∙ ap (λ (v : View). v ∷ parts_between (λ d. d == c) (view_at (drop at.0 view.text) (view.place + length (take place view.text) + length (encode_utf8 c))))
      (sym prefix_is)
      ∙ ap (λ (v : View). part_of view 0 place ∷ parts_between (λ d. d == c) v) (sym behind_is)

pub first_none : (c : ℕ) (view : View) (answer : Option ℕ) → IsUtf8 view.text
    → MatchOption answer (FindsChar c view.text None) (MatchBeginsAt (FindsChar c) view.text) → IfNone answer (parts_at c view ≡ view ∷ [])
unfolding parts_at
first_none c view None utf8 cases = parts_last (λ d. d == c) view.place view.text utf8 cases
first_none c view (Some place) utf8 cases = tt

pub first_some : (c : ℕ) (view : View) (answer : Option ℕ) → IsUtf8 view.text
    → MatchOption answer (FindsChar c view.text None) (MatchBeginsAt (FindsChar c) view.text)
    → IfSome answer (λ place. parts_at c view ≡ part_of view 0 place ∷ parts_at c (part_of view (place + len_utf8 c) (length view.text)))
first_some c view None utf8 cases = tt
first_some c view (Some place) utf8 cases = before_place c view place utf8 cases

pub lawful_before : (c : ℕ) (text : List ℕ) (answer : Option ℕ) → IsUtf8 text
    → MatchOption answer (FindsChar c text None) (MatchBeginsAt (FindsChar c) text) → IfSome answer (λ place. IsLawful text 0 place)
lawful_before c text None utf8 cases = tt
lawful_before c text (Some place) utf8 cases =
    record { in_order = omega arith; within = cases.3.0; at_boundaries = (IsCharBoundary-start text utf8, cases.3) }

pub lawful_behind : (c : ℕ) (text : List ℕ) (answer : Option ℕ)
    → MatchOption answer (FindsChar c text None) (MatchBeginsAt (FindsChar c) text) → IfSome answer (λ place. IsLawful text (place + len_utf8 c) (length text))
lawful_behind c text None cases = tt
lawful_behind c text (Some place) cases =
    let past = subst (IsCharBoundary text) cases.1.1.ends cases.4 in
    record { in_order = past.0; within = omega arith; at_boundaries = (past, IsCharBoundary-end text) }

pub texts_of_parts_at : (c : ℕ) (view : View) → map (λ part. part.text) (parts_at c view) ≡ texts_between (λ d. d == c) view.text
unfolding parts_at
texts_of_parts_at c view = texts_of_parts (λ d. d == c) view

pub found_parts_at : (c : ℕ) (view : View) → IsUtf8 view.text → AreFoundWith view (parts_at c view)
unfolding parts_at
found_parts_at c view utf8 = record {
  each = λ parent. of_parts (IsFoundAt parent) (found_passes parent) (λ d. d == c) view utf8;
  standing = λ parent. of_parts (StandsAt parent) (stands_passes parent) (λ d. d == c) view utf8;
}

pub few_parts_at : (c : ℕ) (view : View) → IsUtf8 view.text → length (parts_at c view) ≤ length view.text + 1
unfolding parts_at
few_parts_at c view utf8 = few_parts (λ d. d == c) view utf8

-- the functions whose proofs use these rulesets name them
pub ruleset first_places = (first_none, first_some)

pub ruleset lawful_places = (lawful_before, lawful_behind)

pub ruleset parts_at_facts = (texts_of_parts_at, found_parts_at, few_parts_at)
