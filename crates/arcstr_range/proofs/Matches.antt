-- The parts of a view between the matches of a pattern: where they lie, what they join to, and that the parts around a character are those at that character.
use Rattle.std.proofs.Common.{◌≡◌, ℕ, ◌+◌, ◌-◌, ◌≤◌, Bool, true, false, cond, ◌==◌, ◌&&◌, Option, None, Some, take, drop, List, [], ◌∷◌, ◌++◌, length, refl}
use Rattle.std.proofs.Common.{sym, ap, subst, ◌∙◌, arith, eqb-true}
use Rattle.std.specs.Prelude.{⊤, MatchOption, encode_utf8}
use Rattle.std.specs.Char.{len_utf8}
use Rattle.std.specs.List.{flat_map, join_by}
use Rattle.std.specs.Str.{IsCharBoundary, IsUtf8, chars}
use Rattle.std.specs.Str.Pattern.{CanCutOut, FindsChar, MatchBeginsAt}
use Rattle.std.proofs.lemmas.List.{append-nil, append_assoc, length-append, length-drop, take-append-drop, take_all}
use Rattle.std.proofs.lemmas.Slice.{between_is}
use Rattle.std.proofs.lemmas.Str.{IsCharBoundary-end, IsCharBoundary-from_drop, IsCharBoundary-from_take, IsCharBoundary-start, IsUtf8-between, chars_past_char}
use Rattle.std.proofs.lemmas.Str.{len_utf8_bounds, length-encode}
use Rattle.arcstr_range.specs.Ends.{IsLawful}
use Rattle.arcstr_range.specs.Matches.{AreParts, FindsOnly, IsCutAtMatch, IsFirstCut, behind_first, match_taken}
use Rattle.arcstr_range.specs.Pieces.{parts_at}
use Rattle.arcstr_range.specs.Text.{cut}
use Rattle.arcstr_range.specs.View.{View, part_of}
use Rattle.arcstr_range.proofs.Boundaries.{IsCharBoundary-from_prefix}
use Rattle.arcstr_range.proofs.FoundParts.{PassesToParts}
use Rattle.arcstr_range.proofs.Pieces.{HoldsOf, before_place, first_none}

-- ---- a match may be cut out

pub lawful_to : (text : List ℕ) (place : ℕ × ℕ) → IsUtf8 text → CanCutOut text place.0 place.1 → IsLawful text 0 place.0
lawful_to text place utf8 can =
    let within : place.0 ≤ length text = omega (arith, can.0, can.1) in
    record {
      in_order = omega arith;
      within = within;
      at_boundaries = (IsCharBoundary-start text utf8, IsCharBoundary-from_take text place.0 utf8 within can.2);
    }

pub lawful_past : (text : List ℕ) (place : ℕ × ℕ) → CanCutOut text place.0 place.1 → IsLawful text place.1 (length text)
lawful_past text place can =
    record { in_order = can.1; within = omega arith; at_boundaries = (IsCharBoundary-from_drop text place.1 can.1 can.3, IsCharBoundary-end text) }

-- the first character of a text ends at a boundary
behind_character : (text read after : List ℕ) (c : ℕ) → IsUtf8 text → read ≡ text → read ≡ encode_utf8 c ++ after → IsCharBoundary text (len_utf8 c)
behind_character text read after c utf8 same split =
    let characters = chars_past_char text after c utf8 (sym same ∙ split) in
    IsCharBoundary-from_prefix text (len_utf8 c) utf8
    (record { prefix = c ∷ []; rest = chars after; split = characters; measured = omega (arith, length-append (encode_utf8 c) [], length-encode c) })

pub lawful_to_first : (text read after : List ℕ) (c width : ℕ) → IsUtf8 text → read ≡ text → read ≡ encode_utf8 c ++ after → width ≡ len_utf8 c
    → IsLawful text 0 width
lawful_to_first text read after c width utf8 same split is =
    let at = subst (IsCharBoundary text) (sym is) (behind_character text read after c utf8 same split) in
    record { in_order = omega arith; within = at.0; at_boundaries = (IsCharBoundary-start text utf8, at) }

pub lawful_past_first : (text read after : List ℕ) (c width : ℕ) → IsUtf8 text → read ≡ text → read ≡ encode_utf8 c ++ after → width ≡ len_utf8 c
    → IsLawful text width (length text)
lawful_past_first text read after c width utf8 same split is =
    let at = subst (IsCharBoundary text) (sym is) (behind_character text read after c utf8 same split) in
    record { in_order = at.0; within = omega arith; at_boundaries = (at, IsCharBoundary-end text) }

-- ---- what holds of a view and passes to its parts holds of the parts between matches

module _ (P : List ℕ → ℕ → Type 0) (passes : PassesToParts P) where
  pub holds_of_first : (view part : View) (rest : Option View) (taken : Option (ℕ × ℕ))
      → IsFirstCut view part rest taken → HoldsOf P view
      → HoldsOf P part × MatchOption rest ⊤ (HoldsOf P)
  holds_of_first view part rest None is holds = (
    subst (HoldsOf P) (sym is.0) holds,
    subst (λ (r : Option View). MatchOption r ⊤ (HoldsOf P)) (sym is.1) tt,
  )
  holds_of_first view part rest (Some place) is holds = (
    subst (HoldsOf P) (sym is.part) (passes.part view.text view.place 0 place.0 is.before holds),
    subst (λ (r : Option View). MatchOption r ⊤ (HoldsOf P)) (sym is.others) (passes.part view.text view.place place.1 (length view.text) is.behind holds),
  )

-- ---- the parts at a text join with it to the whole

module _ (finds : List ℕ → Option (ℕ × ℕ) → Type 0) (wanted : List ℕ) (only : FindsOnly finds wanted) where
  around : (view part behind : View) (place : ℕ × ℕ) → IsCutAtMatch view part (Some behind) place → drop place.0 view.text ≡ wanted ++ drop place.1 view.text
      → part.text ++ (wanted ++ behind.text) ≡ view.text
  around view part behind place is split =
      let same : behind ≡ part_of view place.1 (length view.text) = cc in
      let rest : behind.text ≡ drop place.1 view.text =
      ap (λ (v : View). v.text) same ∙ take_all (length view.text - place.1) (drop place.1 view.text) (omega (arith, length-drop place.1 view.text)) in
      ap (λ (v : View). v.text ++ (wanted ++ behind.text)) is.part
      ∙ ap (λ (l : List ℕ). l ++ (wanted ++ behind.text)) (between_is view.text 0 place.0)
      ∙ ap (λ (l : List ℕ). take place.0 view.text ++ (wanted ++ l)) rest
      ∙ ap (λ (l : List ℕ). take place.0 view.text ++ l) (sym split)
      ∙ take-append-drop place.0 view.text

  -- an empty match behind the first character
  around_empty : (view part behind : View) (taken : Option (ℕ × ℕ)) (characters : List ℕ) → taken ≡ behind_first characters → wanted ≡ []
      → IsFirstCut view part (Some behind) taken
      → part.text ++ (wanted ++ behind.text) ≡ view.text
  around_empty view part behind None characters is empty cut = absurd (cc)
  around_empty view part behind (Some place) [] is empty cut = absurd (cc)
  around_empty view part behind (Some place) (c ∷ cs) is empty cut =
      let width : place ≡ (len_utf8 c, len_utf8 c) = cc in
      let same : place.0 ≡ place.1 = ap (λ (p : ℕ × ℕ). p.0) width ∙ sym (ap (λ (p : ℕ × ℕ). p.1) width) in
      around view part behind place cut (ap (λ (n : ℕ). drop n view.text) same ∙ ap (λ (l : List ℕ). l ++ drop place.1 view.text) (sym empty))

  no_bytes : (bytes : List ℕ) → length bytes ≡ 0 → bytes ≡ []
  no_bytes [] none = refl
  no_bytes (b ∷ bytes) none = absurd (omega (arith, none))

  around_found : (begun empty : Bool) (view part behind : View) (found : ℕ × ℕ) → finds view.text (Some found) → (found.1 == 0) ≡ empty
      → IsFirstCut view part (Some behind) (cond (begun && empty) (behind_first (chars view.text)) (Some found))
      → part.text ++ (wanted ++ behind.text) ≡ view.text
  around_found false empty view part behind found search is cut = around view part behind found cut (only view.text found.0 found.1 search).split
  around_found true false view part behind found search is cut = around view part behind found cut (only view.text found.0 found.1 search).split
  around_found true true view part behind found search is cut =
      let match_is = only view.text found.0 found.1 search in
      around_empty view part behind (behind_first (chars view.text)) (chars view.text) refl
      (no_bytes wanted (omega (arith, eqb-true found.1 0 is, match_is.ends))) cut

  alone : (view part : View) (taken : Option (ℕ × ℕ)) → IsFirstCut view part None taken → part ≡ view
  alone view part None is = is.0
  alone view part (Some place) is = let others = is.others in absurd (cc)

  joined_rest : (begun : Bool) (view part : View) (rest : Option View) (found : Option (ℕ × ℕ)) → finds view.text found
      → IsFirstCut view part rest (match_taken begun (chars view.text) found)
      → MatchOption rest (part.text ≡ view.text) (λ behind. part.text ++ (wanted ++ behind.text) ≡ view.text)
  joined_rest begun view part None found search cut = ap (λ (v : View). v.text) (alone view part (match_taken begun (chars view.text) found) cut)
  joined_rest begun view part (Some behind) None search cut = let others = cut.1 in absurd (cc)
  joined_rest begun view part (Some behind) (Some found) search cut = around_found begun (found.1 == 0) view part behind found search refl cut

  joined_from : (rest : Option View) (view part : View) (parts : List View)
      → ((behind : View) → AreParts finds true behind parts → join_by (λ (v : View). v.text) wanted parts ≡ behind.text)
      → MatchOption rest (parts ≡ []) (λ behind. AreParts finds true behind parts)
      → MatchOption rest (part.text ≡ view.text) (λ behind. part.text ++ (wanted ++ behind.text) ≡ view.text)
      → join_by (λ (v : View). v.text) wanted (part ∷ parts) ≡ view.text
  joined_from None view part parts others are is =
      ap (λ (l : List View). part.text ++ flat_map (λ (v : View). wanted ++ v.text) l) are ∙ append-nil part.text ∙ is
  joined_from (Some behind) view part [] others are is = absurd are
  joined_from (Some behind) view part (next ∷ parts) others are is =
      ap (λ (l : List ℕ). part.text ++ l)
      (append_assoc wanted next.text (flat_map (λ (v : View). wanted ++ v.text) parts) ∙ ap (λ (l : List ℕ). wanted ++ l) (others behind are))
      ∙ is

  pub joined_parts : (begun : Bool) (view : View) (parts : List View) → AreParts finds begun view parts
      → join_by (λ (v : View). v.text) wanted parts ≡ view.text
  joined_parts begun view [] are = absurd are
  joined_parts begun view (part ∷ parts) are =
      joined_from are.0 view part parts (λ behind others. joined_parts true behind parts others) are.2
      (joined_rest begun view part are.0 are.1.found are.1.search are.1.cut)

-- ---- the parts around a character are those at that character

module _ (finds : List ℕ → Option (ℕ × ℕ) → Type 0) (c : ℕ) (at_c : (text : List ℕ) (answer : Option
    (ℕ × ℕ)) → finds text answer → FindsChar c text answer) where
  abbrev FirstAt : View → View → Option View → Type 0
  FirstAt view part rest = MatchOption rest (parts_at c view ≡ part ∷ []) (λ behind. IsUtf8 behind.text × (parts_at c view ≡ part ∷ parts_at c behind))

  first_cut : (view part : View) (rest : Option View) (found : ℕ × ℕ) → IsUtf8 view.text → finds view.text (Some found) → IsCutAtMatch view part rest found
      → FirstAt view part rest
  first_cut view part rest found utf8 search is =
      let match_is = at_c view.text (Some found) search in
      let size = length view.text in
      let at : MatchBeginsAt (FindsChar c) view.text found.0 = (found.1, match_is, is.in_order, is.before.at_boundaries.1, is.behind.at_boundaries.0) in
      let own = IsUtf8-between view.text found.1 size utf8 is.behind.in_order is.behind.at_boundaries.0 is.behind.at_boundaries.1 in
      subst (FirstAt view part) (sym is.others) (
        own,
        before_place c view found.0 utf8 at
            ∙ ap (λ (v : View). v ∷ parts_at c (part_of view (found.0 + len_utf8 c) size)) (sym is.part)
            ∙ ap (λ (n : ℕ). part ∷ parts_at c (part_of view n size)) (sym match_is.1.ends),
      )

  first_found : (begun empty : Bool) (view part : View) (rest : Option View) (found : ℕ × ℕ) → IsUtf8 view.text → finds view.text (Some found)
      → (found.1 == 0) ≡ empty
      → IsFirstCut view part rest (cond (begun && empty) (behind_first (chars view.text)) (Some found))
      → FirstAt view part rest
  first_found false empty view part rest found utf8 search is cut = first_cut view part rest found utf8 search cut
  first_found true false view part rest found utf8 search is cut = first_cut view part rest found utf8 search cut
  first_found true true view part rest found utf8 search is cut =
      let match_is = at_c view.text (Some found) search in
      absurd (omega (arith, eqb-true found.1 0 is, match_is.1.ends, (len_utf8_bounds c).0))

  first_at : (begun : Bool) (view part : View) (rest : Option View) (found : Option (ℕ × ℕ)) → IsUtf8 view.text → finds view.text found
      → IsFirstCut view part rest (match_taken begun (chars view.text) found) → FirstAt view part rest
  first_at begun view part rest None utf8 search cut =
      subst (FirstAt view part) (sym cut.1) (first_none c view None utf8 (at_c view.text None search) ∙ ap (λ (v : View). v ∷ []) (sym cut.0))
  first_at begun view part rest (Some found) utf8 search cut = first_found begun (found.1 == 0) view part rest found utf8 search refl cut

  at_from : (rest : Option View) (view part : View) (parts : List View)
      → ((behind : View) → IsUtf8 behind.text → AreParts finds true behind parts → parts ≡ parts_at c behind)
      → MatchOption rest (parts ≡ []) (λ behind. AreParts finds true behind parts) → FirstAt view part rest → part ∷ parts ≡ parts_at c view
  at_from None view part parts others are is = ap (λ (l : List View). part ∷ l) are ∙ sym is
  at_from (Some behind) view part parts others are is = ap (λ (l : List View). part ∷ l) (others behind is.0 are) ∙ sym is.1

  pub parts_at_character : (begun : Bool) (view : View) (parts : List View) → IsUtf8 view.text → AreParts finds begun view parts → parts ≡ parts_at c view
  parts_at_character begun view [] utf8 are = absurd are
  parts_at_character begun view (part ∷ parts) utf8 are =
      at_from are.0 view part parts (λ behind own others. parts_at_character true behind parts own others) are.2
      (first_at begun view part are.0 are.1.found utf8 are.1.search are.1.cut)
