-- Lists of the slices between the matches of a pattern, from what the iterator over the parts gives.
use Rattle.std.proofs.Common.{◌≡◌, ◌==◌, ℕ, Bool, true, false, All, Option, None, Some, List, [], ◌∷◌, ◌++◌, map, flat_map, refl, sym, ap, subst, ◌∙◌}
use Rattle.std.specs.Prelude.{⊤, MatchOption, IfSome}
use Rattle.std.specs.Iterator.{HoldsAlong, Yields}
use Rattle.std.specs.List.{join_by}
use Rattle.std.specs.Str.{IsUtf8}
use Rattle.std.proofs.lemmas.List.Elements.{All-cons, All-nil}
use Rattle.arcstr_range.proofs.FoundParts.{stands_passes, stands_whole}
use Rattle.arcstr_range.proofs.Matches.{holds_of_first, joined_parts, parts_at_character}
use Rattle.arcstr_range.proofs.Pieces.{texts_of_parts_at}
use Rattle.arcstr_range.specs.declared.view.split_by.SplitBy.{SplitBy}
use Rattle.arcstr_range.specs.Matches.{AreParts, FindsOnly, IsFirstPart, split_begun, split_by_steps, split_pattern, split_rest}
use Rattle.arcstr_range.specs.Pieces.{parts_at, texts_between}
use Rattle.arcstr_range.specs.View.{StandsAt, View, view_at}
use Rattle.arcstr.proofs.SliceLists.{shown_within, slices_shown, texts_shown}
use Rattle.arcstr.specs.Slicing.{AreSlicesOfParts, ShowAll, Shows, slices_of}
use Rattle.arcstr.specs.Splitting.{FindsCharacter}
use Rattle.arcstr.specs.Substr.{SubstrView, text_of}

abbrev StandsIn : List ℕ → View → Type 0
StandsIn text view = StandsAt text view.text view.place

abbrev texts_of : List View → List (List ℕ)
texts_of views = map (λ (view : View). view.text) views

-- texts that are the same join to the same text
joined_same : (slices : List SubstrView) (views : List View) (wanted : List ℕ) → map text_of slices ≡ texts_of views
    → flat_map (λ (s : SubstrView). wanted ++ text_of s) slices ≡ flat_map (λ (v : View). wanted ++ v.text) views
joined_same [] [] wanted same = refl
joined_same [] (view ∷ views) wanted same = absurd (cc)
joined_same (slice ∷ slices) [] wanted same = absurd (cc)
joined_same (slice ∷ slices) (view ∷ views) wanted same =
    let first : text_of slice ≡ view.text = cc in
    let others : map text_of slices ≡ texts_of views = cc in
    ap (λ (t : List ℕ). (wanted ++ t) ++ flat_map (λ (s : SubstrView). wanted ++ text_of s) slices) first
    ∙ ap (λ (l : List ℕ). (wanted ++ view.text) ++ l) (joined_same slices views wanted others)

same_join : (slices : List SubstrView) (views : List View) (wanted : List ℕ) → map text_of slices ≡ texts_of views
    → join_by text_of wanted slices ≡ join_by (λ (v : View). v.text) wanted views
same_join [] [] wanted same = refl
same_join [] (view ∷ views) wanted same = absurd (cc)
same_join (slice ∷ slices) [] wanted same = absurd (cc)
same_join (slice ∷ slices) (view ∷ views) wanted same =
    let first : text_of slice ≡ view.text = cc in
    let others : map text_of slices ≡ texts_of views = cc in
    ap (λ (t : List ℕ). t ++ flat_map (λ (s : SubstrView). wanted ++ text_of s) slices) first
    ∙ ap (λ (l : List ℕ). view.text ++ l) (joined_same slices views wanted others)

-- ---- the iterator begins with the whole text, and searches for the pattern

module _ {P : Type 0} (finds : P → List ℕ → Option (ℕ × ℕ) → Type 0) (pattern : P) (text : List ℕ) where
  abbrev IsRestAt : Bool → Option View → List View → Type 0
  IsRestAt begun rest parts = MatchOption rest (parts ≡ []) (λ view. AreParts (finds pattern) begun view parts)

  abbrev RestStands : Option View → Type 0
  RestStands rest = MatchOption rest ⊤ (StandsIn text)

  -- the parts that calls give stand in the text if what is left to be split stands in it
  rest_stands : (split : SplitBy P) → RestStands (split_rest split) → HoldsAlong (split_by_steps finds) split (All (StandsIn text))
  rest_stands split stands [] last same = All-nil (StandsIn text)
  rest_stands split stands (part ∷ given) last yields =
      let steps : split_by_steps finds split (Some part) yields.0 = yields.1 in
      let both =
      holds_of_first (StandsAt text) (stands_passes text) steps.1.1.0 part (split_rest yields.0) _ steps.1.1.2.cut (subst RestStands steps.1.1.1 stands) in
      All-cons (StandsIn text) part given both.0 (rest_stands yields.0 both.1 given last yields.2)

  -- all that calls give are the parts of what is left to be split
  parts_of_rest : (split last end : SplitBy P) (given : List View) → split_pattern split ≡ pattern → Yields (split_by_steps finds) split given last
      → split_by_steps finds last None end → IsRestAt (split_begun split) (split_rest split) given
  parts_of_rest split last end [] searches same ends =
      let none : split_rest split ≡ None = ap split_rest same ∙ ends.1.0 in
      subst (λ (r : Option View). IsRestAt (split_begun split) r []) (sym none) refl
  parts_of_rest split last end (part ∷ given) searches yields ends =
      let steps : split_by_steps finds split (Some part) yields.0 = yields.1 in
      let own : IsFirstPart (finds pattern) (split_begun split) steps.1.1.0 part (split_rest yields.0) =
      subst (λ (p : P). IsFirstPart (finds p) (split_begun split) steps.1.1.0 part (split_rest yields.0)) searches steps.1.1.2 in
      let behind : IsRestAt true (split_rest yields.0) given =
      subst (λ (b : Bool). IsRestAt b (split_rest yields.0) given) steps.1.0 (parts_of_rest yields.0 last end given (steps.0 ∙ searches) yields.2 ends) in
      subst (λ (r : Option View). IsRestAt (split_begun split) r (part ∷ given)) (sym steps.1.1.1) (split_rest yields.0, own, behind)

  pub record SplitsAll (split : SplitBy P) : Type 0 where
    pub utf8 : IsUtf8 text
    pub rest : split_rest split ≡ Some (view_at text 0)
    pub begun : split_begun split ≡ false
    pub searches : split_pattern split ≡ pattern

  pub splits_all : (split : SplitBy P) (read : List ℕ) (whole : View) → IsUtf8 read → read ≡ text → whole ≡ view_at read 0 → split_rest split ≡ Some whole
      → split_begun split ≡ false → split_pattern split ≡ pattern → SplitsAll split
  splits_all split read whole utf8 own is rest begun searches = record {
    utf8 = subst IsUtf8 own utf8;
    rest = rest ∙ ap (λ (v : View). Some v) (is ∙ ap (λ (t : List ℕ). view_at t 0) own);
    begun = begun;
    searches = searches;
  }

  module _ (split : SplitBy P) (splits : SplitsAll split) where
    pub parts_stand : HoldsAlong (split_by_steps finds) split (All (StandsIn text))
    parts_stand = rest_stands split (subst RestStands (sym splits.rest) (stands_whole text splits.utf8))

    module _ (between : ℕ → ℕ → SubstrView) (Encloses : SubstrView → Type 0) (slices : List SubstrView)
        (show : ShowAll (split_by_steps finds) (Shows between Encloses) split slices) where
      whole_cut : AreParts (finds pattern) false (view_at text 0) show.given
      whole_cut =
          let parts : IsRestAt (split_begun split) (split_rest split) show.given =
          parts_of_rest split show.all.1.0 show.all.0 show.given splits.searches show.all.1.1 show.all.1.2 in
          subst (λ (b : Bool). AreParts (finds pattern) b (view_at text 0) show.given) splits.begun
          (subst (λ (r : Option View). IsRestAt (split_begun split) r show.given) splits.rest parts)

      texts : map text_of slices ≡ texts_of show.given
      texts = texts_shown between Encloses show.given slices show.each

      shown : slices ≡ slices_of between show.given
      shown = slices_shown between Encloses show.given slices show.each

      pub lists_all : AreSlicesOfParts (finds pattern) text between slices
      lists_all = record { parts = show.given; cut = whole_cut; shown = shown }

      pub lists_within : All Encloses slices
      lists_within = shown_within between Encloses show.given slices show.each

      pub lists_join : (wanted : List ℕ) → FindsOnly (finds pattern) wanted → join_by text_of wanted slices ≡ text
      lists_join wanted only =
          same_join slices show.given wanted texts ∙ joined_parts (finds pattern) wanted only false (view_at text 0) show.given whole_cut

      at_one : (c : ℕ) → FindsCharacter (finds pattern) c
          → (slices ≡ slices_of between (parts_at c (view_at text 0))) × (map text_of slices ≡ texts_between (λ d. d == c) text)
      at_one c at_c =
          let same = parts_at_character (finds pattern) c at_c false (view_at text 0) show.given splits.utf8 whole_cut in
          (shown ∙ ap (slices_of between) same, texts ∙ ap texts_of same ∙ texts_of_parts_at c (view_at text 0))

      pub lists_at_single : (single : Option ℕ) → IfSome single (λ c. FindsCharacter (finds pattern) c
          → (slices ≡ slices_of between (parts_at c (view_at text 0))) × (map text_of slices ≡ texts_between (λ d. d == c) text))
      lists_at_single None = tt
      lists_at_single (Some c) = at_one c
