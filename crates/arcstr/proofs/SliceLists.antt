-- Lists of the slices that views show: a loop over the views of any iterator, and the iterators that contracts see as lists of views.
use Rattle.std.proofs.Common.{◌≡◌, ◌≢◌, ℕ, All, Option, Some, List, [], ◌∷◌, ◌++◌, length, map, inl, inr, refl, sym, ap, subst, ◌∙◌, arith}
use Rattle.std.proofs.lemmas.List.{append-nil}
use Rattle.std.proofs.lemmas.List.Elements.{All-cons, All-head, All-nil, All-tail}
use Rattle.std.specs.Iterator.{Drains, HoldsAlong, Yields, YieldsFirst}
use Rattle.std.specs.List.{AllZip}
use Rattle.std.specs.Str.{IsCharBoundary}
use Rattle.arcstr_range.specs.Pieces.{AreFoundWith}
use Rattle.arcstr_range.specs.View.{IsFoundAt, StandsAt, View, view_at}
use Rattle.arcstr.specs.Slicing.{ShowAll, Shows, slices_of}
use Rattle.arcstr.specs.Substr.{SubstrView, text_of}

module _ {I V S : Type 0} (steps : I → Option V → I → Type 0) (Stands : V → Type 0) (Shows : V → S → Type 0) where
  -- the slices show the views so far, and the other views stand in the text
  pub record ShowSoFar (given : List V) (rest : I) (slices : List S) : Type 0 where
    pub each : AllZip Shows given slices
    pub stand : HoldsAlong steps rest (All Stands)

  zip_more : (given : List V) (slices : List S) (view : V) (slice : S) → AllZip Shows given slices → Shows view slice
      → AllZip Shows (given ++ view ∷ []) (slices ++ slice ∷ [])
  zip_more [] [] view slice each shows = (shows, tt)
  zip_more [] (other ∷ slices) view slice each shows = absurd each
  zip_more (other ∷ given) [] view slice each shows = absurd each
  zip_more (other ∷ given) (first ∷ slices) view slice each shows = (each.0, zip_more given slices view slice each.1 shows)

  module _ (rest new : I) (view : V) (gives : steps rest (Some view) new) (stand : HoldsAlong steps rest (All Stands)) where
    pub next_stands : Stands view
    next_stands = All-head Stands view [] (stand (view ∷ []) new (new, gives, refl))

    pub shows_more : (given : List V) (slices more : List S) (slice : S) → AllZip Shows given slices → Shows view slice → more ≡ slices ++ slice ∷ []
        → ShowSoFar (given ++ view ∷ []) new more
    shows_more given slices more slice each shows pushed = record {
      each = subst (AllZip Shows (given ++ view ∷ [])) (sym pushed) (zip_more given slices view slice each shows);
      stand = λ views last yields. All-tail Stands view views (stand (view ∷ views) last (new, gives, yields));
    }

-- where calls gave a view behind others, the first call gave a view too
pub gave_first : {I V : Type 0} (steps : I → Option V → I → Type 0) (rest new : I) (view : V) → steps rest (Some view) new → (all first : I)
    (given : List V) → first ≡ all → Yields steps first given rest → (other : V) × (behind : I) × steps all (Some other) behind
gave_first steps rest new view gives all first [] is same = (view, new, subst (λ (i : _). steps i (Some view) new) (sym same ∙ is) gives)
gave_first steps rest new view gives all first (other ∷ given) is yields = (other, yields.0, subst (λ (i : _). steps i (Some other) yields.0) is yields.1)

-- ---- an iterator that contracts see as the list of what it has left

abbrev firsts : {V : Type 0} → List V → Option V → List V → Type 0
firsts = YieldsFirst (λ views. views)

module _ {V : Type 0} where
  yields_prefix : (views given rest : List V) → Yields firsts views given rest → views ≡ given ++ rest
  yields_prefix views [] rest same = same
  yields_prefix views (view ∷ given) rest yields = yields.1 ∙ ap (λ (l : List V). view ∷ l) (yields_prefix yields.0 given rest yields.2)

  drains_all : (views given : List V) → Drains firsts views given → given ≡ views
  drains_all views given drains =
      sym (yields_prefix views given drains.1.0 drains.1.1 ∙ ap (λ (l : List V). given ++ l) drains.1.2.0 ∙ append-nil given)

  along_all : (Stands : V → Type 0) (views : List V) → All Stands views → HoldsAlong firsts views (All Stands)
  along_all Stands views all [] rest same = All-nil Stands
  along_all Stands views all (view ∷ given) rest yields =
      let own : All Stands (view ∷ yields.0) = subst (All Stands) yields.1 all in
      All-cons Stands view given (All-head Stands view yields.0 own)
      (along_all Stands yields.0 (All-tail Stands view yields.0 own) given rest yields.2)

  pub some_given : (shown : V → List ℕ) (views : List V) (texts : List (List ℕ)) → ((view : V) × (rest : List V) × (views ≡ view ∷ rest))
      → map shown views ≡ texts → texts ≢ []
  some_given shown views texts (view, rest, first) same none =
      let both : map shown (view ∷ rest) ≡ [] = ap (map shown) (sym first) ∙ same ∙ none in
      absurd (cc)

-- ---- slices that show views

module _ (between : ℕ → ℕ → SubstrView) (Encloses : SubstrView → Type 0) where
  abbrev ShowEach : List View → List SubstrView → Type 0
  ShowEach = AllZip (Shows between Encloses)

  pub slices_shown : (views : List View) (slices : List SubstrView) → ShowEach views slices → slices ≡ slices_of between views
  slices_shown [] [] each = refl
  slices_shown [] (slice ∷ slices) each = absurd each
  slices_shown (view ∷ views) [] each = absurd each
  slices_shown (view ∷ views) (slice ∷ slices) each = let first = each.0.there in let others = slices_shown views slices each.1 in cc

  pub texts_shown : (views : List View) (slices : List SubstrView) → ShowEach views slices → map text_of slices ≡ map (λ view. view.text) views
  texts_shown [] [] each = refl
  texts_shown [] (slice ∷ slices) each = absurd each
  texts_shown (view ∷ views) [] each = absurd each
  texts_shown (view ∷ views) (slice ∷ slices) each =
      ap (λ (t : List ℕ). t ∷ map text_of slices) each.0.same_text ∙ ap (λ (l : List (List ℕ)). view.text ∷ l) (texts_shown views slices each.1)

  pub shown_within : (views : List View) (slices : List SubstrView) → ShowEach views slices → All Encloses slices
  shown_within [] [] each = All-nil Encloses
  shown_within [] (slice ∷ slices) each = absurd each
  shown_within (view ∷ views) [] each = absurd each
  shown_within (view ∷ views) (slice ∷ slices) each = All-cons Encloses slice slices each.0.within (shown_within views slices each.1)

  module _ (views : List View) (slices : List SubstrView) (show : ShowAll firsts (Shows between Encloses) views slices) where
    pub all_slices : slices ≡ slices_of between views
    all_slices = slices_shown show.given slices show.each ∙ ap (slices_of between) (drains_all views show.given show.all)

    pub all_texts : map text_of slices ≡ map (λ view. view.text) views
    all_texts = texts_shown show.given slices show.each ∙ ap (map (λ (v : View). v.text)) (drains_all views show.given show.all)

    pub all_within : All Encloses slices
    all_within = shown_within show.given slices show.each

-- a whole text stands in itself
stands_in_itself : (text : List ℕ) → IsFoundAt text text 0 → StandsAt text text 0
unfolding IsFoundAt
stands_in_itself [] (inl empty) =
    let start : IsCharBoundary [] 0 = (omega arith, λ below lead. absurd (omega arith)) in
    record { lawful = record { in_order = omega arith; within = omega arith; at_boundaries = (start, start) }; same = refl }
stands_in_itself (x ∷ xs) (inl empty) = absurd (omega (arith, ap length empty))
stands_in_itself text (inr stands) = stands

-- the parts of a whole text stand in it
pub pieces_stand : (text : List ℕ) (whole : View) (views : List View) → whole ≡ view_at text 0 → IsFoundAt text whole.text whole.place
    → AreFoundWith whole views → HoldsAlong firsts views (All (λ view. StandsAt text view.text view.place))
pieces_stand text whole views is found parts =
    let stands : StandsAt text whole.text whole.place =
    subst (λ (v : View). StandsAt text v.text v.place) (sym is) (stands_in_itself text (subst (λ (v : View). IsFoundAt text v.text v.place) is found)) in
    along_all (λ view. StandsAt text view.text view.place) views (parts.standing text stands)

-- the functions whose proofs use this ruleset name it
pub ruleset slice_lists = (all_slices, all_texts, all_within, some_given, pieces_stand)
