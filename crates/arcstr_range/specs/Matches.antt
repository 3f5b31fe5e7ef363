-- The parts of a view between the matches of a pattern. `finds` relates a text to what a search for the pattern in it may find: where the first match begins
-- and ends.
use Rattle.std.specs.Prelude.{◌≡◌, ℕ, ◌+◌, ◌≤◌, ◌==◌, Bool, true, cond, ◌&&◌, Option, None, Some, List, [], ◌∷◌, length, MatchOption}
use Rattle.std.specs.Char.{len_utf8}
use Rattle.std.specs.Str.{chars}
use Rattle.std.specs.Str.Pattern.{HasTextAt}
use Rattle.arcstr_range.specs.declared.view.split_by.SplitBy.{SplitBy}
use Rattle.arcstr_range.specs.Ends.{IsLawful}
use Rattle.arcstr_range.specs.View.{View, part_of}

-- the empty match behind the first character
abbrev pub behind_first : List ℕ → Option (ℕ × ℕ)
behind_first [] = None
behind_first (c ∷ cs) = Some (len_utf8 c, len_utf8 c)

-- the match that a split takes for what a search finds in the rest of a text, given the rest's characters. Behind an earlier match, an empty match at the start
-- gives way to the one behind the first character, so that an empty pattern parts all characters
abbrev pub match_taken : Bool → List ℕ → Option (ℕ × ℕ) → Option (ℕ × ℕ)
match_taken begun characters None = None
match_taken begun characters (Some found) = cond (begun && (found.1 == 0)) (behind_first characters) (Some found)

-- the part is what the view has before the match, and the rest what it has behind it
pub record IsCutAtMatch (view first : View) (rest : Option View) (place : ℕ × ℕ) : Type 0 where
  pub in_order : place.0 ≤ place.1
  pub before : IsLawful view.text 0 place.0
  pub behind : IsLawful view.text place.1 (length view.text)
  pub part : first ≡ part_of view 0 place.0
  pub others : rest ≡ Some (part_of view place.1 (length view.text))

-- the first part of a view ends where the match begins, and the rest lies behind the match; without a match, the part is the whole view
abbrev pub IsFirstCut : View → View → Option View → Option (ℕ × ℕ) → Type 0
IsFirstCut view first rest taken = MatchOption taken ((first ≡ view) × (rest ≡ None)) (IsCutAtMatch view first rest)

module _ (finds : List ℕ → Option (ℕ × ℕ) → Type 0) where
  -- the first part of a view, for the first match that a search finds
  pub record IsFirstPart (begun : Bool) (view part : View) (rest : Option View) : Type 0 where
    pub found : Option (ℕ × ℕ)
    pub search : finds view.text found
    pub cut : IsFirstCut view part rest (match_taken begun (chars view.text) found)

  -- the parts of a view between the matches, in order
  abbrev pub AreParts : Bool → View → List View → Type 0
  AreParts begun view [] = ⊥
  AreParts begun view (part ∷ parts) = (rest : Option View) × IsFirstPart begun view part rest
      × MatchOption rest (parts ≡ []) (λ behind. AreParts true behind parts)

  -- each match that a search finds has these bytes
  abbrev pub FindsOnly : List ℕ → Type 0
  FindsOnly wanted = (text : List ℕ) (start end : ℕ) → finds text (Some (start, end)) → HasTextAt wanted text start end

-- ---- the iterator over the parts

-- the view that is still to be split, and whether a part came before it
abbrev pub split_rest : {P : Type 0} → SplitBy P → Option View
split_rest parts = parts.rest

abbrev pub split_begun : {P : Type 0} → SplitBy P → Bool
split_begun parts = parts.begun

abbrev pub split_pattern : {P : Type 0} → SplitBy P → P
split_pattern parts = parts.pattern

-- at most so many parts are still to come
abbrev pub most_parts : Option View → Bool → ℕ
most_parts None begun = 0
most_parts (Some view) begun = length view.text + cond begun 1 2

abbrev pub split_most : {P : Type 0} → SplitBy P → ℕ
split_most parts = most_parts parts.rest parts.begun

module _ {P : Type 0} (finds : P → List ℕ → Option (ℕ × ℕ) → Type 0) where
  -- a call of `next` takes the first part off the view
  abbrev pub split_by_steps : SplitBy P → Option View → SplitBy P → Type 0
  split_by_steps old answer new = (new.pattern ≡ old.pattern) × MatchOption answer ((old.rest ≡ None) × (new.rest ≡ None))
      (λ part. (new.begun ≡ true) × ((view : View) × (old.rest ≡ Some view) × IsFirstPart (finds old.pattern) old.begun view part new.rest))
