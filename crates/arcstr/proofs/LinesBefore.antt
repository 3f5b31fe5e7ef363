-- A loop over the lines of a text, up to its last one.
use Rattle.std.proofs.Common.{◌≡◌, ℕ, ◌+◌, ◌⊎◌, inl, inr, List, [], ◌∷◌, ◌++◌, length, length-append, append_assoc, refl, sym, ap, ◌∙◌, arith}
use Rattle.std.proofs.lemmas.List.{length-map}
use Rattle.std.proofs.lemmas.List.Splits.{length-slice_split}
use Rattle.std.specs.Char.{is_newline}
use Rattle.std.specs.Prelude.{encode_utf8_all}
use Rattle.std.specs.List.{slice_split}
use Rattle.std.specs.Str.{chars}
use Rattle.arcstr_range.specs.Pieces.{texts_between}
use Rattle.arcstr.specs.LineAndColumn.{EndsAt}
use Rattle.arcstr.specs.declared.line_and_column.LineAndColumn.{LineAndColumn}

-- so many lines have been passed, `own` is the last of them, and `rest` follows
pub record Passed (lines : List (List ℕ)) (line : ℕ) (own : List ℕ) (rest : List (List ℕ)) : Type 0 where
  pub how : ((line ≡ 0) × (lines ≡ rest)) ⊎ ((earlier : List (List ℕ)) × (line ≡ length earlier + 1) × (lines ≡ earlier ++ own ∷ rest))

pub none_yet : (lines : List (List ℕ)) (own : List ℕ) (rest : List (List ℕ)) → lines ≡ rest → Passed lines 0 own rest
none_yet lines own rest is = record { how = inl (refl, is) }

pub one_more : (lines : List (List ℕ)) (line : ℕ) (own next : List ℕ) (before rest : List (List ℕ)) → before ≡ next ∷ rest → Passed lines line own before
    → Passed lines (line + 1) next rest
one_more lines line own next before rest is passed = record { how = inr (by passed.how) }
  where
    by : ((line ≡ 0) × (lines ≡ before)) ⊎ ((earlier : List (List ℕ)) × (line ≡ length earlier + 1) × (lines ≡ earlier ++ own ∷ before))
        → (earlier : List (List ℕ)) × (line + 1 ≡ length earlier + 1) × (lines ≡ earlier ++ next ∷ rest)
    by (inl start) = ([], omega (arith, start.0), start.1 ∙ is)
    by (inr more) = (
      more.0 ++ own ∷ [],
      omega (arith, more.1, length-append more.0 (own ∷ [])),
      more.2 ∙ ap (λ (l : List (List ℕ)). more.0 ++ own ∷ l) is ∙ sym (append_assoc more.0 (own ∷ []) (next ∷ rest)),
    )

some_line : (before : List ℕ) → length (texts_between is_newline before) ≡ 0 → ⊥
unfolding texts_between
some_line before none =
    omega (arith, none, length-map (slice_split is_newline (chars before)) encode_utf8_all, length-slice_split is_newline (chars before))

-- at the end the last line is that of the place behind the text
pub all_passed : (before own : List ℕ) (rest : List (List ℕ)) (place : LineAndColumn) → rest ≡ [] → place.column ≡ length (chars own) + 1
    → Passed (texts_between is_newline before) place.line own rest → EndsAt before place
all_passed before own rest place none column passed = by passed.how
  where
    by : ((place.line ≡ 0) × (texts_between is_newline before ≡ rest)) ⊎ ((earlier : List (List ℕ)) × (place.line ≡ length earlier + 1)
        × (texts_between is_newline before ≡ earlier ++ own ∷ rest)) → EndsAt before place
    by (inl start) = absurd (some_line before (ap length (start.1 ∙ none)))
    by (inr more) = record {
      earlier = more.0;
      own = own;
      lines = more.2 ∙ ap (λ (l : List (List ℕ)). more.0 ++ own ∷ l) none;
      line = more.1;
      column = column;
    }
