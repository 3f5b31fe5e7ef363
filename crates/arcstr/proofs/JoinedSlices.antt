-- Slices that join, with a separator between each two, to a text: what a loop keeps that splits a rest again and again.
use Rattle.std.proofs.Common.{◌≡◌, ℕ, List, [], ◌∷◌, ◌++◌, sym, ap, ◌∙◌, append_assoc}
use Rattle.std.specs.List.{flat_map, join_by}
use Rattle.std.proofs.lemmas.List.{append-nil}

module _ {X : Type 0} (text : X → List ℕ) (wanted : List ℕ) where
  tail_split : (pieces : List X) (before after rest : X) → text before ++ (wanted ++ text after) ≡ text rest
      → flat_map (λ (p : X). wanted ++ text p) (pieces ++ before ∷ after ∷ []) ≡ flat_map (λ (p : X). wanted ++ text p) (pieces ++ rest ∷ [])
  tail_split [] before after rest split =
      append_assoc wanted (text before) ((wanted ++ text after) ++ [])
      ∙ ap (λ (l : List ℕ). wanted ++ (text before ++ l)) (append-nil (wanted ++ text after))
      ∙ ap (λ (l : List ℕ). wanted ++ l) split ∙ sym (append-nil (wanted ++ text rest))
  tail_split (piece ∷ pieces) before after rest split =
      ap (λ (l : List ℕ). (wanted ++ text piece) ++ l) (tail_split pieces before after rest split)

  split_last : (pieces : List X) (before after rest : X) → text before ++ (wanted ++ text after) ≡ text rest
      → join_by text wanted (pieces ++ before ∷ after ∷ []) ≡ join_by text wanted (pieces ++ rest ∷ [])
  split_last [] before after rest split =
      ap (λ (l : List ℕ). text before ++ l) (append-nil (wanted ++ text after)) ∙ split ∙ sym (append-nil (text rest))
  split_last (piece ∷ pieces) before after rest split = ap (λ (l : List ℕ). text piece ++ l) (tail_split pieces before after rest split)

  -- if the pieces and a rest join to a whole, so do the pieces, what a split leaves before a separator, and what it leaves after it
  pub joined_split : (pieces more : List X) (before after rest : X) (whole : List ℕ) → join_by text wanted (pieces ++ rest ∷ []) ≡ whole
      → text before ++ wanted ++ text after ≡ text rest → more ≡ pieces ++ before ∷ [] → join_by text wanted (more ++ after ∷ []) ≡ whole
  joined_split pieces more before after rest whole joined split pushed =
      ap (λ (l : List X). join_by text wanted (l ++ after ∷ [])) pushed
      ∙ ap (join_by text wanted) (append_assoc pieces (before ∷ []) (after ∷ []))
      ∙ split_last pieces before after rest (sym (append_assoc (text before) wanted (text after)) ∙ split) ∙ joined
