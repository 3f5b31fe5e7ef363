-- What a new text does to the texts, and to the table of their numbers.
use Rattle.std.proofs.Common.{◌≡◌, ℕ, ◌<◌, zero, suc, List, [], ◌∷◌, ◌++◌, length, get_or, refl, sym, subst, arith, ◌⊎◌, inl, inr}
use Rattle.std.proofs.lemmas.Bool.{cases_eq}
use Rattle.std.proofs.lemmas.List.{get_or_append_left, get_or_at, get_or_default, length_push}
use Rattle.std.proofs.lemmas.List.Quantifiers.{all_pairs_push}
use Rattle.arcstr.specs.TextView.{TextView, literal_of}
use Rattle.arcintern.specs.Slots.{ArePlaced, AreTextsPlaced, IsPlaced, KeepsSlots, slot_of}
use Rattle.arcintern.specs.Texts.{HasEachOnce, HasWord, IsWordAt, KeepsTexts}

-- no two of the texts spell the same word, if the new one's word is new
pub once-push : (texts : List TextView) (text : TextView) → ¬ HasWord texts text.text → HasEachOnce texts → HasEachOnce (texts ++ text ∷ [])
once-push texts text absent once =
    all_pairs_push (λ one other. one.text ≡ other.text → ⊥) texts text once
    (λ k d within same. absent (k, get_or texts k d, within, get_or_default texts k _ d within, same))

-- each number is placed, if the old ones stay and the new one is placed
pub ArePlaced-push : {X : Type 0} (old new : List ℕ) (old_mask new_mask : ℕ) (half : X → ℕ) (empty : X) (texts : List X) (text : X)
    → KeepsSlots old old_mask new new_mask
    → IsPlaced new new_mask (slot_of (half text) (length texts))
    → ArePlaced old old_mask half empty texts → ArePlaced new new_mask half empty (texts ++ text ∷ [])
ArePlaced-push {X} old new old_mask new_mask half empty texts text kept placed all = λ number less. by number less (cases_eq number (length texts))
  where
    by : (number : ℕ) → number < length (texts ++ text ∷ []) → (number ≡ length texts) ⊎ (number ≡ length texts → ⊥)
        → IsPlaced new new_mask (slot_of (half (get_or (texts ++ text ∷ []) number empty)) number)
    by number less (inl last) =
        rw (get_or_at texts text [] empty number (sym last)) (subst (λ index. IsPlaced new new_mask (slot_of (half text) index)) (sym last) placed)
    by number less (inr other) =
        let within : number < length texts = omega (arith, less, other, length_push texts text) in
        rw (get_or_append_left texts (text ∷ []) empty number within) (kept _ (omega arith) (all number within))

-- the numbers stay placed, if their slots do
pub AreTextsPlaced-kept : (old new : List ℕ) (old_mask new_mask : ℕ) (half : List ℕ → ℕ) (texts : List TextView)
    → KeepsSlots old old_mask new new_mask
    → AreTextsPlaced old old_mask half texts → AreTextsPlaced new new_mask half texts
unfolding AreTextsPlaced
AreTextsPlaced-kept old new old_mask new_mask half texts kept all = λ number less. kept _ (omega arith) (all number less)

-- and with one more text, if that is placed too
pub AreTextsPlaced-push : (old new : List ℕ) (old_mask new_mask : ℕ) (half : List ℕ → ℕ) (texts : List TextView) (text : TextView)
    → KeepsSlots old old_mask new new_mask
    → IsPlaced new new_mask (slot_of (half text.text) (length texts))
    → AreTextsPlaced old old_mask half texts → AreTextsPlaced new new_mask half (texts ++ text ∷ [])
unfolding AreTextsPlaced
AreTextsPlaced-push old new old_mask new_mask half texts text kept placed all =
    ArePlaced-push old new old_mask new_mask (λ (one : TextView). half one.text) (literal_of []) texts text kept placed all

-- each old text is still at its index
pub KeepsTexts-push : {X : Type 0} (texts : List X) (text : X) → KeepsTexts texts (texts ++ text ∷ [])
KeepsTexts-push [] text index within = absurd (omega (arith, within))
KeepsTexts-push (first ∷ texts) text zero within = refl
KeepsTexts-push (first ∷ texts) text (suc index) within = KeepsTexts-push texts text index (omega (arith, within))

-- and the new one spells its word at the end
pub IsWordAt-push : (texts : List TextView) (text : TextView) → IsWordAt (texts ++ text ∷ []) (length texts) text.text
IsWordAt-push [] text = refl
IsWordAt-push (first ∷ texts) text = IsWordAt-push texts text
