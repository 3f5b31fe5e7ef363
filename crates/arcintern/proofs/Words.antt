-- What a new text does to the bytes of a word list.
use Rattle.std.proofs.Common.{◌≡◌, ℕ, ◌+◌, ◌-◌, ◌<◌, ◌≤◌, zero, suc, subst, List, [], ◌∷◌, ◌++◌, length, drop, get_or, refl, ap, arith, ◌⊎◌, inl, inr}
use Rattle.std.proofs.Common.{length-append}
use Rattle.std.proofs.lemmas.Bool.{cases_eq}
use Rattle.std.proofs.lemmas.List.{drop-append-le, get_or_append_left, get_or_default, length-drop, length-take-le, take-append-le, take_all}
use Rattle.std.proofs.lemmas.Str.{IsCharBoundary-at_seam, IsCharBoundary-end}
use Rattle.std.proofs.Math.Seq.{drop-append_seam}
use Rattle.std.proofs.lemmas.List.Quantifiers.{all_pairs_push}
use Rattle.std.proofs.lemmas.Option.{get_or_from_slice_get, slice_get-get_or, slice_get_within}
use Rattle.std.proofs.Math.Nat.{lt_of_not-le}
use Rattle.std.specs.Prelude.{◌≢◌, Contains, Some, slice_get, slice_index, slice_range}
use Rattle.std.specs.List.{concat}
use Rattle.std.specs.Str.{IsCharBoundary, IsUtf8}
use Rattle.arcintern.specs.declared.interner.TheConstants.{MOST_TEXTS}
use Rattle.arcintern.specs.declared.word_list.TheConstants.{MOST_BYTES}
use Rattle.arcintern.specs.Slots.{ArePlaced, IsPlaced, KeepsSlots, slot_of}
use Rattle.arcintern.specs.Words.{AreDistinct, AreEnds, IsFullFor, pieces}

-- a piece of some bytes is the same piece of longer ones
piece_stays : (bytes word : List ℕ) (start end : ℕ) → start ≤ end → end ≤ length bytes
    → slice_range (bytes ++ word) start end ≡ slice_range bytes start end
piece_stays bytes word start end ordered within =
    rw (drop-append-le start bytes word (omega (arith, ordered, within)))
    (take-append-le (end - start) (drop start bytes) word (omega (arith, ordered, within, length-drop start bytes)))

-- a character begins where one begins in the bytes before a text
boundary_stays : (bytes word : List ℕ) (at : ℕ) → IsUtf8 word → IsCharBoundary bytes at → IsCharBoundary (bytes ++ word) at
boundary_stays bytes word at text boundary = by (cases_eq at (length bytes))
  where
    by : (at ≡ length bytes) ⊎ (at ≡ length bytes → ⊥) → IsCharBoundary (bytes ++ word) at
    by (inl last) = rw last (IsCharBoundary-at_seam (bytes ++ word) bytes word refl text)
    by (inr other) =
        let within : at < length bytes = omega (arith, other, boundary.0) in
        (omega (arith, within, length-append bytes word), rw (get_or_append_left bytes word 0 at within) (λ _ high. boundary.1 within high))

pub as_many_pieces_as_ends : (bytes : List ℕ) (start : ℕ) (ends : List ℕ) → length (pieces bytes start ends) ≡ length ends
as_many_pieces_as_ends bytes start [] = refl
as_many_pieces_as_ends bytes start (end ∷ ends) = ap suc (as_many_pieces_as_ends bytes end ends)

-- each piece begins where the one before it ends
pub pieces_lie_between_ends : (bytes : List ℕ) (start : ℕ) (ends : List ℕ) (number : ℕ) → number < length ends
    → slice_get (pieces bytes start ends) number ≡ Some (slice_range bytes (slice_index (start ∷ ends) number) (slice_index ends number))
pieces_lie_between_ends bytes start [] number within = absurd (omega (arith, within))
pieces_lie_between_ends bytes start (end ∷ ends) zero within = refl
pieces_lie_between_ends bytes start (end ∷ ends) (suc number) within = pieces_lie_between_ends bytes end ends number (omega (arith, within))

-- and ends at a character or at the end of the bytes, and not before it begins
pub ends_are_boundaries : (bytes : List ℕ) (start : ℕ) (ends : List ℕ) (number : ℕ) → AreEnds bytes start ends → number < length ends
    → (slice_index (start ∷ ends) number ≤ slice_index ends number) × IsCharBoundary bytes (slice_index ends number)
ends_are_boundaries bytes start [] number are within = absurd (omega (arith, within))
ends_are_boundaries bytes start (end ∷ ends) zero are within = (are.0, are.1)
ends_are_boundaries bytes start (end ∷ ends) (suc number) are within = ends_are_boundaries bytes end ends number are.2 (omega (arith, within))

-- the texts with one more at the end
pub pieces_with_one_more : (bytes word : List ℕ) (start : ℕ) (ends : List ℕ) → AreEnds bytes start ends
    → pieces (bytes ++ word) start (ends ++ (length bytes + length word) ∷ []) ≡ pieces bytes start ends ++ word ∷ []
pieces_with_one_more bytes word start [] are =
    rw (are, drop-append_seam bytes word) (ap (λ piece. piece ∷ []) (take_all (length bytes + length word - length bytes) word (omega arith)))
pieces_with_one_more bytes word start (end ∷ ends) are =
    rw (piece_stays bytes word start end are.0 are.1.0, pieces_with_one_more bytes word end ends are.2) refl

-- and their ends
pub ends_with_one_more : (bytes word : List ℕ) (start : ℕ) (ends : List ℕ) → IsUtf8 word → AreEnds bytes start ends
    → AreEnds (bytes ++ word) start (ends ++ (length bytes + length word) ∷ [])
ends_with_one_more bytes word start [] text are =
    rw (← length-append bytes word) (omega (arith, are, length-append bytes word), IsCharBoundary-end (bytes ++ word), refl)
ends_with_one_more bytes word start (end ∷ ends) text are =
    (are.0, boundary_stays bytes word end text are.1, ends_with_one_more bytes word end ends text are.2)

-- the texts have all bytes from `start` on
pub pieces_have_all_bytes : (bytes : List ℕ) (start : ℕ) (ends : List ℕ) → AreEnds bytes start ends
    → length (concat (pieces bytes start ends)) + start ≡ length bytes
pieces_have_all_bytes bytes start [] are = omega (arith, are)
pieces_have_all_bytes bytes start (end ∷ ends) are =
    omega (
      arith,
      are.0,
      are.1.0,
      pieces_have_all_bytes bytes end ends are.2,
      length-append (slice_range bytes start end) (concat (pieces bytes end ends)),
      length-take-le (end - start) (drop start bytes) (omega (arith, are.0, are.1.0, length-drop start bytes)),
    )

-- each piece begins at 0 or at a character
pub starts_are_boundaries : (bytes : List ℕ) (ends : List ℕ) (number : ℕ) → AreEnds bytes 0 ends → number < length ends
    → 0 < slice_index (0 ∷ ends) number → IsCharBoundary bytes (slice_index (0 ∷ ends) number)
starts_are_boundaries bytes ends zero are within some = absurd (omega (arith, some))
starts_are_boundaries bytes ends (suc number) are within some = (ends_are_boundaries bytes 0 ends number are (omega (arith, within))).1

-- how many texts and how many bytes there are
pub sizes_of_texts : (bytes ends : List ℕ) (texts : List (List ℕ)) → AreEnds bytes 0 ends → pieces bytes 0 ends ≡ texts
    → (length texts ≡ length ends) × (length (concat texts) ≡ length bytes)
sizes_of_texts bytes ends texts are same =
    rw (← same) (as_many_pieces_as_ends bytes 0 ends, omega (arith, pieces_have_all_bytes bytes 0 ends are))

-- one more text has a number, and its bytes fit, unless the list is full for it
pub room_of_texts : (bytes ends : List ℕ) (texts : List (List ℕ)) (word : List ℕ) → AreEnds bytes 0 ends → pieces bytes 0 ends ≡ texts
    → ¬ IsFullFor texts word → (length ends < MOST_TEXTS) × (length bytes + length word ≤ MOST_BYTES)
room_of_texts bytes ends texts word are same room =
    let sizes = sizes_of_texts bytes ends texts are same in
    let numbers : length texts < MOST_TEXTS = lt_of_not-le (λ full. room (inl full)) in
    let fits : length (concat texts) + length word < MOST_BYTES + 1 = lt_of_not-le (λ over. room (inr (omega (arith, over)))) in
    (omega (arith, numbers, sizes.0), omega (arith, fits, sizes.1))

-- a text that has a number is there
pub numbered_text_is_there : (texts : List (List ℕ)) (number : ℕ) (word : List ℕ) → slice_get texts number ≡ Some word → Contains texts word
numbered_text_is_there texts number word found = (number, slice_get_within texts number word found, get_or_from_slice_get texts number word word found)

-- a word is absent if no number under its half has it
pub word_is_absent : (slots : List ℕ) (mask half : ℕ) (half_of : List ℕ → ℕ) (texts : List (List ℕ)) (word : List ℕ) → half_of word ≡ half
    → ArePlaced slots mask half_of [] texts
    → ((number : ℕ) → number < length texts → IsPlaced slots mask (slot_of half number) → slice_get texts number ≢ Some word)
    → ¬ Contains texts word
word_is_absent slots mask half half_of texts word is_half all absent there =
    let number = there.0 in
    let default : get_or texts number [] ≡ get_or texts number word = get_or_default texts number [] word there.1 in
    let found : slice_get texts number ≡ Some word = rw (slice_get-get_or texts number word there.1, there.2) refl in
    let placed : IsPlaced slots mask (slot_of half number) =
    subst (λ index. IsPlaced slots mask (slot_of index number)) is_half
    (subst (λ text. IsPlaced slots mask (slot_of (half_of text) number)) (rw (default, there.2) refl) (all number there.1)) in
    absent number there.1 placed found

-- no two of the texts are the same, if the new one is not there
pub texts_stay_distinct : (texts : List (List ℕ)) (word : List ℕ) → ¬ Contains texts word → AreDistinct texts → AreDistinct (texts ++ word ∷ [])
texts_stay_distinct texts word absent once =
    all_pairs_push (λ one other. one ≡ other → ⊥) texts word once
    (λ k d within same. absent (k, within, rw (get_or_default texts k word d within) same))

-- the numbers stay placed, if their slots do
pub texts_stay_placed : (old new : List ℕ) (old_mask new_mask : ℕ) (half_of : List ℕ → ℕ) (texts : List (List ℕ))
    → KeepsSlots old old_mask new new_mask
    → ArePlaced old old_mask half_of [] texts → ArePlaced new new_mask half_of [] texts
texts_stay_placed old new old_mask new_mask half_of texts kept all number less = kept _ (omega arith) (all number less)

-- the new text has the next number
pub word_has_last_number : (texts : List (List ℕ)) (word : List ℕ) → slice_get (texts ++ word ∷ []) (length texts) ≡ Some word
word_has_last_number [] word = refl
word_has_last_number (first ∷ texts) word = word_has_last_number texts word
