-- Texts that are copied one after another, and texts joined by a separator.
use Rattle.arcstr_block.proofs.Names.{◌≡◌, ℕ, [], ◌∷◌, refl, arith, List, sym, ap, length, zero, suc, ◌+◌, ◌<◌, ◌++◌, ◌∙◌, ◌≤◌, ◌*◌}
use Rattle.arcstr_block.proofs.Names.{length-append, get_or, take-append_seam, length-take-le, IsUtf8-append, repeat}
use Rattle.arcstr_block.proofs.Names.{join_by, flat_map, take, IsUtf8, subst, suc-mul, mul-le-mul_right}
use Rattle.std_alloc.proofs.Concat.{separated_first, separated_more, length-repeat, repeat_push, repeat-nil}

pub copies_room : (k n : ℕ) (text : List ℕ) → k < n → length (repeat k text) + length text ≤ n * length text
copies_room k n text below = omega (arith, length-repeat k text, suc-mul k (length text), mul-le-mul_right {m = suc k} {n = n} (length text) below)

pub ruleset copies = (copies_room, length-repeat, repeat_push, repeat-nil)

-- ---- joined texts

module _ {X : Type 0} (f : X → List ℕ) (sep : List ℕ) where
  -- the pieces after the first, each with its separator, get longer piece by piece
  rest_within : (xs : List X) (n : ℕ) → length (flat_map (λ y. sep ++ f y) (take n xs)) ≤ length (flat_map (λ y. sep ++ f y) xs)
  rest_within [] zero = omega arith
  rest_within [] (suc n) = omega arith
  rest_within (x ∷ xs) zero = omega arith
  rest_within (x ∷ xs) (suc n) =
      let part = λ (ys : List X). flat_map (λ y. sep ++ f y) ys in
      omega (arith, rest_within xs n, length-append (sep ++ f x) (part (take n xs)), length-append (sep ++ f x) (part xs))

  pub joined_within : (xs : List X) (n : ℕ) → length (join_by f sep (take n xs)) ≤ length (join_by f sep xs)
  joined_within [] zero = omega arith
  joined_within [] (suc n) = omega arith
  joined_within (x ∷ xs) zero = omega arith
  joined_within (x ∷ xs) (suc n) =
      let part = λ (ys : List X). flat_map (λ y. sep ++ f y) ys in
      omega (arith, rest_within xs n, length-append (f x) (part (take n xs)), length-append (f x) (part xs))

  -- one more text comes after what is joined, and the gap comes between the two
  pub joined_more : (xs : List X) (i : ℕ) (d : X) (gap : List ℕ) → i < length xs → (i ≡ 0 → gap ≡ []) → (0 < i → gap ≡ sep)
      → join_by f sep (take (i + 1) xs) ≡ (join_by f sep (take i xs) ++ gap) ++ f (get_or xs i d)
  joined_more xs zero d gap within first later =
      let none : join_by f sep (take 0 xs) ++ gap ≡ join_by f sep (take 0 xs) = ap (λ g. g) (first refl) in
      sym (ap (λ g. g ++ f (get_or xs 0 d)) none ∙ separated_first f sep xs 0 d (omega arith) within)
  joined_more xs (suc i) d gap within first later =
      sym (ap (λ g. (join_by f sep (take (suc i) xs) ++ g) ++ f (get_or xs (suc i) d)) (later (omega arith))
      ∙ separated_more f sep xs (suc i) d (omega arith) within)

  -- what is joined so far, the gap and the text are no longer than all that is joined
  pub joined_room : (xs : List X) (i : ℕ) (d : X) (gap : List ℕ) → i < length xs → (i ≡ 0 → gap ≡ []) → (0 < i → gap ≡ sep)
      → (length (join_by f sep (take i xs)) + length gap) + length (f (get_or xs i d)) ≤ length (join_by f sep xs)
  joined_room xs i d gap within first later =
      let prefix : List ℕ = join_by f sep (take i xs) in let last : List ℕ = f (get_or xs i d) in
      let more = ap length (joined_more xs i d gap within first later) in
      omega (arith, joined_within xs (i + 1), more, length-append (prefix ++ gap) last, length-append prefix gap)

pub ruleset joins = (joined_room, joined_more)

-- a text after a text is a text
pub two_texts : (xs ys zs : List ℕ) → zs ≡ xs ++ ys → IsUtf8 xs → IsUtf8 ys → IsUtf8 zs
two_texts xs ys zs e first second = subst IsUtf8 (sym e) (IsUtf8-append xs ys first second)

-- what was written behind the first n bytes comes after them
pub appended : (n : ℕ) (xs more rest items : List ℕ) → n ≤ length xs → items ≡ take n xs ++ more ++ rest
    → take (n + length more) items ≡ take n xs ++ more
appended n xs more rest items within made =
    let all : List ℕ = take n xs ++ more in
    let end : n + length more ≡ length all = omega (arith, length-append (take n xs) more, length-take-le n xs within) in
    ap (take (n + length more)) made ∙ ap (λ k. take k (all ++ rest)) end ∙ take-append_seam all rest
