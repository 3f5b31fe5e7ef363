-- The count words that a step finds and leaves, as numbers, and whether a right is a given one.
use Rattle.arcstr_block.proofs.Names.{◌≡◌, ℕ, ◌-◌, ◌^◌, true, refl, arith, lit<, false, sym, inl, inr, ◌≢◌, ap, ◌+◌, ◌<◌, if◌then◌else◌, eq-eqb, ne_eqb, ◌∙◌}
use Rattle.arcstr_block.proofs.Names.{◌==◌, ◌≤◌, ◌*◌, ◌/◌, ◌%◌, bit_or, ◌⊎◌, dite, ℕ_discrete, dec_le, cloned_of, is_last, marked_of, dropped_of, Right}
use Rattle.arcstr_block.proofs.Names.{Bool, right_index, right_at, right_at_index, word_of, IsMarked, IsClone, IsUnmarked}
use Rattle.std.specs.Int.Bits.{or_zero_r}
use Rattle.std.proofs.lemmas.Nat.{or_block}
use Rattle.std.proofs.lemmas.Bool.{lt-ltb, le-ltb}

-- ---- rights

pub is_right : (right other : Right) → Dec (right ≡ other)
is_right right other = by_index (ℕ_discrete (right_index right) (right_index other))
  where
    by_index : Dec (right_index right ≡ right_index other) → Dec (right ≡ other)
    by_index (yes e) = yes (sym (right_at_index right) ∙ ap right_at e ∙ right_at_index other)
    by_index (no ne) = no (λ e. ne (ap right_index e))

-- ---- count words

-- the word after a subtraction of one handle, as the processor computes it
abbrev pub one_less : ℕ → ℕ
one_less n = (n + (2 ^ 64 - 2)) % 2 ^ 64

-- a compare-exchange that expects the word old makes a clone at the word n
abbrev pub IsMarkedOr : ℕ → ℕ → Type 0
IsMarkedOr old n = IsMarked n ⊎ (n ≡ old)

or_one : (k r : ℕ) → r < 2 → bit_or r 1 ≡ 1 → bit_or (k * 2 + r) 1 ≡ k * 2 + 1
or_one k r small one = or_block 1 k 0 r 1 small (lit< tt) ∙ ap (λ x. x * 2 + bit_or r 1) (or_zero_r k) ∙ ap (λ x. k * 2 + x) one

pub or_unmarked : (n : ℕ) → IsUnmarked n → bit_or n 1 ≡ n + 1
or_unmarked n even = let is : n ≡ (n / 2) * 2 + 0 = omega arith in ap (λ x. bit_or x 1) is ∙ or_one (n / 2) 0 (lit< tt) refl ∙ omega arith

pub or_marked : (n : ℕ) → IsMarked n → bit_or n 1 ≡ n
or_marked n odd = let is : n ≡ (n / 2) * 2 + 1 = omega arith in ap (λ x. bit_or x 1) is ∙ or_one (n / 2) 1 (lit< tt) refl ∙ sym is

-- ---- the words that these numbers stand for
pub marked_word : (n : ℕ) → IsMarked n → word_of n ≡ record { flag = true; count = n / 2 }
marked_word n odd = ap (λ f. record { flag = f; count = n / 2 }) (eq-eqb (n % 2) 1 odd)

pub unmarked_word : (n : ℕ) → IsUnmarked n → word_of n ≡ record { flag = false; count = n / 2 }
unmarked_word n even = ap (λ f. record { flag = f; count = n / 2 }) (ne_eqb (n % 2) 1 (λ e. absurd (omega arith)))

pub odd_or_even : (n : ℕ) → IsMarked n ⊎ IsUnmarked n
odd_or_even n = dite (ℕ_discrete (n % 2) 1) (λ e. inl e) (λ ne. inr (omega arith))

-- a count word that a test does not find marked is unmarked
pub unmarked_by : (n : ℕ) (found : Bool) → found ≡ false → (IsMarked n → found ≡ true) → IsUnmarked n
unmarked_by n found fails test = elim (odd_or_even n) [
  | inl marked ↦ let both : false ≡ true = sym fails ∙ test marked in cc
  | inr even ↦ even
]

pub word_marked : (n : ℕ) → word_of (bit_or n 1) ≡ marked_of (word_of n)
word_marked n = elim (odd_or_even n) [
  | inl odd ↦ ap word_of (or_marked n odd) ∙ marked_word n odd
  | inr even ↦ ap word_of (or_unmarked n even) ∙ marked_word (n + 1) (omega arith) ∙ ap (λ k.
      record { flag = true; count = k }) (let same : (n + 1) / 2 ≡ n / 2 = omega arith in same)
]

pub word_kept : (L n : ℕ) → IsMarked n → word_of n ≡ cloned_of L (word_of n)
word_kept L n odd = marked_word n odd ∙ sym (ap (cloned_of L) (marked_word n odd))

-- a clone below the limit counts one more
cloned_below : (L old new : ℕ) → old / 2 ≤ L → IsUnmarked new → new / 2 ≡ old / 2 + 1 → word_of new ≡ cloned_of L (record { flag = false; count = old / 2 })
cloned_below L old new room even more =
    unmarked_word new even ∙ ap (λ c. record { flag = false; count = c }) more ∙ ap (λ b.
    if b then record { flag = true; count = old / 2 } else record { flag = false; count = old / 2 + 1 }) (sym (le-ltb L (old / 2) room))

-- a clone above the limit sets the static flag
cloned_above : (L old new : ℕ) → L < old / 2 → IsMarked new → new / 2 ≡ old / 2 → word_of new ≡ cloned_of L (record { flag = false; count = old / 2 })
cloned_above L old new above odd same =
    marked_word new odd ∙ ap (λ c. record { flag = true; count = c }) same ∙ ap (λ b.
    if b then record { flag = true; count = old / 2 } else record { flag = false; count = old / 2 + 1 }) (sym (lt-ltb L (old / 2) above))

cloned_even : (L old new : ℕ) → IsClone L old new → word_of new ≡ cloned_of L (record { flag = false; count = old / 2 })
cloned_even L old new asked = let even = asked.0 in dite (dec_le (old / 2) L)
    (λ room. let is : new ≡ old + 2 = asked.2 room in cloned_below L old new room (omega (arith, is, even)) (omega (arith, is)))
    (λ not_below. let above : L < old / 2 = omega (arith, not_below) in
    let is : new ≡ old + 1 = asked.1 above in cloned_above L old new above (omega (arith, is, even)) (omega (arith, is, even)))

pub word_cloned : (L old new : ℕ) → IsClone L old new → word_of new ≡ cloned_of L (word_of old)
word_cloned L old new asked = cloned_even L old new asked ∙ sym (ap (cloned_of L) (unmarked_word old asked.0))

pub word_dropped : (n : ℕ) → n < 2 ^ 64 → 0 < n / 2 → word_of ((n + (2 ^ 64 - 2)) % 2 ^ 64) ≡ dropped_of (word_of n)
word_dropped n fits some = let is : (n + (2 ^ 64 - 2)) % 2 ^ 64 ≡ n - 2 = omega (arith, fits, some) in
    ap word_of is ∙ ap (λ b. record { flag = b; count = (n - 2) / 2 }) (ap (λ m.
    m == 1) (let same : (n - 2) % 2 ≡ n % 2 = omega (arith, some) in same)) ∙ ap (λ k.
    record { flag = n % 2 == 1; count = k }) (let less : (n - 2) / 2 ≡ n / 2 - 1 = omega arith in less)

pub last_two : (n : ℕ) → n ≡ 2 → is_last (word_of n) ≡ true
last_two n e = ap (λ m. is_last (word_of m)) e

pub not_last : (n : ℕ) → n ≢ 2 → is_last (word_of n) ≡ false
not_last n ne = elim (odd_or_even n) [
  | inl odd ↦ ap is_last (marked_word n odd)
  | inr even ↦ ap is_last (unmarked_word n even) ∙ ne_eqb (n / 2) 1 (λ e. ne (omega (arith, e, even)))
]
