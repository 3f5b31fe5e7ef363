-- The exponent of the greatest power of two up to a number, and what is so of it in the list of a shared interner.
use Rattle.std.proofs.Common.{◌≡◌, ℕ, zero, suc, ◌+◌, ◌-◌, ◌*◌, ◌/◌, ◌%◌, ◌^◌, ◌<◌, ◌≤◌, refl, ap, sym, subst, ◌∙◌, ◌⊎◌, inl, inr, arith}
use Rattle.std.proofs.Common.{pow_mono, pow_pos, pow-add, lt_of_not-le, le-div_iff_mul-le, div-lt_iff_lt-mul, mod-lt, mul_assoc, mul_comm}
use Rattle.std.proofs.Math.Nat.{div-add-mod}
use Rattle.std.proofs.lemmas.Bool.{cases_lt, cond_above, cond_below}
use Rattle.arcintern.specs.TextList.{IsAt, row_of, span, top_of}

double : (top : ℕ) → 2 ^ suc top ≡ 2 * 2 ^ top
double top = let e : suc top ≡ 1 + top = omega arith in ap (λ (k : ℕ). 2 ^ k) e ∙ pow-add 2 1 top

-- this power of two is at most the number, and twice it is more
abbrev pub IsTopOf : ℕ → ℕ → Type 0
IsTopOf number top = (2 ^ top ≤ number) × (number < 2 * 2 ^ top)

is_top : (bits number : ℕ) → 1 ≤ number → number < 2 * 2 ^ bits → IsTopOf number (top_of bits number)
unfolding top_of
is_top zero number some few = (some, few)
is_top (suc bits) number some few =
    by (λ (more : 2 ≤ number). let d = double bits in is_top bits (number / 2) (omega arith) (omega arith)) (cases_lt number 2)
  where
    by : (2 ≤ number → IsTopOf (number / 2) (top_of bits (number / 2))) → (number < 2) ⊎ (2 ≤ number) → IsTopOf number (top_of (suc bits) number)
    by half (inl less) = subst (IsTopOf number) (cond_below number 2 0 (suc (top_of bits (number / 2))) less) (some, less)
    by half (inr more) = let top = top_of bits (number / 2) in let d = double top in let low = (half more).0 in let high = (half more).1 in
        subst (IsTopOf number) (cond_above number 2 0 (suc top) (suc top) more refl) (omega arith, omega arith)

no_less : (number top other : ℕ) → IsTopOf number top → IsTopOf number other → other < suc top
no_less number top other one two = lt_of_not-le (λ (less : suc top ≤ other).
    let p : 2 ^ suc top ≤ 2 ^ other = pow_mono less in let d = double top in let a = one.1 in let b = two.0 in omega arith)

module _ (number : ℕ) (few : number < 4294967295) where
  pub found : (top : ℕ) → IsTopOf (number + 32) top → top ≡ top_of 32 (number + 32)
  found top is = let lies = is_top 32 (number + 32) (omega arith) (omega arith) in let a = no_less (number + 32) top (top_of 32 (number + 32)) is lies in
      let b = no_less (number + 32) (top_of 32 (number + 32)) top lies is in omega arith

module _ (number top : ℕ) (is : IsTopOf (number + 32) top) where
  pub top_above : 5 ≤ top
  top_above = let high = is.1 in lt_of_not-le (λ (le : top ≤ 4). let p : 2 ^ top ≤ 16 = pow_mono le in omega arith)

  pub eighth_above : 8 ≤ (number + 32) * 8 / 2 ^ top
  eighth_above = let low = is.0 in (le-div_iff_mul-le {k = 2 ^ top} {x = 8} {y = (number + 32) * 8} (pow_pos top)).1 (omega arith)

  pub eighth_below : (number + 32) * 8 / 2 ^ top < 16
  eighth_below = let high = is.1 in (div-lt_iff_lt-mul {k = 2 ^ top} {x = (number + 32) * 8} {y = 16} (pow_pos top)).1 (omega arith)

  pub top_below : number < 4294967295 → top < 33
  top_below few = let low = is.0 in lt_of_not-le (λ (le : 33 ≤ top). let p : 8589934592 ≤ 2 ^ top = pow_mono le in omega arith)

  eight : 2 ^ top ≡ 8 * 2 ^ (top - 3)
  eight = let a = top_above in let e : 3 + (top - 3) ≡ top = omega arith in sym (ap (λ (k : ℕ). 2 ^ k) e) ∙ pow-add 2 3 (top - 3)

  -- the row and the column by this exponent are where the number lies
  pub lies : IsAt number ((top - 5) * 8 + ((number + 32) * 8 / 2 ^ top - 8)) ((number + 32) * 8 % 2 ^ top / 8)
  lies = let q = (number + 32) * 8 / 2 ^ top in let r = (number + 32) * 8 % 2 ^ top in let m = 2 ^ (top - 3) in let row = (top - 5) * 8 + (q - 8) in
      let a = top_above in let b = eighth_above in let c = eighth_below in let less : r < 2 ^ top = mod-lt ((number + 32) * 8) (pow_pos top) in
      let whole : 2 ^ top * q + r ≡ (number + 32) * 8 = div-add-mod ((number + 32) * 8) (2 ^ top) in
      let part : 2 ^ top * q ≡ 8 * (m * q) = ap (λ (k : ℕ). k * q) eight ∙ mul_assoc 8 m q in let swap = mul_comm q m in let twice = eight in
      let e : row / 8 + 2 ≡ top - 3 = omega arith in let is : span row ≡ m = ap (λ (k : ℕ). 2 ^ k) e in let s : 8 + row % 8 ≡ q = omega arith in (
        subst (λ (k : ℕ). r / 8 < k) (sym is) (omega arith),
        ap (λ (k : ℕ). k * span row + r / 8) s ∙ ap (λ (k : ℕ). q * k + r / 8) is ∙ omega arith,
      )

-- the exponent of a number plus 32, by its row
pub top_of_row : (number : ℕ) → number < 4294967295 → row_of number / 8 + 5 ≡ top_of 32 (number + 32)
unfolding row_of
top_of_row number few = let top = top_of 32 (number + 32) in let is : IsTopOf (number + 32) top = is_top 32 (number + 32) (omega arith) (omega arith) in
    let a = top_above number top is in let b = eighth_above number top is in let c = eighth_below number top is in omega arith

-- a row is one of the rows
pub below_rows : (number : ℕ) → number < 4294967295 → row_of number < 224
unfolding row_of
below_rows number few = let top = top_of 32 (number + 32) in let is : IsTopOf (number + 32) top = is_top 32 (number + 32) (omega arith) (omega arith) in
    let a = top_above number top is in let b = eighth_above number top is in let c = eighth_below number top is in
    let d = top_below number top is few in omega arith
