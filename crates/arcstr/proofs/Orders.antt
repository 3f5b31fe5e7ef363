-- The order of texts: what the comparison of two texts by their bytes says of them.
use Rattle.std.proofs.Common.{◌≡◌, ℕ, List, [], ◌∷◌, ◌++◌, ◌<◌, inl, inr, refl, sym, ap, ◌∙◌, arith}
use Rattle.std.specs.declared.cmp.Ordering.{Ordering}
use Rattle.std.specs.declared.cmp.Ordering.TheVariants.{Less, Equal, Greater}
use Rattle.std.specs.Cmp.{nat_cmp_total}
use Rattle.std.specs.Cmp.Lexicographic.{slice_cmp}
use Rattle.std.specs.Ordering.{nat_cmp, ordering_then, ordering_reverse, MatchOrdering}
use Rattle.std.proofs.lemmas.Cmp.{nat_list_cmp_total, ranked, tied_itself}
use Rattle.arcstr.specs.TextOrder.{ComesBefore, IsTextOrder}

-- one more byte at the start of both texts
ComesBefore-cons : (x y : ℕ) (xs ys : List ℕ) → x ≡ y → ComesBefore xs ys → ComesBefore (x ∷ xs) (y ∷ ys)
ComesBefore-cons x y xs ys same (inl (next, rest, is)) = inl (next, rest, cc)
ComesBefore-cons x y xs ys same (inr (prefix, after)) = inr (
  x ∷ prefix,
  record {
    low = after.low;
    high = after.high;
    lows = after.lows;
    highs = after.highs;
    below = after.below;
    one_is = ap (λ (l : List ℕ). x ∷ l) after.one_is;
    other_is = cc;
  },
)

ComesBefore-by_first : (x y : ℕ) (xs ys : List ℕ) (r : Ordering) → MatchOrdering r (x < y) (x ≡ y) (y < x) →
    ordering_then r (slice_cmp nat_cmp xs ys) ≡ Less → (slice_cmp nat_cmp xs ys ≡ Less → ComesBefore xs ys) →
    ComesBefore (x ∷ xs) (y ∷ ys)
ComesBefore-by_first x y xs ys Less below is later = inr (
  [],
  record {
    low = x;
    high = y;
    lows = xs;
    highs = ys;
    below = below;
    one_is = refl;
    other_is = refl;
  },
)
ComesBefore-by_first x y xs ys Equal same is later = ComesBefore-cons x y xs ys same (later is)
ComesBefore-by_first x y xs ys Greater above is later = cc

-- a text that compares as `Less` comes before
ComesBefore-of_Less : (xs ys : List ℕ) → slice_cmp nat_cmp xs ys ≡ Less → ComesBefore xs ys
ComesBefore-of_Less [] [] is = cc
ComesBefore-of_Less [] (y ∷ ys) is = inl (y, ys, refl)
ComesBefore-of_Less (x ∷ xs) [] is = cc
ComesBefore-of_Less (x ∷ xs) (y ∷ ys) is =
    ComesBefore-by_first x y xs ys (nat_cmp x y) (ranked x y (nat_cmp x y) refl) is (ComesBefore-of_Less xs ys)

equal-by_first : (x y : ℕ) (xs ys : List ℕ) (r : Ordering) → MatchOrdering r (x < y) (x ≡ y) (y < x) →
    ordering_then r (slice_cmp nat_cmp xs ys) ≡ Equal → (slice_cmp nat_cmp xs ys ≡ Equal → xs ≡ ys) → x ∷ xs ≡ y ∷ ys
equal-by_first x y xs ys Less below is later = cc
equal-by_first x y xs ys Equal same is later = let rest = later is in cc
equal-by_first x y xs ys Greater above is later = cc

-- texts that compare as `Equal` are equal
equal-of_Equal : (xs ys : List ℕ) → slice_cmp nat_cmp xs ys ≡ Equal → xs ≡ ys
equal-of_Equal [] [] is = refl
equal-of_Equal [] (y ∷ ys) is = cc
equal-of_Equal (x ∷ xs) [] is = cc
equal-of_Equal (x ∷ xs) (y ∷ ys) is =
    equal-by_first x y xs ys (nat_cmp x y) (ranked x y (nat_cmp x y) refl) is (equal-of_Equal xs ys)

nat_cmp-itself : (x : ℕ) → nat_cmp x x ≡ Equal
nat_cmp-itself x = tied_itself nat_cmp_total x

nat_cmp-below : (x y : ℕ) → x < y → nat_cmp x y ≡ Less
nat_cmp-below x y below = by_ranked (nat_cmp x y) (ranked x y (nat_cmp x y) refl)
  where
    by_ranked : (r : Ordering) → MatchOrdering r (x < y) (x ≡ y) (y < x) → r ≡ Less
    by_ranked Less is = refl
    by_ranked Equal is = absurd (omega arith)
    by_ranked Greater is = absurd (omega arith)

slice_cmp-prefix : (prefix xs ys : List ℕ) → slice_cmp nat_cmp (prefix ++ xs) (prefix ++ ys) ≡ slice_cmp nat_cmp xs ys
slice_cmp-prefix [] xs ys = refl
slice_cmp-prefix (x ∷ prefix) xs ys = rw (nat_cmp-itself x) (slice_cmp-prefix prefix xs ys)

-- a proper prefix compares as `Less`
slice_cmp-longer : (xs : List ℕ) (next : ℕ) (rest : List ℕ) → slice_cmp nat_cmp xs (xs ++ (next ∷ rest)) ≡ Less
slice_cmp-longer [] next rest = refl
slice_cmp-longer (x ∷ xs) next rest = rw (nat_cmp-itself x) (slice_cmp-longer xs next rest)

-- a text that comes before compares as `Less`
Less-of_ComesBefore : (xs ys : List ℕ) → ComesBefore xs ys → slice_cmp nat_cmp xs ys ≡ Less
Less-of_ComesBefore xs ys (inl (next, rest, is)) = rw is (slice_cmp-longer xs next rest)
Less-of_ComesBefore xs ys (inr (prefix, after)) =
    rw after.one_is (rw after.other_is (rw (slice_cmp-prefix prefix) (rw (nat_cmp-below after.low after.high after.below))))

-- the comparison of two texts by their bytes is the order of texts
pub IsTextOrder-slice_cmp : (xs ys : List ℕ) → IsTextOrder xs ys (slice_cmp nat_cmp xs ys)
IsTextOrder-slice_cmp xs ys = record {
  less = (λ less. ComesBefore-of_Less xs ys less, λ before. Less-of_ComesBefore xs ys before);
  equal = (λ equal. equal-of_Equal xs ys equal, λ same. ap (slice_cmp nat_cmp xs) (sym same) ∙ tied_itself nat_list_cmp_total xs);
  greater = (
    λ greater. ComesBefore-of_Less ys xs (nat_list_cmp_total.antisymm ys xs ∙ ap ordering_reverse greater),
    λ before. nat_list_cmp_total.antisymm xs ys ∙ ap ordering_reverse (Less-of_ComesBefore ys xs before),
  );
}

-- the functions whose proofs use this ruleset name it
pub ruleset text_orders = (IsTextOrder-slice_cmp)
