-- The right that a pointer to a block has, and the right that each step on the count word gains.
use Rattle.std.specs.Prelude.{◌≡◌, ◌≢◌, ◌⊎◌, ℕ, zero, suc, Bool, true, false, refl}
use mathlib.Core.Path.{ap}
use mathlib.Core.Logic.{inl, inr}
use Rattle.std.specs.Coded.{Coded, Coded-set, code_by, coded_ℕ}
use Rattle.arcstr_block.specs.Word.{IsMarked, IsUnmarked, IsLast}

pub data Right : Type 0 where
  -- no right except to know the block
  nothing : Right
  -- a free handle that the count word counts, or counted once
  counted : Right
  -- a free handle whose clone found the mark, or whose exchange set the static flag above the limit
  uncounted : Right
  -- a permanent block
  fixed : Right
  -- a handle whose drop looked at an unmarked block, and has not subtracted
  dropping : Right
  -- the last counted handle has left, and its memory is owed
  owed : Right

-- a right is stored as its index in this list
abbrev pub right_index : Right → ℕ
right_index nothing = 0
right_index counted = 1
right_index uncounted = 2
right_index fixed = 3
right_index dropping = 4
right_index owed = 5

abbrev pub right_at : ℕ → Right
right_at zero = nothing
right_at (suc zero) = counted
right_at (suc (suc zero)) = uncounted
right_at (suc (suc (suc zero))) = fixed
right_at (suc (suc (suc (suc zero)))) = dropping
right_at (suc (suc (suc (suc (suc n))))) = owed

pub right_at_index : (right : Right) → right_at (right_index right) ≡ right
right_at_index nothing = refl
right_at_index counted = refl
right_at_index uncounted = refl
right_at_index fixed = refl
right_at_index dropping = refl
right_at_index owed = refl

abbrev pub right_code : Coded Right
right_code = code_by ℕ coded_ℕ right_index right_at right_at_index

-- the rights of a free handle, which can step on the block
abbrev pub IsFree : Right → Type 0
IsFree right = (right ≡ counted) ⊎ (right ≡ uncounted)

pub is_free_once : (right : Right) → IsProp (IsFree right)
is_free_once right (inl e) (inl f) = ap inl (Coded-set right_code right counted e f)
is_free_once right (inl e) (inr f) = absurd cc
is_free_once right (inr e) (inl f) = absurd cc
is_free_once right (inr e) (inr f) = ap inr (Coded-set right_code right uncounted e f)

-- the rights by which the block can be read
abbrev pub MaySee : Right → Type 0
MaySee right = IsFree right ⊎ (right ≡ fixed)

-- the rights with which a pointer has the seat of its handle
abbrev pub HasSeat : Right → Type 0
HasSeat right = IsFree right ⊎ ((right ≡ dropping) ⊎ (right ≡ owed))

-- the rights that stand for nothing in the block's history, and can be dropped
abbrev pub IsIdle : Right → Type 0
IsIdle right = (right ≡ nothing) ⊎ (right ≡ fixed)

-- a look that found the count word: at a marked count word it gains the permanent block
abbrev pub Looks : ℕ → Right → Type 0
Looks word gained = (IsMarked word → gained ≡ fixed) × (IsUnmarked word → gained ≡ nothing)

-- the load of a clone that found the count word: if the count word is marked, the clone succeeds
abbrev pub Finds : ℕ → Right → Type 0
Finds word gained = (IsMarked word → gained ≡ uncounted) × (IsUnmarked word → gained ≡ nothing)

-- a load that found the count word, of a clone or as a look
abbrev pub Loads : Bool → ℕ → Right → Type 0
Loads true word gained = Finds word gained
Loads false word gained = Looks word gained

-- a compare-exchange of old to its clone new, which found the count word
abbrev pub Gains : ℕ → ℕ → ℕ → Right → Type 0
Gains old new word gained = (IsMarked word → gained ≡ uncounted) × (IsUnmarked word → word ≢ old → gained ≡ nothing)
    × (word ≡ old → IsUnmarked new → gained ≡ counted) × (word ≡ old → IsMarked new → gained ≡ uncounted)

-- the look of a drop that found the count word: the drop goes on if the count word is unmarked
abbrev pub Begins : ℕ → Right → Type 0
Begins word gained = (IsMarked word → gained ≡ nothing) × (IsUnmarked word → gained ≡ dropping)

-- a subtraction owes the memory exactly if it was the last one
abbrev pub Leaves : ℕ → Right → Type 0
Leaves word gained = (IsLast word → gained ≡ owed) × ((¬ IsLast word) → gained ≡ nothing)
