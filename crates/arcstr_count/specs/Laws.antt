-- What holds in every interleaving: a block is freed at most once, never while a handle lives, and exactly if it is unmarked.
use Rattle.std.specs.Prelude.{◌≡◌, ℕ, ◌+◌, ◌<◌, ◌≤◌, ◌↔◌, IsTrue, IsFalse, Some, List, [], ◌++◌, length}
use Rattle.arcstr_count.specs.declared.steps.Step.{Step}
use Rattle.arcstr_count.specs.Word.{looked_of}
use Rattle.arcstr_count.specs.Model.{IsMade, StandsAfter, marked_after, living_after, dropping_after, owing_after, given_after, word_after}

-- P holds of every prefix of the steps and every block made in it
abbrev pub AtEachPrefix : ℕ → List Step → (List Step → ℕ → Type 0) → Type 0
AtEachPrefix limit steps P =
    (prefix later : List Step) (b : ℕ) → steps ≡ prefix ++ later → IsMade limit prefix b → P prefix b

-- P holds of every prefix of the steps, every prefix that extends or equals it, and every block made in the first
abbrev pub ThenOrLater : ℕ → List Step → (List Step → List Step → ℕ → Type 0) → Type 0
ThenOrLater limit steps P =
    (prefix more later : List Step) (b : ℕ) → steps ≡ (prefix ++ more) ++ later → IsMade limit prefix b → P prefix (prefix ++ more) b

-- the six laws of every interleaving: each holds for any limit, any list of steps, any prefix of it and any block made in that prefix
pub record HoldsInEveryInterleaving (limit : ℕ) (steps : List Step) : Type 0 where
  -- each count word that a prefix leaves stands for the living handles: its flag says whether the block is marked; unmarked, its
  -- count is how many live; marked, its count is at least how many are dropping and at most limit + 1
  pub words_stand : AtEachPrefix limit steps (λ prefix b. StandsAfter limit prefix b (word_after limit prefix b))
  -- at most limit + 1 handles live on an unmarked block, and a look at its count word finds exactly their number
  pub looks_exact : AtEachPrefix limit steps (λ prefix b. IsFalse (marked_after limit prefix b)
      → (length (living_after limit prefix b) ≤ limit + 1)
      × (looked_of (word_after limit prefix b) ≡ Some (length (living_after limit prefix b))))
  -- once marked, a block stays marked
  pub marks_stay : ThenOrLater limit steps (λ prefix longer b.
      IsTrue (marked_after limit prefix b) → IsTrue (marked_after limit longer b))
  -- at most one handle owes a block; if one does, the block is not marked and no handle on it lives
  pub one_owes : AtEachPrefix limit steps (λ prefix b.
      (length (owing_after limit prefix b) ≤ 1)
      × (0 < length (owing_after limit prefix b) → IsFalse (marked_after limit prefix b) × (living_after limit prefix b ≡ [])))
  -- a block is freed at most once; if it was, no handle on it lives then or later
  pub given_once : ThenOrLater limit steps (λ prefix longer b.
      (given_after limit prefix b ≤ 1)
      × (given_after limit prefix b ≡ 1 → (living_after limit prefix b ≡ []) × (living_after limit longer b ≡ [])))
  -- where no handle on a block lives and no drop of one is under way, the block was freed once exactly if it is not marked
  pub given_exactly : AtEachPrefix limit steps (λ prefix b.
      living_after limit prefix b ≡ [] → dropping_after limit prefix b ≡ [] → owing_after limit prefix b ≡ []
      → ((given_after limit prefix b ≡ 1) ↔ IsFalse (marked_after limit prefix b)))
