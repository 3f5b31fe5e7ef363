-- Who owns what of a block. Its count word lies in an invariant, with the parts of a token that no handle has.
--     a      `sharing`, the lifetime for which the content is shared. Each counted handle has one part in 2 ^ 63 of its token.
--     c      `counting`, the lifetime that ends with the mark: its token lies beside an unmarked count word. That c has ended is a permanent fact.
--     γ, δ   the name of the block: of its history and of the seats of its handles, which lie beside the count word.
-- An unmarked count word that counts k has k parts out, one for each counted handle. A marked count word has m parts out, and keeps one part permanently;
-- each handle that finds the mark has a share of that part.
-- When the block is marked, m is k. Each later subtraction, by a drop that looked before the mark, lowers m by one. A handle whose drop finds the
-- mark drops its part, and m stays.
use Rattle.std.specs.Prelude.{◌≡◌, ℕ, ◌+◌, ◌-◌, ◌^◌, ◌<◌, ◌≤◌, Bool, true, false, List, [], ◌∷◌, length}
use base.Fraction.{full_share}
use base.FractionLaws.{Counts}
use base.Fml.{Lft, Share, Fml, ftrue, fsep, fex, fall, flft, fdead, flent, fshr_bor, finv}
use mir.Syntax.{Ty}
use denote.RawPtr.{Ptr, block_of}
use denote.Sharing.{said, beside, some, one, held, always, nothing as no_part}
use Rattle.core.specs.Sync.RawAtomic.{word}
use Rattle.arcstr_count.specs.declared.steps.Step.{Step}
use Rattle.arcstr_count.specs.declared.steps.HandleState.TheVariants.{Free, Dropping, Owing}
use Rattle.arcstr_block.specs.Word.{IsLimit, IsMarked, counting_word, count_in}
use Rattle.arcstr_block.specs.Rights.{Right, nothing, counted, uncounted, fixed, dropping, owed}
use Rattle.arcstr_block.specs.Book.{BlockName, Book, reached, seat, seat_share}
use Rattle.arcstr_block.specs.Memory.{block_owns, block_shares, in_memory, word_at, IsText}

-- the statement as something that can be owned
abbrev pub fact : Type 0 → Fml
fact φ = fex φ (λ _. ftrue)

-- k parts in 2 ^ 63 of a's token
abbrev pub parts : ℕ → ℕ → Fml
parts a k = fex Share (λ e. fex (Counts 63 e k) (λ _. flft (a ∷ []) e))

-- some share of a's token
abbrev pub some_share : ℕ → Fml
some_share a = fex Share (λ s. flft (a ∷ []) s)

-- what identifies a block: the lifetime for which its content is shared, the lifetime that ends with the mark, and its name
pub record Id : Type 0 where
  pub sharing : ℕ
  pub counting : ℕ
  pub name : BlockName

-- an uncounted handle knows that c has ended
abbrev pub knows : Id → Right → Fml
knows t right = fall (right ≡ uncounted) (λ _. fdead (t.counting ∷ []))

-- the block's name, and a prefix of its history
abbrev pub known : Id → BlockName → List Step → Fml
known t block history = fsep (fact (t.name ≡ block)) (reached t.name.history history)

-- an unmarked block with k parts out, or a marked one with m
pub data Phase : Type 0 where
  unmarked : ℕ → Phase
  marked : ℕ → Phase

-- P is what the block owns, L its limit, and b and o where its count word lies.
module _ (P : Fml) (L b o : ℕ) (t : Id) where
  -- the phase is one of the count word n
  abbrev pub IsPhaseOf : ℕ → Phase → Type 0
  IsPhaseOf n (unmarked k) = (n ≡ counting_word k) × (0 < k) × (k ≤ L + 1) × IsLimit L
  IsPhaseOf n (marked m) = IsMarked n × (m ≤ count_in n) × (count_in n ≤ L + 1) × IsLimit L

  -- what lies beside the count word in this phase
  abbrev pub rest : Phase → Fml
  rest (unmarked k) = fsep (parts t.sharing (2 ^ 63 - k)) (fsep (flft (t.counting ∷ []) full_share) (flent (t.sharing ∷ []) P))
  rest (marked m) = fsep (parts t.sharing (2 ^ 63 - (m + 1))) (fsep (some_share t.sharing) (fdead (t.counting ∷ [])))

  -- the count word n is in this phase, with what lies beside it
  abbrev pub phase : ℕ → Phase → Fml
  phase n s = fsep (fact (IsPhaseOf n s)) (rest s)

  -- what lies beside the count word n
  abbrev pub Ledger : ℕ → Fml
  Ledger n = fex Phase (phase n)

  -- the count word and its history
  abbrev pub stated : ℕ → Fml
  stated n = fsep (word b o n) (Book L t.name.history t.name.seats n)

  -- the count word with its history and its ledger
  abbrev pub counting : ℕ → Fml
  counting n = fsep (stated n) (Ledger n)

  -- before a ends there is a count word, and after it nothing
  abbrev pub if_alive : Bool → Fml
  if_alive true = fex ℕ counting
  if_alive false = fdead (t.sharing ∷ [])

  -- what holds between any two steps
  abbrev pub Inv : Fml
  Inv = fex Bool if_alive

  -- the block is marked, with a permanent share of a's token
  abbrev pub permanent : Fml
  permanent = fsep (fshr_bor [] (λ q. flft (t.sharing ∷ []) q)) (fdead (t.counting ∷ []))

  -- s is what is shared, and h the number of the handle
  module _ (s : Lft → Fml) (h : ℕ) where
    -- a free handle whose share of a's token is e
    abbrev pub with_share : Right → Share → Fml
    with_share right e = fsep (fact (right ≡ counted → Counts 63 e 1)) (fsep (flft (t.sharing ∷ []) e) (fsep (knows t right) (fsep (s (t.sharing ∷
        [])) (seat t.name.seats h Free))))

    -- a free handle: a share of a's token, which is one part if the handle is counted
    abbrev pub free : Right → Fml
    free right = fex Share (with_share right)

    -- what a right contains
    abbrev pub right_to : Right → Fml
    right_to nothing = s (t.sharing ∷ [])
    right_to counted = free counted
    right_to uncounted = free uncounted
    right_to fixed = fsep permanent (s (t.sharing ∷ []))
    right_to dropping = fsep (parts t.sharing 1) (fsep (s (t.sharing ∷ [])) (seat t.name.seats h Dropping))
    right_to owed = fsep (stated (counting_word 0)) (fsep P (seat t.name.seats h Owing))

    -- what a pointer holds of its block: the invariant and a right
    abbrev pub held_with : Right → Fml
    held_with right = fsep (finv Inv) (right_to right)

    -- what a `&` to a pointer holds of a right
    abbrev pub seen : Lft → Fml
    seen = beside (always Inv) (held (t.sharing ∷ []) s)

    -- what it holds of a free handle
    abbrev pub free_shown : Right → Lft → Fml
    free_shown right = beside (one (λ q. flft (t.sharing ∷ []) q)) (beside (one (λ q. seat_share t.name.seats h q Free)) (beside (said (knows t right)) seen))

    -- what it holds of each right
    abbrev pub shown : Right → Lft → Fml
    shown nothing = no_part
    shown counted = free_shown counted
    shown uncounted = free_shown uncounted
    shown fixed = beside (said permanent) seen
    shown dropping = no_part
    shown owed = no_part

-- what a pointer owns: its allocator's right to free, its limit, its address, its text, its right, its handle's number, its block's
-- name and a prefix of its history
module _ (holds : Ty → Ptr → Fml) (L : ℕ) (p : Ptr) (text : List ℕ) (right : Right) (h : ℕ) (block : BlockName) (history : List Step) where
  -- what it owns of the block that t identifies
  abbrev pub of_block : Id → Fml
  of_block t = fsep (known t block history) (held_with (block_owns holds p text) L (block_of p) (word_at p (length text)) t (block_shares p text) h right)

  -- all that it owns
  abbrev pub pointer_owns : Fml
  pointer_owns = fsep (in_memory p (IsText text)) (fex Id of_block)

  -- what a `&` to it holds of the block that t identifies
  abbrev pub of_block_shown : Id → Lft → Fml
  of_block_shown t = beside (said (known t block history))
      (shown (block_owns holds p text) L (block_of p) (word_at p (length text)) t (block_shares p text) h right)

  -- all that a `&` to it holds
  abbrev pub pointer_shares : Lft → Fml
  pointer_shares = beside (said (in_memory p (IsText text))) (some Id of_block_shown)
