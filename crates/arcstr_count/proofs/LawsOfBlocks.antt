-- The handles on a block, counted by their states, and the count word of the block, which counts them, in every state after a history.
--
-- We show for each step what it does to the number of handles on each block in a state that passes a test, then that each block stays balanced with
-- these numbers, and then that each state after a history is balanced.
use Rattle.arcstr_count.proofs.Names.{◌≡◌, ◌≢◌, ℕ, zero, suc, ◌+◌, ◌<◌, ◌≤◌, Bool, true, false, ◌&&◌, ◌==◌, if◌then◌else◌, List, [], ◌∷◌, ◌++◌, get_or, length}
use Rattle.arcstr_count.proofs.Names.{filter, refl, sym, ◌∙◌, ap, ap₂, ◌⊎◌, inl, inr, arith, ne_eqb, eq-eqb, not, ◌||◌, nat_lt, subst, set}
use Rattle.arcstr_count.proofs.Names.{length-append, filter-append, cases_eq, length_push}
use Rattle.arcstr_count.proofs.Names.{get_or-set_same, get_or-set_other, set-get_or, length-set, get_or_push, get_or_append_left, Option, Some, None, is_none}
use Rattle.arcstr_count.proofs.Names.{option_map, slice_get}
use Rattle.arcstr_count.proofs.Names.{slice_get_within, get_or_from_slice_get, slice_get-get_or, StepFault, numbers_below, lives, is_dropping, is_owing}
use Rattle.arcstr_count.proofs.Names.{Step, Make, Clone, Look, Begin, Sub, Back, Leak, IntoRaw, FromRaw, HandleState, Free, Raw, Dropping, Owing, Gone}
use Rattle.arcstr_count.proofs.Names.{HandleSummary}
use Rattle.arcstr_count.proofs.Names.{FlagAndCount, fresh_word, cloned_of, dropped_of, marked_of, is_last, BlockSummary, needs, refusal_by, refusal_unless}
use Rattle.arcstr_count.proofs.Names.{State, start, no_handle, no_block, block_on, state_on, state_in, word_on, given_in, handles_with_state}
use Rattle.arcstr_count.proofs.Names.{accepted, refusal_in, unless_refused, step, after_from, after, handles_on, append-nil, append_assoc}
use Rattle.std.specs.Prelude.{sum_by, IfSome}
use Rattle.arcstr_count.specs.Answer.{Need}
use Rattle.std.proofs.lemmas.List.Sums.{sum_by-cons, sum_by_push, sum_by-set, sum_by-le-sum_by, get_or-le-sum_by}

-- ---- how many numbers below n pass a test

abbrev pub count : (ℕ → Bool) → ℕ → ℕ
count f n = length (filter f (numbers_below n))

-- what a number adds to the count
abbrev pub one_if : Bool → ℕ
one_if b = if b then 1 else 0

filter-push : (f : ℕ → Bool) (n : ℕ) → filter f (numbers_below (suc n)) ≡ filter f (numbers_below n) ++ filter f (n ∷ [])
filter-push f n = filter-append f (numbers_below n) (n ∷ [])

pub count-push : (f : ℕ → Bool) (n : ℕ) → count f (suc n) ≡ count f n + one_if (f n)
count-push f n =
    ap length (filter-push f n) ∙ length-append (filter f (numbers_below n)) (filter f (n ∷ []))
    ∙ ap (λ k. count f n + k) (single (f n))
  where
    single : (b : Bool) → length (if b then n ∷ [] else []) ≡ one_if b
    single true = refl
    single false = refl

pub count-same : (f g : ℕ → Bool) (n : ℕ) → ((k : ℕ) → k < n → g k ≡ f k) → count g n ≡ count f n
count-same f g zero agree = refl
count-same f g (suc n) agree =
    let before = count-same f g n (λ k below. agree k (omega arith)) in
    rw (count-push g n, count-push f n, before, agree n (omega arith)) refl

-- what holds of the empty list, and still holds with each further entry, holds of each list
module _ {X : Type 0} (P : List X → Type 0) where
  further : ((prefix : List X) (x : X) → P prefix → P (prefix ++ x ∷ [])) → (prefix later : List X) → P prefix → P (prefix ++ later)
  further push prefix [] h = rw append-nil h
  further push prefix (x ∷ later) h = subst P (append_assoc prefix (x ∷ []) later) (further push (prefix ++ x ∷ []) later (push prefix x h))

  pub by_pushes : P [] → ((prefix : List X) (x : X) → P prefix → P (prefix ++ x ∷ [])) → (xs : List X) → P xs
  by_pushes nil push xs = further push [] xs nil

-- as many indices of a list have an entry that passes as there are such entries
pub count_entries : {X : Type 0} (test : X → Bool) (d : X) (xs : List X)
    → count (λ k. test (get_or xs k d)) (length xs) ≡ sum_by (λ x. one_if (test x)) xs
count_entries {X} test d = by_pushes (λ xs. count (λ k. test (get_or xs k d)) (length xs) ≡ sum_by (λ x. one_if (test x)) xs) refl push
  where
    push : (xs : List X) (x : X) → count (λ k. test (get_or xs k d)) (length xs) ≡ sum_by (λ y. one_if (test y)) xs
        → count (λ k. test (get_or (xs ++ x ∷ []) k d)) (length (xs ++ x ∷ [])) ≡ sum_by (λ y. one_if (test y)) (xs ++ x ∷ [])
    push xs x before =
        let more : length (xs ++ x ∷ []) ≡ suc (length xs) = omega (arith, length_push xs x) in
        ap (λ n. count (λ k. test (get_or (xs ++ x ∷ []) k d)) n) more
        ∙ count-push (λ k. test (get_or (xs ++ x ∷ []) k d)) (length xs)
        ∙ ap₂ (λ a b. a + b)
        (count-same (λ k. test (get_or xs k d)) (λ k. test (get_or (xs ++ x ∷ []) k d)) (length xs)
        (λ k below. ap test (get_or_append_left xs (x ∷ []) d k below)) ∙ before)
        (ap (λ y. one_if (test y)) (get_or_push xs x d (length xs) refl))
        ∙ sym (sum_by_push (λ y. one_if (test y)) xs x)

-- ---- tests on numbers

pub same_test : (n : ℕ) → (n == n) ≡ true
same_test n = eq-eqb n n refl

-- ---- the handles on a block in a table of handles, by their states

-- whether a handle is on the block, in a state that passes, and how many are
abbrev pub passes_on : ℕ → (HandleState → Bool) → HandleSummary → Bool
passes_on b test it = (it.block == b) && test it.state

abbrev pub held : List HandleSummary → ℕ → (HandleState → Bool) → ℕ
held hs b test = sum_by (λ it. one_if (passes_on b test it)) hs

pub length-handles_on : (w : State) (b : ℕ) (test : HandleState → Bool) → length (handles_on w b test) ≡ held w.handles b test
length-handles_on w b test = count_entries (passes_on b test) no_handle w.handles

off_it : (c b : ℕ) (x : Bool) → c ≢ b → one_if ((c == b) && x) ≡ 0
off_it c b x apart = ap (λ (t : Bool). one_if (t && x)) (ne_eqb c b apart)

-- ---- one entry of a table is set

-- what holds of the new entry where it stands, and of the old one elsewhere, holds of each entry
pub at_set : {X : Type 0} (P : X → Type 0) (xs : List X) (c b : ℕ) (x d : X) → c < length xs → (b ≡ c → P x) → (b ≢ c → P (get_or xs b d))
    → P (get_or (set xs c x) b d)
at_set P xs c b x d within here elsewhere = by_place (cases_eq b c)
  where
    by_place : (b ≡ c) ⊎ (b ≢ c) → P (get_or (set xs c x) b d)
    by_place (inl same) = subst P (sym (ap (λ k. get_or (set xs c x) k d) same ∙ get_or-set_same xs c x d within)) (here same)
    by_place (inr apart) = subst P (sym (get_or-set_other xs c b x d apart)) (elsewhere apart)

-- a part that the new entry shares with the old one stays in each entry
pub part_kept : {X Y : Type 0} (f : X → Y) (xs : List X) (c : ℕ) (x d : X) → c < length xs → f x ≡ f (get_or xs c d) → (b : ℕ)
    → f (get_or (set xs c x) b d) ≡ f (get_or xs b d)
part_kept f xs c x d within same b = at_set (λ y. f y ≡ f (get_or xs b d)) xs c b x d within
    (λ here. same ∙ ap (λ k. f (get_or xs k d)) (sym here)) (λ apart. refl)

-- what holds of the new entry at the end, and of each entry before it, holds of each entry
pub at_push : {X : Type 0} (P : X → Type 0) (xs : List X) (x d : X) (k : ℕ) → k < length (xs ++ x ∷ []) → (k ≡ length xs → P x)
    → (k < length xs → P (get_or xs k d)) → P (get_or (xs ++ x ∷ []) k d)
at_push P xs x d k within last before = by_place (cases_eq k (length xs))
  where
    by_place : (k ≡ length xs) ⊎ (k ≢ length xs) → P (get_or (xs ++ x ∷ []) k d)
    by_place (inl same) = subst P (sym (get_or_push xs x d k (sym same))) (last same)
    by_place (inr apart) =
        let below : k < length xs = omega (arith, length_push xs x) in
        subst P (sym (get_or_append_left xs (x ∷ []) d k below)) (before below)

-- ---- a handle goes from one state to another

module _ (hs : List HandleSummary) (h : ℕ) (new : HandleState) (born : h < length hs) where
  pub length-moved : length (handles_with_state hs h new) ≡ length hs
  length-moved = length-set hs h (record { block = (get_or hs h no_handle).block; state = new })

  -- each handle stays on its block
  pub moved_block : (k : ℕ) → (get_or (handles_with_state hs h new) k no_handle).block ≡ (get_or hs k no_handle).block
  moved_block k = part_kept (λ (it : HandleSummary). it.block) hs h _ no_handle born refl k

  moved_count : (b : ℕ) (test : HandleState → Bool)
      → held (handles_with_state hs h new) b test + one_if (passes_on b test (get_or hs h no_handle))
      ≡ held hs b test + one_if (((get_or hs h no_handle).block == b) && test new)
  moved_count b test = sum_by-set (λ it. one_if (passes_on b test it)) hs h _ no_handle born

  pub moved_here : (b : ℕ) → (get_or hs h no_handle).block ≡ b → (test : HandleState → Bool)
      → held (handles_with_state hs h new) b test + one_if (test (get_or hs h no_handle).state) ≡ held hs b test + one_if (test new)
  moved_here b on test = rw (eq-eqb (get_or hs h no_handle).block b on) at (moved_count b test)

  pub moved_elsewhere : (b : ℕ) → (get_or hs h no_handle).block ≢ b → (test : HandleState → Bool)
      → held (handles_with_state hs h new) b test ≡ held hs b test
  moved_elsewhere b apart test = let same = rw (ne_eqb (get_or hs h no_handle).block b apart) at (moved_count b test) in omega (arith, same)

-- ---- a handle is born free on block c

module _ (hs : List HandleSummary) (c : ℕ) where
  pub born_last : get_or (hs ++ record { block = c; state = Free } ∷ []) (length hs) no_handle ≡ record { block = c; state = Free }
  born_last = get_or_push hs (record { block = c; state = Free }) no_handle (length hs) refl

  pub born_earlier : (k : ℕ) → k < length hs → get_or (hs ++ record { block = c; state = Free } ∷ []) k no_handle ≡ get_or hs k no_handle
  born_earlier k below = get_or_append_left hs (record { block = c; state = Free } ∷ []) no_handle k below

  born_count : (b : ℕ) (test : HandleState → Bool)
      → held (hs ++ record { block = c; state = Free } ∷ []) b test ≡ held hs b test + one_if ((c == b) && test Free)
  born_count b test = sum_by_push (λ it. one_if (passes_on b test it)) hs (record { block = c; state = Free })

  pub born_here : (test : HandleState → Bool) → held (hs ++ record { block = c; state = Free } ∷ []) c test ≡ held hs c test + one_if (test Free)
  born_here test = rw (same_test c) at (born_count c test)

  pub born_elsewhere : (b : ℕ) → c ≢ b → (test : HandleState → Bool) → held (hs ++ record { block = c; state = Free } ∷ []) b test ≡ held hs b test
  born_elsewhere b apart test = let same = rw (ne_eqb c b apart) at (born_count b test) in omega (arith, same)

-- ---- how many are held

-- no handle is on a block that is above those of all handles
held-none : (hs : List HandleSummary) (b : ℕ) (test : HandleState → Bool) → ((k : ℕ) → k < length hs → (get_or hs k no_handle).block < b) → held hs b test ≡ 0
held-none [] b test below = refl
held-none (it ∷ hs) b test below =
    let later = held-none hs b test (λ k born. below (suc k) (omega arith)) in
    let lower = below 0 (omega arith) in
    let first = off_it it.block b (test it.state) (λ same. omega arith) in
    sum_by-cons (λ x. one_if (passes_on b test x)) it hs ∙ omega (arith, first, later)

dropping_lives : (x : Bool) (s : HandleState) → one_if (x && is_dropping s) ≤ one_if (x && lives s)
dropping_lives x s = grind arith

dropping-le-living : (hs : List HandleSummary) (b : ℕ) → held hs b is_dropping ≤ held hs b lives
dropping-le-living hs b = sum_by-le-sum_by (λ it. one_if (passes_on b is_dropping it)) (λ it. one_if (passes_on b lives it)) hs
    (λ it. dropping_lives (it.block == b) it.state)

-- a handle in a state that passes is one of those on its block
some_held : (hs : List HandleSummary) (h : ℕ) (test : HandleState → Bool) → h < length hs → test (get_or hs h no_handle).state ≡ true
    → 0 < held hs (get_or hs h no_handle).block test
some_held hs h test born passes =
    let one : one_if (passes_on (get_or hs h no_handle).block test (get_or hs h no_handle)) ≡ 1 = rw (same_test (get_or hs h no_handle).block, passes) refl in
    let least = get_or-le-sum_by (λ it. one_if (passes_on (get_or hs h no_handle).block test it)) hs h no_handle born in
    omega (arith, one)

pub some_on : (w : State) (h : ℕ) (test : HandleState → Bool) → h < length w.handles → test (state_on w h) ≡ true
    → 0 < length (handles_on w (block_on w h) test)
some_on w h test born passes = rw (length-handles_on w (block_on w h) test) (some_held w.handles h test born passes)

-- ==== the count word of a block against the counts of its handles, and what each step on the block does to them

-- how many handles on a block are in a state that passes
abbrev pub Counts : Type 0
Counts = (HandleState → Bool) → ℕ

-- an unmarked block: its word counts the living handles, which are at most limit + 1; while one lives, the block
-- is neither owed nor freed; once none lives, it is either owed by one handle or freed once
pub record IsUnmarked (limit : ℕ) (w : FlagAndCount) (n : Counts) (given : ℕ) : Type 0 where
  pub flag : w.flag ≡ false
  pub count : w.count ≡ n lives
  pub few : n lives ≤ limit + 1
  pub held : 0 < n lives → n is_owing + given ≡ 0
  pub ended : n lives ≡ 0 → n is_owing + given ≡ 1

-- a marked block: its word counts no fewer than the dropping handles and at most limit + 1, and the block
-- is neither owed nor freed
pub record IsMarked (limit : ℕ) (w : FlagAndCount) (n : Counts) (given : ℕ) : Type 0 where
  pub flag : w.flag ≡ true
  pub covered : n is_dropping ≤ w.count
  pub bounded : w.count ≤ limit + 1
  pub held : n is_owing + given ≡ 0

abbrev pub IsBalanced : ℕ → FlagAndCount → (marked : Bool) → Counts → (given : ℕ) → Type 0
IsBalanced limit w false n given = IsUnmarked limit w n given
IsBalanced limit w true n given = IsMarked limit w n given

-- ---- what each step on the block does to them

-- the counts change by one handle, which goes from one state to another
record Moves (n after : Counts) (old new : HandleState) : Type 0 where
  living : after lives + one_if (lives old) ≡ n lives + one_if (lives new)
  dropping : after is_dropping + one_if (is_dropping old) ≡ n is_dropping + one_if (is_dropping new)
  owing : after is_owing + one_if (is_owing old) ≡ n is_owing + one_if (is_owing new)

moves : (n after : Counts) (old new : HandleState)
    → ((test : HandleState → Bool) → after test + one_if (test old) ≡ n test + one_if (test new)) → Moves n after old new
moves n after old new step = record { living = step lives; dropping = step is_dropping; owing = step is_owing }

-- the counts change by one handle that is born free
record Bears (n after : Counts) : Type 0 where
  living : after lives ≡ n lives + 1
  dropping : after is_dropping ≡ n is_dropping
  owing : after is_owing ≡ n is_owing

bears : (n after : Counts) → ((test : HandleState → Bool) → after test ≡ n test + one_if (test Free)) → Bears n after
bears n after step = record {
  living = step lives;
  dropping = omega (arith, step is_dropping);
  owing = omega (arith, step is_owing);
}

module _ (limit : ℕ) (w : FlagAndCount) (n after : Counts) (g : ℕ) where
  after_Clone : (m : Bool) → Bears n after → 0 < n lives → n is_dropping ≤ n lives
      → IsBalanced limit w m n g → IsBalanced limit (cloned_of limit w) (m || nat_lt limit (n lives)) after g
  after_Clone m step some fewer b = grind arith

  after_Begin : (m : Bool) → Moves n after Free (if m then Gone else Dropping) → IsBalanced limit w m n g → IsBalanced limit w m after g
  after_Begin m step b = grind arith

  after_Sub : (m only : Bool) → only ≡ (n lives == 1) → Moves n after Dropping (if not m && only then Owing else Gone)
      → IsBalanced limit w m n g → IsBalanced limit (dropped_of w) m after g
  after_Sub m only e step b = grind arith

  after_Back : (m : Bool) (g' : ℕ) → g' ≡ g + 1 → Moves n after Owing Gone → IsBalanced limit w m n g → IsBalanced limit w m after g'
  after_Back m g' e step b = grind arith

  -- between a free handle and a raw one
  after_IntoRaw : (m : Bool) → Moves n after Free Raw → IsBalanced limit w m n g → IsBalanced limit w m after g
  after_IntoRaw m step b = grind arith

  after_FromRaw : (m : Bool) → Moves n after Raw Free → IsBalanced limit w m n g → IsBalanced limit w m after g
  after_FromRaw m step b = grind arith

after_Leak : (limit : ℕ) (w : FlagAndCount) (n : Counts) (g : ℕ) (m : Bool) → 0 < n lives → n is_dropping ≤ n lives
    → IsBalanced limit w m n g → IsBalanced limit (marked_of w) true n g
after_Leak limit w n g m some fewer b = grind arith

-- ==== each state after a history is balanced

-- the count word of a block is balanced with the handles on the block
abbrev pub Balance : ℕ → List HandleSummary → ℕ → BlockSummary → Type 0
Balance limit hs b entry = (m : Bool) × IsBalanced limit entry.word m (λ test. held hs b test) entry.given

-- each handle stands on a block that was made, and each block is balanced
pub record IsLawful (limit : ℕ) (w : State) : Type 0 where
  pub made : (h : ℕ) → h < length w.handles → block_on w h < length w.blocks
  pub balanced : (b : ℕ) → b < length w.blocks → Balance limit w.handles b (get_or w.blocks b no_block)

-- the mark of a balance is the flag of its word
pub flag_is : (limit : ℕ) (w : FlagAndCount) (m : Bool) (n : Counts) (g : ℕ) → IsBalanced limit w m n g → w.flag ≡ m
flag_is limit w m n g b = grind arith

-- equal counts are balanced alike
same_counts : (limit : ℕ) (hs hs' : List HandleSummary) (b : ℕ) (entry : BlockSummary) → ((test : HandleState → Bool) → held hs' b test ≡ held hs b test)
    → Balance limit hs b entry → Balance limit hs' b entry
same_counts limit hs hs' b entry same before =
    (before.0, subst (λ (n : Counts). IsBalanced limit entry.word before.0 n entry.given) (λ i test. sym (same test) i) before.1)

-- a step on block c, which leaves these handles and this entry of c
acts : (limit : ℕ) (w : State) (c : ℕ) (hs : List HandleSummary) (entry : BlockSummary) → IsLawful limit w → c < length w.blocks
    → ((k : ℕ) → k < length hs → (get_or hs k no_handle).block < length w.blocks)
    → ((b : ℕ) → c ≢ b → (test : HandleState → Bool) → held hs b test ≡ held w.handles b test)
    → (Balance limit w.handles c (get_or w.blocks c no_block) → Balance limit hs c entry)
    → IsLawful limit (record { handles = hs; blocks = set w.blocks c entry })
acts limit w c hs entry lawful within made elsewhere here = record {
  made = λ h born. rw (length-set w.blocks c entry) (made h born);
  balanced = λ b below. at_set (Balance limit hs b) w.blocks c b entry no_block within
      (λ same. subst (λ d. Balance limit hs d entry) (sym same) (here (lawful.balanced c within)))
      (λ apart. same_counts limit w.handles hs b _ (elsewhere b (λ same. apart (sym same))) (lawful.balanced b (rw (length-set w.blocks c entry) at below)));
}

-- the handle was born, and is in this state
pub record IsIn (w : State) (h : ℕ) (s : HandleState) : Type 0 where
  pub born : h < length w.handles
  pub state : state_on w h ≡ s

pub is_in_state : (w : State) (h : ℕ) (s : HandleState) → state_in w h ≡ Some s → IsIn w h s
is_in_state w h s e = by_entry (slice_get w.handles h) refl e
  where
    by_entry : (o : Option HandleSummary) → slice_get w.handles h ≡ o → option_map (λ (it : HandleSummary). it.state) o ≡ Some s → IsIn w h s
    by_entry None found is = cc
    by_entry (Some it) found is = record {
      born = slice_get_within w.handles h it found;
      state = ap (λ (x : HandleSummary). x.state) (get_or_from_slice_get w.handles h it no_handle found) ∙ cc;
    }

pub state_born : (w : State) (h : ℕ) → h < length w.handles → state_in w h ≡ Some (state_on w h)
state_born w h born = ap (option_map (λ (it : HandleSummary). it.state)) (slice_get-get_or w.handles h no_handle born)

-- the table of refusals accepts a handle in the state that a step needs, and no other
pub accepts_needed : (s : HandleState) → refusal_unless s (Some s) ≡ None
accepts_needed s = grind arith

pub needed_state : (s : HandleState) (o : Option HandleState) → refusal_unless s o ≡ None → o ≡ Some s
needed_state s o e = grind arith

pub none_of : (o : Option StepFault) → is_none o ≡ true → o ≡ None
none_of None e = refl
none_of (Some fault) e = cc

-- so an accepted step finds its handle in the state that it needs
pub step_finds : (w : State) (h : ℕ) (s : HandleState) → refusal_unless s (state_in w h) ≡ None → IsIn w h s
step_finds w h s e = is_in_state w h s (needed_state s (state_in w h) e)

pub finds : (w : State) (s : Step) → refusal_in w s ≡ None → IfSome (needs s) (λ need. IsIn w need.handle need.state)
finds w s e = by_need (needs s) e
  where
    by_need : (o : Option Need) → refusal_by (λ h. state_in w h) o ≡ None → IfSome o (λ need. IsIn w need.handle need.state)
    by_need None e = tt
    by_need (Some need) e = step_finds w need.handle need.state e

module _ (limit : ℕ) (w : State) (lawful : IsLawful limit w) where
  -- a step that brings a handle from one state to another, and leaves this entry of its block
  changes : (h : ℕ) (old new : HandleState) (entry : BlockSummary) → IsIn w h old
      → ((m : Bool) (after : Counts) → Moves (λ test. held w.handles (block_on w h) test) after old new
      → IsBalanced limit (word_on w h) m (λ test. held w.handles (block_on w h) test) (given_in w (block_on w h))
      → (m' : Bool) × IsBalanced limit entry.word m' after entry.given)
      → IsLawful limit (record { handles = handles_with_state w.handles h new; blocks = set w.blocks (block_on w h) entry })
  changes h old new entry found balance =
      acts limit w (block_on w h) (handles_with_state w.handles h new) entry lawful (lawful.made h found.born)
      (λ k born. rw (moved_block w.handles h new found.born k) (lawful.made k (rw (length-moved w.handles h new found.born) at born)))
      (λ b apart. moved_elsewhere w.handles h new found.born b apart)
      (λ before. balance before.0 (λ test. held (handles_with_state w.handles h new) (block_on w h) test)
      (moves _ _ old new (λ test. subst (λ s. held (handles_with_state w.handles h new) (block_on w h) test + one_if (test s)
      ≡ held w.handles (block_on w h) test + one_if (test new)) found.state (moved_here w.handles h new found.born (block_on w h) refl test))) before.1)

  -- the same where the entry stays
  changes_state : (h : ℕ) (old new : HandleState) → IsIn w h old
      → ((m : Bool) (after : Counts) → Moves (λ test. held w.handles (block_on w h) test) after old new
      → IsBalanced limit (word_on w h) m (λ test. held w.handles (block_on w h) test) (given_in w (block_on w h))
      → IsBalanced limit (word_on w h) m after (given_in w (block_on w h)))
      → IsLawful limit (record w { handles = handles_with_state w.handles h new })
  changes_state h old new found balance =
      subst (λ bs. IsLawful limit (record { handles = handles_with_state w.handles h new; blocks = bs }))
      (set-get_or w.blocks (block_on w h) no_block)
      (changes h old new (get_or w.blocks (block_on w h) no_block) found (λ m after moves before. (m, balance m after moves before)))

  lives_here : (h : ℕ) → IsIn w h Free → 0 < held w.handles (block_on w h) lives
  lives_here h i = some_held w.handles h lives i.born (ap lives i.state)

  -- a new block has one free handle
  lawful_make : IsLawful limit (accepted limit w Make).0
  lawful_make = record {
    made = λ h born. rw (length_push w.blocks fresh) (at_push (λ (it : HandleSummary). it.block < length w.blocks + 1) w.handles first no_handle h born
        (λ last. omega arith) (λ below. let made = lawful.made h below in omega arith));
    balanced = λ b below. at_push (Balance limit (w.handles ++ first ∷ []) b) w.blocks fresh no_block b below
        (λ last. subst (λ c. Balance limit (w.handles ++ first ∷ []) c fresh) (sym last) new_block)
        (λ older. same_counts limit w.handles (w.handles ++ first ∷ []) b (get_or w.blocks b no_block)
        (born_elsewhere w.handles (length w.blocks) b (λ same. omega arith)) (lawful.balanced b older));
  }
    where
      first : HandleSummary
      first = record { block = length w.blocks; state = Free }

      fresh : BlockSummary
      fresh = record { word = fresh_word; given = 0 }

      new_block : Balance limit (w.handles ++ first ∷ []) (length w.blocks) fresh
      new_block =
          let here = born_here w.handles (length w.blocks) in
          let none : (test : HandleState → Bool) → held w.handles (length w.blocks) test ≡ 0 =
          λ test. held-none w.handles (length w.blocks) test lawful.made in (
            false,
            record {
              flag = refl;
              count = omega (arith, here lives, none lives);
              few = omega (arith, here lives, none lives);
              held = λ some. omega (arith, here is_owing, none is_owing);
              ended = λ ended. omega (arith, here lives, none lives);
            },
          )

  lawful_clone : (h : ℕ) → IsIn w h Free → IsLawful limit (accepted limit w (Clone h)).0
  lawful_clone h i = acts limit w (block_on w h) (w.handles ++ record { block = block_on w h; state = Free } ∷ []) _ lawful (lawful.made h i.born)
      (λ k born. at_push (λ (it : HandleSummary). it.block < length w.blocks) w.handles _ no_handle k born (λ last. lawful.made h i.born) (lawful.made k))
      (λ b apart. born_elsewhere w.handles (block_on w h) b apart)
      (λ before. (
        _,
        after_Clone limit (word_on w h) (λ test. held w.handles (block_on w h) test) _ (given_in w (block_on w h)) before.0
            (bears _ _ (λ test. born_here w.handles (block_on w h) test)) (lives_here h i) (dropping-le-living w.handles (block_on w h)) before.1,
      ))

  lawful_begin : (h : ℕ) → IsIn w h Free → IsLawful limit (accepted limit w (Begin h)).0
  lawful_begin h i = changes_state h Free (if (word_on w h).flag then Gone else Dropping) i (λ m after moves before.
      after_Begin limit (word_on w h) (λ test. held w.handles (block_on w h) test) after (given_in w (block_on w h)) m
      (subst (λ (f : Bool). Moves (λ test. held w.handles (block_on w h) test) after Free (if f then Gone else Dropping))
      (flag_is limit (word_on w h) m (λ test. held w.handles (block_on w h) test) (given_in w (block_on w h)) before) moves) before)

  lawful_sub : (h : ℕ) → IsIn w h Dropping → IsLawful limit (accepted limit w (Sub h)).0
  lawful_sub h i = changes h Dropping (if is_last (word_on w h) then Owing else Gone)
      (record { word = dropped_of (word_on w h); given = given_in w (block_on w h) }) i (λ m after moves before. (
        m,
        after_Sub limit (word_on w h) (λ test. held w.handles (block_on w h) test) after (given_in w (block_on w h)) m
            (held w.handles (block_on w h) lives == 1) refl
            (subst (λ (last : Bool). Moves (λ test. held w.handles (block_on w h) test) after Dropping (if last then Owing else Gone)) (last_is m before) moves)
            before,
      ))
    where
      last_is : (m : Bool) → IsBalanced limit (word_on w h) m (λ test. held w.handles (block_on w h) test) (given_in w (block_on w h))
          → is_last (word_on w h) ≡ (not m && (held w.handles (block_on w h) lives == 1))
      last_is m b = grind arith

  lawful_accepted : (s : Step) → refusal_in w s ≡ None → IsLawful limit (accepted limit w s).0
  lawful_accepted Make e = lawful_make
  lawful_accepted (Look h) e = lawful
  lawful_accepted (Clone h) e = lawful_clone h (step_finds w h Free e)
  lawful_accepted (Begin h) e = lawful_begin h (step_finds w h Free e)
  lawful_accepted (Sub h) e = lawful_sub h (step_finds w h Dropping e)
  lawful_accepted (Back h) e = changes h Owing Gone _ (step_finds w h Owing e) (λ m after moves before.
      (m, after_Back limit (word_on w h) _ after _ m _ refl moves before))
  lawful_accepted (Leak h) e =
      let i = step_finds w h Free e in
      acts limit w (block_on w h) w.handles _ lawful (lawful.made h i.born) lawful.made (λ b apart test. refl)
      (λ before. (true, after_Leak limit (word_on w h) _ _ before.0 (lives_here h i) (dropping-le-living w.handles (block_on w h)) before.1))
  lawful_accepted (IntoRaw h) e = changes_state h Free Raw (step_finds w h Free e) (λ m after moves before.
      after_IntoRaw limit (word_on w h) _ after _ m moves before)
  lawful_accepted (FromRaw h) e = changes_state h Raw Free (step_finds w h Raw e) (λ m after moves before.
      after_FromRaw limit (word_on w h) _ after _ m moves before)

  pub lawful_step : (s : Step) → IsLawful limit (step limit w s).0
  lawful_step s = by_refusal (refusal_in w s) refl
    where
      by_refusal : (o : Option StepFault) → refusal_in w s ≡ o → IsLawful limit (unless_refused o w (accepted limit w s)).0
      by_refusal None e = lawful_accepted s e
      by_refusal (Some fault) e = lawful

pub lawful_from : (limit : ℕ) (w : State) (later : List Step) → IsLawful limit w → IsLawful limit (after_from limit w later)
lawful_from limit w [] lawful = lawful
lawful_from limit w (s ∷ later) lawful = lawful_from limit (step limit w s).0 later (lawful_step limit w lawful s)

pub lawful_after : (limit : ℕ) (history : List Step) → IsLawful limit (after limit history)
lawful_after limit history = lawful_from limit start history (record {
  made = λ h born. absurd (omega arith);
  balanced = λ b below. absurd (omega arith);
})
