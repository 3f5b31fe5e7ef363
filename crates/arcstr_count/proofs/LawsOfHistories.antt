-- The laws of every interleaving, over the prefixes of a history, and what the step function keeps of every state after a history.
--
-- Each state after a history is lawful: each of its blocks is balanced. Each law is read off this balance, for an unmarked block and a marked one.
use Rattle.arcstr_count.proofs.Names.{◌≡◌, ◌≢◌, ◌↔◌, ℕ, ◌+◌, ◌<◌, ◌≤◌, Bool, true, IsFalse, IsTrue, Some, None, Option, List, [], ◌∷◌, ◌++◌}
use Rattle.arcstr_count.proofs.Names.{length, refl, sym, ◌∙◌, ap, subst, arith, nil_from_length, get_or, ◌⊎◌, inl, inr, cases_eq, set}
use Rattle.arcstr_count.proofs.Names.{get_or-set_same, get_or-set_other, get_or_append_left, length-set, length_push, StepFault, Step, Make, Clone}
use Rattle.arcstr_count.proofs.Names.{Sub, Back, Leak, Dropping, BlockSummary, FlagAndCount, cloned_of, lives, is_dropping, is_owing}
use Rattle.arcstr_count.proofs.Names.{HoldsInEveryInterleaving, StandsAfter, State, start, no_block, block_on, state_on, word_in, word_on, given_in, accepted}
use Rattle.arcstr_count.proofs.Names.{refusal_in, unless_refused, step, after_from, after, replies_from, word_after, living_after, makes_after, handles_on}
use Rattle.arcstr_count.proofs.LawsOfBlocks.{Counts, IsBalanced, IsLawful, length-handles_on, some_on, lawful_from, lawful_after}

-- ---- one block of a lawful state

-- what the balance of a block says, by its mark
pub record SaysOfBlock (limit : ℕ) (w : FlagAndCount) (n : Counts) (g : ℕ) : Type 0 where
  pub exact : IsFalse w.flag → w.count ≡ n lives
  pub covered : IsTrue w.flag → n is_dropping ≤ w.count
  pub bounded : w.count ≤ limit + 1
  pub one : n is_owing + g ≤ 1
  pub alone : 0 < n is_owing + g → IsFalse w.flag × (n lives ≡ 0)
  pub exactly : n lives ≡ 0 → n is_owing ≡ 0 → (g ≡ 1) ↔ IsFalse w.flag

says_of_block : (limit : ℕ) (w : FlagAndCount) (m : Bool) (n : Counts) (g : ℕ) → IsBalanced limit w m n g → SaysOfBlock limit w n g
says_of_block limit w m n g b = grind arith

pub says : (limit : ℕ) (w : State) (b : ℕ) → IsLawful limit w → b < length w.blocks
    → SaysOfBlock limit (word_in w b) (λ test. length (handles_on w b test)) (given_in w b)
says limit w b lawful made =
    let balance = lawful.balanced b made in
    subst (λ (n : Counts). SaysOfBlock limit (word_in w b) n (given_in w b)) (λ i test. sym (length-handles_on w b test) i)
    (says_of_block limit _ balance.0 _ _ balance.1)

pub stands : (limit : ℕ) (history : List Step) (b : ℕ) → b < makes_after limit history → StandsAfter limit history b (word_after limit history b)
stands limit history b made = let all = says limit (after limit history) b (lawful_after limit history) made in record {
  flag = refl;
  exact = all.exact;
  covered = all.covered;
  bounded = λ _. all.bounded;
}

-- ---- histories that go on

pub after_from-append : (limit : ℕ) (w : State) (xs ys : List Step) → after_from limit w (xs ++ ys) ≡ after_from limit (after_from limit w xs) ys
after_from-append limit w [] ys = refl
after_from-append limit w (x ∷ xs) ys = after_from-append limit (step limit w x).0 xs ys

-- one more step at the end
pub after_from-step : (limit : ℕ) (w : State) (xs : List Step) (s : Step) → after_from limit w (xs ++ s ∷ []) ≡ (step limit (after_from limit w xs) s).0
after_from-step limit w xs s = after_from-append limit w xs (s ∷ [])

pub after-step : (limit : ℕ) (history : List Step) (s : Step) → after limit (history ++ s ∷ []) ≡ (step limit (after limit history) s).0
after-step limit history s = after_from-step limit start history s

pub after-accepted : (limit : ℕ) (history : List Step) (s : Step) → refusal_in (after limit history) s ≡ None
    → after limit (history ++ s ∷ []) ≡ (accepted limit (after limit history) s).0
after-accepted limit history s e =
    after-step limit history s ∙ ap (λ o. (unless_refused o (after limit history) (accepted limit (after limit history) s)).0) e

pub replies_from-step : (limit : ℕ) (w : State) (xs : List Step) (s : Step)
    → replies_from limit w (xs ++ s ∷ []) ≡ replies_from limit w xs ++ (step limit (after_from limit w xs) s).1 ∷ []
replies_from-step limit w [] s = refl
replies_from-step limit w (x ∷ xs) s = ap (λ later. (step limit w x).1 ∷ later) (replies_from-step limit (step limit w x).0 xs s)

-- ---- a block that was made stays made, its mark stays, and what was freed stays freed

record Grows (old new : List BlockSummary) : Type 0 where
  made : length old ≤ length new
  marked : (b : ℕ) → b < length old → (get_or old b no_block).word.flag ≡ true → (get_or new b no_block).word.flag ≡ true
  freed : (b : ℕ) → b < length old → (get_or old b no_block).given ≤ (get_or new b no_block).given

grows_not : (bs : List BlockSummary) → Grows bs bs
grows_not bs = record { made = omega arith; marked = λ b made e. e; freed = λ b made. omega arith }

-- the entry of one block changes, and keeps its mark and its frees
grows_at : (bs : List BlockSummary) (c : ℕ) (entry : BlockSummary)
    → ((get_or bs c no_block).word.flag ≡ true → entry.word.flag ≡ true) → (get_or bs c no_block).given ≤ entry.given
    → Grows bs (set bs c entry)
grows_at bs c entry mark free = record {
  made = omega (arith, length-set bs c entry);
  marked = λ b made. by_block_mark b made (cases_eq b c);
  freed = λ b made. by_block_free b made (cases_eq b c);
}
  where
    by_block_mark : (b : ℕ) → b < length bs → (b ≡ c) ⊎ (b ≢ c) → (get_or bs b no_block).word.flag ≡ true
        → (get_or (set bs c entry) b no_block).word.flag ≡ true
    by_block_mark b made (inl same) e = rw (same, get_or-set_same bs c entry no_block (rw same at made)) (mark (rw same at e))
    by_block_mark b made (inr apart) e = rw (get_or-set_other bs c b entry no_block apart) e

    by_block_free : (b : ℕ) → b < length bs → (b ≡ c) ⊎ (b ≢ c) → (get_or bs b no_block).given ≤ (get_or (set bs c entry) b no_block).given
    by_block_free b made (inl same) = rw (same, get_or-set_same bs c entry no_block (rw same at made)) free
    by_block_free b made (inr apart) = rw (get_or-set_other bs c b entry no_block apart) (omega arith)

cloned_marked : (limit : ℕ) (w : FlagAndCount) → w.flag ≡ true → (cloned_of limit w).flag ≡ true
cloned_marked limit w e = rw e refl

grows : (limit : ℕ) (w : State) (s : Step) → Grows w.blocks (accepted limit w s).0.blocks
grows limit w Make = record {
  made = omega (arith, length_push w.blocks no_block);
  marked = λ b made e. rw (get_or_append_left w.blocks (no_block ∷ []) no_block b made) e;
  freed = λ b made. rw (get_or_append_left w.blocks (no_block ∷ []) no_block b made) (omega arith);
}
grows limit w (Clone h) = grows_at w.blocks (block_on w h) _ (cloned_marked limit (word_on w h)) (omega arith)
grows limit w (Sub h) = grows_at w.blocks (block_on w h) _ (λ e. e) (omega arith)
grows limit w (Back h) = grows_at w.blocks (block_on w h) _ (λ e. e) (omega arith)
grows limit w (Leak h) = grows_at w.blocks (block_on w h) _ (λ e. refl) (omega arith)
grows limit w s = grows_not w.blocks

grows_more : (old mid new : List BlockSummary) → Grows old mid → Grows mid new → Grows old new
grows_more old mid new first then_ = record {
  made = let a = first.made in let b = then_.made in omega arith;
  marked = λ b made e. then_.marked b (let more = first.made in omega arith) (first.marked b made e);
  freed = λ b made.
      let more = first.made in
      let below : b < length mid = omega arith in
      omega (arith, first.freed b made, then_.freed b below);
}

grows_from : (limit : ℕ) (w : State) (later : List Step) → Grows w.blocks (after_from limit w later).blocks
grows_from limit w [] = grows_not w.blocks
grows_from limit w (s ∷ later) = grows_more _ (step limit w s).0.blocks _ (by_refusal (refusal_in w s)) (grows_from limit (step limit w s).0 later)
  where
    by_refusal : (o : Option StepFault) → Grows w.blocks (unless_refused o w (accepted limit w s)).0.blocks
    by_refusal None = grows limit w s
    by_refusal (Some fault) = grows_not w.blocks

pub made_stays : (limit : ℕ) (w : State) (later : List Step) (b : ℕ) → b < length w.blocks → b < length (after_from limit w later).blocks
made_stays limit w later b made = let more = (grows_from limit w later).made in omega arith

pub mark_stays : (limit : ℕ) (w : State) (later : List Step) (b : ℕ) → b < length w.blocks → (word_in w b).flag ≡ true
    → (word_in (after_from limit w later) b).flag ≡ true
mark_stays limit w later b made = (grows_from limit w later).marked b made

-- ==== the laws of every interleaving

-- once a block is freed, no handle lives on it
given_alone : (limit : ℕ) (w : State) (b : ℕ) → IsLawful limit w → b < length w.blocks → given_in w b ≡ 1 → length (handles_on w b lives) ≡ 0
given_alone limit w b lawful made given = ((says limit w b lawful made).alone (omega (arith, given))).1

given_permanently : (limit : ℕ) (w : State) (later : List Step) (b : ℕ) → IsLawful limit w → b < length w.blocks → given_in w b ≡ 1
    → length (handles_on (after_from limit w later) b lives) ≡ 0
given_permanently limit w later b lawful made given =
    let later_lawful = lawful_from limit w later lawful in
    let still = made_stays limit w later b made in
    let least = (grows_from limit w later).freed b made in
    let most = (says limit (after_from limit w later) b later_lawful still).one in
    given_alone limit (after_from limit w later) b later_lawful still (omega (arith, given))

pub holds_in_every_interleaving : (limit : ℕ) (steps : List Step) → HoldsInEveryInterleaving limit steps
holds_in_every_interleaving limit steps = record {
  words_stand = λ prefix later b _ made. stands limit prefix b made;
  looks_exact = λ prefix later b _ made unmarked.
      let all = says limit (after limit prefix) b (lawful_after limit prefix) made in
      let exact = all.exact unmarked in
      (omega (arith, all.bounded), rw (unmarked, exact) refl);
  marks_stay = λ prefix more later b _ made marked.
      subst (λ (w : State). (word_in w b).flag ≡ true) (sym (after_from-append limit start prefix more))
      (mark_stays limit (after limit prefix) more b made marked);
  one_owes = λ prefix later b _ made.
      let all = says limit (after limit prefix) b (lawful_after limit prefix) made in
      (omega (arith, all.one), λ owes. let alone = all.alone (omega arith) in (alone.0, nil_from_length (living_after limit prefix b) alone.1));
  given_once = λ prefix more later b _ made.
      let all = says limit (after limit prefix) b (lawful_after limit prefix) made in (
        omega (arith, all.one),
        λ given. (
          nil_from_length (living_after limit prefix b) (given_alone limit (after limit prefix) b (lawful_after limit prefix) made given),
          subst (λ (w : State). handles_on w b lives ≡ []) (sym (after_from-append limit start prefix more))
              (nil_from_length _ (given_permanently limit (after limit prefix) more b (lawful_after limit prefix) made given)),
        ),
      );
  given_exactly = λ prefix later b _ made none quiet settled.
      (says limit (after limit prefix) b (lawful_after limit prefix) made).exactly (ap length none) (ap length settled);
}

-- while a handle is dropping, the count of its block's word is not 0, also on a marked block
pub dropping_counted : (limit : ℕ) (history : List Step) (h : ℕ) → h < length (after limit history).handles
    → state_on (after limit history) h ≡ Dropping → 0 < (word_on (after limit history) h).count
dropping_counted limit history h born state =
    let all = says limit (after limit history) (block_on (after limit history) h) (lawful_after limit history) ((lawful_after limit history).made h born) in
    let alive = some_on (after limit history) h lives born (ap lives state) in
    let drops = some_on (after limit history) h is_dropping born (ap is_dropping state) in
    by_flag _ _ _ _ all.exact all.covered alive drops
  where
    by_flag : (f : Bool) (n living dropping : ℕ) → (IsFalse f → n ≡ living) → (IsTrue f → dropping ≤ n) → 0 < living → 0 < dropping → 0 < n
    by_flag f n living dropping exact covered alive drops = grind arith
