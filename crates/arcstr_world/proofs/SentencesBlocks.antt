-- Marked blocks and the handles on a block, as sentences about the prefixes of the history.
--
-- We show what each accepted step does to the mark of a block (`marks`), and so that a block is marked exactly if the history has a step that marks it
-- (`where_steps`). Then we show which handles are in the list of those on a block whose states pass a test (`members`), and read the other sentences off.
use Rattle.arcstr_world.proofs.Names.{◌≡◌, ◌≢◌, ◌↔◌, ℕ, ◌<◌, ◌+◌, Bool, true, false, ◌&&◌, ◌||◌, ◌==◌, nat_lt, IsTrue, IsFalse, List, [], ◌∷◌, ◌++◌, length}
use Rattle.arcstr_world.proofs.Names.{◌⊎◌, inl, inr}
use Rattle.arcstr_world.proofs.Names.{refl, sym, ap, subst, zero, suc, if◌then◌else◌, Option, None, Some, filter, slice_index, Contains, ◌∙◌, arith, or_cases}
use Rattle.arcstr_world.proofs.Names.{or_left, or_right}
use Rattle.arcstr_world.proofs.Names.{and_parts, and_from, eqb-true, eq-eqb, ne_eqb, ltb-true, lt-ltb, cases_eq, Step, Make, Look, Clone, Begin, Leak}
use Rattle.arcstr_world.proofs.Names.{IntoRaw, FromRaw, lives, numbers_below, State, after, accepted, accepted_after, refusal_in, block_on, state_on, state_in}
use Rattle.arcstr_world.proofs.Names.{word_in, word_on}
use Rattle.arcstr_world.proofs.Names.{handles_on, marked_after, block_after, living_after, dropping_after, owing_after, state_after, MarkedSentence}
use Rattle.arcstr_world.proofs.Names.{LivingSentence}
use Rattle.arcstr_world.proofs.Names.{UnderWaySentence, IsStrictlyIncreasing, get_or, set, no_block}
use Rattle.arcstr_world.proofs.Names.{Contains-append_left, Contains-push, Contains-push_cases, Contains-append_cases, filter-append, BlockSummary, cloned_of}
use Rattle.arcstr_world.proofs.Names.{IsStrictlyIncreasing-filter, HandleState, Free, Raw, Dropping, Owing, is_dropping, is_owing, length_push}
use Rattle.arcstr_count.proofs.LawsOfBlocks.{IsIn, is_in_state, state_born, step_finds, finds, at_set, at_push, part_kept, IsLawful, lawful_after}
use Rattle.arcstr_count.proofs.LawsOfHistories.{says}
use Rattle.arcstr_world.proofs.Prefixes.{IsAccepted, TakenWhere, accepted_step, accepted_nowhere, sum_step, some_step, where_steps}
use Rattle.arcstr_world.proofs.SentencesHandles.{get_or-push_default}

-- ---- what each accepted step does to the mark of a block

module _ (limit : ℕ) (w : State) (lawful : IsLawful limit w) (b : ℕ) where
  -- a step that sets the entry of its handle's block
  mark_at : (h : ℕ) (s : HandleState) (entry : BlockSummary) (f : Bool) → IsIn w h s → entry.word.flag ≡ (f || (word_on w h).flag)
      → (get_or (set w.blocks (block_on w h) entry) b no_block).word.flag ≡ (((block_on w h == b) && f) || (word_in w b).flag)
  mark_at h s entry f i is = at_set (λ (e : BlockSummary). e.word.flag ≡ (((block_on w h == b) && f) || (word_in w b).flag))
      w.blocks (block_on w h) b entry no_block (lawful.made h i.born)
      (λ on. is ∙ subst (λ c. (f || (word_on w h).flag) ≡ (((block_on w h == c) && f) || (word_in w c).flag)) (sym on)
      (sym (ap (λ t. (t && f) || (word_on w h).flag) (eq-eqb (block_on w h) (block_on w h) refl))))
      (λ apart. sym (ap (λ t. (t && f) || (word_in w b).flag) (ne_eqb (block_on w h) b (λ same. apart (sym same)))))

  -- a clone marks an unmarked block whose living handles are more than the limit
  cloned_flag : (h : ℕ) → IsIn w h Free → (cloned_of limit (word_on w h)).flag
      ≡ (nat_lt limit (length (handles_on w (block_on w h) lives)) || (word_on w h).flag)
  cloned_flag h i =
      let exact = (says limit w (block_on w h) lawful (lawful.made h i.born)).exact in
      by_word (word_on w h).flag (word_on w h).count (length (handles_on w (block_on w h) lives)) exact
    where
      by_word : (f : Bool) (n living : ℕ) → (IsFalse f → n ≡ living)
          → (cloned_of limit (record { flag = f; count = n })).flag ≡ (nat_lt limit living || f)
      by_word f n living exact = grind arith

  -- the mark of a block after an accepted step
  abbrev marks_by : Step → Bool
  marks_by (Leak h) = block_on w h == b
  marks_by (Clone h) = (block_on w h == b) && nat_lt limit (length (handles_on w (block_on w h) lives))
  marks_by s = false

  and_true : (t m : Bool) → ((t && true) || m) ≡ (t || m)
  and_true t m = grind arith

  marks : (s : Step) → refusal_in w s ≡ None → (word_in (accepted limit w s).0 b).flag ≡ (marks_by s || (word_in w b).flag)
  marks Make e = ap (λ (x : BlockSummary). x.word.flag) (get_or-push_default w.blocks b no_block)
  marks (Look h) e = refl
  marks (Clone h) e = let i = step_finds w h Free e in mark_at h Free _ _ i (cloned_flag h i)
  marks (Begin h) e = refl
  marks (Leak h) e = mark_at h Free _ true (step_finds w h Free e) refl ∙ and_true (block_on w h == b) (word_in w b).flag
  marks (IntoRaw h) e = refl
  marks (FromRaw h) e = refl
  marks s e = part_kept (λ (it : BlockSummary). it.word.flag) w.blocks _ _ no_block (lawful.made _ (finds w s e).born) refl b

-- ---- the sentence

module _ (limit b : ℕ) where
  abbrev IsOn : ℕ → List Step → Type 0
  IsOn h prefix = block_after limit prefix h ≡ b

  abbrev IsOnFull : ℕ → List Step → Type 0
  IsOnFull h prefix = (block_after limit prefix h ≡ b) × IsFalse (marked_after limit prefix b) × (limit < length (living_after limit prefix b))

  -- the step marks the block
  abbrev MarksNow : List Step → Step → Type 0
  MarksNow history x = ((h : ℕ) × TakenWhere limit history x (Leak h) (IsOn h)) ⊎ ((h : ℕ) × TakenWhere limit history x (Clone h) (IsOnFull h))

  abbrev marks_it : List Step → Step → Bool
  marks_it history x = marks_by limit (after limit history) (lawful_after limit history) b x

  marks_now : (history : List Step) (x : Step) → MarksNow history x → marks_it history x ≡ true
  marks_now history x = elim [
    | inl n ↦ subst (λ y. marks_it history y ≡ true) (sym n.1.0.0) (eq-eqb (block_after limit history n.0) b n.1.1)
    | inr n ↦ subst (λ y. marks_it history y ≡ true) (sym n.1.0.0) (and_from (block_after limit history n.0 == b)
        (nat_lt limit (length (handles_on (after limit history) (block_after limit history n.0) lives)))
        (eq-eqb (block_after limit history n.0) b n.1.1.0)
        (lt-ltb limit (length (handles_on (after limit history) (block_after limit history n.0) lives))
        (subst (λ c. limit < length (handles_on (after limit history) c lives)) (sym n.1.1.0) n.1.1.2)))
  ]

  now_marks : (history : List Step) (x : Step) → IsTrue (accepted_after limit history x) → marked_after limit history b ≡ false → marks_it history x ≡ true
      → MarksNow history x
  now_marks history (Leak h) a unmarked e = inl (h, ((refl, a), eqb-true (block_after limit history h) b e))
  now_marks history (Clone h) a unmarked e =
      let parts =
      and_parts (block_after limit history h == b) (nat_lt limit (length (handles_on (after limit history) (block_after limit history h) lives))) e in
      let on = eqb-true (block_after limit history h) b parts.0 in
      let over = ltb-true limit (length (handles_on (after limit history) (block_after limit history h) lives)) parts.1 in
      inr (h, ((refl, a), (on, unmarked, subst (λ c. limit < length (handles_on (after limit history) c lives)) on over)))
  now_marks history x a unmarked e = absurd (cc)

  mark_step : (history : List Step) (x : Step) → IsAccepted limit history x
      → ((word_in (accepted limit (after limit history) x).0 b).flag ≡ true) ↔ (MarksNow history x ⊎ (marked_after limit history b ≡ true))
  mark_step history x a = (
    (λ marked. by_mark (marked_after limit history b) refl (or_cases (marks_it history x) (marked_after limit history b) (sym is ∙ marked))),
    elim [
      | inl n ↦ is ∙ or_left (marks_it history x) (marked_after limit history b) (marks_now history x n)
      | inr before ↦ is ∙ or_right (marks_it history x) (marked_after limit history b) before
    ],
  )
    where
      is : (word_in (accepted limit (after limit history) x).0 b).flag ≡ (marks_it history x || marked_after limit history b)
      is = marks limit (after limit history) (lawful_after limit history) b x a.none

      by_mark : (m : Bool) → marked_after limit history b ≡ m → (marks_it history x ≡ true) ⊎ (marked_after limit history b ≡ true)
          → MarksNow history x ⊎ (marked_after limit history b ≡ true)
      by_mark true marked which = inr marked
      by_mark false unmarked which = elim which [ inl e ↦ inl (now_marks history x a.accepted unmarked e) | inr e ↦ inr e ]

pub marked_sentence : (limit : ℕ) (history : List Step) (b : ℕ) → IsTrue (marked_after limit history b) ↔ MarkedSentence limit history b
marked_sentence limit history b = where_steps limit (λ w. (word_in w b).flag ≡ true) (λ steps. MarkedSentence limit steps b) (MarksNow limit b)
    (λ e. cc)
    (elim [ inl w ↦ accepted_nowhere limit (Leak w.0) (IsOn limit b w.0) w.1 | inr w ↦ accepted_nowhere limit (Clone w.0) (IsOnFull limit b w.0) w.1 ])
    (λ steps x. elim [ inl n ↦ n.1.0.1 | inr n ↦ n.1.0.1 ])
    (λ steps x. sum_step _ _ _ _ _ _ (some_step _ _ _ (λ h. accepted_step limit steps (Leak h) (IsOn limit b h) x))
    (some_step _ _ _ (λ h. accepted_step limit steps (Clone h) (IsOnFull limit b h) x)))
    (mark_step limit b) history

-- ==== the handles that live on a block, and those whose drops are under way, as sentences about single handles

-- ---- the numbers below another

length-numbers_below : (n : ℕ) → length (numbers_below n) ≡ n
length-numbers_below zero = refl
length-numbers_below (suc n) = let before = length-numbers_below n in omega (arith, length_push (numbers_below n) n)

numbers_below-at : (n k : ℕ) → k < n → slice_index (numbers_below n) k ≡ k
numbers_below-at zero k lt = absurd (omega arith)
numbers_below-at (suc n) k lt = at_push (λ m. m ≡ k) (numbers_below n) n 0 k (omega (arith, length-numbers_below (suc n)))
    (λ last. omega (arith, length-numbers_below n)) (λ below. numbers_below-at n k (omega (arith, length-numbers_below n)))

numbers_below-rising : (n : ℕ) → IsStrictlyIncreasing (numbers_below n)
numbers_below-rising n k lt =
    let first : slice_index (numbers_below n) k ≡ k = numbers_below-at n k (omega (arith, length-numbers_below n)) in
    let next : slice_index (numbers_below n) (k + 1) ≡ k + 1 = numbers_below-at n (k + 1) (omega (arith, length-numbers_below n)) in
    omega arith

-- ---- those of these numbers that pass a test

Contains-filter_one : (test : ℕ → Bool) (n h : ℕ) → Contains (filter test (n ∷ [])) h → (n ≡ h) × (test n ≡ true)
Contains-filter_one test n h c = go (test n) refl c
  where
    go : (b : Bool) → test n ≡ b → Contains (if b then n ∷ [] else []) h → (n ≡ h) × (test n ≡ true)
    go true e w = elim (Contains-push_cases [] n h w) [ inl none ↦ absurd (omega (arith, none.1)) | inr same ↦ (same, e) ]
    go false e w = absurd (omega (arith, w.1))

contains_passing : (f : ℕ → Bool) (n i : ℕ) → i < n → f i ≡ true → Contains (filter f (numbers_below n)) i
contains_passing f zero i below passes = absurd (omega arith)
contains_passing f (suc n) i below passes =
    rw (filter-append f (numbers_below n) (n ∷ [])) (by_place (cases_eq i n) (λ inner. contains_passing f n i inner passes))
  where
    by_place : (i ≡ n) ⊎ (i ≢ n) → (i < n → Contains (filter f (numbers_below n)) i) → Contains (filter f (numbers_below n) ++ filter f (n ∷ [])) i
    by_place (inl last) earlier = rw (← last, passes) (Contains-push (filter f (numbers_below i)) i)
    by_place (inr inner) earlier = Contains-append_left (filter f (numbers_below n)) (filter f (n ∷ [])) i (earlier (omega arith))

passing_below : (test : ℕ → Bool) (n h : ℕ) → Contains (filter test (numbers_below n)) h → (h < n) × (test h ≡ true)
passing_below test zero h c = absurd (omega (arith, c.1))
passing_below test (suc n) h c =
    elim (Contains-append_cases (filter test (numbers_below n)) (filter test (n ∷ [])) h (rw (filter-append test (numbers_below n) (n ∷ [])) at c)) [
      | inl w ↦ (let before = passing_below test n h w in (omega (arith, before.0), before.1))
      | inr w ↦ (let last = Contains-filter_one test n h w in (omega (arith, last.0), subst (λ k. test k ≡ true) last.0 last.1))
    ]

pub passing_sentence : (test : ℕ → Bool) (n h : ℕ) → Contains (filter test (numbers_below n)) h ↔ ((h < n) × (test h ≡ true))
passing_sentence test n h = (passing_below test n h, (λ w. contains_passing test n h w.0 w.1))

pub passing_rising : (test : ℕ → Bool) (n : ℕ) → IsStrictlyIncreasing (filter test (numbers_below n))
passing_rising test n = IsStrictlyIncreasing-filter test (numbers_below n) (numbers_below-rising n)

-- ---- the handles on a block in a table, by their states

module _ (w : State) (h : ℕ) where
  pub members : (test : HandleState → Bool) (b : ℕ) → Contains (handles_on w b test) h
      ↔ ((h < length w.handles) × (block_on w h ≡ b) × (test (state_on w h) ≡ true))
  members test b = (
    (λ c. let found = (passing_sentence (λ k. (block_on w k == b) && test (state_on w k)) (length w.handles) h).0 c in
        let parts = and_parts (block_on w h == b) (test (state_on w h)) found.1 in
        (found.0, eqb-true (block_on w h) b parts.0, parts.1)),
    (λ found. (passing_sentence (λ k. (block_on w k == b) && test (state_on w k)) (length w.handles) h).1
        (found.0, and_from (block_on w h == b) (test (state_on w h)) (eq-eqb (block_on w h) b found.1) found.2)),
  )

  -- a test of states says something of the state that a handle that was born has
  members_in : (test : HandleState → Bool) (Says : Option HandleState → Type 0) → ((s : HandleState) → (test s ≡ true) ↔ Says (Some s)) → (¬ Says None)
      → (b : ℕ) → Contains (handles_on w b test) h ↔ ((block_on w h ≡ b) × Says (state_in w h))
  members_in test Says means unborn b = (
    (λ c. let found = (members test b).0 c in (found.1, subst Says (sym (state_born w h found.0)) ((means (state_on w h)).0 found.2))),
    (λ found. by_state (state_in w h) refl found.0 found.1),
  )
    where
      by_state : (o : Option HandleState) → state_in w h ≡ o → block_on w h ≡ b → Says o → Contains (handles_on w b test) h
      by_state None e on says_it = absurd (unborn says_it)
      by_state (Some s) e on says_it = let i = is_in_state w h s e in (members test b).1 (i.born, on, ap test i.state ∙ (means s).1 says_it)

-- ---- living

lives_means : (s : HandleState) → (lives s ≡ true) ↔ ((Some s ≡ Some Free) ⊎ ((Some s ≡ Some Raw) ⊎ (Some s ≡ Some Dropping)))
lives_means s = grind arith

dropping_means : (s : HandleState) → (is_dropping s ≡ true) ↔ (Some s ≡ Some Dropping)
dropping_means s = grind arith

owing_means : (s : HandleState) → (is_owing s ≡ true) ↔ (Some s ≡ Some Owing)
owing_means s = grind arith

pub living_sentence : (limit : ℕ) (history : List Step) (b h : ℕ) → Contains (living_after limit history b) h ↔ LivingSentence limit history b h
living_sentence limit history b h = members_in (after limit history) h lives
    (λ o. (o ≡ Some Free) ⊎ ((o ≡ Some Raw) ⊎ (o ≡ Some Dropping))) lives_means (λ e. elim e [ inl f ↦ cc | inr g ↦ elim g [ inl f ↦ cc | inr f ↦ cc ] ]) b

pub living_rising : (limit : ℕ) (history : List Step) (b : ℕ) → IsStrictlyIncreasing (living_after limit history b)
living_rising limit history b = passing_rising
    (λ h. (block_on (after limit history) h == b) && lives (state_on (after limit history) h)) (length (after limit history).handles)

-- ---- a drop under way

pub dropping_sentence : (limit : ℕ) (history : List Step) (b h : ℕ) → Contains (dropping_after limit history b) h
    ↔ ((block_after limit history h ≡ b) × (state_after limit history h ≡ Some Dropping))
dropping_sentence limit history b h = members_in (after limit history) h is_dropping (λ o. o ≡ Some Dropping) dropping_means (λ e. cc) b

pub owing_sentence : (limit : ℕ) (history : List Step) (b h : ℕ) → Contains (owing_after limit history b) h
    ↔ ((block_after limit history h ≡ b) × (state_after limit history h ≡ Some Owing))
owing_sentence limit history b h = members_in (after limit history) h is_owing (λ o. o ≡ Some Owing) owing_means (λ e. cc) b

not_empty : (xs : List ℕ) (h : ℕ) → Contains xs h → xs ≢ []
not_empty xs h c e = let none : Contains [] h = subst (λ ys. Contains ys h) e c in absurd (omega (arith, none.1))

some_member : (xs : List ℕ) → xs ≢ [] → (h : ℕ) × Contains xs h
some_member [] n = absurd (n refl)
some_member (x ∷ xs) n = (x, Contains-append_left (x ∷ []) xs x (Contains-push [] x))

pub under_way_sentence : (limit : ℕ) (history : List Step) (b : ℕ)
    → ((dropping_after limit history b ≢ []) ⊎ (owing_after limit history b ≢ [])) ↔ UnderWaySentence limit history b
under_way_sentence limit history b = (
  elim [
    | inl some ↦ (let m = some_member (dropping_after limit history b) some in
        let w = (dropping_sentence limit history b m.0).0 m.1 in (m.0, w.0, inl w.1))
    | inr some ↦ (let m = some_member (owing_after limit history b) some in
        let w = (owing_sentence limit history b m.0).0 m.1 in (m.0, w.0, inr w.1))
  ],
  (λ w. elim w.2 [
    | inl e ↦ inl (not_empty (dropping_after limit history b) w.0 ((dropping_sentence limit history b w.0).1 (w.1, e)))
    | inr e ↦ inr (not_empty (owing_after limit history b) w.0 ((owing_sentence limit history b w.0).1 (w.1, e)))
  ]),
)
