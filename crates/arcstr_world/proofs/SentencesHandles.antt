-- Births of handles, and numbers of accepted steps, as sentences about the prefixes of the history.
--
-- We show for each number what an accepted step adds to it, and by induction on the history that it counts accepted steps (`count_sentence`). Then we show
-- which handle each accepted step gives birth to, and by induction where each was born.
use Rattle.arcstr_world.proofs.Names.{◌≡◌, ◌≢◌, ℕ, zero, suc, ◌+◌, ◌<◌, Bool, true, false, ◌&&◌, if◌then◌else◌, Option, Some, None, List, [], ◌∷◌, ◌++◌, length}
use Rattle.arcstr_world.proofs.Names.{take}
use Rattle.arcstr_world.proofs.Names.{slice_get, refl, sym, ◌∙◌, ap, arith, ◌↔◌, ◌==◌, ◌⊎◌, inl, inr, subst, length_push, length-set}
use Rattle.arcstr_world.proofs.Names.{get_or, take-append-le, take-append_seam}
use Rattle.arcstr_world.proofs.Names.{Step, Make, Look, Clone, Begin, Back, Leak, IntoRaw, FromRaw, Free, Owing, HandleState, HandleSummary, BlockSummary}
use Rattle.arcstr_world.proofs.Names.{State, start, after, accepted, refusal_in, accepted_after, block_on, given_in, handles_with_state, no_handle, no_block}
use Rattle.arcstr_world.proofs.Names.{is_make, is_birth, births_after, makes_after, block_after, given_after, passes_after, accepted_count, is_back_on}
use Rattle.arcstr_world.proofs.Names.{given_count}
use Rattle.arcstr_world.proofs.Names.{BornSentence, eq-eqb, ne_eqb}
use Rattle.std.proofs.Common.{ap₂}
use Rattle.arcstr_count.proofs.LawsOfBlocks.{count, count-push, count-same, one_if, IsLawful, lawful_after, IsIn, step_finds, finds, at_set, at_push, part_kept}
use Rattle.arcstr_count.proofs.LawsOfBlocks.{length-moved, moved_block, born_last, born_earlier}
use Rattle.arcstr_world.proofs.Prefixes.{IsRefused, IsAccepted, by_history, TakenWhere, accepted_step, accepted_nowhere, sum_step, some_step, where_steps}

-- ---- the indices of a history with one more step

-- what holds of a new entry at its index, and of the entry found at any other, holds of what is found at each index
pub slice_at_push : {X : Type 0} (P : Option X → Type 0) (xs : List X) (b : ℕ) (x : X) → (length xs ≡ b → P (Some x)) → (length xs ≢ b → P (slice_get xs b))
    → P (slice_get (xs ++ x ∷ []) b)
slice_at_push P [] zero x last before = last refl
slice_at_push P [] (suc b) x last before = before (λ e. omega arith)
slice_at_push P (y ∷ xs) zero x last before = before (λ e. omega arith)
slice_at_push P (y ∷ xs) (suc b) x last before = slice_at_push P xs b x (λ e. last (ap suc e)) (λ other. before (λ e. other (omega arith)))

module _ (limit : ℕ) (test : List Step → Step → Bool) where
  -- the step at index i is accepted and passes
  abbrev passes_at : List Step → ℕ → Bool
  passes_at history i = passes_after limit (take i history) test (slice_get history i)

  passes_at-before : (prefix : List Step) (s : Step) (i : ℕ) → i < length prefix → passes_at (prefix ++ s ∷ []) i ≡ passes_at prefix i
  passes_at-before prefix s i lt = rw (take-append-le i prefix (s ∷ []) (omega arith))
      (slice_at_push (λ o. passes_after limit (take i prefix) test o ≡ passes_at prefix i) prefix i s (λ last. absurd (omega arith)) (λ other. refl))

  passes_at-last : (prefix : List Step) (s : Step) → passes_at (prefix ++ s ∷ []) (length prefix) ≡ (accepted_after limit prefix s && test prefix s)
  passes_at-last prefix s = rw (take-append_seam prefix (s ∷ []))
      (slice_at_push (λ o. passes_after limit prefix test o ≡ (accepted_after limit prefix s && test prefix s)) prefix (length prefix) s
      (λ last. refl) (λ other. absurd (other refl)))

  accepted_count-step : (prefix : List Step) (s : Step) → accepted_count limit (prefix ++ s ∷ []) test
      ≡ (if accepted_after limit prefix s && test prefix s then suc (accepted_count limit prefix test) else accepted_count limit prefix test)
  accepted_count-step prefix s =
      let places : length (prefix ++ s ∷ []) ≡ suc (length prefix) = omega (arith, length_push prefix s) in
      ap (λ n. count (λ i. passes_at (prefix ++ s ∷ []) i) n) places
      ∙ count-push (λ i. passes_at (prefix ++ s ∷ []) i) (length prefix)
      ∙ ap₂ (λ n t. n + one_if t)
      (count-same (λ i. passes_at prefix i) (λ i. passes_at (prefix ++ s ∷ []) i) (length prefix) (passes_at-before prefix s))
      (passes_at-last prefix s)
      ∙ more (accepted_count limit prefix test) (accepted_after limit prefix s && test prefix s)
    where
      more : (n : ℕ) (t : Bool) → n + one_if t ≡ (if t then suc n else n)
      more n true = omega arith
      more n false = omega arith

-- ---- a number that grows by one with each accepted step that passes

-- a number that each accepted step that passes raises by one, and no other step changes, counts the accepted steps of a history that pass
count_sentence : (limit : ℕ) (test : State → Step → Bool) (count : State → ℕ) → count start ≡ 0
    → ((w : State) → IsLawful limit w → (s : Step) → refusal_in w s ≡ None → count (accepted limit w s).0 ≡ (if test w s then suc (count w) else count w))
    → (history : List Step) → count (after limit history) ≡ accepted_count limit history (λ prefix s. test (after limit prefix) s)
count_sentence limit test count nil more = by_history limit (λ history. count (after limit history) ≡ accepted_count limit history tests) nil refused accepts
  where
    tests : List Step → Step → Bool
    tests prefix s = test (after limit prefix) s

    refused : (history : List Step) (s : Step) → IsRefused limit history s → count (after limit history) ≡ accepted_count limit history tests
        → count (after limit (history ++ s ∷ [])) ≡ accepted_count limit (history ++ s ∷ []) tests
    refused history s r before = ap count r.state ∙ before ∙ sym (accepted_count-step limit tests history s
        ∙ ap (λ b. if b && tests history s then suc (accepted_count limit history tests) else accepted_count limit history tests) r.refused)

    accepts : (history : List Step) (s : Step) → IsAccepted limit history s → count (after limit history) ≡ accepted_count limit history tests
        → count (after limit (history ++ s ∷ [])) ≡ accepted_count limit (history ++ s ∷ []) tests
    accepts history s a before = ap count a.state ∙ more (after limit history) (lawful_after limit history) s a.none
        ∙ ap (λ n. if test (after limit history) s then suc n else n) before
        ∙ sym (accepted_count-step limit tests history s
        ∙ ap (λ b. if b && tests history s then suc (accepted_count limit history tests) else accepted_count limit history tests) a.accepted)

births-more : (limit : ℕ) (w : State) (s : Step) → length (accepted limit w s).0.handles ≡ (if is_birth s then suc (length w.handles) else length w.handles)
births-more limit w Make = omega (arith, length_push w.handles (record { block = length w.blocks; state = Free }))
births-more limit w (Look h) = refl
births-more limit w (Clone h) = omega (arith, length_push w.handles (record { block = block_on w h; state = Free }))
births-more limit w (Leak h) = refl
births-more limit w s = length-set w.handles _ _

pub births_sentence : (limit : ℕ) (history : List Step) → births_after limit history ≡ accepted_count limit history (λ prefix s. is_birth s)
births_sentence limit history = count_sentence limit (λ w s. is_birth s) (λ w. length w.handles) refl (λ w lawful s e. births-more limit w s) history

makes-more : (limit : ℕ) (w : State) (s : Step) → length (accepted limit w s).0.blocks ≡ (if is_make s then suc (length w.blocks) else length w.blocks)
makes-more limit w Make = omega (arith, length_push w.blocks no_block)
makes-more limit w (Look h) = refl
makes-more limit w (Begin h) = refl
makes-more limit w (IntoRaw h) = refl
makes-more limit w (FromRaw h) = refl
makes-more limit w s = length-set w.blocks _ _

pub makes_sentence : (limit : ℕ) (history : List Step) → makes_after limit history ≡ accepted_count limit history (λ prefix s. is_make s)
makes_sentence limit history = count_sentence limit (λ w s. is_make s) (λ w. length w.blocks) refl (λ w lawful s e. makes-more limit w s) history

-- ---- how often a block was freed

-- the default at the end of a list changes no read
pub get_or-push_default : {X : Type 0} (xs : List X) (k : ℕ) (d : X) → get_or (xs ++ d ∷ []) k d ≡ get_or xs k d
get_or-push_default [] zero d = refl
get_or-push_default [] (suc k) d = refl
get_or-push_default (x ∷ xs) zero d = refl
get_or-push_default (x ∷ xs) (suc k) d = get_or-push_default xs k d

module _ (limit : ℕ) (w : State) (lawful : IsLawful limit w) (b : ℕ) where
  given_back : (h : ℕ) → IsIn w h Owing → given_in (accepted limit w (Back h)).0 b ≡ (if block_on w h == b then suc (given_in w b) else given_in w b)
  given_back h i = at_set (λ (e : BlockSummary). e.given ≡ (if block_on w h == b then suc (given_in w b) else given_in w b))
      w.blocks (block_on w h) b _ no_block (lawful.made h i.born)
      (λ on. subst (λ c. given_in w (block_on w h) + 1 ≡ (if block_on w h == c then suc (given_in w c) else given_in w c)) (sym on)
      (more (given_in w (block_on w h))
      ∙ sym (ap (λ t. if t then suc (given_in w (block_on w h)) else given_in w (block_on w h)) (eq-eqb (block_on w h) (block_on w h) refl))))
      (λ apart. sym (ap (λ t. if t then suc (given_in w b) else given_in w b) (ne_eqb (block_on w h) b (λ same. apart (sym same)))))
    where
      more : (n : ℕ) → n + 1 ≡ suc n
      more n = omega arith

  given-more : (s : Step) → refusal_in w s ≡ None
      → given_in (accepted limit w s).0 b ≡ (if is_back_on (λ h. block_on w h) b s then suc (given_in w b) else given_in w b)
  given-more Make e = ap (λ (x : BlockSummary). x.given) (get_or-push_default w.blocks b no_block)
  given-more (Look h) e = refl
  given-more (Begin h) e = refl
  given-more (Back h) e = given_back h (step_finds w h Owing e)
  given-more (IntoRaw h) e = refl
  given-more (FromRaw h) e = refl
  given-more s e = part_kept (λ (it : BlockSummary). it.given) w.blocks _ _ no_block (lawful.made _ (finds w s e).born) refl b

pub given_count_sentence : (limit : ℕ) (history : List Step) (b : ℕ) → given_after limit history b ≡ given_count limit history b
given_count_sentence limit history b = count_sentence limit (λ w s. is_back_on (λ h. block_on w h) b s) (λ w. given_in w b) refl
    (λ w lawful s e. given-more limit w lawful b s e) history

-- ==== where a handle is born, and on which block

abbrev pub IsBorn : List HandleSummary → ℕ → ℕ → Type 0
IsBorn hs h b = (h < length hs) × ((get_or hs h no_handle).block ≡ b)

pushed_cases : (hs : List HandleSummary) (c h b : ℕ) → IsBorn (hs ++ record { block = c; state = Free } ∷ []) h b → IsBorn hs h b ⊎ ((length hs ≡ h) × (c ≡ b))
pushed_cases hs c h b w = at_push (λ (it : HandleSummary). it.block ≡ b → IsBorn hs h b ⊎ ((length hs ≡ h) × (c ≡ b)))
    hs _ no_handle h w.0 (λ last on. inr (sym last, on)) (λ below on. inl (below, on)) w.1

pushed_earlier : (hs : List HandleSummary) (c h b : ℕ) → IsBorn hs h b → IsBorn (hs ++ record { block = c; state = Free } ∷ []) h b
pushed_earlier hs c h b w = (
  let born = w.0 in omega (arith, length_push hs (record { block = c; state = Free })),
  ap (λ (it : HandleSummary). it.block) (born_earlier hs c h w.0)
      ∙ w.1,
)

pushed_last : (hs : List HandleSummary) (c h b : ℕ) → length hs ≡ h → c ≡ b → IsBorn (hs ++ record { block = c; state = Free } ∷ []) h b
pushed_last hs c h b last on = subst (λ k. IsBorn (hs ++ record { block = c; state = Free } ∷ []) k b) last
    (omega (arith, length_push hs (record { block = c; state = Free })), ap (λ (it : HandleSummary). it.block) (born_last hs c) ∙ on)

moved_born : (hs : List HandleSummary) (g : ℕ) (new : HandleState) (h b : ℕ) → g < length hs → IsBorn (handles_with_state hs g new) h b ↔ IsBorn hs h b
moved_born hs g new h b within = (
  (λ w. (let born = w.0 in omega (arith, length-moved hs g new within), sym (moved_block hs g new within h) ∙ w.1)),
  (λ w. (let born = w.0 in omega (arith, length-moved hs g new within), moved_block hs g new within h ∙ w.1)),
)

module _ (limit : ℕ) (w : State) (h b : ℕ) where
  born_more : (s : Step) → refusal_in w s ≡ None → IsBorn w.handles h b → IsBorn (accepted limit w s).0.handles h b
  born_more Make e born = pushed_earlier w.handles (length w.blocks) h b born
  born_more (Look g) e born = born
  born_more (Clone g) e born = pushed_earlier w.handles (block_on w g) h b born
  born_more (Leak g) e born = born
  born_more s e born = (moved_born w.handles _ _ h b (finds w s e).born).1 born

module _ (limit h b : ℕ) where
  -- there are h births in the history, and its `Make`s are b; or g is on b
  abbrev MakesOn : List Step → Type 0
  MakesOn prefix = (births_after limit prefix ≡ h) × (makes_after limit prefix ≡ b)

  abbrev ClonesOn : ℕ → List Step → Type 0
  ClonesOn g prefix = (births_after limit prefix ≡ h) × (block_after limit prefix g ≡ b)

  -- the step gives birth to h on b
  abbrev BearsNow : List Step → Step → Type 0
  BearsNow history x = TakenWhere limit history x Make MakesOn ⊎ ((g : ℕ) × TakenWhere limit history x (Clone g) (ClonesOn g))

  born_cases : (history : List Step) (x : Step) → IsAccepted limit history x → IsBorn (accepted limit (after limit history) x).0.handles h b
      → BearsNow history x ⊎ IsBorn (after limit history).handles h b
  born_cases history Make a born = elim (pushed_cases (after limit history).handles (makes_after limit history) h b born) [
    | inl older ↦ inr older
    | inr new ↦ inl (inl ((refl, a.accepted), new))
  ]
  born_cases history (Look g) a born = inr born
  born_cases history (Clone g) a born = elim (pushed_cases (after limit history).handles (block_after limit history g) h b born) [
    | inl older ↦ inr older
    | inr new ↦ inl (inr (g, ((refl, a.accepted), new)))
  ]
  born_cases history (Leak g) a born = inr born
  born_cases history s a born = inr ((moved_born (after limit history).handles _ _ h b (finds (after limit history) s a.none).born).0 born)

  bears : (history : List Step) (x : Step) → BearsNow history x → IsBorn (accepted limit (after limit history) x).0.handles h b
  bears history x = elim [
    | inl m ↦ subst (λ s. IsBorn (accepted limit (after limit history) s).0.handles h b) (sym m.0.0)
        (pushed_last (after limit history).handles (makes_after limit history) h b m.1.0 m.1.1)
    | inr c ↦ subst (λ s. IsBorn (accepted limit (after limit history) s).0.handles h b) (sym c.1.0.0)
        (pushed_last (after limit history).handles (block_after limit history c.0) h b c.1.1.0 c.1.1.1)
  ]

pub born_sentence : (limit : ℕ) (history : List Step) (h b : ℕ)
    → ((h < births_after limit history) × (block_after limit history h ≡ b)) ↔ BornSentence limit history h b
born_sentence limit history h b = where_steps limit (λ w. IsBorn w.handles h b) (λ steps. BornSentence limit steps h b) (BearsNow limit h b)
    (λ born. let none = born.0 in omega arith)
    (elim [ inl w ↦ accepted_nowhere limit Make (MakesOn limit h b) w | inr w ↦ accepted_nowhere limit (Clone w.0) (ClonesOn limit h b w.0) w.1 ])
    (λ steps x. elim [ inl n ↦ n.0.1 | inr n ↦ n.1.0.1 ])
    (λ steps x. sum_step _ _ _ _ _ _ (accepted_step limit steps Make (MakesOn limit h b) x)
    (some_step _ _ _ (λ g. accepted_step limit steps (Clone g) (ClonesOn limit h b g) x)))
    (λ steps x a. (
      born_cases limit h b steps x a,
      elim [ inl n ↦ bears limit h b steps x n | inr older ↦ born_more limit (after limit steps) h b x a.none older ],
    ))
    history
