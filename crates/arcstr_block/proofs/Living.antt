-- A handle whose seat is free lives in each prefix of the history in which it was born, and nobody has freed its block: no step brings a handle back to life.
--
-- We show for each step that a handle which lives after it lived before it, then the same of the steps that follow a prefix.
use Rattle.arcstr_block.proofs.Names.{◌≡◌, ℕ, ◌<◌, ◌≤◌, zero, suc, Bool, true, List, [], ◌∷◌, ◌++◌, length, refl, sym, subst, ap, ◌∙◌, arith}
use Rattle.arcstr_block.proofs.Names.{inl, inr, Option, Some, None, slice_get, dite, ℕ_discrete, IsPrefix, eq-eqb, if◌then◌else◌}
use Rattle.arcstr_block.proofs.Names.{Step, Make, Look, Clone, Begin, Sub, Back, Leak, HandleState, Free, Dropping, Owing, Gone, FlagAndCount, Keeps}
use Rattle.std.specs.Prelude.{Contains, filter, get_or}
use Rattle.std.proofs.lemmas.Bool.{cases_lt}
use Rattle.std.proofs.lemmas.Grind.{get_or_default_zero}
use Rattle.std.proofs.lemmas.List.{length_push}
use Rattle.std.proofs.lemmas.List.Elements.{Contains-append_left, Contains-append_right, filter-append}
use Rattle.std.proofs.lemmas.Option.{slice_get-map}
use Rattle.arcstr_count.specs.declared.faults.StepFault.{StepFault}
use Rattle.arcstr_count.specs.declared.steps.HandleState.TheVariants.{Raw}
use Rattle.arcstr_count.specs.declared.steps.HandleSummary.{HandleSummary}
use Rattle.arcstr_count.specs.declared.steps.Step.TheVariants.{IntoRaw, FromRaw}
use Rattle.arcstr_count.specs.Model.{State, start, step, accepted, after, after_from, refusal_in, unless_refused, handles_with_state, no_handle}
use Rattle.arcstr_count.specs.Model.{block_on, state_on, lives, living_after, numbers_below}
use Rattle.arcstr_count.proofs.LawsOfBlocks.{IsIn, is_in_state, finds, at_set, born_earlier, length-moved, lawful_after}
use Rattle.arcstr_count.proofs.LawsOfHistories.{after_from-append, made_stays}
use Rattle.arcstr_count.proofs.OneBlock.{looking_is_born}
use Rattle.arcstr_block.specs.Book.{IsLater}
use Rattle.arcstr_block.specs.Handle.{IsBornIn, SawBack, SawCount}
use Rattle.arcstr_block.proofs.Histories.{alone_by_free, as_long, living_by_look, nothing_follows_the_free}

-- ---- one handle, before and after a step

-- the handle is still there, and if it lives in the second table, it lived in the first
record LivedBefore (old new : List HandleSummary) (h : ℕ) : Type 0 where
  born : h < length new
  lived : lives (get_or new h no_handle).state ≡ true → lives (get_or old h no_handle).state ≡ true

same : (hs : List HandleSummary) (h : ℕ) → h < length hs → LivedBefore hs hs h
same hs h born = record { born = born; lived = λ alive. alive }

-- another handle is born
grown : (hs : List HandleSummary) (c h : ℕ) → h < length hs → LivedBefore hs (hs ++ record { block = c; state = Free } ∷ []) h
grown hs c h born = record {
  born = omega (arith, length_push hs (record { block = c; state = Free }));
  lived = λ alive. subst (λ (it : HandleSummary). lives it.state ≡ true) (born_earlier hs c h born) alive;
}

-- handle k goes from one state to another
moved : (w : State) (k h : ℕ) (old new : HandleState) → IsIn w k old → (lives new ≡ true → lives old ≡ true) → h < length w.handles
    → LivedBefore w.handles (handles_with_state w.handles k new) h
moved w k h old new found back born = record {
  born = omega (arith, length-moved w.handles k new found.born);
  lived = at_set (λ (it : HandleSummary). lives it.state ≡ true → lives (state_on w h) ≡ true) w.handles k h _ no_handle found.born
      (λ here alive. ap (λ j. lives (state_on w j)) here ∙ ap lives found.state ∙ back alive)
      (λ elsewhere alive. alive);
}

taken : (limit : ℕ) (w : State) (s : Step) → refusal_in w s ≡ None → (h : ℕ) → h < length w.handles → LivedBefore w.handles (accepted limit w s).0.handles h
taken limit w Make e h born = grown w.handles (length w.blocks) h born
taken limit w (Look k) e h born = same w.handles h born
taken limit w (Clone k) e h born = grown w.handles (block_on w k) h born
taken limit w (Begin k) e h born = moved w k h Free _ (finds w (Begin k) e) (λ _. refl) born
taken limit w (Sub k) e h born = moved w k h Dropping _ (finds w (Sub k) e) (λ _. refl) born
taken limit w (Back k) e h born = moved w k h Owing Gone (finds w (Back k) e) (λ alive. alive) born
taken limit w (Leak k) e h born = same w.handles h born
taken limit w (IntoRaw k) e h born = moved w k h Free Raw (finds w (IntoRaw k) e) (λ _. refl) born
taken limit w (FromRaw k) e h born = moved w k h Raw Free (finds w (FromRaw k) e) (λ _. refl) born

stepped : (limit : ℕ) (w : State) (s : Step) (h : ℕ) → h < length w.handles → LivedBefore w.handles (step limit w s).0.handles h
stepped limit w s h born = by_refusal (refusal_in w s) refl
  where
    by_refusal : (o : Option StepFault) → refusal_in w s ≡ o → LivedBefore w.handles (unless_refused o w (accepted limit w s)).0.handles h
    by_refusal None e = taken limit w s e h born
    by_refusal (Some fault) e = same w.handles h born

-- the same of the steps that follow
went : (limit : ℕ) (w : State) (later : List Step) (h : ℕ) → h < length w.handles → LivedBefore w.handles (after_from limit w later).handles h
went limit w [] h born = same w.handles h born
went limit w (s ∷ later) h born =
    let first = stepped limit w s h born in
    let rest = went limit (step limit w s).0 later h first.born in
    record { born = rest.born; lived = λ alive. first.lived (rest.lived alive) }

went_on : (limit : ℕ) (before now : List Step) (starts : IsPrefix before now) → after limit now ≡ after_from limit (after limit before) starts.0
went_on limit before now starts = ap (after limit) (sym starts.1) ∙ after_from-append limit start before starts.0

-- ---- what a free seat says

-- nobody has freed the block in the history, and handle h lives in it if it was born in it
abbrev pub Lives : ℕ → List Step → ℕ → Type 0
Lives limit history h = ((k : ℕ) → SawBack limit history k → ⊥) × (IsBornIn limit history h → Contains (living_after limit history 0) h)

-- a number below n that passes a test is among those that do
passes : (f : ℕ → Bool) (n h : ℕ) → h < n → f h ≡ true → Contains (filter f (numbers_below n)) h
passes f zero h low good = absurd (omega arith)
passes f (suc n) h low good = subst (λ xs. Contains xs h) (sym (filter-append f (numbers_below n) (n ∷ []))) (dite (ℕ_discrete h n)
    (λ here. Contains-append_right (filter f (numbers_below n)) (filter f (n ∷ [])) h (subst (λ (b : Bool). Contains (if b then n ∷ [] else []) h)
    (sym (ap f (sym here) ∙ good)) (0, omega arith, sym here)))
    (λ apart. Contains-append_left (filter f (numbers_below n)) (filter f (n ∷ [])) h (passes f n h (omega (arith, low, apart)) good)))

module _ (limit : ℕ) (now : List Step) (word : FlagAndCount) (seats : List HandleState) (h : ℕ) (keeps : Keeps limit now word seats)
    (seat : slice_get seats h ≡ Some Free) where
  free_now : IsIn (after limit now) h Free
  free_now = is_in_state (after limit now) h Free (sym (slice_get-map (λ (it : HandleSummary). it.state) (after limit now).handles h)
      ∙ ap (λ states. slice_get states h) (sym keeps.states) ∙ seat)

  module _ (before : List Step) (starts : IsPrefix before now) where
    lives_in : IsBornIn limit before h → Contains (living_after limit before 0) h
    lives_in born =
        let now_is = went_on limit before now starts in
        let alive = subst (λ (w : State). lives (state_on w h) ≡ true) now_is (ap lives free_now.state) in
        let lived = (went limit (after limit before) starts.0 h born).lived alive in
        let made = made_stays limit (after limit before) starts.0 (block_on (after limit before) h) ((lawful_after limit before).made h born) in
        let one = ap (λ (w : State). length w.blocks) (sym now_is) ∙ keeps.one_block.made in
        let here : block_on (after limit before) h ≡ 0 = omega (arith, made, one) in
        passes _ (length (after limit before).handles) h born (rw (eq-eqb (block_on (after limit before) h) 0 here, lived) refl)

    unfreed : (k : ℕ) → SawBack limit before k → ⊥
    unfreed k freed = elim (cases_lt (length before) (length now)) [
      | inl less ↦ nothing_follows_the_free limit before now k freed keeps.one_block (starts, less)
      | inr most ↦ (
          let whole : before ≡ now = as_long before now starts most in
          let born : IsBornIn limit before h = subst (λ r. IsBornIn limit r h) (sym whole) free_now.born in
          let found = subst (λ hs. Contains hs h) (alone_by_free limit before k freed) (lives_in born) in
          let past = found.1 in
          absurd (omega (arith, past))
          )
    ]

    pub free_lives : Lives limit before h
    free_lives = (unfreed, lives_in)

-- ---- two handles

-- two numbers that differ are two entries of a list
two_entries : (xs : List ℕ) (h k : ℕ) → Contains xs h → Contains xs k → (h ≡ k → ⊥) → 2 ≤ length xs
two_entries xs h k one other apart = dite (ℕ_discrete one.0 other.0)
    (λ same. absurd (apart (sym one.2 ∙ get_or_default_zero xs one.0 h one.1 ∙ ap (λ i. get_or xs i 0) same
    ∙ sym (get_or_default_zero xs other.0 k other.1) ∙ other.2)))
    (λ differ. let below = one.1 in let beside = other.1 in omega (arith, differ, below, beside))

-- a look by a handle counts at least two, if it comes after another one was born, and both live in what it has seen if they were born in it
pub counts_two : (limit : ℕ) (before history : List Step) (h k n : ℕ) → (IsBornIn limit history h → Contains (living_after limit history 0) h)
    → (IsBornIn limit history k → Contains (living_after limit history 0) k) → (h ≡ k → ⊥) → IsBornIn limit before k → IsLater before history
    → SawCount limit history h n → 2 ≤ n
counts_two limit before history h k n one other apart born later counted =
    let there : IsBornIn limit history k = subst (λ (w : State). k < length w.handles) (sym (went_on limit before history later.0))
    (went limit (after limit before) later.0.0 k born).born in
    let least = two_entries (living_after limit history 0) h k (one (looking_is_born limit history h _ counted)) (other there) apart in
    let all = living_by_look limit history h n counted in
    omega (arith, least, all)
