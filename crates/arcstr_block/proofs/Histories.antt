-- The histories of one block: those that have marked it, and the order of two prefixes, of which the longer extends the other. Assumes `Logic`.
use Rattle.arcstr_block.proofs.Names.{◌≡◌, ℕ, [], ◌∷◌, refl, arith, List, sym, subst, ap, length, ◌++◌, ◌∙◌}
use Rattle.arcstr_block.proofs.Names.{◌≤◌, IsPrefix, cons≢nil, head-eq_of_cons-eq, tail-eq_of_cons-eq, ℕ_discrete, Ura, Fml, GName, Least}
use Rattle.arcstr_block.proofs.Names.{SProp, ent, sep, fact, fact_i, heard, at_least_join, ‵, some, ◌$◌, ◌∵◌, !, qed, pick, use2, raw, by, given, learn}
use Rattle.arcstr_block.proofs.Names.{rewrite, Logic, sem, EndsIn, look_reply, FlagAndCount, looked_of, Marked, Step, Look}
use Rattle.arcstr_block.proofs.Names.{Leak, reached, steps, IsMarkedIn, word_of, IsMarked}
use Rattle.arcstr_block.proofs.Names.{true, false, ◌<◌, Option, None, Some, Count, Begin, Ended, IsLater, IsOneBlock, length-append}
use Rattle.std.specs.Prelude.{IsNone}
use Rattle.arcstr_count.specs.Model.{start, marked_after, living_after, makes_after, word_in, State, after}
use Rattle.arcstr_count.proofs.LawsOfHistories.{after_from-append, mark_stays}
use Rattle.arcstr_count.proofs.OneBlock.{counted_is_living, counted_is_unmarked, ended_is_marked, free_is_last, freed_is_alone, leak_marks, left_is_used}
use Rattle.arcstr_count.proofs.OneBlock.{looked_is_unmarked, static_is_marked}
use Rattle.arcstr_block.specs.Handle.{SawBack, SawCount, SawMark}
use Rattle.arcstr_block.proofs.Words.{marked_word}
use Rattle.std.proofs.lemmas.Bool.{cases_lt}
use Rattle.std.proofs.lemmas.List.{append-nil, nil_from_length, same_from_push}
use Rattle.arcstr_block.proofs.Names.{Back, Looked, inl, inr}
use Rattle.arcstr_count.proofs.LawsOfHistories.{holds_in_every_interleaving}
use Rattle.arcstr_block.specs.Ending.{IsFreedExactly}

-- ---- the mark

pub marked_by_leak : (limit : ℕ) (history : List Step) (h : ℕ) → EndsIn limit history (Leak h) Marked → IsMarkedIn limit history
marked_by_leak limit history h ends = record { one_block = ends.one_block; marked = leak_marks limit history h ends }

pub marked_by_look : (limit : ℕ) (history : List Step) (h : ℕ) → SawMark limit history h → IsMarkedIn limit history
marked_by_look limit history h ends = record { one_block = ends.one_block; marked = static_is_marked limit history h ends }

-- a look that found the marked word n
pub marked_by_word : (limit n : ℕ) (history : List Step) (h : ℕ) → EndsIn limit history (Look h) (look_reply (looked_of (word_of n))) → IsMarked n
    → IsMarkedIn limit history
marked_by_word limit n history h ends odd =
    marked_by_look limit history h (subst (EndsIn limit history (Look h)) (ap (λ (w : FlagAndCount). look_reply (looked_of w)) (marked_word n odd)) ends)

-- a block that was marked stays marked
remains_marked : (limit : ℕ) (before history : List Step) → IsMarkedIn limit before → IsPrefix before history → marked_after limit history 0 ≡ true
remains_marked limit before history marked starts =
    let made : 0 < makes_after limit before = omega (arith, marked.one_block.made) in
    let later : marked_after limit (before ++ starts.0) 0 ≡ true = subst (λ (w : State). (word_in w 0).flag ≡ true)
    (sym (after_from-append limit start before starts.0)) (mark_stays limit (after limit before) starts.0 0 made marked.marked) in
    subst (λ r. marked_after limit r 0 ≡ true) starts.1 later

-- a block that was marked before a look is not counted by it
marked_is_not_counted : (limit : ℕ) (before history : List Step) (h n : ℕ) → IsMarkedIn limit before → IsPrefix before history
    → EndsIn limit history (Look h) (Count n) → ⊥
marked_is_not_counted limit before history h n marked starts ends =
    let both : true ≡ false = sym (remains_marked limit before history marked starts) ∙ counted_is_unmarked limit history h n ends in cc

-- a look at a block that was marked before has no count
pub stays_marked : (limit : ℕ) (before history : List Step) (h : ℕ) (count : Option ℕ) → IsMarkedIn limit before → IsPrefix before history
    → EndsIn limit history (Look h) (look_reply count) → IsNone count
stays_marked limit before history h None marked starts ends = refl
stays_marked limit before history h (Some n) marked starts ends = absurd (marked_is_not_counted limit before history h n marked starts ends)

-- a look that counts did not find the mark
pub unmarked_by_look : (limit : ℕ) (history : List Step) (h n : ℕ) → SawCount limit history h n → IsMarkedIn limit history → ⊥
unmarked_by_look limit history h n ends marked = let both : true ≡ false = sym marked.marked ∙ counted_is_unmarked limit history h n ends in cc

-- what it counts are the living handles
pub living_by_look : (limit : ℕ) (history : List Step) (h n : ℕ) → SawCount limit history h n → n ≡ length (living_after limit history 0)
living_by_look limit history h n ends = counted_is_living limit history h n ends

-- what a look says of the block; the function whose proof uses this ruleset names it
pub ruleset what_looks_say = (marked_by_look, unmarked_by_look, living_by_look)

-- a drop whose look ended it found the mark
pub marked_by_end : (limit : ℕ) (history : List Step) (h : ℕ) → EndsIn limit history (Begin h) Ended → IsMarkedIn limit history
marked_by_end limit history h ends = record { one_block = ends.one_block; marked = ended_is_marked limit history h ends }

-- a drop whose look came after the mark did not go on
pub marked_is_not_begun : (limit : ℕ) (before history : List Step) (h : ℕ) → IsMarkedIn limit before → IsLater before history
    → EndsIn limit history (Begin h) Looked → ⊥
marked_is_not_begun limit before history h marked later ends =
    let both : true ≡ false = sym (remains_marked limit before history marked later.0) ∙ looked_is_unmarked limit history h ends in cc

-- a drop that freed the block left no handle on it
pub alone_by_free : (limit : ℕ) (history : List Step) (h : ℕ) → SawBack limit history h → living_after limit history 0 ≡ []
alone_by_free limit history h freed = (freed_is_alone limit history h freed).1

-- how a drop that frees nothing leaves its block; the function whose proof uses this ruleset names it
pub ruleset how_drops_leave = (marked_by_end, left_is_used)

-- ---- later histories

-- no history of one block is later than one that ends in the free
pub nothing_follows_the_free : (limit : ℕ) (history later : List Step) (h : ℕ) → SawBack limit history h → IsOneBlock limit later → IsLater history later → ⊥
nothing_follows_the_free limit history later h freed whole more =
    let rest : List Step = more.0.0 in
    let is : history ++ rest ≡ later = more.0.1 in
    free_is_last limit history h freed rest (omega (arith, length-append history rest, ap length is, more.1)) (subst (IsOneBlock limit) (sym is) whole)

-- a block that is marked is never freed
pub a_marked_block_stays : (limit : ℕ) (before history : List Step) (h : ℕ) → IsMarkedIn limit before → SawBack limit history h → IsLater before history → ⊥
a_marked_block_stays limit before history h marked freed later =
    let both : true ≡ false = sym (remains_marked limit before history marked later.0) ∙ (freed_is_alone limit history h freed).0 in cc

-- if no handle on the one block lives, none is dropping and none owes it, it was freed once exactly if nothing marked it
pub freed_exactly : (limit : ℕ) (history : List Step) → IsFreedExactly limit history
freed_exactly limit history one none quiet settled =
    (holds_in_every_interleaving limit history).given_exactly history [] 0 (sym (append-nil history)) (omega (arith, one.made)) none quiet settled

-- ---- two prefixes of one history

-- the shorter of two prefixes of one list is a prefix of the other
shorter : {X : Type 0} (prefix other whole : List X) → IsPrefix prefix whole → IsPrefix other whole → length prefix ≤ length other → IsPrefix prefix other
shorter [] other whole h k short = (other, refl)
shorter (x ∷ prefix) [] whole h k short = absurd (omega arith)
shorter (x ∷ prefix) (y ∷ other) [] h k short = absurd (cons≢nil h.1)
shorter (x ∷ prefix) (y ∷ other) (z ∷ whole) h k short =
    let rest = shorter prefix other whole (h.0, tail-eq_of_cons-eq h.1) (k.0, tail-eq_of_cons-eq k.1) (omega arith) in
    (rest.0, ap (λ first. first ∷ (prefix ++ rest.0)) (head-eq_of_cons-eq h.1 ∙ sym (head-eq_of_cons-eq k.1)) ∙ ap (λ more. y ∷ more) rest.1)

-- the shorter of two histories is a prefix of the other
abbrev pub InLine : List Step → List Step → Type 0
InLine r s = (length r ≤ length s → IsPrefix r s) × (length s ≤ length r → IsPrefix s r)

-- a history that begins another one, and is as long, is that one
pub as_long : (first second : List Step) → IsPrefix first second → length second ≤ length first → first ≡ second
as_long first second starts short =
    let none : starts.0 ≡ [] = nil_from_length starts.0 (omega (arith, length-append first starts.0, ap length starts.1, short)) in
    sym (append-nil first) ∙ subst (λ rest. first ++ rest ≡ second) none starts.1

-- two histories of a block that both end in the free end in that of one handle
pub one_frees : (limit : ℕ) (first second : List Step) (h k : ℕ) → SawBack limit first h → SawBack limit second k → InLine first second → h ≡ k
one_frees limit first second h k freed again line =
    elim (cases_lt (length first) (length second)) [
      | inl less ↦ absurd (nothing_follows_the_free limit first second h freed again.one_block (line.0 (omega (arith, less)), less))
      | inr most ↦ elim (cases_lt (length second) (length first)) [
        | inl less ↦ absurd (nothing_follows_the_free limit second first k again freed.one_block (line.1 most, less))
        | inr least ↦ (
            let both = sym freed.ends ∙ as_long first second (line.0 least) most ∙ again.ends in
            let acts : Back h ≡ Back k = (same_from_push freed.prefix again.prefix (Back h) (Back k) both).1 in
            cc
            )
      ]
    ]

module _ {M : Type 1} {𝓤 : Ura M} (𝓛 : Logic 𝓤) where
  abbrev ⟦◌⟧ : Fml → SProp 𝓤
  ⟦ X ⟧ = sem 𝓛 X

  in_line : (γ : GName) (r s : List Step) → ent 𝓤 (sep 𝓤 ⟦ reached γ r ⟧ ⟦ reached γ s ⟧) (fact 𝓤 (InLine r s))
  in_line γ r s = qed 𝓛 (‵ (reached γ r) ∷ ‵ (reached γ s) ∷ []) ∵ use2 𝓛 (some (λ (c : List Step). given (Least steps.le r s c) (‵ (reached γ c))))
      (at_least_join steps 𝓛 γ r s) $
      pick ! (λ c. learn ! (λ least. by ! (fact_i 𝓤 (InLine r s) ⟦ reached γ c ⟧ (
        (λ short. shorter r s c least.0 least.1 short),
        (λ short.
            shorter s r c least.1 least.0 short),
      ))))

  -- what two names of histories say: if they are equal, the histories that were reached are in line
  abbrev pub Agrees : GName → GName → List Step → List Step → Type 0
  Agrees γ δ r s = γ ≡ δ → InLine r s

  decided : (γ δ : GName) (r s : List Step) → Dec (γ ≡ δ) → ent 𝓤 (sep 𝓤 ⟦ reached γ r ⟧ ⟦ reached δ s ⟧) (fact 𝓤 (Agrees γ δ r s))
  decided γ δ r s (no other) = fact_i 𝓤 (Agrees γ δ r s) _ (λ same. absurd (other same))
  decided γ δ r s (yes same) = qed 𝓛 (‵ (reached γ r) ∷ ‵ (reached δ s) ∷ []) ∵ rewrite ! 1 (λ (ε : GName). ‵ (reached ε s)) (sym same) refl $
      use2 𝓛 (raw (fact 𝓤 (InLine r s))) (in_line γ r s) $ heard ! (InLine r s) (λ both. by ! (fact_i 𝓤 (Agrees γ δ r s) _ (λ _. both)))

  pub agree : (γ δ : GName) (r s : List Step) → ent 𝓤 (sep 𝓤 ⟦ reached γ r ⟧ ⟦ reached δ s ⟧) (fact 𝓤 (Agrees γ δ r s))
  agree γ δ r s = decided γ δ r s (ℕ_discrete γ δ)
