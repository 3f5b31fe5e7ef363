-- Histories with one more step, their prefixes, and their accepted steps.
use Rattle.arcstr_world.proofs.Names.{◌≡◌, ◌↔◌, ℕ, List, [], ◌∷◌, ◌++◌, refl, sym, ◌⊎◌, inl, inr, ◌∙◌, ap, subst, append_assoc, Step}
use Rattle.arcstr_world.proofs.Names.{IsTrue, IsFalse, Option, None, Some, is_none, StepFault, State, after, accepted, accepted_after, refusal_in}
use Rattle.arcstr_world.proofs.Names.{unless_refused}
use Rattle.arcstr_world.proofs.Names.{AcceptedWhere, start, arith}
use Rattle.arcstr_count.proofs.LawsOfHistories.{after-step, after-accepted}
use Rattle.arcstr_count.proofs.LawsOfBlocks.{by_pushes}

-- ---- histories with one more step

pub none_in_nil : (prefix : List Step) (s : Step) (later : List Step) → [] ≡ prefix ++ s ∷ later → ⊥
none_in_nil [] s later e = cc
none_in_nil (x ∷ prefix) s later e = cc

-- a step of a history with one more step is the last one, or is a step of the history
pub last_or_before : (history : List Step) (x : Step) (prefix : List Step) (s : Step) (later : List Step) → history ++ x ∷ [] ≡ prefix ++ s ∷ later
    → ((x ≡ s) × (history ≡ prefix) × (later ≡ [])) ⊎ ((rest : List Step) × (history ≡ prefix ++ s ∷ rest) × (later ≡ rest ++ x ∷ []))
last_or_before [] x [] s later e = inl (cc, refl, cc)
last_or_before [] x (y ∷ prefix) s later e = absurd (none_in_nil prefix s later (cc))
last_or_before (y ∷ history) x [] s later e = inr (history, cc, cc)
last_or_before (y ∷ history) x (z ∷ prefix) s later e =
    elim (last_or_before history x prefix s later (cc)) [ inl w ↦ inl (w.0, cc, w.2) | inr w ↦ inr (w.0, cc, w.2) ]

-- ---- one more step of a history

after-refused : (limit : ℕ) (history : List Step) (s : Step) (fault : StepFault) → refusal_in (after limit history) s ≡ Some fault
    → after limit (history ++ s ∷ []) ≡ after limit history
after-refused limit history s fault e =
    after-step limit history s ∙ ap (λ o. (unless_refused o (after limit history) (accepted limit (after limit history) s)).0) e

-- the name that a field of a record below hides
abbrev accepted_by : ℕ → State → Step → State × Rattle.arcstr_count.specs.declared.steps.Reply.Reply
accepted_by limit w s = accepted limit w s

-- a step that is refused after the history, which leaves its state, and one that is accepted
pub record IsRefused (limit : ℕ) (history : List Step) (s : Step) : Type 0 where
  pub refused : IsFalse (accepted_after limit history s)
  pub state : after limit (history ++ s ∷ []) ≡ after limit history

pub record IsAccepted (limit : ℕ) (history : List Step) (s : Step) : Type 0 where
  pub none : refusal_in (after limit history) s ≡ None
  pub accepted : IsTrue (accepted_after limit history s)
  pub state : after limit (history ++ s ∷ []) ≡ (accepted_by limit (after limit history) s).0

-- what holds of the empty history, and still holds with each further step, refused or accepted, holds of each history
pub by_history : (limit : ℕ) (P : List Step → Type 0) → P []
    → ((history : List Step) (s : Step) → IsRefused limit history s → P history → P (history ++ s ∷ []))
    → ((history : List Step) (s : Step) → IsAccepted limit history s → P history → P (history ++ s ∷ [])) → (history : List Step) → P history
by_history limit P nil refused accepts = by_pushes P nil (λ history s. by_refusal history s (refusal_in (after limit history) s) refl)
  where
    by_refusal : (history : List Step) (s : Step) (o : Option StepFault) → refusal_in (after limit history) s ≡ o → P history → P (history ++ s ∷ [])
    by_refusal history s None e before =
        accepts history s (record { none = e; accepted = ap is_none e; state = after-accepted limit history s e }) before
    by_refusal history s (Some fault) e before =
        refused history s (record { refused = ap is_none e; state = after-refused limit history s fault e }) before

-- ---- accepted steps of a history

-- the history's further step x is s, and is accepted where P holds
abbrev pub TakenWhere : ℕ → List Step → Step → Step → (List Step → Type 0) → Type 0
TakenWhere limit history x s P = ((x ≡ s) × IsTrue (accepted_after limit history x)) × P history

module _ (limit : ℕ) (history : List Step) (s : Step) (P : List Step → Type 0) where
  -- an accepted step of a history is one of the history with one more step
  pub accepted_earlier : (x : Step) → AcceptedWhere limit history s P → AcceptedWhere limit (history ++ x ∷ []) s P
  accepted_earlier x w = record {
    prefix = w.prefix;
    later = w.later ++ x ∷ [];
    stands = ap (λ t. t ++ x ∷ []) w.stands ∙ append_assoc w.prefix (s ∷ w.later) (x ∷ []);
    accepted = w.accepted;
    there = w.there;
  }

  pub accepted_last : IsTrue (accepted_after limit history s) → P history → AcceptedWhere limit (history ++ s ∷ []) s P
  accepted_last accepted there = record { prefix = history; later = []; stands = refl; accepted = accepted; there = there }

  -- an accepted step of the history with one more step is that step, or one of the history
  pub accepted_cases : (x : Step) → AcceptedWhere limit (history ++ x ∷ []) s P
      → TakenWhere limit history x s P ⊎ AcceptedWhere limit history s P
  accepted_cases x w = elim (last_or_before history x w.prefix s w.later w.stands) [
    | inl e ↦ inl (
      (e.0, subst (λ (t : Step). IsTrue (accepted_after limit history t)) (sym e.0) (subst (λ q. IsTrue (accepted_after limit q s)) (sym e.1) w.accepted)),
      subst P (sym e.1) w.there,
    )
    | inr e ↦ inr (record { prefix = w.prefix; later = e.0; stands = e.1; accepted = w.accepted; there = w.there })
  ]

  pub accepted_step : (x : Step) → AcceptedWhere limit (history ++ x ∷ []) s P ↔ (TakenWhere limit history x s P ⊎ AcceptedWhere limit history s P)
  accepted_step x = (
    accepted_cases x,
    elim [
      | inl e ↦ subst (λ y. AcceptedWhere limit (history ++ y ∷ []) s P) (sym e.0.0)
          (accepted_last (subst (λ y. IsTrue (accepted_after limit history y)) e.0.0 e.0.1) e.1)
      | inr w ↦ accepted_earlier x w
    ],
  )

pub accepted_nowhere : (limit : ℕ) (s : Step) (P : List Step → Type 0) → AcceptedWhere limit [] s P → ⊥
accepted_nowhere limit s P w = none_in_nil w.prefix s w.later w.stands

-- one further step of two such sentences, and of one for some number
pub sum_step : (A N A' B M B' : Type 0) → A ↔ (N ⊎ A') → B ↔ (M ⊎ B') → (A ⊎ B) ↔ ((N ⊎ M) ⊎ (A' ⊎ B'))
sum_step A N A' B M B' a b = grind arith

pub some_step : (A N A' : ℕ → Type 0) → ((h : ℕ) → A h ↔ (N h ⊎ A' h)) → ((h : ℕ) × A h) ↔ (((h : ℕ) × N h) ⊎ ((h : ℕ) × A' h))
some_step A N A' each = (
  (λ w. elim ((each w.0).0 w.1) [ inl n ↦ inl (w.0, n) | inr a ↦ inr (w.0, a) ]),
  elim [ inl n ↦ (n.0, (each n.0).1 (inl n.1)) | inr a ↦ (a.0, (each a.0).1 (inr a.1)) ],
)

-- a fact of the state that an accepted step brings about exactly if it is one of these, and else keeps, holds after a history exactly if it has such a step
pub where_steps : (limit : ℕ) (Q : State → Type 0) (S : List Step → Type 0) (Now : List Step → Step → Type 0) → (¬ Q start) → (¬ S [])
    → ((history : List Step) (x : Step) → Now history x → IsTrue (accepted_after limit history x))
    → ((history : List Step) (x : Step) → S (history ++ x ∷ []) ↔ (Now history x ⊎ S history))
    → ((history : List Step) (x : Step) → IsAccepted limit history x → Q (accepted limit (after limit history) x).0 ↔ (Now history x ⊎ Q (after limit history)))
    → (history : List Step) → Q (after limit history) ↔ S history
where_steps limit Q S Now none empty taken says brings = by_history limit (λ history. Q (after limit history) ↔ S history)
    ((λ q. absurd (none q)), (λ s. absurd (empty s)))
    (λ history x r before. (
      (λ q. (says history x).1 (inr (before.0 (subst Q r.state q)))),
      (λ s. subst Q (sym r.state) (before.1 (elim ((says history x).0 s) [
        | inl now ↦ absurd (let no = r.refused in let yes = taken history x now in cc)
        | inr older ↦ older
      ]))),
    ))
    (λ history x a before. (
      (λ q. (says history x).1 (elim ((brings history x a).0 (subst Q a.state q)) [ inl now ↦ inl now | inr older ↦ inr (before.0 older) ])),
      (λ s. subst Q (sym a.state) ((brings history x a).1 (elim ((says history x).0 s) [ inl now ↦ inl now | inr older ↦ inr (before.1 older) ]))),
    ))
