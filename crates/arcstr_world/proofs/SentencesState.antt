-- The state of a handle, what was done to it, and the reply to a step, as sentences about the prefixes of the history.
--
-- We show that what the history did to a handle is what its state says (`Did`), by induction on the history: a step adds to the facts (`More`), and brings
-- the handle into the state that they then say (`does`). The sentence of the state is read off this.
use Rattle.arcstr_world.proofs.Names.{◌∙◌, ◌≡◌, ◌≢◌, ◌↔◌, ℕ, zero, suc, ◌<◌, is_none, IsTrue, IsFalse, Option, None, Some, option_map, IfSome, List, [], ◌∷◌}
use Rattle.arcstr_world.proofs.Names.{◌++◌}
use Rattle.arcstr_world.proofs.Names.{refl, sym, ap, subst, arith, Bool, true, false, not, ◌==◌, if◌then◌else◌, ◌⊎◌, inl, inr, length, set, slice_get}
use Rattle.arcstr_world.proofs.Names.{and_parts, and_from, not-true, eqb-true, eq-eqb, ne_eqb, append_assoc, true≢false}
use Rattle.arcstr_world.proofs.Names.{Step, Make, Look, Clone, Begin, Sub, Back, Leak, IntoRaw, FromRaw, HandleState, Free, Raw, Dropping, Owing, Gone}
use Rattle.arcstr_world.proofs.Names.{HandleSummary}
use Rattle.arcstr_world.proofs.Names.{Need, needs, refusal_by, refusal_unless, Reply, Refused, Count, Static, StepFault, looked_of, look_reply, is_last}
use Rattle.arcstr_world.proofs.Names.{State, after, accepted, accepted_after, refusal_in, unless_refused, block_on, state_on, state_in, word_on, word_in}
use Rattle.arcstr_world.proofs.Names.{handles_with_state}
use Rattle.arcstr_world.proofs.Names.{handles_on, lives, births_after, state_after, marked_after, block_after, living_after, answer_after}
use Rattle.arcstr_world.proofs.Names.{AcceptedSentence, FirstThatHolds, AcceptedWhere, HasAccepted, BeganUnmarked, OwesSentence, LastIsIntoRaw, StateSentence}
use Rattle.arcstr_world.proofs.Names.{LivesAlone, ByFact}
use Rattle.arcstr_world.proofs.Names.{AcceptedAnswer, AnswerSentence, Contains, get_or}
use Rattle.arcstr_count.proofs.LawsOfBlocks.{IsIn, is_in_state, state_born, step_finds, accepts_needed, needed_state, IsLawful, lawful_after, none_of}
use Rattle.arcstr_count.proofs.LawsOfHistories.{says}
use Rattle.std.proofs.lemmas.Option.{slice_get_past}
use Rattle.arcstr_world.proofs.SentencesBlocks.{members}
use Rattle.arcstr_world.proofs.SentencesHandles.{slice_at_push}
use Rattle.arcstr_world.proofs.Prefixes.{IsAccepted, by_history, accepted_step, accepted_nowhere, none_in_nil, last_or_before}

by_need : (state : ℕ → Option HandleState) (o : Option Need)
    → IsTrue (is_none (refusal_by state o)) ↔ IfSome o (λ need. state need.handle ≡ Some need.state)
by_need state None = ((λ e. tt), (λ e. refl))
by_need state (Some need) = (
  (λ e. needed_state need.state (state need.handle) (none_of (refusal_unless need.state (state need.handle)) e)),
  λ e. rw e
      (ap is_none (accepts_needed need.state)),
)

pub accepted_sentence : (limit : ℕ) (history : List Step) (s : Step) → IsTrue (accepted_after limit history s) ↔ AcceptedSentence limit history s
accepted_sentence limit history s = by_need (λ h. state_in (after limit history) h) (needs s)

-- ==== the state in which an accepted step leaves each handle

-- what holds of the new entry at its index, and of the old one at any other, holds of what is found at each index
slice_at_set : {X : Type 0} (P : Option X → Type 0) (xs : List X) (c b : ℕ) (x : X) → c < length xs → (c ≡ b → P (Some x)) → (c ≢ b → P (slice_get xs b))
    → P (slice_get (set xs c x) b)
slice_at_set P [] c b x within here apart = absurd (omega arith)
slice_at_set P (y ∷ xs) zero zero x within here apart = here refl
slice_at_set P (y ∷ xs) zero (suc b) x within here apart = apart (λ e. omega arith)
slice_at_set P (y ∷ xs) (suc c) zero x within here apart = apart (λ e. omega arith)
slice_at_set P (y ∷ xs) (suc c) (suc b) x within here apart =
    slice_at_set P xs c b x (omega arith) (λ e. here (ap suc e)) (λ other. apart (λ e. other (omega arith)))

abbrev state_at : List HandleSummary → ℕ → Option HandleState
state_at hs h = option_map (λ (it : HandleSummary). it.state) (slice_get hs h)

-- ==== the last subtraction

one_place : (k x h : ℕ) → k < 1 → get_or (x ∷ []) k h ≡ h → x ≡ h
one_place zero x h within here = here
one_place (suc k) x h within here = absurd (omega arith)

-- a member of a list of length 1 is the only one
only_member : (xs : List ℕ) (h : ℕ) → Contains xs h → length xs ≡ 1 → xs ≡ h ∷ []
only_member [] h member one = absurd (omega (arith, one))
only_member (x ∷ []) h member one = ap (λ y. y ∷ []) (one_place member.0 x h member.1 member.2)
only_member (x ∷ y ∷ xs) h member one = absurd (omega (arith, one))

-- the count word says that a dropping handle's subtraction is the last one exactly if its block is unmarked and the handle lives alone on it
alone_sentence : (limit : ℕ) (w : State) (h : ℕ) → IsLawful limit w → IsIn w h Dropping
    → (is_last (word_on w h) ≡ true) ↔ (IsFalse (word_on w h).flag × (handles_on w (block_on w h) lives ≡ h ∷ []))
alone_sentence limit w h lawful i = (to_alone, from_alone)
  where
    exact : IsFalse (word_on w h).flag → (word_on w h).count ≡ length (handles_on w (block_on w h) lives)
    exact = (says limit w (block_on w h) lawful (lawful.made h i.born)).exact

    to_alone : is_last (word_on w h) ≡ true → IsFalse (word_on w h).flag × (handles_on w (block_on w h) lives ≡ h ∷ [])
    to_alone last =
        let parts = and_parts (not (word_on w h).flag) ((word_on w h).count == 1) last in
        let unmarked = not-true (word_on w h).flag parts.0 in (
          unmarked,
          only_member (handles_on w (block_on w h) lives) h ((members w h lives (block_on w h)).1 (i.born, refl, ap lives i.state))
              (sym (exact unmarked) ∙ eqb-true (word_on w h).count 1 parts.1),
        )

    from_alone : IsFalse (word_on w h).flag × (handles_on w (block_on w h) lives ≡ h ∷ []) → is_last (word_on w h) ≡ true
    from_alone a = and_from (not (word_on w h).flag) ((word_on w h).count == 1) (ap not a.0) (ap (λ n. n == 1) (exact a.0 ∙ ap length a.1))

-- ==== what a history did to a handle, by its state

-- the step is a drop's, or leaves or enters the type, by this handle
abbrev acts : ℕ → Step → Bool
acts h (Begin g) = g == h
acts h (Sub g) = g == h
acts h (Back g) = g == h
acts h (IntoRaw g) = g == h
acts h (FromRaw g) = g == h
acts h s = false

-- the facts are: the handle's last of `IntoRaw` and `FromRaw` is `IntoRaw`; it began; it began where its block was unmarked; it subtracted;
-- it subtracted where it lived alone on its unmarked block; it freed its block
abbrev Did : (raw begun unmarked subtracted alone given : Type 0) → Option HandleState → Type 0
Did raw begun unmarked subtracted alone given None = (¬ raw) × (¬ begun) × (¬ subtracted) × (¬ given)
Did raw begun unmarked subtracted alone given (Some Free) = (¬ raw) × (¬ begun) × (¬ subtracted) × (¬ given)
Did raw begun unmarked subtracted alone given (Some Raw) = raw × (¬ begun) × (¬ subtracted) × (¬ given)
Did raw begun unmarked subtracted alone given (Some Dropping) = (¬ raw) × begun × unmarked × (¬ subtracted) × (¬ given)
Did raw begun unmarked subtracted alone given (Some Owing) = (¬ raw) × begun × subtracted × alone × (¬ given)
Did raw begun unmarked subtracted alone given (Some Gone) = (¬ raw) × begun × (¬ (unmarked × (¬ subtracted))) × (¬ (alone × (¬ given)))

-- what one more step does to these facts, which are R to G before it and R' to G' after it: it is an accepted `IntoRaw`, `Begin`, `Sub` or `Back` of the handle
-- where I, Bn, Sb or Bk holds, and no accepted `IntoRaw` or `FromRaw` of it where N holds; the block is unmarked there if M holds, and the handle alone if L
-- does
record More (R B U S A G R' B' U' S' A' G' I N Bn Sb Bk M L : Type 0) : Type 0 where
  raw : R' ↔ (I ⊎ (R × N))
  begun : B' ↔ ((Bn × Unit {0}) ⊎ B)
  unmarked : U' ↔ ((Bn × M) ⊎ U)
  subtracted : S' ↔ ((Sb × Unit {0}) ⊎ S)
  alone : A' ↔ ((Sb × L) ⊎ A)
  given : G' ↔ ((Bk × Unit {0}) ⊎ G)
  began : U → B
  left : A → S

module _ {R B U S A G R' B' U' S' A' G' I N Bn Sb Bk M L : Type 0} (m : More R B U S A G R' B' U' S' A' G' I N Bn Sb Bk M L) where
  by_other : (¬ I) → N → (¬ Bn) → (¬ Sb) → (¬ Bk) → (o : Option HandleState) → Did R B U S A G o → Did R' B' U' S' A' G' o
  by_other i n bn sb bk o d = grind arith

  by_begin_marked : (¬ I) → Bn → (¬ Sb) → (¬ M) → Did R B U S A G (Some Free) → Did R' B' U' S' A' G' (Some Gone)
  by_begin_marked i bn sb marked d = grind arith

  by_begin : (¬ I) → Bn → (¬ Sb) → (¬ Bk) → M → Did R B U S A G (Some Free) → Did R' B' U' S' A' G' (Some Dropping)
  by_begin i bn sb bk unmarked d = grind arith

  by_sub_last : (¬ I) → Sb → (¬ Bk) → L → Did R B U S A G (Some Dropping) → Did R' B' U' S' A' G' (Some Owing)
  by_sub_last i sb bk alone d = grind arith

  by_sub : (¬ I) → Sb → (¬ L) → Did R B U S A G (Some Dropping) → Did R' B' U' S' A' G' (Some Gone)
  by_sub i sb others d = grind arith

  by_back : (¬ I) → Bk → Did R B U S A G (Some Owing) → Did R' B' U' S' A' G' (Some Gone)
  by_back i bk d = grind arith

  by_into_raw : I → (¬ Bn) → (¬ Sb) → (¬ Bk) → Did R B U S A G (Some Free) → Did R' B' U' S' A' G' (Some Raw)
  by_into_raw i bn sb bk d = grind arith

  by_from_raw : (¬ I) → (¬ N) → (¬ Bn) → (¬ Sb) → (¬ Bk) → Did R B U S A G (Some Raw) → Did R' B' U' S' A' G' (Some Free)
  by_from_raw i n bn sb bk d = grind arith

module _ (limit : ℕ) (h : ℕ) where
  abbrev IsAlone : List Step → Type 0
  IsAlone prefix = LivesAlone limit prefix h

  abbrev IsOnUnmarked : List Step → Type 0
  IsOnUnmarked prefix = IsFalse (marked_after limit prefix (block_after limit prefix h))

  abbrev SubtractedAlone : List Step → Type 0
  SubtractedAlone history = AcceptedWhere limit history (Sub h) IsAlone

  abbrev DidAfter : List Step → Option HandleState → Type 0
  DidAfter history = Did (LastIsIntoRaw limit history h) (HasAccepted limit history (Begin h)) (BeganUnmarked limit history h)
      (HasAccepted limit history (Sub h)) (SubtractedAlone history) (HasAccepted limit history (Back h))

  any_where : (history : List Step) (s : Step) (P : List Step → Type 0) → AcceptedWhere limit history s P → HasAccepted limit history s
  any_where history s P w = record { prefix = w.prefix; later = w.later; stands = w.stands; accepted = w.accepted; there = tt }

  module _ (history : List Step) (x : Step) where
    -- the step is this one, and is accepted
    abbrev Is : Step → Type 0
    Is s = (x ≡ s) × IsTrue (accepted_after limit history x)

    abbrev IsNeither : Type 0
    IsNeither = (x ≡ IntoRaw h) ⊎ (x ≡ FromRaw h) → IsFalse (accepted_after limit history x)

    -- ---- `IntoRaw` and `FromRaw`

    -- the last one stays the last if the new step is neither of the two or is refused
    raw_more : IsNeither → LastIsIntoRaw limit history h → LastIsIntoRaw limit (history ++ x ∷ []) h
    raw_more refused w = record {
      prefix = w.prefix;
      later = w.later ++ x ∷ [];
      stands = ap (λ t. t ++ x ∷ []) w.stands ∙ append_assoc w.prefix (IntoRaw h ∷ w.later) (x ∷ []);
      accepted = w.accepted;
      last = last;
    }
      where
        last : (more rest : List Step) (s : Step) → w.later ++ x ∷ [] ≡ more ++ s ∷ rest → (s ≡ IntoRaw h) ⊎ (s ≡ FromRaw h)
            → IsFalse (accepted_after limit (w.prefix ++ IntoRaw h ∷ more) s)
        last more rest s e which = elim (last_or_before w.later x more s rest e) [
          | inl d ↦ (let same : history ≡ w.prefix ++ IntoRaw h ∷ more = w.stands ∙ ap (λ t. w.prefix ++ IntoRaw h ∷ t) d.1 in
              subst (λ t. IsFalse (accepted_after limit t s)) same
              (subst (λ t. IsFalse (accepted_after limit history t)) d.0
              (refused (subst (λ t. (t ≡ IntoRaw h) ⊎ (t ≡ FromRaw h)) (sym d.0) which))))
          | inr d ↦ w.last more d.0 s d.1 which
        ]

    -- the last one was the last before, or is the new step
    raw_cases : LastIsIntoRaw limit (history ++ x ∷ []) h → Is (IntoRaw h) ⊎ (LastIsIntoRaw limit history h × IsNeither)
    raw_cases w = elim (last_or_before history x w.prefix (IntoRaw h) w.later w.stands) [
      | inl e ↦ inl (
        e.0,
        subst (λ (t : Step). IsTrue (accepted_after limit history t)) (sym e.0)
            (subst (λ q. IsTrue (accepted_after limit q (IntoRaw h))) (sym e.1) w.accepted),
      )
      | inr e ↦ inr (
        record {
          prefix = w.prefix;
          later = e.0;
          stands = e.1;
          accepted = w.accepted;
          last = λ more r s d which. w.last more (r ++ x ∷ []) s (e.2 ∙ ap (λ t. t ++ x ∷ []) d ∙ append_assoc more (s ∷ r) (x ∷ [])) which;
        },
        λ which. subst (λ q. IsFalse (accepted_after limit q x)) (sym e.1) (w.last e.0 [] x e.2 which),
      )
    ]

    raw_last : x ≡ IntoRaw h → IsTrue (accepted_after limit history x) → LastIsIntoRaw limit (history ++ x ∷ []) h
    raw_last is accepted = record {
      prefix = history;
      later = [];
      stands = ap (λ t. history ++ t ∷ []) is;
      accepted = subst (λ t. IsTrue (accepted_after limit history t)) is accepted;
      last = λ more rest s d which. absurd (none_in_nil more s rest d);
    }

    -- ---- any step

    more : More (LastIsIntoRaw limit history h) (HasAccepted limit history (Begin h)) (BeganUnmarked limit history h)
        (HasAccepted limit history (Sub h)) (SubtractedAlone history) (HasAccepted limit history (Back h))
        (LastIsIntoRaw limit (history ++ x ∷ []) h) (HasAccepted limit (history ++ x ∷ []) (Begin h)) (BeganUnmarked limit (history ++ x ∷ []) h)
        (HasAccepted limit (history ++ x ∷ []) (Sub h)) (SubtractedAlone (history ++ x ∷ [])) (HasAccepted limit (history ++ x ∷ []) (Back h))
        (Is (IntoRaw h)) IsNeither (Is (Begin h)) (Is (Sub h)) (Is (Back h)) (IsOnUnmarked history) (IsAlone history)
    more = record {
      raw = (raw_cases, elim [ inl e ↦ raw_last e.0 e.1 | inr e ↦ raw_more e.1 e.0 ]);
      begun = accepted_step limit history (Begin h) (λ _. Unit {0}) x;
      unmarked = accepted_step limit history (Begin h) IsOnUnmarked x;
      subtracted = accepted_step limit history (Sub h) (λ _. Unit {0}) x;
      alone = accepted_step limit history (Sub h) IsAlone x;
      given = accepted_step limit history (Back h) (λ _. Unit {0}) x;
      began = any_where history (Begin h) IsOnUnmarked;
      left = any_where history (Sub h) IsAlone;
    }

    -- a step that does nothing to the handle: it is refused, or is none of the handle's own
    abbrev IsQuiet : Type 0
    IsQuiet = IsTrue (accepted_after limit history x) → acts h x ≡ false

    false_of : (t : Bool) → (t ≡ true → ⊥) → t ≡ false
    false_of true n = absurd (n refl)
    false_of false n = refl

    quiet : IsQuiet → (o : Option HandleState) → DidAfter history o → DidAfter (history ++ x ∷ []) o
    quiet q = by_other more (other (IntoRaw h) own)
        (λ which. false_of (accepted_after limit history x)
        (λ yes. elim which [ inl e ↦ other (IntoRaw h) own (e, yes) | inr e ↦ other (FromRaw h) own (e, yes) ]))
        (other (Begin h) own) (other (Sub h) own) (other (Back h) own)
      where
        own : h == h ≡ true
        own = eq-eqb h h refl

        other : (s : Step) → acts h s ≡ true → Is s → ⊥
        other s acting is = true≢false (sym acting ∙ subst (λ t. acts h t ≡ false) is.0 (q is.1))

  -- ---- the steps of the handle

  module _ (history : List Step) where
    did_begin : IsTrue (accepted_after limit history (Begin h)) → DidAfter history (Some Free) → (f : Bool)
        → marked_after limit history (block_after limit history h) ≡ f
        → DidAfter (history ++ Begin h ∷ []) (Some (if f then Gone else Dropping))
    did_begin a d true marked = by_begin_marked (more history (Begin h)) (λ e. let no = e.0 in cc) (refl, a) (λ e. let no = e.0 in cc)
        (λ unmarked. true≢false (sym marked ∙ unmarked)) d
    did_begin a d false unmarked = by_begin (more history (Begin h)) (λ e. let no = e.0 in cc) (refl, a) (λ e. let no = e.0 in cc)
        (λ e. let no = e.0 in cc) unmarked d

    did_sub : IsTrue (accepted_after limit history (Sub h)) → DidAfter history (Some Dropping) → (last : Bool)
        → (last ≡ true) ↔ IsAlone history → DidAfter (history ++ Sub h ∷ []) (Some (if last then Owing else Gone))
    did_sub a d true alone = by_sub_last (more history (Sub h)) (λ e. let no = e.0 in cc) (refl, a) (λ e. let no = e.0 in cc) (alone.0 refl) d
    did_sub a d false alone = by_sub (more history (Sub h)) (λ e. let no = e.0 in cc) (refl, a) (λ e. true≢false (sym (alone.1 e))) d

    -- a handle is born with nothing done to it
    by_birth : (x : Step) (c : ℕ) → IsQuiet history x → DidAfter history (state_in (after limit history) h)
        → DidAfter (history ++ x ∷ []) (state_at ((after limit history).handles ++ record { block = c; state = Free } ∷ []) h)
    by_birth x c q d = slice_at_push (λ o. DidAfter (history ++ x ∷ []) (option_map (λ (it : HandleSummary). it.state) o)) (after limit history).handles h _
        (λ last. quiet history x q None (subst (DidAfter history)
        (ap (option_map (λ (it : HandleSummary). it.state)) (slice_get_past (after limit history).handles h (omega arith))) d))
        (λ before. quiet history x q (state_in (after limit history) h) d)

    -- a step of handle g brings h from one state to another if g is h, and else does nothing to it
    by_own : (kind : ℕ → Step) (needed : HandleState) (new : ℕ → HandleState) (g : ℕ) → IsTrue (accepted_after limit history (kind g))
        → refusal_unless needed (state_in (after limit history) g) ≡ None → (g ≢ h → acts h (kind g) ≡ false)
        → DidAfter history (state_in (after limit history) h)
        → (IsTrue (accepted_after limit history (kind h)) → DidAfter history (Some needed) → DidAfter (history ++ kind h ∷ []) (Some (new h)))
        → DidAfter (history ++ kind g ∷ []) (state_at (handles_with_state (after limit history).handles g (new g)) h)
    by_own kind needed new g a found others d does =
        slice_at_set (λ o. DidAfter (history ++ kind g ∷ []) (option_map (λ (it : HandleSummary). it.state) o)) (after limit history).handles g h _
        (step_finds (after limit history) g needed found).born
        (λ same. subst (λ k. DidAfter (history ++ kind k ∷ []) (Some (new k))) (sym same)
        (does (subst (λ k. IsTrue (accepted_after limit history (kind k))) same a) (subst (DidAfter history)
        (subst (λ k. state_in (after limit history) k ≡ Some needed) same (needed_state needed (state_in (after limit history) g) found)) d)))
        (λ apart. quiet history (kind g) (λ yes. others apart) (state_in (after limit history) h) d)

    does : (x : Step) → IsAccepted limit history x → DidAfter history (state_in (after limit history) h)
        → DidAfter (history ++ x ∷ []) (state_in (accepted limit (after limit history) x).0 h)
    does Make a d = by_birth Make _ (λ yes. refl) d
    does (Look g) a d = quiet history (Look g) (λ yes. refl) (state_in (after limit history) h) d
    does (Clone g) a d = by_birth (Clone g) _ (λ yes. refl) d
    does (Begin g) a d = by_own Begin Free (λ k. if (word_on (after limit history) k).flag then Gone else Dropping) g a.accepted a.none (ne_eqb g h) d
        (λ b free. did_begin b free (word_on (after limit history) h).flag refl)
    does (Sub g) a d = by_own Sub Dropping (λ k. if is_last (word_on (after limit history) k) then Owing else Gone) g a.accepted a.none (ne_eqb g h) d
        (λ b dropping. did_sub b dropping (is_last (word_on (after limit history) h)) (alone_sentence limit (after limit history) h (lawful_after limit history)
        (step_finds (after limit history) h Dropping (none_of (refusal_in (after limit history) (Sub h)) b))))
    does (Back g) a d = by_own Back Owing (λ k. Gone) g a.accepted a.none (ne_eqb g h) d
        (λ b. by_back (more history (Back h)) (λ e. let no = e.0 in cc) (refl, b))
    does (Leak g) a d = quiet history (Leak g) (λ yes. refl) (state_in (after limit history) h) d
    does (IntoRaw g) a d = by_own IntoRaw Free (λ k. Raw) g a.accepted a.none (ne_eqb g h) d
        (λ b. by_into_raw (more history (IntoRaw h)) (refl, b) (λ e. let no = e.0 in cc) (λ e. let no = e.0 in cc) (λ e. let no = e.0 in cc))
    does (FromRaw g) a d = by_own FromRaw Raw (λ k. Free) g a.accepted a.none (ne_eqb g h) d
        (λ b. by_from_raw (more history (FromRaw h)) (λ e. let no = e.0 in cc) (λ n. true≢false (sym b ∙ n (inr refl)))
        (λ e. let no = e.0 in cc) (λ e. let no = e.0 in cc) (λ e. let no = e.0 in cc))

  -- what a history did to a handle is what its state says
  did : (history : List Step) → DidAfter history (state_after limit history h)
  did = by_history limit (λ history. DidAfter history (state_after limit history h)) (
    (λ w. none_in_nil w.prefix (IntoRaw h) w.later w.stands),
    (λ w. accepted_nowhere limit (Begin h) _ w),
    (λ w. accepted_nowhere limit (Sub h) _ w),
    (λ w. accepted_nowhere limit (Back h) _ w),
  )
      (λ history x r d. subst (DidAfter (history ++ x ∷ [])) (ap (λ (w : State). state_in w h) (sym r.state))
      (quiet history x (refused history x r.refused) (state_after limit history h) d))
      (λ history x a d. subst (DidAfter (history ++ x ∷ []))
      (ap (λ (w : State). state_in w h) (sym a.state)) (does history x a d))
    where
      refused : (history : List Step) (x : Step) → IsFalse (accepted_after limit history x) → IsQuiet history x
      refused history x unaccepted taken = absurd (true≢false (sym taken ∙ unaccepted))

-- ==== the sentences of the state

-- at most one of the five holds
one_holds : (R F D O : Type 0) (s t : HandleState) → FirstThatHolds R F D O s → FirstThatHolds R F D O t → s ≡ t
one_holds R F D O s t a b = grind arith

first_holds : (R B U S A G : Type 0) (s : HandleState) → Did R B U S A G (Some s) → FirstThatHolds R (¬ B) (U × (¬ S)) (A × (¬ G)) s
first_holds R B U S A G s d = grind arith

says_state : (limit : ℕ) (history : List Step) (h : ℕ) (s : HandleState) → state_after limit history h ≡ Some s → StateSentence limit history h s
says_state limit history h s e = first_holds _ _ _ _ _ _ s (subst (DidAfter limit h history) e (did limit h history))

pub state_sentence : (limit : ℕ) (history : List Step) (h : ℕ) (s : HandleState)
    → (state_after limit history h ≡ Some s) ↔ ((h < births_after limit history) × StateSentence limit history h s)
state_sentence limit history h s = (
  (λ e. ((is_in_state (after limit history) h s e).born, says_state limit history h s e)),
  (λ w. let is = state_born (after limit history) h w.0 in
      is ∙ ap Some (one_holds _ _ _ _ (state_on (after limit history) h) s (says_state limit history h _ is) w.1)),
)

owing_from : (limit : ℕ) (history : List Step) (h : ℕ) (o : Option HandleState) → DidAfter limit h history o → OwesSentence limit history h → o ≡ Some Owing
owing_from limit history h o d w = let subtracted = any_where limit h history (Sub h) _ w.0 in grind arith

pub owes_sentence : (limit : ℕ) (history : List Step) (h : ℕ) → (state_after limit history h ≡ Some Owing) ↔ OwesSentence limit history h
owes_sentence limit history h = (
  (λ e. (says_state limit history h Owing e).3),
  owing_from limit history h (state_after limit history h) (did limit h history),
)

-- ==== the reply to a step is the one that the sentence about the history says

-- ---- an accepted step

-- one of two replies, by a test that decides a fact
by_test : (b : Bool) (fact : Type 0) → IsTrue b ↔ fact → (holds fails reply : Reply) → ((if b then holds else fails) ≡ reply) ↔ ByFact fact holds fails reply
by_test true fact decides holds fails reply = (
  (λ e. inl (decides.0 refl, sym e)),
  elim [ inl w ↦ sym w.1 | inr w ↦ absurd (w.0 (decides.0 refl)) ],
)
by_test false fact decides holds fails reply = (
  (λ e. inr ((λ f. let no = decides.1 f in cc), sym e)),
  elim [ inl w ↦ (let no = decides.1 w.0 in cc) | inr w ↦ sym w.1 ],
)

same : (x y : Reply) → (x ≡ y) ↔ (y ≡ x)
same x y = ((λ e. sym e), (λ e. sym e))

module _ (limit : ℕ) (history : List Step) where
  looked : (b : ℕ) → b < length (after limit history).blocks → look_reply (looked_of (word_in (after limit history) b))
      ≡ (if marked_after limit history b then Static else Count (length (living_after limit history b)))
  looked b made = by_flag (marked_after limit history b) refl
    where
      by_flag : (f : Bool) → marked_after limit history b ≡ f → look_reply (looked_of (word_in (after limit history) b))
          ≡ (if f then Static else Count (length (living_after limit history b)))
      by_flag true marked = ap (λ t. look_reply (if t then None else Some (word_in (after limit history) b).count)) marked
      by_flag false unmarked = ap (λ t. look_reply (if t then None else Some (word_in (after limit history) b).count)) unmarked
          ∙ ap Count ((says limit (after limit history) b (lawful_after limit history) made).exact unmarked)

  through : {x y reply : Reply} {P : Type 0} → x ≡ y → (y ≡ reply) ↔ P → (x ≡ reply) ↔ P
  through e both = ((λ f. both.0 (sym e ∙ f)), (λ p. e ∙ both.1 p))

  accepted_answer_sentence : (s : Step) (reply : Reply) → refusal_in (after limit history) s ≡ None
      → ((accepted limit (after limit history) s).1 ≡ reply) ↔ AcceptedAnswer limit history s reply
  accepted_answer_sentence (Look h) reply e = through
      (looked (block_on (after limit history) h) ((lawful_after limit history).made h (step_finds (after limit history) h Free e).born))
      (by_test (marked_after limit history (block_after limit history h)) _ ((λ e. e), (λ e. e)) _ _ reply)
  accepted_answer_sentence (Begin h) reply e = by_test (marked_after limit history (block_after limit history h)) _ ((λ e. e), (λ e. e)) _ _ reply
  accepted_answer_sentence (Sub h) reply e = by_test (is_last (word_on (after limit history) h)) (LivesAlone limit history h)
      (alone_sentence limit (after limit history) h (lawful_after limit history) (step_finds (after limit history) h Dropping e)) _ _ reply
  accepted_answer_sentence s reply e = same _ reply

-- ---- both

same_fault : (x y : StepFault) → Some x ≡ Some y → x ≡ y
same_fault x y e = cc

pub answer_sentence : (limit : ℕ) (history : List Step) (s : Step) (reply : Reply)
    → (answer_after limit history s ≡ reply) ↔ AnswerSentence limit history s reply
answer_sentence limit history s reply = by_refusal (refusal_in (after limit history) s) refl
  where
    by_refusal : (o : Option StepFault) → refusal_in (after limit history) s ≡ o → (answer_after limit history s ≡ reply) ↔ AnswerSentence limit history s reply
    by_refusal None e =
        let is : answer_after limit history s ≡ (accepted limit (after limit history) s).1 =
        ap (λ r. (unless_refused r (after limit history) (accepted limit (after limit history) s)).1) e in
        let answered = accepted_answer_sentence limit history s reply e in (
          (λ f. inl ((accepted_sentence limit history s).0 (ap is_none e), answered.0 (sym is ∙ f))),
          elim [
            | inl w ↦ is ∙ answered.1 w.1
            | inr w ↦ (let no = sym e ∙ w.1 in cc)
          ],
        )
    by_refusal (Some fault) e =
        let is : answer_after limit history s ≡ Refused fault =
        ap (λ r. (unless_refused r (after limit history) (accepted limit (after limit history) s)).1) e in (
          (λ f. inr (fault, e, sym f ∙ is)),
          elim [
            | inl w ↦ (let no = sym (ap is_none e) ∙ (accepted_sentence limit history s).1 w.0 in cc)
            | inr w ↦ is ∙ ap Refused (same_fault fault w.0 (sym e ∙ w.1)) ∙ sym w.2
          ],
        )
