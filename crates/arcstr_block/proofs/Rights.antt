-- A right as a `&` shows it, and the right that a step's gain becomes. Assumes `Logic`.
use Rattle.arcstr_block.proofs.Names.{◌≡◌, ℕ, Bool, true, [], ◌∷◌, refl, arith, false, List, sym, subst, inl, inr, ◌≢◌, ap, if◌then◌else◌, dite, ℕ_discrete}
use Rattle.arcstr_block.proofs.Names.{Ura, Lft, Share, Fml, fsep, fex, flft, finv, fshr_bor, ftrue, fall, Counts, emp, all_i, upd, id⊢, all_e, ⊑_static}
use Rattle.arcstr_block.proofs.Names.{ShrLaws, no_item, ‵, later, ◌$◌, ◌∵◌, !, qed, move, use1, use2, fsplit, fjoin, fjoin3, fpick, fpack, await, updating, now}
use Rattle.arcstr_block.proofs.Names.{done, keep, fsplit3, drop, rewrite, Logic, bor_new, bor_fracture, lent_back, look_reply, FlagAndCount, looked_of}
use Rattle.arcstr_block.proofs.Names.{HandleState, Free, Dropping, Owing, Gone, Step, Look, Clone, Handle, Book, reached, seat, seat_share, Ends, Id, parts}
use Rattle.arcstr_block.proofs.Names.{Inv, knows, free}
use Rattle.arcstr_block.proofs.Names.{right_to, shown, free_shown, uncounted, counted, HasSeat, Right, dropping, owed, MaySee, IsFree, Looks, Finds, Gains}
use Rattle.arcstr_block.proofs.Names.{Begins, Leaves, fixed, Loads, LoadEnds, BornAs, word_of, IsMarked, IsUnmarked, IsLast, one, operators}
use Rattle.arcstr_block.specs.Rights.{nothing}
use Rattle.arcstr_block.proofs.Names.{EndsIn, IsLater}
use Rattle.arcstr_count.specs.declared.steps.Reply.{Reply}
use Rattle.arcstr_block.specs.Ledger.{fact}
use Rattle.arcstr_block.proofs.Ledger.{parts_in}
use Rattle.arcstr_block.proofs.Words.{IsMarkedOr, odd_or_even, unmarked_word, last_two}
use Rattle.arcstr_block.proofs.Book.{begun, left_in, NewSeat, book_look, finds}
use Rattle.arcstr_block.proofs.Sharing.{free_in}
use Rattle.arcstr_block.proofs.Steps.{Gain, none, part, share, last, gained}
use Rattle.arcstr_block.proofs.Histories.{marked_by_word}

-- a free handle is counted or uncounted
pub by_free : (X : Right → Type 1) → X counted → X uncounted → (right : Right) → IsFree right → X right
by_free X one other right may = elim may [ inl e ↦ subst X (sym e) one | inr e ↦ subst X (sym e) other ]

-- the state of the seat of a right that has one
abbrev pub seat_state : Right → HandleState
seat_state dropping = Dropping
seat_state owed = Owing
seat_state right = Free

module _ {M : Type 1} {𝓤 : Ura M} (𝓛 : Logic 𝓤) (P : Fml) (L b o : ℕ) (t : Id) where
  open 𝓛 use {H, A}
  open operators 𝓛 use {Pr, entails as ◌⊢◌, both as ◌∗◌, meaning as ⟦◌⟧}

  infix 26 ◌⊢◌
  infixr 35 ◌∗◌
  abbrev I : Fml
  I = Inv P L b o t

  -- a gain that becomes a right, with what the right says
  pub record Becomes (says : Right → Type 0) (from : Pr) (to : Right → Pr) : Type 1 where
    pub right : Right
    pub said : says right
    pub turns : from ⊢ H.⇛ (to right)

  module _ (s : Lft → Fml) (laws : denote.Sharing.ShrLaws s) where
    abbrev a : Lft
    a = t.sharing ∷ []

    abbrev Shown : ℕ → Right → Lft → Fml
    Shown h = shown P L b o t s h

    abbrev Held : ℕ → Right → Fml
    Held h = right_to P L b o t s h

    -- what a right that may read the block shows
    abbrev Sees : Lft → Pr
    Sees κ = ⟦ fshr_bor κ (λ q. flft a q) ⟧ ∗ ⟦ finv I ⟧ ∗ ⟦ s a ⟧

    free_sees : (h : ℕ) (right : Right) (κ : Lft) → ⟦ free_shown P L b o t s h right κ ⟧ ⊢ Sees κ
    free_sees h right κ = qed 𝓛 (‵ (free_shown P L b o t s h right κ) ∷ []) ∵ fsplit3 ! $ move ! (2 ∷ []) $ fsplit3 ! $ keep ! (3 ∷ 1 ∷ 2 ∷ []) $ done !

    fixed_sees : (h : ℕ) (κ : Lft) → ⟦ Shown h fixed κ ⟧ ⊢ Sees κ
    fixed_sees h κ = qed 𝓛 (‵ (Shown h fixed κ) ∷ []) ∵ fsplit3 ! $ fsplit ! $
        use1 𝓛 (‵ (fshr_bor κ (λ q. flft a q))) (𝓛.shr_bors.shr_bor_shorten [] κ (λ q. flft a q) (⊑_static κ)) $ keep ! (0 ∷ 2 ∷ 3 ∷ []) $ done !

    pub may_see : (h : ℕ) (right : Right) → MaySee right → (κ : Lft) → ⟦ Shown h right κ ⟧ ⊢ Sees κ
    may_see h right may κ = let X : Right → Type 1 = λ k. ⟦ Shown h k κ ⟧ ⊢ Sees κ in
        elim may [ inl free ↦ by_free X (free_sees h counted κ) (free_sees h uncounted κ) right free | inr e ↦ subst X (sym e) (fixed_sees h κ) ]

    -- what a free handle shows
    pub may_step : (h : ℕ) (right : Right) → IsFree right → (κ : Lft)
        → ⟦ Shown h right κ ⟧ ⊢ ⟦ fshr_bor κ (λ q. flft a q) ⟧ ∗ ⟦ fshr_bor κ (λ q. seat_share t.name.seats h q Free) ⟧ ∗ ⟦ knows t right ⟧ ∗ ⟦ finv I ⟧
        ∗ ⟦ s a ⟧
    may_step h right may κ = by_free (λ k. ⟦ Shown h k κ ⟧ ⊢ ⟦ free_shown P L b o t s h k κ ⟧) (id⊢ 𝓤 _) (id⊢ 𝓤 _) right may

    -- what a free handle's right contains, which is the same for both
    pub is_free : (h : ℕ) (right : Right) → IsFree right → ⟦ Held h right ⟧ ⊢ ⟦ free P L b o t s h right ⟧
    is_free h right may = by_free (λ k. ⟦ Held h k ⟧ ⊢ ⟦ free P L b o t s h k ⟧) (id⊢ 𝓤 _) (id⊢ 𝓤 _) right may

    free_has_seat : (h : ℕ) (right : Right) → ⟦ free P L b o t s h right ⟧ ⊢ ⟦ seat t.name.seats h Free ⟧
    free_has_seat h right = qed 𝓛 (‵ (free P L b o t s h right) ∷ []) ∵ fpick ! (λ e. fsplit3 ! $ move ! (2 ∷ []) $ fsplit3 ! $
        keep ! (2 ∷ []) $ done !)

    pub has_seat : (h : ℕ) (right : Right) → HasSeat right → ⟦ Held h right ⟧ ⊢ ⟦ seat t.name.seats h (seat_state right) ⟧
    has_seat h right may = let X : Right → Type 1 = λ k. ⟦ Held h k ⟧ ⊢ ⟦ seat t.name.seats h (seat_state k) ⟧ in elim may [
      | inl free ↦ by_free X (free_has_seat h counted) (free_has_seat h uncounted) right free
      | inr other ↦ elim other [
        | inl e ↦ subst X (sym e) (qed 𝓛 (‵ (Held h dropping) ∷ []) ∵ fsplit3 ! $ keep ! (2 ∷ []) $ done !)
        | inr e ↦ subst X (sym e) (qed 𝓛 (‵ (Held h owed) ∷ []) ∵ fsplit3 ! $ keep ! (2 ∷ []) $ done !)
      ]
    ]

    knows_nothing : ⟦ ftrue ⟧ ⊢ ⟦ knows t counted ⟧
    knows_nothing = all_i 𝓤 {P = emp 𝓤} (λ (_ : counted ≡ uncounted). A.dead (t.counting ∷ [])) (λ e. absurd cc)

    knows_mark : A.dead (t.counting ∷ []) ⊢ ⟦ knows t uncounted ⟧
    knows_mark = all_i 𝓤 {P = A.dead (t.counting ∷ [])} (λ (_ : uncounted ≡ uncounted). A.dead (t.counting ∷ [])) (λ _. id⊢ 𝓤 (A.dead (t.counting ∷ [])))

    -- a share becomes permanent when it is borrowed for a lifetime that never ends
    permanent_of : ⟦ gained 𝓛 P L b o t share ⟧ ∗ ⟦ s a ⟧ ⊢ H.⇛ ⟦ Held 0 fixed ⟧
    permanent_of = qed 𝓛 (‵ (gained 𝓛 P L b o t share) ∷ ‵ (s a) ∷ []) ∵ updating ! $ fsplit ! $ fpick ! (λ e. bor_new ! tt [] $ bor_fracture ! tt (λ q.
        flft a q) e $
        move ! (0 ∷ 2 ∷ []) $ fjoin ! $ move ! (0 ∷ 2 ∷ []) $ fjoin ! $ now ! $ keep ! (0 ∷ []) $ done !)

    nothing_of : (X : Fml) → ⟦ X ⟧ ∗ ⟦ s a ⟧ ⊢ H.⇛ ⟦ Held 0 nothing ⟧
    nothing_of X = qed 𝓛 (‵ X ∷ ‵ (s a) ∷ []) ∵ updating ! $ drop ! $ now ! $ done !

    -- ---- a look
    abbrev FromLook : Gain → Pr
    FromLook g = ⟦ gained 𝓛 P L b o t g ⟧ ∗ ⟦ s a ⟧

    abbrev ToIdle : Right → Pr
    ToIdle k = ⟦ Held 0 k ⟧

    pub looked : (n : ℕ) (g : Gain) → (IsMarked n → g ≡ share) → (IsUnmarked n → g ≡ none) → Becomes (Looks n) (FromLook g) ToIdle
    looked n none m u = record { right = nothing; said = ((λ odd. let e = m odd in absurd cc), (λ _. refl)); turns = nothing_of ftrue }
    looked n part m u = record { right = nothing; said = ((λ odd. let e = m odd in absurd cc), (λ _. refl)); turns = nothing_of (parts t.sharing 1) }
    looked n share m u = record { right = fixed; said = ((λ _. refl), (λ even. let e = u even in absurd cc)); turns = permanent_of }
    looked n last m u = record { right = nothing; said = ((λ odd. let e = m odd in absurd cc), (λ _. refl)); turns = nothing_of (gained 𝓛 P L b o t last) }

    pub marked : (g : Gain) → g ≡ share → Becomes (λ k. k ≡ fixed) (FromLook g) ToIdle
    marked none e = absurd cc
    marked part e = absurd cc
    marked share e = record { right = fixed; said = refl; turns = permanent_of }
    marked last e = absurd cc

    -- a right of the handle x.0, with the prefix x.1 of the history
    abbrev pub right_after : (ℕ × List Step → Type 0) → Right → ℕ × List Step → Fml
    right_after φ k x = fsep (fact (φ x)) (fsep (reached t.name.history x.1) (Held x.0 k))

    -- ---- a clone by the handle h, after the history `before`; `event` says whether it succeeds
    module _ (h : ℕ) (before : List Step) where
      abbrev New : Fml
      New = NewSeat 𝓛 L t.name.history t.name.seats h before

      abbrev pub newborn : Type 0 → Fml
      newborn event = fall event (λ _. New)

      -- the handle x.0 is born in the history x.1, if the clone succeeds
      abbrev born_as : Type 0 → Right → ℕ × List Step → Fml
      born_as event = right_after (λ x. event → BornAs L h before x.0 x.1)

      abbrev pub AfterClone : Type 0 → Right → Fml
      AfterClone event k = fex (ℕ × List Step) (born_as event k)

      abbrev FromClone : Type 0 → List Step → Gain → Pr
      FromClone event r g = ⟦ gained 𝓛 P L b o t g ⟧ ∗ ⟦ s a ⟧ ∗ ⟦ newborn event ⟧ ∗ ⟦ reached t.name.history r ⟧

      abbrev ToClone : Type 0 → Right → Pr
      ToClone event k = ⟦ AfterClone event k ⟧

      -- what is new of a clone that succeeds: its seat, and the history
      new_of : (event : Type 0) → event → ⟦ newborn event ⟧ ⊢ ⟦ New ⟧
      new_of event y = all_e 𝓤 (λ (_ : event). ⟦ New ⟧) y

      no_clone : (event : Type 0) (X : Fml) (r : List Step) → (event → ⊥)
          → ⟦ X ⟧ ∗ ⟦ s a ⟧ ∗ ⟦ newborn event ⟧ ∗ ⟦ reached t.name.history r ⟧ ⊢ H.⇛ (ToClone event nothing)
      no_clone event X r never = qed 𝓛 (‵ X ∷ ‵ (s a) ∷ ‵ (newborn event) ∷ ‵ (reached t.name.history r) ∷ []) ∵ updating ! $ keep ! (3 ∷ 1 ∷ []) $ fjoin ! $
          no_item ! $ fpack ! (event → BornAs L h before 0 r) (λ _. ftrue) (λ y. absurd (never y)) $ fjoin ! $
          fpack ! (ℕ × List Step) (born_as event nothing) (0, r) $ now ! $ done !

      -- a right and the history that was reached
      born_in : (event : Type 0) (k : Right) (j : ℕ) → ⟦ Held j k ⟧ ∗ ⟦ Ends L t.name.history t.name.seats before (Clone h) (Handle j) ⟧ ⊢ ToClone event k
      born_in event k j = qed 𝓛 (‵ (Held j k) ∷ ‵ (Ends L t.name.history t.name.seats before (Clone h) (Handle j)) ∷ []) ∵ move ! (1 ∷ []) $
          fpick ! (λ r. fsplit ! $ fpick ! (λ ends. drop ! $ fjoin ! $
          no_item ! $ fpack ! (event → BornAs L h before j r) (λ _. ftrue) (λ _. ends) $ fjoin ! $ fpack ! (ℕ × List Step) (born_as event k) (j, r) $ done !))

      counted_clone : (event : Type 0) (r : List Step) → event → FromClone event r part ⊢ H.⇛ (ToClone event counted)
      counted_clone event r y = qed 𝓛 (‵ (parts t.sharing 1) ∷ ‵ (s a) ∷ ‵ (newborn event) ∷ ‵ (reached t.name.history r) ∷ []) ∵ updating ! $
          keep ! (0 ∷ 1 ∷ 2 ∷ []) $ fpick ! (λ e. fpick ! (λ c. move ! (2 ∷ []) $
          use1 𝓛 (‵ New) (new_of event y) $ fpick ! (λ j. fsplit ! $ move ! (1 ∷ []) $
          -- [the history; the seat; the token; what is shared]
          move ! (1 ∷ 2 ∷ 3 ∷ []) $ no_item ! $
          use1 𝓛 (‵ (knows t counted)) knows_nothing $
          move ! (2 ∷ 0 ∷ 3 ∷ 1 ∷ []) $ types.Kit.group ! 4 $
          use1 𝓛 (‵ (Held j counted)) (free_in P L b o s laws j 𝓛 t counted e (λ _. c)) $
          use2 𝓛 (‵ (AfterClone event counted)) (born_in event counted j) $ now ! $ done !)))

      uncounted_clone : (event : Type 0) (r : List Step) → event → FromClone event r share ⊢ H.⇛ (ToClone event uncounted)
      uncounted_clone event r y = qed 𝓛 (‵ (gained 𝓛 P L b o t share) ∷ ‵ (s a) ∷ ‵ (newborn event) ∷ ‵ (reached t.name.history r) ∷ []) ∵ updating ! $
          keep ! (0 ∷ 1 ∷ 2 ∷ []) $ fsplit ! $ fpick ! (λ e. move ! (3 ∷ []) $
          use1 𝓛 (‵ New) (new_of event y) $
          fpick ! (λ j. fsplit ! $ move ! (0 ∷ 2 ∷ 3 ∷ 4 ∷ 1 ∷ []) $
          -- [the seat; the token; what is known; what is shared; the history]
          move ! (2 ∷ []) $
          use1 𝓛 (‵ (knows t uncounted)) knows_mark $ move ! (2 ∷ 0 ∷ 3 ∷ 1 ∷ []) $ types.Kit.group ! 4 $
          use1 𝓛 (‵ (Held j uncounted)) (free_in P L b o s laws j 𝓛 t uncounted e (λ w. absurd cc)) $
          use2 𝓛 (‵ (AfterClone event uncounted)) (born_in event uncounted j) $ now ! $ done !))

      neither : (n : ℕ) → (IsMarked n → ⊥) → (IsUnmarked n → ⊥) → ⊥
      neither n x y = elim (odd_or_even n) [ inl odd ↦ x odd | inr even ↦ y even ]

      pub found : (n : ℕ) (r : List Step) (g : Gain) → (IsMarked n → g ≡ share) → (IsUnmarked n → g ≡ none)
          → Becomes (Finds n) (FromClone (IsMarked n) r g) (ToClone (IsMarked n))
      found n r none m u = record {
        right = nothing;
        said = ((λ odd. let e = m odd in absurd cc), (λ _. refl));
        turns = no_clone (IsMarked n) ftrue r (λ odd. let e = m odd in absurd cc);
      }
      found n r part m u = absurd (neither n (λ odd. let e = m odd in absurd cc) (λ even. let e = u even in absurd cc))
      found n r share m u = record {
        right = uncounted;
        said = (
          (λ _. refl),
          (λ even.
              let e = u even in absurd cc),
        );
        turns = uncounted_clone (IsMarked n) r (elim (odd_or_even n) [ inl odd ↦ odd | inr even ↦ let e = u even in absurd cc ]);
      }
      found n r last m u = absurd (neither n (λ odd. let e = m odd in absurd cc) (λ even. let e = u even in absurd cc))

      module _ (old new n : ℕ) (r : List Step) where
        abbrev IsGainOf : Gain → Type 0
        IsGainOf g = (IsMarked n → g ≡ share) × (IsUnmarked n → n ≢ old → g ≡ none) × (n ≡ old → IsUnmarked new → g ≡ part)
            × (n ≡ old → IsMarked new → g ≡ share)

        event_of : (g : Gain) → (g ≡ none → ⊥) → IsGainOf g → IsMarkedOr old n
        event_of g some ok = elim (odd_or_even n) [
          | inl odd ↦ inl odd
          | inr even ↦ dite (ℕ_discrete n old) (λ e. inr e) (λ ne. absurd (some (ok.1 even ne)))
        ]

        no_last : IsGainOf last → ⊥
        no_last ok = neither n (λ odd. let e = ok.0 odd in absurd cc) (λ even. dite (ℕ_discrete n old)
            (λ same. neither new (λ odd. let e = ok.3 same odd in absurd cc) (λ un. let e = ok.2 same un in absurd cc))
            (λ ne. let e = ok.1 even ne in absurd cc))

        no_event : IsGainOf none → IsMarkedOr old n → ⊥
        no_event ok y = elim y [
          | inl odd ↦ let e = ok.0 odd in absurd cc
          | inr hit ↦ neither new (λ odd. let e = ok.3 hit odd in absurd cc) (λ un. let e = ok.2 hit un in absurd cc)
        ]

        pub raised : (g : Gain) → IsGainOf (g) → Becomes (Gains old new n) (FromClone (IsMarkedOr old n) r g) (ToClone (IsMarkedOr old n))
        raised none ok = record {
          right = nothing;
          said = (
            (λ odd. let e = ok.0 odd in absurd cc),
            (λ _ _. refl),
            (λ hit un.
                let e = ok.2 hit un in absurd cc),
            (λ hit odd. let e = ok.3 hit odd in absurd cc),
          );
          turns = no_clone (IsMarkedOr old n) ftrue r (no_event ok);
        }
        raised part ok = record {
          right = counted;
          said = (
            (λ odd. let e = ok.0 odd in absurd cc),
            (λ even miss. let e = ok.1 even miss in absurd cc),
            (λ _ _.
                refl),
            (λ hit odd. let e = ok.3 hit odd in absurd cc),
          );
          turns = counted_clone (IsMarkedOr old n) r (event_of part (λ e. absurd cc) ok);
        }
        raised share ok = record {
          right = uncounted;
          said = (
            (λ _. refl),
            (λ even miss. let e = ok.1 even miss in absurd cc),
            (λ hit un.
                let e = ok.2 hit un in absurd cc),
            (λ _ _. refl),
          );
          turns = uncounted_clone (IsMarkedOr old n) r (event_of share (λ e. absurd cc) ok);
        }
        raised last ok = absurd (no_last ok)

    -- ---- the drop: its look and its subtraction
    module _ (n h : ℕ) where
      abbrev FromBegin : Share → Pr
      FromBegin e = A.lft a e ∗ ⟦ s a ⟧ ∗ ⟦ seat t.name.seats h (begun 𝓛 L t.name.history t.name.seats n) ⟧

      abbrev To : Right → Pr
      To k = ⟦ Held h k ⟧

      goes_on : (e : Share) → Counts 63 e 1 → IsUnmarked n → FromBegin e ⊢ H.⇛ (To dropping)
      goes_on e c even = let is : begun 𝓛 L t.name.history t.name.seats n ≡ Dropping = ap (λ (w : FlagAndCount). if w.flag then Gone else Dropping)
          (unmarked_word n even) in
          qed 𝓛 (‵ (flft a e) ∷ ‵ (s a) ∷ ‵ (seat t.name.seats h (begun 𝓛 L t.name.history t.name.seats n)) ∷ []) ∵ updating ! $
          rewrite ! 2 (λ (v : HandleState). ‵ (seat t.name.seats h v)) is refl $ use1 𝓛 (‵ (parts t.sharing 1)) (parts_in 𝓛 t.sharing 1 e c) $ fjoin3 ! $
          now ! $ done !

      stops : (e : Share) → FromBegin e ⊢ H.⇛ (To nothing)
      stops e = qed 𝓛 (‵ (flft a e) ∷ ‵ (s a) ∷ ‵ (seat t.name.seats h (begun 𝓛 L t.name.history t.name.seats n)) ∷ []) ∵ updating ! $ keep ! (1 ∷ []) $
          now ! $ done !

      pub begins : (right : Right) (e : Share) → IsFree right → (right ≡ counted → Counts 63 e 1) → (right ≡ uncounted → IsMarked n)
          → Becomes (Begins n) (FromBegin e) To
      begins right e may c known = elim (odd_or_even n) [
        | inl odd ↦ record { right = nothing; said = ((λ _. refl), (λ even. absurd (omega (arith, odd, even)))); turns = stops e }
        | inr even ↦ let one : right ≡ counted = elim may [ inl e ↦ e | inr marks ↦ let odd = known marks in absurd (omega (arith, odd, even)) ] in
            record { right = dropping; said = ((λ odd. absurd (omega (arith, odd, even))), (λ _. refl)); turns = goes_on e (c one) even }
      ]

      abbrev FromSub : Gain → Pr
      FromSub g = ⟦ gained 𝓛 P L b o t g ⟧ ∗ ⟦ s a ⟧ ∗ ⟦ seat t.name.seats h (left_in 𝓛 L t.name.history t.name.seats n) ⟧

      owes : IsLast n → FromSub last ⊢ H.⇛ (To owed)
      owes two = let is : left_in 𝓛 L t.name.history t.name.seats n ≡ Owing = ap (λ y. if y then Owing else Gone) (last_two n two) in
          qed 𝓛 (‵ (gained 𝓛 P L b o t last) ∷ ‵ (s a) ∷ ‵ (seat t.name.seats h (left_in 𝓛 L t.name.history t.name.seats n)) ∷ []) ∵ updating ! $
          rewrite ! 2 (λ (v : HandleState). ‵ (seat t.name.seats h v)) is refl $ fsplit3 ! $ move ! (1 ∷ 2 ∷ []) $ lent_back ! tt $
          -- [what the block owns; the word and the book; what was shared; the seat]
          move ! (0 ∷ 3 ∷ []) $ fjoin ! $ move ! (1 ∷ 0 ∷ []) $ fjoin ! $ now ! $ keep ! (0 ∷ []) $ done !

      leaves : (X : Fml) → ⟦ X ⟧ ∗ ⟦ s a ⟧ ∗ ⟦ seat t.name.seats h (left_in 𝓛 L t.name.history t.name.seats n) ⟧ ⊢ H.⇛ (To nothing)
      leaves X = qed 𝓛 (‵ X ∷ ‵ (s a) ∷ ‵ (seat t.name.seats h (left_in 𝓛 L t.name.history t.name.seats n)) ∷ []) ∵ updating ! $ keep ! (1 ∷ []) $ now ! $
          done !

      not_last : (g : Gain) → (g ≡ last → ⊥) → (IsLast n → g ≡ last) → Leaves n nothing
      not_last g other ok = ((λ e. absurd (other (ok e))), (λ _. refl))

      pub subtracted : (g : Gain) → (IsLast n → g ≡ last) → ((¬ IsLast n) → g ≡ none) → Becomes (Leaves n) (FromSub g) To
      subtracted none m u = record { right = nothing; said = not_last none (λ e. absurd cc) m; turns = leaves ftrue }
      subtracted part m u = record { right = nothing; said = not_last part (λ e. absurd cc) m; turns = leaves (parts t.sharing 1) }
      subtracted share m u = record { right = nothing; said = not_last share (λ e. absurd cc) m; turns = leaves (gained 𝓛 P L b o t share) }
      subtracted last m u = dite (ℕ_discrete n one) (λ two. record { right = owed; said = ((λ _. refl), (λ ne. absurd (ne two))); turns = owes two }) (λ ne.
          let e = u ne in absurd cc)

    -- ---- a load by the free handle h, of a clone or as a look, after the history `before`
    module _ (h : ℕ) (before : List Step) where
      abbrev Bk : ℕ → Fml
      Bk = Book L t.name.history t.name.seats

      -- the history after the load found the word n
      abbrev pub entered : Bool → ℕ → Fml
      entered true n = newborn h before (IsMarked n)
      entered false n = Ends L t.name.history t.name.seats before (Look h) (look_reply (looked_of (word_of n)))

      pub enters : (clones : Bool) (q : Share) (n : ℕ)
          → ⟦ Bk n ⟧ ∗ ⟦ seat_share t.name.seats h q Free ⟧ ∗ ⟦ reached t.name.history before ⟧
          ⊢ upd 𝓤 (⟦ Bk n ⟧ ∗ ⟦ seat_share t.name.seats h q Free ⟧ ∗ ⟦ entered clones n ⟧)
      enters true q n = finds 𝓛 L t.name.history t.name.seats h q before n
      enters false q n = book_look 𝓛 L t.name.history t.name.seats n h q before

      -- a step of a handle that stays: what it gains, what the history says, and what was known of the history
      abbrev From : Fml → List Step → Gain → Pr
      From said r g = ⟦ gained 𝓛 P L b o t g ⟧ ∗ ⟦ s a ⟧ ∗ ⟦ said ⟧ ∗ ⟦ reached t.name.history r ⟧

      abbrev After : (ℕ × List Step → Type 0) → Right → Pr
      After φ k = ⟦ fex (ℕ × List Step) (right_after φ k) ⟧

      -- the right has no seat, and the history ends in this step
      pub seatless : {says : Right → Type 0} (g : Gain) → Becomes says (FromLook g) ToIdle → (φ : ℕ × List Step → Type 0) (e : Step) (reply : Reply)
          → ((r : List Step) → EndsIn L r e reply × IsLater before r → φ (0, r)) → (r : List Step)
          → Becomes says (From (Ends L t.name.history t.name.seats before e reply) r g) (After φ)
      seatless g got φ e reply tells r = record {
        right = got.right;
        said = got.said;
        turns = qed 𝓛 (‵ (gained 𝓛 P L b o t g) ∷ ‵ (s a) ∷ ‵ (Ends L t.name.history t.name.seats before e reply) ∷ ‵ (reached t.name.history r) ∷ []) ∵
            updating ! $ use2 𝓛 (later (‵ (Held 0 got.right))) got.turns $ await ! tt $ move ! (1 ∷ []) $ fpick ! (λ r'. fsplit ! $ fpick ! (λ ends. drop ! $
            fjoin ! $ no_item ! $ fpack ! (φ (0, r')) (λ _. ftrue) (tells r' ends) $ fjoin ! $
            fpack ! (ℕ × List Step) (right_after φ got.right) (0, r') $ now ! $ keep ! (0 ∷ []) $ done !));
      }

      abbrev LoadAs : Bool → ℕ → ℕ × List Step → Type 0
      LoadAs clones n x = LoadEnds clones L h before n x.0 x.1

      pub loaded : (clones : Bool) (n : ℕ) (r : List Step) (g : Gain) → (IsMarked n → g ≡ share) → (IsUnmarked n → g ≡ none)
          → Becomes (Loads clones n) (From (entered clones n) r g) (After (LoadAs clones n))
      loaded true n r g m u = let got = found h before n r g m u in record { right = got.right; said = got.said; turns = got.turns }
      loaded false n r g m u = seatless g (looked n g m u) (LoadAs false n) (Look h) (look_reply (looked_of (word_of n)))
          (λ r' ends. (ends.0, marked_by_word L n r' h ends.0, ends.1)) r
