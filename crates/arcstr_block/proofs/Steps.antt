-- The steps on the count word of a block: what each finds, what it changes and what it gains. Assumes `Logic`.
--
-- We show first the rule of one step on a word that lies in an invariant, then the same of the count word, for any function that the step computes and any
-- gain. The load, the mark, the clone and the subtraction are its cases.
use Rattle.arcstr_block.proofs.Names.{◌≡◌, ℕ, ◌-◌, ◌^◌, Bool, true, [], ◌∷◌, refl, arith, false, List, sym, subst, ◌≢◌, ap, ◌+◌, ◌<◌, Some, eqb, eq-eqb, ne_eqb}
use Rattle.arcstr_block.proofs.Names.{Option, None, w64, ◌/◌, bit_or, Mem, not-mem-nil, dite, ℕ_discrete, dec_le, Ura, ty_int, vint, has_ty, WT, either, Share}
use Rattle.arcstr_block.proofs.Names.{Fml, fsep, fex, flft, finv, fdead, ftrue, fnamed, flent, full_share, via, upd, never, never_e, guard, ex, upd_i, SProp}
use Rattle.arcstr_block.proofs.Names.{ent, sep, apply∗, all_e, wand, ex_i, block_ptr, nothing, ‵, ◌⊛◌, some, ◌$◌, ◌∵◌, !, qed, move, pick, use1, use2, split}
use Rattle.arcstr_block.proofs.Names.{split3, fsplit, fjoin, fjoin3, fpick, fpack, done, raw, by, keep, fsplit3, assume, given, drop, learn, check, suffices}
use Rattle.arcstr_block.proofs.Names.{settle, show, frame, use3, each, Logic, sem, word, Shift, rests, ends, picks, enters, if_none, along, back, asks, Book}
use Rattle.arcstr_block.proofs.Names.{Id, parts, unmarked, counting, if_alive, Inv, knows, some_share, Phase, marked, IsPhaseOf, rest, stated, uncounted, Right}
use Rattle.arcstr_block.proofs.Names.{IsMarked, IsClone, IsUnmarked, IsLast, IsCountWord, operators}
use Rattle.core.specs.Sync.RawAtomic.{leaves, found, always}
use Rattle.arcstr_block.proofs.Words.{is_right, one_less, or_unmarked, or_marked}
use Rattle.arcstr_block.specs.Ledger.{fact}
use Rattle.arcstr_block.proofs.Ledger.{phase_in, not_alive, marks, marked_in, finds_mark, share_not_alive, takes, gives, gives_last, gives_marked, too_many}

-- nothing, a part, a permanent share, or the word and what the block owns
pub data Gain : Type 0 where
  none : Gain
  part : Gain
  share : Gain
  last : Gain

module _ {M : Type 1} {𝓤 : Ura M} (𝓛 : Logic 𝓤) where
  open 𝓛 use {H, A}
  open operators 𝓛 use {Pr, entails as ◌⊢◌, both as ◌∗◌, gives as ◌-∗◌, meaning as ⟦◌⟧}

  infix 26 ◌⊢◌
  infixr 35 ◌∗◌
  infixr 30 ◌-∗◌
  -- ---- one step on a word that lies in an invariant; it may end a lifetime
  module _ (I : Fml) (b o : ℕ) (f : ℕ → ℕ) (after : ℕ → Fml) where
    abbrev pub Closed : ℕ → Pr
    Closed n = ⟦ I ⟧ ∗ ⟦ after n ⟧

    -- after the step no lifetime ends, or the lifetime d does
    abbrev pub Out : ℕ → Option ℕ → Pr
    Out n None = Closed n
    Out n (Some d) = A.lft (d ∷ []) full_share ∗ (A.dead (d ∷ []) -∗ upd 𝓤 (Closed n))

    abbrev pub Again : ℕ → Pr
    Again n = ⟦ word b o (f n) ⟧ -∗ upd 𝓤 (ex 𝓤 (Out n))

    abbrev pub Lies : ℕ → Pr
    Lies n = ⟦ word b o n ⟧ ∗ Again n

    abbrev way : Option ℕ → Shift
    way None = leaves rests
    way (Some d) = ends d (leaves rests)

    module _ (j n : ℕ) where
      abbrev Then : Pr
      Then = ⟦ after n ⟧

      abbrev Held : List (ℕ × Fml)
      Held = (j, I) ∷ []

      shut : Closed n ⊢ upd 𝓤 (⟦ I ⟧ ∗ upd 𝓤 Then)
      shut = qed 𝓛 (‵ I ∷ ‵ (after n) ∷ []) ∵ suffices ! _ (upd_i 𝓤 (⟦ I ⟧ ∗ upd 𝓤 Then)) $ frame ! $ suffices ! _ (upd_i 𝓤 Then) $ done !

      ways : (e : Option ℕ) → Out n e ⊢ along 𝓛 (way e) (if_none 𝓛 Then) Held
      ways None = shut
      ways (Some d) = let G : Pr = upd 𝓤 (⟦ I ⟧ ∗ upd 𝓤 Then) in let N : Pr = A.lft (d ∷ []) full_share ∗ (A.dead (d ∷ []) -∗ G) in
          qed 𝓛 (‵ (flft (d ∷ []) full_share) ∷ raw (A.dead (d ∷ []) -∗ upd 𝓤 (Closed n)) ∷ []) ∵ suffices ! _ (upd_i 𝓤 N) $ frame ! $
          assume ! (‵ (fdead (d ∷ []))) $
          use2 𝓛 (raw (upd 𝓤 (Closed n))) (apply∗ 𝓤 (A.dead (d ∷ [])) (upd 𝓤 (Closed n))) $ settle 𝓛 (⟦ I ⟧ ∗ upd 𝓤 Then) (raw (Closed n)) $ by ! shut

    pub asked : (X : Pr) → ⟦ I ⟧ ∗ X ⊢ upd 𝓤 (ex 𝓤 Lies) → A.inv I ∗ X ⊢ asks 𝓛 (block_ptr b o) f always after
    asked X h = let K : List (ℕ × Fml) → Pr = λ l. ex 𝓤 (found 𝓛 l b o f always after) in
        qed 𝓛 (‵ (finv I) ∷ raw X ∷ []) ∵ use1 𝓛 (some (λ (j : ℕ). ‵ (fnamed j I))) (𝓛.invs.inv_named I) $ pick ! (λ j. let F : Pr = K (Held j 0) in
        suffices ! _ (ex_i 𝓤 (λ (s : Shift). along 𝓛 s K []) (enters j I rests)) $
        suffices ! _ (upd_i 𝓤 (guard 𝓤 (¬ Mem j []) (A.named j I ∗ (⟦ I ⟧ -∗ upd 𝓤 F)))) $ check ! (λ m. not-mem-nil m) $ frame ! $ assume ! (‵ I) $
        use2 𝓛 (raw (upd 𝓤 (ex 𝓤 Lies))) h $ settle 𝓛 F (some (λ (n : ℕ). ‵ (word b o n) ⊛ raw (Again n))) $ suffices ! _ (upd_i 𝓤 F) $ pick ! (λ n. split ! $
        show ! (found 𝓛 (Held j n) b o f always after) n $ frame ! $ each ! (λ (_ : Unit {0}). back 𝓛 (Held j n) b o f after n)
        (λ _. assume ! (‵ (word b o (f n))) $
        use2 𝓛 (raw (upd 𝓤 (ex 𝓤 (Out n)))) (apply∗ 𝓤 ⟦ word b o (f n) ⟧ (upd 𝓤 (ex 𝓤 (Out n)))) $
        let S : Option ℕ → Pr = λ e. along 𝓛 (way e) (if_none 𝓛 (Then j n)) (Held j n) in
        suffices ! _ (ex_i 𝓤 (λ (s : Shift). along 𝓛 s (if_none 𝓛 (Then j n)) (Held j n)) (picks (Option ℕ) way)) $
        settle 𝓛 (ex 𝓤 S) (some (λ (e : Option ℕ). raw (Out n e))) $ suffices ! _ (upd_i 𝓤 (ex 𝓤 S)) $ pick ! (λ e. show ! S e $ by ! (ways j n e)))))

  -- what is kept beside a step is kept beside what follows it
  module _ (I : Fml) (b o : ℕ) (f : ℕ → ℕ) (after beside : ℕ → Fml) (n : ℕ) where
    abbrev pub both_after : ℕ → Fml
    both_after m = fsep (beside m) (after m)

    abbrev Old : SProp 𝓤
    Old = Closed I b o f after n

    abbrev New : SProp 𝓤
    New = Closed I b o f both_after n

    joined : ent 𝓤 (sep 𝓤 (sem 𝓛 (beside n)) Old) New
    joined = qed 𝓛 (‵ (beside n) ∷ (‵ I ⊛ ‵ (after n)) ∷ []) ∵ move ! (1 ∷ []) $ split ! $ move ! (0 ∷ 2 ∷ 1 ∷ []) $ done !

    framed : (e : Option ℕ) → ent 𝓤 (sep 𝓤 (sem 𝓛 (beside n)) (Out I b o f after n e)) (Out I b o f both_after n e)
    framed None = joined
    framed (Some d) = let Dead : SProp 𝓤 = 𝓛.A.dead (d ∷ []) in let Then : SProp 𝓤 = wand 𝓤 Dead (upd 𝓤 Old) in
        qed 𝓛 (‵ (beside n) ∷ (‵ (flft (d ∷ []) full_share) ⊛ raw Then) ∷ []) ∵ move ! (1 ∷ []) $ split ! $ frame ! $ assume ! (‵ (fdead (d ∷ []))) $
        use2 𝓛 (raw (upd 𝓤 Old)) (apply∗ 𝓤 Dead (upd 𝓤 Old)) $ settle 𝓛 New (raw Old) $ suffices ! _ (upd_i 𝓤 New) $ move ! (1 ∷ 0 ∷ []) $ by ! joined

    pub frames : ent 𝓤 (sep 𝓤 (sem 𝓛 (beside n)) (ex 𝓤 (Out I b o f after n))) (ex 𝓤 (Out I b o f both_after n))
    frames = qed 𝓛 (‵ (beside n) ∷ some (λ (e : Option ℕ). raw (Out I b o f after n e)) ∷ []) ∵ move ! (1 ∷ []) $ pick ! (λ e.
        show ! (Out I b o f both_after n) e $ move ! (1 ∷ 0 ∷ []) $ by ! (framed e))

  -- ---- one step on the count word of a block, and what it gains
  module _ (P : Fml) (L b o : ℕ) (t : Id) where
    abbrev I : Fml
    I = Inv P L b o t

    abbrev Rest : Phase → Fml
    Rest = rest P L b o t

    abbrev In : ℕ → Phase → Type 0
    In = IsPhaseOf P L b o t

    abbrev pub St : ℕ → Fml
    St = stated P L b o t

    abbrev pub Bk : ℕ → Fml
    Bk = Book L t.name.history t.name.seats

    abbrev pub gained : Gain → Fml
    gained none = ftrue
    gained part = parts t.sharing 1
    gained share = fsep (some_share t.sharing) (fdead (t.counting ∷ []))
    gained last = fsep (St 0) (fsep (fdead (t.sharing ∷ [])) (flent (t.sharing ∷ []) P))

    -- The word n becomes f n. `ok` says which gain goes with n, K is what the step takes, and `kept` is what it returns.
    module _ (f : ℕ → ℕ) (ok : ℕ → Gain → Type 0) (K kept : Fml) where
      abbrev pub told : ℕ → Gain → Fml
      told n g = fsep (fact (ok n g)) (gained g)

      abbrev pub after : ℕ → Fml
      after n = fsep kept (fex Gain (told n))

      -- the state after the step, with what the history says
      abbrev pub all_after : (ℕ → Fml) → ℕ → Fml
      all_after said n = fsep (said n) (after n)

      abbrev pub Stepped : ℕ → Pr
      Stepped n = upd 𝓤 (ex 𝓤 (Out I b o f after n))

      abbrev pub Shut : ℕ → Pr
      Shut n = Closed I b o f after n

      same : (n : ℕ) → Shut n ⊢ Stepped n
      same n = via 𝓤 (ex 𝓤 (Out I b o f after n)) (ex_i 𝓤 (Out I b o f after n) None) (upd_i 𝓤 (ex 𝓤 (Out I b o f after n)))

      pub ending : (n d : ℕ) → A.lft (d ∷ []) full_share ∗ (A.dead (d ∷ []) -∗ upd 𝓤 (Shut n)) ⊢ Stepped n
      ending n d = via 𝓤 (ex 𝓤 (Out I b o f after n)) (ex_i 𝓤 (Out I b o f after n) (Some d)) (upd_i 𝓤 (ex 𝓤 (Out I b o f after n)))

      pub gains : (n : ℕ) (g : Gain) → ok n g → ⟦ kept ⟧ ∗ ⟦ gained g ⟧ ⊢ ⟦ after n ⟧
      gains n g h = qed 𝓛 (‵ kept ∷ ‵ (gained g) ∷ []) ∵ move ! (1 ∷ []) $ nothing ! $ fpack ! (ok n g) (λ _. ftrue) h $ fjoin ! $ fpack ! Gain (told n) g $
          move ! (1 ∷ 0 ∷ []) $ fjoin ! $ done !

      shuts : (n : ℕ) (s : Phase) → In (f n) s → (g : Gain) → ok n g → ⟦ St (f n) ⟧ ∗ ⟦ Rest s ⟧ ∗ ⟦ kept ⟧ ∗ ⟦ gained g ⟧ ⊢ Shut n
      shuts n s h g y = qed 𝓛 (‵ (St (f n)) ∷ ‵ (Rest s) ∷ ‵ kept ∷ ‵ (gained g) ∷ []) ∵ move ! (2 ∷ 3 ∷ []) $ use2 𝓛 (‵ (after n)) (gains n g y) $
          move ! (2 ∷ []) $
          use1 𝓛 (‵ _) (phase_in 𝓛 P L b o t (f n) s h) $ move ! (2 ∷ 0 ∷ []) $ fjoin ! $ fpack ! ℕ (counting P L b o t) (f n) $
          fpack ! Bool (if_alive P L b o t) true $ done !

      pub keeps : (n : ℕ) (s : Phase) → In (f n) s → (g : Gain) → ok n g → ⟦ St (f n) ⟧ ∗ ⟦ Rest s ⟧ ∗ ⟦ kept ⟧ ∗ ⟦ gained g ⟧ ⊢ Stepped n
      keeps n s h g y = via 𝓤 (Shut n) (shuts n s h g y) (same n)

      -- the mark is set, and c ends
      pub marking : (n k : ℕ) → k < 2 ^ 63 - 1 → In (f n) (marked k) → ok n share → ⟦ St (f n) ⟧ ∗ ⟦ Rest (unmarked k) ⟧ ∗ ⟦ kept ⟧ ⊢ Stepped n
      marking n k small h y =
          qed 𝓛 (‵ (St (f n)) ∷ ‵ (Rest (unmarked k)) ∷ ‵ kept ∷ []) ∵ move ! (1 ∷ []) $
          use1 𝓛 (‵ (flft (t.counting ∷ []) full_share) ⊛ ‵ (parts t.sharing (2 ^ 63 - (k + 1))) ⊛ ‵ (some_share t.sharing) ⊛
          ‵ (some_share t.sharing)) (marks 𝓛 P L b o t k small) $
          split3 ! $ move ! (2 ∷ []) $ split ! $
          -- [a share; a share; the token of c; the parts; the word; what is returned]
          suffices ! _ (ending n t.counting) $ move ! (2 ∷ []) $ frame ! $ assume ! (‵ (fdead (t.counting ∷ []))) $ suffices ! _ (upd_i 𝓤 (Shut n)) $
          use1 𝓛 (‵ (fdead (t.counting ∷ [])) ⊛ ‵ (fdead (t.counting ∷ []))) (𝓛.lfts.dead_dup (t.counting ∷ [])) $ split ! $ move ! (3 ∷ 0 ∷ []) $ fjoin ! $
          move ! (3 ∷ 2 ∷ 1 ∷ []) $
          use3 𝓛 (‵ (Rest (marked k))) (marked_in 𝓛 P L b o t k) $ move ! (2 ∷ 0 ∷ 3 ∷ 1 ∷ []) $ by ! (shuts n (marked k) h share y)

      -- B is what the history's law takes, and `said` is what it gives
      module _ (alive : ⟦ K ⟧ ∗ A.dead (t.sharing ∷ []) ⊢ never 𝓤) (law : (n : ℕ) → n < 2 ^ 64 → (s : Phase) → In n s
          → ⟦ St (f n) ⟧ ∗ ⟦ Rest s ⟧ ∗ ⟦ K ⟧ ⊢ Stepped n)
          (B : Fml) (said : ℕ → Fml) (turn : (n : ℕ) → n < 2 ^ 64 → ⟦ Bk n ⟧ ∗ ⟦ B ⟧ ⊢ upd 𝓤 (⟦ Bk (f n) ⟧ ∗ ⟦ said n ⟧)) where
        abbrev After : ℕ → Fml
        After = all_after said

        abbrev Opened : Pr
        Opened = upd 𝓤 (ex 𝓤 (Lies I b o f After))

        opened : (y : Bool) → ⟦ if_alive P L b o t y ⟧ ∗ ⟦ K ⟧ ∗ ⟦ B ⟧ ⊢ Opened
        opened false = qed 𝓛 (‵ (fdead (t.sharing ∷ [])) ∷ ‵ K ∷ ‵ B ∷ []) ∵ keep ! (1 ∷ 0 ∷ []) $ by ! (via 𝓤 (never 𝓤) alive (never_e 𝓤 Opened))
        opened true = qed 𝓛 (‵ (if_alive P L b o t true) ∷ ‵ K ∷ ‵ B ∷ []) ∵ suffices ! _ (upd_i 𝓤 (ex 𝓤 (Lies I b o f After))) $ fpick ! (λ n.
            let Z : Pr = ex 𝓤 (Out I b o f After n) in fsplit ! $ fsplit ! $
            use1 𝓛 (given (lib.Dec.T (has_ty (ty_int w64) (vint w64 n)) ×
            WT (vint w64 n)) (‵ (word b o n))) (𝓛.laws.at_wt full_share (ty_int w64) b o (vint w64 n)) $ learn ! (λ g.
            -- [the word; the book; the ledger; K; B]
            show ! (Lies I b o f After) n $ frame ! $ assume ! (‵ (word b o (f n))) $ move ! (1 ∷ 4 ∷ []) $
            use2 𝓛 (raw (upd 𝓤 (⟦ Bk (f n) ⟧ ∗ ⟦ said n ⟧))) (turn n g.1.fits) $ settle 𝓛 Z (‵ (Bk (f n)) ⊛ ‵ (said n)) $ split ! $ move ! (2 ∷ 0 ∷ []) $
            fjoin ! $
            -- [the word and the book; what is said; the ledger; K]
            move ! (2 ∷ []) $ fpick ! (λ s. fsplit ! $ fpick ! (λ h. drop ! $ move ! (1 ∷ 0 ∷ 3 ∷ []) $ use3 𝓛 (raw (Stepped n)) (law n g.1.fits s h) $
            settle 𝓛 Z (raw (ex 𝓤 (Out I b o f after n))) $ suffices ! _ (upd_i 𝓤 Z) $ move ! (1 ∷ 0 ∷ []) $ by ! (frames I b o f after said n)))))

        pub stepped : A.inv I ∗ ⟦ K ⟧ ∗ ⟦ B ⟧ ⊢ asks 𝓛 (block_ptr b o) f always After
        stepped = asked I b o f After (⟦ K ⟧ ∗ ⟦ B ⟧) (qed 𝓛 (‵ I ∷ ‵ K ∷ ‵ B ∷ []) ∵ fpick ! (λ y. by ! (opened y)))

    pub token_alive : (q : Share) → A.lft (t.sharing ∷ []) q ∗ A.dead (t.sharing ∷ []) ⊢ never 𝓤
    token_alive q = 𝓛.lfts.lft-dead (t.sharing ∷ []) q

    module _ (q : Share) where
      abbrev pub Tok : Fml
      Tok = flft (t.sharing ∷ []) q

      -- ---- the load. `right` is what the caller knows
      module _ (right : Right) where
        abbrev pub Told : ℕ → Gain → Type 0
        Told n g = IsCountWord L n × (right ≡ uncounted → IsMarked n) × (IsMarked n → g ≡ share) × (IsUnmarked n → g ≡ none)

        abbrev pub With : Fml
        With = fsep Tok (knows t right)

        sees : (n : ℕ) → n < 2 ^ 64 → (s : Phase) → In n s → ⟦ St n ⟧ ∗ ⟦ Rest s ⟧ ∗ ⟦ With ⟧ ⊢ Stepped (λ m. m) Told With Tok n
        sees n fits (unmarked k) h = let even : IsUnmarked n = omega (arith, h.0) in let h₁ = h.1 in let h₂ = h.2 in let h₀ = h.0 in
            qed 𝓛 (‵ (St n) ∷ ‵ (Rest (unmarked k)) ∷ ‵ With ∷ []) ∵ move ! (2 ∷ []) $ fsplit ! $ dite (is_right right uncounted)
            (λ e. move ! (1 ∷ 3 ∷ []) $ use1 𝓛 (‵ (fdead (t.counting ∷ []))) (all_e 𝓤 (λ (_ : right ≡ uncounted). A.dead (t.counting ∷ [])) e) $
            move ! (1 ∷ []) $ fsplit3 ! $
            keep ! (1 ∷ 3 ∷ []) $ by ! (not_alive 𝓛 P L b o t full_share t.counting _))
            (λ ne. move ! (1 ∷ []) $ drop ! $ nothing ! $ move ! (2 ∷ 3 ∷ 1 ∷ 0 ∷ []) $
            by ! (keeps (λ m. m) Told With Tok n (unmarked k) h none (
              (λ _. (omega arith, omega arith)),
              (λ e. absurd (ne e)),
              (λ odd. absurd (omega arith)),
              (λ _.
                  refl),
            )))
        sees n fits (marked m) h = let odd : IsMarked n = h.0 in
            qed 𝓛 (‵ (St n) ∷ ‵ (Rest (marked m)) ∷ ‵ With ∷ []) ∵ move ! (2 ∷ []) $ fsplit ! $ move ! (3 ∷ []) $
            use1 𝓛 (‵ (Rest (marked m)) ⊛ ‵ (some_share t.sharing) ⊛ ‵ (fdead (t.counting ∷ []))) (finds_mark 𝓛 P L b o t m) $ split3 ! $
            move ! (1 ∷ 2 ∷ []) $ fjoin ! $
            keep ! (4 ∷ 1 ∷ 2 ∷ 0 ∷ []) $
            by ! (keeps (λ x. x) Told With Tok n (marked m) h share ((λ even. absurd (omega arith)), (λ _. odd), (λ _. refl), (λ even. absurd (omega arith))))

        with_alive : ⟦ With ⟧ ∗ A.dead (t.sharing ∷ []) ⊢ never 𝓤
        with_alive = qed 𝓛 (‵ With ∷ ‵ (fdead (t.sharing ∷ [])) ∷ []) ∵ fsplit ! $ keep ! (0 ∷ 2 ∷ []) $ by ! (token_alive q)

        pub loads : (B : Fml) (said : ℕ → Fml) → ((n : ℕ) → n < 2 ^ 64 → ⟦ Bk n ⟧ ∗ ⟦ B ⟧ ⊢ upd 𝓤 (⟦ Bk n ⟧ ∗ ⟦ said n ⟧))
            → A.inv I ∗ ⟦ With ⟧ ∗ ⟦ B ⟧ ⊢ asks 𝓛 (block_ptr b o) (λ n. n) always (all_after (λ m. m) Told With Tok said)
        loads B said turn = stepped (λ m. m) Told With Tok with_alive sees B said turn

      -- ---- the mark
      abbrev pub Fixed : ℕ → Gain → Type 0
      Fixed n g = g ≡ share

      abbrev pub with_mark : ℕ → ℕ
      with_mark n = bit_or n 1

      mark : (n : ℕ) → n < 2 ^ 64 → (s : Phase) → In n s → ⟦ St (with_mark n) ⟧ ∗ ⟦ Rest s ⟧ ∗ ⟦ Tok ⟧ ⊢ Stepped with_mark Fixed Tok Tok n
      mark n fits (unmarked k) h = let h₀ = h.0 in let h₁ = h.1 in let h₂ = h.2 in let h₃ = h.3 in let even : IsUnmarked n = omega (arith, h₀) in
          marking with_mark Fixed Tok Tok n k (omega (arith, h₂, h₃)) (subst (λ (m : ℕ). In m (marked k)) (sym (or_unmarked n even)) (
            omega
                (arith, h₀),
            omega (arith, h₀),
            omega (arith, h₀, h₂),
            h₃,
          )) refl
      mark n fits (marked m) h = let odd : IsMarked n = h.0 in
          qed 𝓛 (‵ (St (with_mark n)) ∷ ‵ (Rest (marked m)) ∷ ‵ Tok ∷ []) ∵ move ! (1 ∷ []) $
          use1 𝓛 (‵ (Rest (marked m)) ⊛ ‵ (some_share t.sharing) ⊛ ‵ (fdead (t.counting ∷ []))) (finds_mark 𝓛 P L b o t m) $ split3 ! $
          move ! (1 ∷ 2 ∷ []) $ fjoin ! $
          move ! (2 ∷ 1 ∷ 3 ∷ 0 ∷ []) $
          by ! (keeps with_mark Fixed Tok Tok n (marked m) (subst (λ (x : ℕ). In x (marked m)) (sym (or_marked n odd)) h) share refl)

      pub marks_it : (B : Fml) (said : ℕ → Fml) → ((n : ℕ) → n < 2 ^ 64 → ⟦ Bk n ⟧ ∗ ⟦ B ⟧ ⊢ upd 𝓤 (⟦ Bk (with_mark n) ⟧ ∗ ⟦ said n ⟧))
          → A.inv I ∗ ⟦ Tok ⟧ ∗ ⟦ B ⟧ ⊢ asks 𝓛 (block_ptr b o) with_mark always (all_after with_mark Fixed Tok Tok said)
      marks_it B said turn = stepped with_mark Fixed Tok Tok (token_alive q) mark B said turn

      -- ---- a clone, by a compare-exchange
      module _ (old new : ℕ) (asked : IsClone L old new) where
        abbrev pub Raised : ℕ → Gain → Type 0
        Raised n g = IsCountWord L n × (IsMarked n → g ≡ share) × (IsUnmarked n → n ≢ old → g ≡ none) × (n ≡ old → IsUnmarked new → g ≡ part) ×
            (n ≡ old → IsMarked new → g ≡ share)

        abbrev pub exchanged : ℕ → ℕ
        exchanged n = either (eqb n old) new n

        abbrev Went : ℕ → Pr
        Went = Stepped exchanged Raised Tok Tok

        won : exchanged old ≡ new
        won = ap (λ y. either y new old) (eq-eqb old old refl)

        lost : (n : ℕ) → n ≢ old → exchanged n ≡ n
        lost n miss = ap (λ y. either y new n) (ne_eqb n old miss)

        -- the word was a different one
        misses : (n : ℕ) → n ≢ old → (s : Phase) → In n s → ⟦ St (exchanged n) ⟧ ∗ ⟦ Rest s ⟧ ∗ ⟦ Tok ⟧ ⊢ Went n
        misses n miss (unmarked k) h = let h₀ = h.0 in let h₁ = h.1 in let h₂ = h.2 in
            qed 𝓛 (‵ (St (exchanged n)) ∷ ‵ (Rest (unmarked k)) ∷ ‵ Tok ∷ []) ∵ nothing ! $ move ! (1 ∷ 2 ∷ 3 ∷ 0 ∷ []) $
            by ! (keeps exchanged Raised Tok Tok n (unmarked k) (subst (λ (x : ℕ). In x (unmarked k)) (sym (lost n miss)) h) none (
              (λ _. (omega (arith, h₀, h₁), omega (arith, h₀, h₂))),
              (λ odd. absurd (omega (arith, h₀, odd))),
              (λ _ _. refl),
              (λ e. absurd (miss e)),
              (λ e.
                  absurd (miss e)),
            ))
        misses n miss (marked m) h = let odd : IsMarked n = h.0 in
            qed 𝓛 (‵ (St (exchanged n)) ∷ ‵ (Rest (marked m)) ∷ ‵ Tok ∷ []) ∵ move ! (1 ∷ []) $
            use1 𝓛 (‵ (Rest (marked m)) ⊛ ‵ (some_share t.sharing) ⊛ ‵ (fdead (t.counting ∷ []))) (finds_mark 𝓛 P L b o t m) $ split3 ! $
            move ! (1 ∷ 2 ∷ []) $ fjoin ! $
            move ! (2 ∷ 1 ∷ 3 ∷ 0 ∷ []) $
            by ! (keeps exchanged Raised Tok Tok n (marked m) (subst (λ (x : ℕ). In x (marked m)) (sym (lost n miss)) h) share (
              (λ even. absurd (omega (arith, odd, even))),
              (λ _. refl),
              (λ even. absurd (omega (arith, odd, even))),
              (λ e. absurd (miss e)),
              (λ e.
                  absurd (miss e)),
            ))

        hits : (s : Phase) → In old s → ⟦ St (exchanged old) ⟧ ∗ ⟦ Rest s ⟧ ∗ ⟦ Tok ⟧ ⊢ Went old
        hits (marked m) h = let odd : IsMarked old = h.0 in let even = asked.0 in absurd (omega (arith, odd, even))
        hits (unmarked k) h = let h₀ = h.0 in let h₁ = h.1 in let h₂ = h.2 in let h₃ = h.3 in let even = asked.0 in
            let good : IsCountWord L old = λ _. (omega (arith, h₀, h₁), omega (arith, h₀, h₂)) in dite (dec_le (old / 2) L)
            (λ room. let is : new ≡ old + 2 = asked.2 room in
            qed 𝓛 (‵ (St (exchanged old)) ∷ ‵ (Rest (unmarked k)) ∷ ‵ Tok ∷ []) ∵ move ! (1 ∷ []) $
            use1 𝓛 (‵ (Rest (unmarked (k + 1))) ⊛ ‵ (parts t.sharing 1)) (takes 𝓛 P L b o t k (omega (arith, h₀, room, h₃))) $ split ! $
            move ! (2 ∷ 0 ∷ 3 ∷ 1 ∷ []) $
            by ! (keeps exchanged Raised Tok Tok old (unmarked (k + 1)) (subst (λ (x : ℕ). In x (unmarked (k + 1))) (sym won) (
              omega
                  (arith, h₀, is),
              omega arith,
              omega (arith, h₀, room),
              h₃,
            )) part
            (good, (λ odd. absurd (omega (arith, odd, even))), (λ _ ne. absurd (ne refl)), (λ _ _. refl), (λ _ odd. absurd (omega (arith, odd, even, is))))))
            (λ above. let full : L < old / 2 = omega (arith, above) in let is : new ≡ old + 1 = asked.1 full in
            marking exchanged Raised Tok Tok old k (omega (arith, h₂, h₃)) (subst (λ (x : ℕ). In x (marked k)) (sym won) (
              omega
                  (arith, is, even),
              omega (arith, is, h₀),
              omega (arith, is, h₀, h₂),
              h₃,
            ))
            (good, (λ _. refl), (λ _ ne. absurd (ne refl)), (λ _ un. absurd (omega (arith, un, is, even))), (λ _ _. refl)))

        raise : (n : ℕ) → n < 2 ^ 64 → (s : Phase) → In n s → ⟦ St (exchanged n) ⟧ ∗ ⟦ Rest s ⟧ ∗ ⟦ Tok ⟧ ⊢ Went n
        raise n fits s h = dite (ℕ_discrete n old)
            (λ e. subst (λ (x : ℕ). In x s → ⟦ St (exchanged x) ⟧ ∗ ⟦ Rest s ⟧ ∗ ⟦ Tok ⟧ ⊢ Went x) (sym e) (hits s) h)
            (λ miss. misses n miss s h)

        pub raises : (B : Fml) (said : ℕ → Fml) → ((n : ℕ) → n < 2 ^ 64 → ⟦ Bk n ⟧ ∗ ⟦ B ⟧ ⊢ upd 𝓤 (⟦ Bk (exchanged n) ⟧ ∗ ⟦ said n ⟧))
            → A.inv I ∗ ⟦ Tok ⟧ ∗ ⟦ B ⟧ ⊢ asks 𝓛 (block_ptr b o) exchanged always (all_after exchanged Raised Tok Tok said)
        raises B said turn = stepped exchanged Raised Tok Tok (token_alive q) raise B said turn

    -- ---- a subtraction
    abbrev pub Left : ℕ → Gain → Type 0
    Left n g = (IsLast n → g ≡ last) × ((¬ IsLast n) → g ≡ none)

    abbrev pub One : Fml
    One = parts t.sharing 1

    one_alive : ⟦ One ⟧ ∗ A.dead (t.sharing ∷ []) ⊢ never 𝓤
    one_alive = qed 𝓛 (‵ One ∷ ‵ (fdead (t.sharing ∷ [])) ∷ []) ∵ fpick ! (λ e. fpick ! (λ _. by ! (token_alive e)))

    abbrev Gone : ℕ → Pr
    Gone = Stepped one_less Left One ftrue

    last_one : ⟦ St 0 ⟧ ∗ ⟦ Rest (unmarked 1) ⟧ ∗ ⟦ One ⟧ ⊢ Gone 2
    last_one = let shut : Pr = Shut one_less Left One ftrue 2 in
        qed 𝓛 (‵ (St 0) ∷ ‵ (Rest (unmarked 1)) ∷ ‵ One ∷ []) ∵ move ! (1 ∷ 2 ∷ []) $
        use2 𝓛 (‵ (flft (t.sharing ∷ []) full_share) ⊛ ‵ (flent (t.sharing ∷ []) P)) (gives_last 𝓛 P L b o t) $ split ! $
        suffices ! _ (ending one_less Left One ftrue 2 t.sharing) $ frame ! $ assume ! (‵ (fdead (t.sharing ∷ []))) $ suffices ! _ (upd_i 𝓤 shut) $
        use1 𝓛 (‵ (fdead (t.sharing ∷ [])) ⊛ ‵ (fdead (t.sharing ∷ []))) (𝓛.lfts.dead_dup (t.sharing ∷ [])) $ split ! $ move ! (3 ∷ 1 ∷ 2 ∷ []) $ fjoin3 ! $
        nothing ! $
        move ! (0 ∷ 1 ∷ []) $
        use2 𝓛 (‵ (after one_less Left One ftrue 2)) (gains one_less Left One ftrue 2 last ((λ _. refl), (λ ne. absurd (ne refl)))) $
        move ! (1 ∷ []) $
        types.Kit.fpack ! Bool (Rattle.arcstr_block.specs.Ledger.if_alive P L b o t) false $ done !

    leave : (n : ℕ) → n < 2 ^ 64 → (s : Phase) → In n s → ⟦ St (one_less n) ⟧ ∗ ⟦ Rest s ⟧ ∗ ⟦ One ⟧ ⊢ Gone n
    leave n fits (unmarked k) h = let h₀ = h.0 in let h₁ = h.1 in let h₂ = h.2 in let h₃ = h.3 in dite (ℕ_discrete k 1)
        (λ e. let two : n ≡ 2 = omega (arith, h₀, e) in
        subst (λ (x : ℕ). ⟦ St (one_less x) ⟧ ∗ ⟦ Rest (unmarked k) ⟧ ∗ ⟦ One ⟧ ⊢ Gone x) (sym two) (subst (λ (x : ℕ). ⟦ St 0 ⟧ ∗ ⟦ Rest
        (unmarked x) ⟧ ∗ ⟦ One ⟧ ⊢ Gone 2) (sym e) last_one))
        (λ many. let more : 1 < k = omega (arith, h₁, many) in let is : one_less n ≡ n - 2 = omega (arith, h₀, more, fits) in
        qed 𝓛 (‵ (St (one_less n)) ∷ ‵ (Rest (unmarked k)) ∷ ‵ One ∷ []) ∵ move ! (1 ∷ 2 ∷ []) $
        use2 𝓛 (‵ (Rest (unmarked (k - 1)))) (gives 𝓛 P L b o t k more (omega (arith, h₂, h₃))) $ nothing ! $ nothing ! $ move ! (3 ∷ 2 ∷ 0 ∷ 1 ∷ []) $
        by ! (keeps one_less Left One ftrue n (unmarked (k - 1)) (subst (λ (x : ℕ). In x (unmarked (k - 1))) (sym is) (
          omega (arith, h₀, more),
          omega
              (arith, more),
          omega (arith, h₂),
          h₃,
        )) none
        ((λ e. absurd (omega (arith, e, h₀, more))), (λ _. refl))))
    leave n fits (marked m) h = let odd : IsMarked n = h.0 in let h₁ = h.1 in let h₂ = h.2 in let h₃ = h.3 in dite (ℕ_discrete m 0)
        (λ e. subst (λ (x : ℕ). ⟦ St (one_less n) ⟧ ∗ ⟦ Rest (marked x) ⟧ ∗ ⟦ One ⟧ ⊢ Gone n) (sym e) (
        qed 𝓛 (‵ (St (one_less n)) ∷ ‵ (Rest (marked 0)) ∷ ‵ One ∷ []) ∵ move ! (1 ∷ 2 ∷ []) $
        use2 𝓛 (‵ (flft (t.sharing ∷ []) full_share) ⊛ ‵ (some_share t.sharing)) (too_many 𝓛 P L b o t) $ split ! $
        suffices ! _ (ending one_less Left One ftrue n t.sharing) $ frame ! $ assume ! (‵ (fdead (t.sharing ∷ []))) $
        suffices ! _ (upd_i 𝓤 (Shut one_less Left One ftrue n)) $ keep ! (1 ∷ 0 ∷ []) $
        by ! (share_not_alive 𝓛 P L b o t t.sharing (Shut one_less Left One ftrue n))))
        (λ some. let more : 0 < m = omega (arith, some) in let is : one_less n ≡ n - 2 = omega (arith, odd, more, h₁, fits) in
        qed 𝓛 (‵ (St (one_less n)) ∷ ‵ (Rest (marked m)) ∷ ‵ One ∷ []) ∵ move ! (1 ∷ 2 ∷ []) $
        use2 𝓛 (‵ (Rest (marked (m - 1)))) (gives_marked 𝓛 P L b o t m more (omega (arith, h₁, h₂, h₃))) $ nothing ! $ nothing ! $ move ! (3 ∷ 2 ∷ 0 ∷ 1 ∷ []) $
        by ! (keeps one_less Left One ftrue n (marked (m - 1)) (subst (λ (x : ℕ). In x (marked (m - 1))) (sym is) (
          omega (arith, odd, more, h₁),
          omega
              (arith, odd, more, h₁),
          omega (arith, h₂),
          h₃,
        )) none
        ((λ e. absurd (omega (arith, e, odd))), (λ _. refl))))

    pub leaves_it : (B : Fml) (said : ℕ → Fml) → ((n : ℕ) → n < 2 ^ 64 → ⟦ Bk n ⟧ ∗ ⟦ B ⟧ ⊢ upd 𝓤 (⟦ Bk (one_less n) ⟧ ∗ ⟦ said n ⟧))
        → A.inv I ∗ ⟦ One ⟧ ∗ ⟦ B ⟧ ⊢ asks 𝓛 (block_ptr b o) one_less always (all_after one_less Left One ftrue said)
    leaves_it B said turn = stepped one_less Left One ftrue one_alive leave B said turn
