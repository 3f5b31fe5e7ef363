-- The parts of a token, and how they move while the count word changes: taken, returned, and kept permanently at the mark. Assumes `Logic`.
use Rattle.arcstr_block.proofs.Names.{◌≡◌, ℕ, ◌-◌, ◌^◌, [], ◌∷◌, refl, arith, subst, ◌+◌, ◌<◌, ◌≤◌, Ura, Share, Fml, fex, flft, fdead, ftrue, full_share}
use Rattle.arcstr_block.proofs.Names.{Counts-all, Counts, counts_some, Counts-op, via, never, never_e, nothing, ‵, ◌⊛◌, ◌$◌, ◌∵◌, !, qed, move, use1, use2}
use Rattle.arcstr_block.proofs.Names.{split, fjoin, fjoin3, fpick, fpack, done, by, keep, fsplit3, Logic, Id, parts, unmarked, Ledger, some_share, Phase}
use Rattle.arcstr_block.proofs.Names.{marked, IsPhaseOf, rest, phase, operators}
use base.Share

module _ {M : Type 1} {𝓤 : Ura M} (𝓛 : Logic 𝓤) where
  open 𝓛 use {H, A}
  open operators 𝓛 use {Pr, entails as ◌⊢◌, both as ◌∗◌, meaning as ⟦◌⟧}

  infix 26 ◌⊢◌
  infixr 35 ◌∗◌
  -- ---- the parts of a token: how they are cut, joined and made whole
  module _ (a : ℕ) where
    pub parts_in : (k : ℕ) (e : Share) → Counts 63 e k → A.lft (a ∷ []) e ⊢ ⟦ parts a k ⟧
    parts_in k e c = qed 𝓛 (‵ (flft (a ∷ []) e) ∷ []) ∵ fpack ! (Counts 63 e k) (λ _. flft (a ∷ []) e) c $ fpack ! Share (λ s. fex (Counts 63 s k) (λ _.
        flft (a ∷ []) s)) e $ done !

    pub share_in : (e : Share) → A.lft (a ∷ []) e ⊢ ⟦ some_share a ⟧
    share_in e = qed 𝓛 (‵ (flft (a ∷ []) e) ∷ []) ∵ fpack ! Share (λ s. flft (a ∷ []) s) e $ done !

    pub part_share : (k : ℕ) → ⟦ parts a k ⟧ ⊢ ⟦ some_share a ⟧
    part_share k = qed 𝓛 (‵ (parts a k) ∷ []) ∵ fpick ! (λ e. fpick ! (λ _. by ! (share_in e)))

    pub share_halves : ⟦ some_share a ⟧ ⊢ ⟦ some_share a ⟧ ∗ ⟦ some_share a ⟧
    share_halves = qed 𝓛 (‵ (some_share a) ∷ []) ∵ fpick ! (λ e.
        use1 𝓛 (‵ (flft (a ∷ []) (Share.left e)) ⊛ ‵ (flft (a ∷ []) (Share.right e))) (𝓛.lfts.lft_split (a ∷ []) e) $ split ! $
        use1 𝓛 (‵ (some_share a)) (share_in (Share.left e)) $ move ! (1 ∷ []) $ use1 𝓛 (‵ (some_share a)) (share_in (Share.right e)) $ done !)

    pub parts_cut : (k i j : ℕ) → 0 < i → 0 < j → i + j ≡ k → k ≤ 2 ^ 63 → ⟦ parts a k ⟧ ⊢ ⟦ parts a i ⟧ ∗ ⟦ parts a j ⟧
    parts_cut k i j pi pj total fits = let e = counts_some 63 i pi (omega arith) in let f = counts_some 63 j pj (omega arith) in
        qed 𝓛 (‵ (parts a k) ∷ []) ∵ fpick ! (λ r. fpick ! (λ c. let m = Counts-op 63 e.0 f.0 r i j k e.1 f.1 c total in
        use1 𝓛 (‵ (flft (a ∷ []) e.0) ⊛ ‵ (flft (a ∷ []) f.0)) (𝓛.lfts.lft_cut (a ∷ []) r e.0 f.0 m) $ split ! $ move ! (1 ∷ []) $
        use1 𝓛 (‵ (parts a j)) (parts_in j f.0 f.1) $ move ! (1 ∷ []) $ use1 𝓛 (‵ (parts a i)) (parts_in i e.0 e.1) $ done !))

    glued : (i j : ℕ) (r : Share) → Counts 63 r (i + j) → ⟦ parts a i ⟧ ∗ ⟦ parts a j ⟧ ⊢ A.lft (a ∷ []) r
    glued i j r c =
        qed 𝓛 (‵ (parts a i) ∷ ‵ (parts a j) ∷ []) ∵ fpick ! (λ e. fpick ! (λ ce. move ! (1 ∷ []) $ fpick ! (λ f. fpick ! (λ cf. move ! (1 ∷ 0 ∷ []) $
        by ! (𝓛.lfts.lft_glue (a ∷ []) r e f (Counts-op 63 e f r i j (i + j) ce cf c refl))))))

    pub parts_glue : (i j k : ℕ) → i + j ≡ k → 0 < k → k ≤ 2 ^ 63 → ⟦ parts a i ⟧ ∗ ⟦ parts a j ⟧ ⊢ ⟦ parts a k ⟧
    parts_glue i j k total some fits = let r = counts_some 63 (i + j) (omega arith) (omega arith) in
        qed 𝓛 (‵ (parts a i) ∷ ‵ (parts a j) ∷ []) ∵ use2 𝓛 (‵ (flft (a ∷ []) r.0)) (glued i j r.0 r.1) $
        by ! (parts_in k r.0 (subst (λ (x : ℕ). Counts 63 r.0 x) total r.1))

    -- the last part that was out
    pub parts_whole : ⟦ parts a (2 ^ 63 - 1) ⟧ ∗ ⟦ parts a 1 ⟧ ⊢ A.lft (a ∷ []) full_share
    parts_whole = glued (2 ^ 63 - 1) 1 full_share (Counts-all 63)

  -- ---- the ledger
  module _ (P : Fml) (L b o : ℕ) (t : Id) where
    abbrev Rest : Phase → Fml
    Rest = rest P L b o t

    abbrev In : ℕ → Phase → Type 0
    In = IsPhaseOf P L b o t

    abbrev pub Ph : ℕ → Phase → Fml
    Ph = phase P L b o t

    abbrev pub Led : ℕ → Fml
    Led = Ledger P L b o t

    pub phase_in : (n : ℕ) (s : Phase) → In n s → ⟦ Rest s ⟧ ⊢ ⟦ Led n ⟧
    phase_in n s h = qed 𝓛 (‵ (Rest s) ∷ []) ∵ nothing ! $ fpack ! (In n s) (λ _. ftrue) h $ fjoin ! $ fpack ! Phase (Ph n) s $ done !

    pub not_alive : (s : Share) (d : ℕ) (Z : Pr) → A.lft (d ∷ []) s ∗ A.dead (d ∷ []) ⊢ Z
    not_alive s d Z = via 𝓤 (never 𝓤) (𝓛.lfts.lft-dead (d ∷ []) s) (never_e 𝓤 Z)

    pub share_not_alive : (d : ℕ) (Z : Pr) → ⟦ some_share d ⟧ ∗ A.dead (d ∷ []) ⊢ Z
    share_not_alive d Z = qed 𝓛 (‵ (some_share d) ∷ ‵ (fdead (d ∷ [])) ∷ []) ∵ fpick ! (λ s. by ! (not_alive s d Z))

    -- one more handle
    pub takes : (k : ℕ) → k < 2 ^ 62 → ⟦ Rest (unmarked k) ⟧ ⊢ ⟦ Rest (unmarked (k + 1)) ⟧ ∗ ⟦ parts t.sharing 1 ⟧
    takes k small = qed 𝓛 (‵ (Rest (unmarked k)) ∷ []) ∵ fsplit3 ! $
        use1 𝓛 (‵ (parts t.sharing (2 ^ 63 - (k + 1))) ⊛ ‵ (parts t.sharing 1)) (parts_cut t.sharing (2 ^ 63 - k) (2 ^ 63 - (k + 1)) 1 (omega arith)
        (omega arith) (omega arith)
        (omega arith)) $ split ! $
        move ! (0 ∷ 2 ∷ 3 ∷ []) $ fjoin3 ! $ done !

    -- one handle less, which is not the last
    pub gives : (k : ℕ) → 1 < k → k < 2 ^ 63 → ⟦ Rest (unmarked k) ⟧ ∗ ⟦ parts t.sharing 1 ⟧ ⊢ ⟦ Rest (unmarked (k - 1)) ⟧
    gives k many small = qed 𝓛 (‵ (Rest (unmarked k)) ∷ ‵ (parts t.sharing 1) ∷ []) ∵ fsplit3 ! $ move ! (0 ∷ 3 ∷ []) $
        use2 𝓛 (‵ (parts t.sharing (2 ^ 63 - (k - 1)))) (parts_glue t.sharing (2 ^ 63 - k) 1 (2 ^ 63 - (k - 1)) (omega arith) (omega arith)
        (omega arith)) $ fjoin3 ! $
        done !

    -- the last one has the whole token, and with it what was lent
    pub gives_last : ⟦ Rest (unmarked 1) ⟧ ∗ ⟦ parts t.sharing 1 ⟧ ⊢ A.lft (t.sharing ∷ []) full_share ∗ A.lent (t.sharing ∷ []) P
    gives_last = qed 𝓛 (‵ (Rest (unmarked 1)) ∷ ‵ (parts t.sharing 1) ∷ []) ∵ fsplit3 ! $ move ! (0 ∷ 3 ∷ []) $
        use2 𝓛 (‵ (flft (t.sharing ∷ []) full_share)) (parts_whole t.sharing) $ keep ! (0 ∷ 2 ∷ []) $ done !

    -- a drop that looked before the mark
    pub gives_marked : (m : ℕ) → 0 < m → m < 2 ^ 63 → ⟦ Rest (marked m) ⟧ ∗ ⟦ parts t.sharing 1 ⟧ ⊢ ⟦ Rest (marked (m - 1)) ⟧
    gives_marked m some small = qed 𝓛 (‵ (Rest (marked m)) ∷ ‵ (parts t.sharing 1) ∷ []) ∵ fsplit3 ! $ move ! (0 ∷ 3 ∷ []) $
        use2 𝓛 (‵ (parts t.sharing (2 ^ 63 - ((m - 1) + 1)))) (parts_glue t.sharing (2 ^ 63 - (m + 1)) 1 (2 ^ 63 - ((m - 1) + 1)) (omega arith) (omega arith)
        (omega arith)) $ fjoin3 ! $ done !

    -- more parts than are out
    pub too_many : ⟦ Rest (marked 0) ⟧ ∗ ⟦ parts t.sharing 1 ⟧ ⊢ A.lft (t.sharing ∷ []) full_share ∗ ⟦ some_share t.sharing ⟧
    too_many = qed 𝓛 (‵ (Rest (marked 0)) ∷ ‵ (parts t.sharing 1) ∷ []) ∵ fsplit3 ! $ move ! (0 ∷ 3 ∷ []) $
        use2 𝓛 (‵ (flft (t.sharing ∷ []) full_share)) (parts_whole t.sharing) $ keep ! (0 ∷ 1 ∷ []) $ done !

    -- the token of c ends with the mark, and one more part is kept, of which the handle that marks has a share
    pub marks : (k : ℕ) → k < 2 ^ 63 - 1
        → ⟦ Rest (unmarked k) ⟧ ⊢ A.lft (t.counting ∷ []) full_share ∗ ⟦ parts t.sharing (2 ^ 63 - (k + 1)) ⟧ ∗ ⟦ some_share t.sharing ⟧
        ∗ ⟦ some_share t.sharing ⟧
    marks k small = qed 𝓛 (‵ (Rest (unmarked k)) ∷ []) ∵ fsplit3 ! $
        use1 𝓛 (‵ (parts t.sharing (2 ^ 63 - (k + 1))) ⊛ ‵ (parts t.sharing 1)) (parts_cut t.sharing (2 ^ 63 - k) (2 ^ 63 - (k + 1)) 1 (omega arith)
        (omega arith) (omega arith)
        (omega arith)) $ split ! $
        move ! (1 ∷ []) $ use1 𝓛 (‵ (some_share t.sharing)) (part_share t.sharing 1) $
        use1 𝓛 (‵ (some_share t.sharing) ⊛ ‵ (some_share t.sharing)) (share_halves t.sharing) $ split ! $
        keep ! (3 ∷ 2 ∷ 0 ∷ 1 ∷ []) $ done !

    pub marked_in : (m : ℕ) → ⟦ parts t.sharing (2 ^ 63 - (m + 1)) ⟧ ∗ ⟦ some_share t.sharing ⟧ ∗ A.dead (t.counting ∷ []) ⊢ ⟦ Rest (marked m) ⟧
    marked_in m = qed 𝓛 (‵ (parts t.sharing (2 ^ 63 - (m + 1))) ∷ ‵ (some_share t.sharing) ∷ ‵ (fdead (t.counting ∷ [])) ∷ []) ∵ fjoin3 ! $ done !

    -- every handle that finds the mark has a share
    pub finds_mark : (m : ℕ) → ⟦ Rest (marked m) ⟧ ⊢ ⟦ Rest (marked m) ⟧ ∗ ⟦ some_share t.sharing ⟧ ∗ A.dead (t.counting ∷ [])
    finds_mark m = qed 𝓛 (‵ (Rest (marked m)) ∷ []) ∵ fsplit3 ! $ move ! (1 ∷ []) $
        use1 𝓛 (‵ (some_share t.sharing) ⊛ ‵ (some_share t.sharing)) (share_halves t.sharing) $
        split ! $
        move ! (3 ∷ []) $ use1 𝓛 (‵ (fdead (t.counting ∷ [])) ⊛ ‵ (fdead (t.counting ∷ []))) (𝓛.lfts.dead_dup (t.counting ∷ [])) $ split ! $
        move ! (4 ∷ 2 ∷ 0 ∷ []) $ fjoin3 ! $ move ! (0 ∷ 2 ∷ 1 ∷ []) $ done !
