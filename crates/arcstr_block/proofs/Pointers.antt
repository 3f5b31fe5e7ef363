-- A `Pointer` as a value: its two data fields, and what its steps have in common. Assumes `Logic`.
use Rattle.arcstr_block.proofs.Names.{◌≡◌, ℕ, ◌^◌, [], ◌∷◌, refl, lit<, List, ap, length, ◌<◌, ◌++◌, ◌∙◌, w64, T, Ura, Ty, ty_int, tcons, tnil, ty_ptr}
use Rattle.arcstr_block.proofs.Names.{ty_struct, Val, vint, vstruct, of_list, has_ty, WT, vcons, vnil, Lft, Share, Fml, fsep, fex, flft, finv, fshr_bor, ftrue}
use Rattle.arcstr_block.proofs.Names.{feq, fobor, emp, ent, fact_i, u64, Is, Opens, RattleType, Valss, owns, block_of, Ptr, block_ptr, null_ptr, ptr_val}
use Rattle.arcstr_block.proofs.Names.{InBlock, makes_shadow, nothing, RawPtr-copy, field_copy, shape, Struct, ‵, ◌⊛◌, ◌$◌, ◌∵◌, !, qed, move, use0, use1, use2}
use Rattle.arcstr_block.proofs.Names.{split, join, fsplit, fjoin, fjoin3, fpack, updating, now, done, raw, drop, feq_i, flt_i, Logic, sem, shr_bor-open}
use Rattle.arcstr_block.proofs.Names.{obor_close, tokens_halve, Ghosts, Free, reached, seat_share, Id, Inv, right_to, of_block, block_owns, block_shares}
use Rattle.arcstr_block.proofs.Names.{word_at, IsText, operators}
use denote.Copied.{Struct-Copied}
use contract.Monad.{fact as said}
use Rattle.arcstr_block.proofs.Book.{seat_halves}
use Rattle.core.specs.contracts.marker.PhantomData as Marker
use Rattle.arcstr_block.specs.contracts.pointer.Pointer as C
use base.Share

abbrev pointer_ty : Ty
pointer_ty = ty_struct [] (tcons ty_ptr (tcons (ty_struct [] tnil) tnil))

abbrev pub pointer_val : Ptr → Val
pointer_val p = vstruct (vcons (ptr_val p) (vcons (vstruct vnil) vnil))

pub typed : (p : Ptr) → T (has_ty pointer_ty (pointer_val p)) × WT (pointer_val p)
typed (block_ptr b o) = (tt, (tt, (tt, tt)))
typed null_ptr = (tt, (record { fits = lit< tt }, (tt, tt)))

abbrev pub found_val : ℕ → Ptr → Val
found_val n p = vstruct (vcons (vint w64 n) (vcons (pointer_val p) vnil))

pub found_typed : (n : ℕ) → n < 2 ^ 64 → (p : Ptr) → T (has_ty (ty_struct [] (tcons (ty_int w64) (tcons pointer_ty tnil))) (found_val n p)) × WT (found_val n p)
found_typed n fits (block_ptr b o) = (tt, (record { fits = fits }, ((tt, (tt, tt)), tt)))
found_typed n fits null_ptr = (tt, (record { fits = fits }, ((record { fits = lit< tt }, (tt, tt)), tt)))

abbrev seen_ty : Ty
seen_ty = ty_struct [] (tcons (ty_struct [] tnil) tnil)

abbrev pub seen_val : Val
seen_val = vstruct (vcons (vstruct vnil) vnil)

abbrev pub measured_val : Ptr → ℕ → Val
measured_val p n = vstruct (vcons (pointer_val p) (vcons (vint w64 n) (vcons seen_val vnil)))

pub measured_typed : (p : Ptr) (n : ℕ) → n < 2 ^ 64
    → T (has_ty (ty_struct [] (tcons pointer_ty (tcons (ty_int w64) (tcons seen_ty tnil)))) (measured_val p n)) × WT (measured_val p n)
measured_typed (block_ptr b o) n fits = (tt, ((tt, (tt, tt)), (record { fits = fits }, ((tt, tt), tt))))
measured_typed null_ptr n fits = (tt, ((record { fits = lit< tt }, (tt, tt)), (record { fits = fits }, ((tt, tt), tt))))

abbrev pub two_val : Ptr → Ptr → Val
two_val p q = vstruct (vcons (pointer_val p) (vcons (pointer_val q) vnil))

pub two_typed : (p q : Ptr) → T (has_ty (ty_struct [] (tcons pointer_ty (tcons pointer_ty tnil))) (two_val p q)) × WT (two_val p q)
two_typed (block_ptr b o) (block_ptr c u) = (tt, ((tt, (tt, tt)), ((tt, (tt, tt)), tt)))
two_typed (block_ptr b o) null_ptr = (tt, ((tt, (tt, tt)), ((record { fits = lit< tt }, (tt, tt)), tt)))
two_typed null_ptr (block_ptr c u) = (tt, ((record { fits = lit< tt }, (tt, tt)), ((tt, (tt, tt)), tt)))
two_typed null_ptr null_ptr = (tt, ((record { fits = lit< tt }, (tt, tt)), ((record { fits = lit< tt }, (tt, tt)), tt)))

module _ (B : RattleType) (g : Ghosts B.Denot) where
  abbrev pub Words : RattleType
  Words = Struct (shape (C.the_type B g))

  pub told : (p : Ptr) (vs : List Val) → Is Words (p, (tt, tt)) vs → vs ≡ pointer_val p ∷ []
  told p vs is = is.1.0 ∙ ap (λ (ws : List Val). vstruct (of_list (ws ++ (is.0.1.0 ++ []))) ∷ []) is.1.1.0 ∙ ap (λ (ws : List Val). vstruct (of_list
      (ptr_val p ∷ (ws ++ []))) ∷ []) is.1.1.1.0.1.0

  pub made : {M : Type 1} {𝓤 : Ura M} (𝓛 : Logic 𝓤) (p : Ptr) → ent 𝓤 (emp 𝓤) (sem 𝓛 (Words.own_val (p, (tt, tt)) (pointer_val p ∷ [])))
  made 𝓛 p =
      let own : Fml = Words.own_val (p, (tt, tt)) (pointer_val p ∷ []) in
      makes_shadow 𝓛 own (λ vss. (tt, (tt, ((λ uss. (tt, tt)), tt)))) ((ptr_val p ∷ [], (vstruct vnil ∷ [], tt)), (refl, (refl, ((tt, (refl, tt)), tt))))

  pub opened : {M : Type 1} {𝓤 : Ura M} (𝓛 : Logic 𝓤) → Opens 𝓛 Words
  opened {M} {𝓤 = 𝓤} 𝓛 =
      let mark = (field_copy (Marker.the_type B) tt).copied M 𝓤 𝓛 in
      (Struct-Copied 𝓛 (shape (C.the_type B g)) (refl, (refl, tt)) (RawPtr-copy.copied M 𝓤 𝓛, (mark, tt))).opens

-- ---- what the steps have in common: the share and the seat that a step through `&` borrows, and the pointer that a step returns

module _ {M : Type 1} {𝓤 : Ura M} (𝓛 : Logic 𝓤) where
  open 𝓛 use {H, A}
  open operators 𝓛 use {entails as ◌⊢◌, both as ◌∗◌, meaning as ⟦◌⟧}

  infix 26 ◌⊢◌
  infixr 35 ◌∗◌
  -- three clauses that hold
  pub three : {X Y Z : Type 0} → X → Y → Z → emp 𝓤 ⊢ said 𝓤 X ∗ said 𝓤 Y ∗ said 𝓤 Z
  three {X = X} {Y = Y} {Z = Z} x y z = qed 𝓛 [] ∵ use0 𝓛 (raw (said 𝓤 Z)) (fact_i 𝓤 Z (emp 𝓤) z) $
      use0 𝓛 (raw (said 𝓤 Y)) (fact_i 𝓤 Y (emp 𝓤) y) $ join ! $ use0 𝓛 (raw (said 𝓤 X)) (fact_i 𝓤 X (emp 𝓤) x) $ join ! $ done !

  -- ---- a step through `&`, by a share of the token of a and a share of the seat h
  module _ (a : ℕ) (δ h : ℕ) (κ : Lft) (q : Share) where
    abbrev Token : Share → Fml
    Token u = flft (a ∷ []) u

    abbrev Seat : Share → Fml
    Seat v = seat_share δ h v Free

    -- both borrows are open, each with one half of κ
    abbrev pub lent_for : Share × Share → Fml
    lent_for x = fsep (fsep (fobor κ (Share.left q) (Token x.0)) (fobor κ (Share.right q) (Seat x.1))) (fsep (Token x.0) (Seat x.1))

    pub borrows : ⟦ fshr_bor κ (λ r. Token r) ⟧ ∗ ⟦ fshr_bor κ (λ r. Seat r) ⟧ ∗ A.lft κ q ⊢ H.⇛ ⟦ fex (Share × Share) lent_for ⟧
    borrows = qed 𝓛 (‵ (fshr_bor κ (λ r. Token r)) ∷ ‵ (fshr_bor κ (λ r. Seat r)) ∷ ‵ (flft κ q) ∷ []) ∵ updating ! $ move ! (2 ∷ []) $
        use1 𝓛 (‵ (flft κ (Share.left q)) ⊛ ‵ (flft κ (Share.right q))) (𝓛.lfts.lft_split κ q) $ split ! $
        move ! (2 ∷ 0 ∷ []) $ shr_bor-open ! tt (tokens_halve 𝓛 (a ∷ [])) (λ u. move ! (3 ∷ 2 ∷ []) $ shr_bor-open ! tt (seat_halves 𝓛 δ h Free) (λ v.
        -- [the open seat; its share; the open token; its share]
        move ! (3 ∷ 1 ∷ []) $ fjoin ! $ move ! (2 ∷ 1 ∷ []) $ fjoin ! $ fjoin ! $ fpack ! (Share × Share) lent_for (u, v) $ now ! $ done !))

    pub restores : (x : Share × Share) → ⟦ lent_for x ⟧ ⊢ H.⇛ (A.lft κ q)
    restores x = qed 𝓛 (‵ (lent_for x) ∷ []) ∵ updating ! $ fsplit ! $ fsplit ! $ move ! (2 ∷ []) $ fsplit ! $
        -- [the share; the seat; the open token; the open seat]
        move ! (2 ∷ 0 ∷ []) $ obor_close ! tt $ drop ! $ move ! (2 ∷ 1 ∷ []) $ obor_close ! tt $ drop ! $ move ! (1 ∷ 0 ∷ []) $
        use2 𝓛 (‵ (flft κ q)) (𝓛.lfts.lft_join κ q) $ now ! $ done !

  -- ---- the pointer that a step returns
  module _ (B : RattleType) (g : Ghosts B.Denot) where
    abbrev Row : RattleType
    Row = C.the_row B g

    module _ (h : Row.Denot) where
      abbrev P : Fml
      P = block_owns (g.dealloc_token h.home) h.at h.text

      abbrev pb : ℕ
      pb = block_of h.at

      abbrev po : ℕ
      po = word_at h.at (length h.text)

      -- a right, with the names of the block and a prefix of its history
      pub pointer_in : (t : Id) → t.name ≡ h.block → InBlock h.at × IsText h.text
          → ⟦ right_to P h.limit pb po t (block_shares h.at h.text) h.seat h.right ⟧ ∗ ⟦ finv (Inv P h.limit pb po t) ⟧ ∗ ⟦ reached t.name.history h.history ⟧
          ⊢ ⟦ Row.own_val h (pointer_val h.at ∷ []) ⟧
      pointer_in t named inb =
          qed 𝓛 (‵ (right_to P h.limit pb po t (block_shares h.at h.text) h.seat h.right) ∷ ‵ (finv (Inv P h.limit pb po t)) ∷
          ‵ (reached t.name.history h.history) ∷ []) ∵
          move ! (1 ∷ 0 ∷ []) $ fjoin ! $ move ! (1 ∷ []) $ nothing ! $ fpack ! (t.name ≡ h.block) (λ _. ftrue) named $ fjoin ! $ fjoin ! $
          fpack ! Id (of_block (g.dealloc_token h.home) h.limit h.at h.text h.right h.seat h.block h.history) t $
          nothing ! $ fpack ! (InBlock h.at × IsText h.text) (λ _. ftrue) inb $ fjoin ! $
          use0 𝓛 (‵ ((Words B g).own_val (h.at, (tt, tt)) (pointer_val h.at ∷ []))) (made B g 𝓛 h.at) $ fjoin ! $ done !

      -- the word n that the step found
      abbrev pub found_as : ℕ → Valss (u64 ∷ Row ∷ []) → Fml
      found_as n uss = fsep (feq (List Val) (found_val n h.at ∷ []) (vstruct (of_list (uss.0 ++ (uss.1.0 ++ []))) ∷ [])) (owns (u64 ∷ Row ∷ []) (
        n,
        (h, tt),
      ) uss)

      pub found_in : (n : ℕ) → n < 2 ^ 64 → ⟦ Row.own_val h (pointer_val h.at ∷ []) ⟧ ⊢ ⟦ fex (Valss (u64 ∷ Row ∷ [])) (found_as n) ⟧
      found_in n fits = let r : Val = found_val n h.at in qed 𝓛 (‵ (Row.own_val h (pointer_val h.at ∷ [])) ∷ []) ∵
          nothing ! $ flt_i ! n (2 ^ 64) fits $ feq_i ! (List Val) (vint w64 n ∷ []) (vint w64 n ∷ []) refl $ fjoin ! $
          move ! (0 ∷ 2 ∷ 1 ∷ []) $ fjoin3 ! $ feq_i ! (List Val) (r ∷ []) (r ∷ []) refl $ fjoin ! $
          fpack ! (Valss (u64 ∷ Row ∷ [])) (found_as n) (vint w64 n ∷ [], (pointer_val h.at ∷ [], tt)) $ done !
