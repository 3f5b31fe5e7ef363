-- What the walks through a `&` to a pointer have in common. Assumes `Logic`.
-- `of_shown` opens what the `&` shows, and `address` reads the pointer's address. A step on the count word stands between `borrowed` and `returned`: the first
-- also borrows a share of the block's token and of the seat, and the second gives them back and makes the step's gain a right.
use Rattle.arcstr_block.proofs.Names.{◌≡◌, ℕ, [], ◌∷◌, refl, List, sym, ap, length, ◌∙◌, Ura, Val, Lft, Share, Fml, fsep, fex, flft, finv, fshr_bor}
use Rattle.arcstr_block.proofs.Names.{fobor, fhide, unit, Is, shows, cell_at, hidden_shr, unhide, RattleType, block_of, Ptr, block_ptr, InBlock, count_of}
use Rattle.arcstr_block.proofs.Names.{at_block, peeks, looks, shuts, lent_out, ‵, ◌⊛◌, later, ◌$◌, move, group, use1, split, split3, join, fsplit, fjoin, fpick}
use Rattle.arcstr_block.proofs.Names.{await, drop, rewrite, use3, Item, Logic, Ghosts, Token, Free, Step, BlockName, reached, seat_share, Id, Inv, knows}
use Rattle.arcstr_block.proofs.Names.{shown, pointer_shares, block_owns, block_shares, word_at, IsText, Right, IsFree, operators}
use base.Fraction.{left, right}
use types.Kit.{Goal, Soaks, Seq, Step as Rule, step}
use Rattle.arcstr_block.proofs.Memory.{shares_laws}
use Rattle.arcstr_block.proofs.Pointers.{pointer_val, Words, told, opened}
use Rattle.arcstr_block.proofs.Steps.{Gain, gained}
use Rattle.arcstr_block.specs.Ledger.{fact}
use Rattle.core.specs.contracts.marker.PhantomData as Marker
use Rattle.arcstr_block.specs.contracts.pointer.Pointer as C
use Rattle.arcstr_block.specs.contracts.seen.Seen as Seen
use Rattle.arcstr_block.proofs.Pointers as framed
use Rattle.arcstr_block.proofs.Rights as rights

-- h is a pointer whose allocator is B
module _ (B : RattleType) (g : Ghosts B.Denot) (h : (C.the_row B g).Denot) where
  abbrev D : RattleType
  D = Words B g

  abbrev P : Fml
  P = block_owns (g.dealloc_token h.home) h.at h.text

  abbrev s : Lft → Fml
  s = block_shares h.at h.text

  abbrev pb : ℕ
  pb = block_of h.at

  abbrev po : ℕ
  po = word_at h.at (length h.text)

  abbrev pub at_word : Id → Fml
  at_word t = Inv P h.limit pb po t

  abbrev Address : Share → ℕ → ℕ → Fml
  Address e b o = cell_at e D.mir (pointer_val (block_ptr pb (count_of h.at)) ∷ []) b o

  -- the borrows of a share of the block's token and of a share of the seat, both open
  abbrev pub Lent : Id → Lft → Share → Share × Share → Fml
  Lent t κ q x = fsep (fobor κ (left q) (flft (t.sharing ∷ []) x.0)) (fobor κ (right q) (seat_share t.name.seats h.seat x.1 Free))

  module _ (κ : Lft) (b o : ℕ) where
    module _ {M : Type 1} {𝓤 : Ura M} {𝓛 : Logic 𝓤} {K : Type 0} {Γ : List (Item 𝓤)} {G : Goal 𝓤 𝓛.H} where
      -- what a `&` to the pointer shows of the block, a prefix of its history, and the pointer's fields
      pub of_shown : K → ((inb : InBlock h.at × IsText h.text) (t : Id) → t.name ≡ h.block
          → Seq K 𝓛 (‵ (shown P h.limit pb po t s h.seat h.right κ) ∷ ‵ (reached t.name.history h.history) ∷ ‵ (hidden_shr D κ (h.at, (tt, tt)) b o) ∷ Γ) G)
          → Seq K 𝓛 (‵ (hidden_shr (C.the_row B g) κ h b o) ∷ Γ) G
      of_shown z k = use1 𝓛 (‵ (hidden_shr D κ (h.at, (tt, tt)) b o) ⊛
          ‵ (fhide (pointer_shares (g.dealloc_token h.home) h.limit h.at h.text h.right h.seat h.block h.history κ)))
          (lent_out 𝓛 (C.struct B g) (C.the_codes B.Denot B.coded (Marker.the_row B).coded) (C.the_heap B g) (C.the_lent B g) κ h b o) $
          split z $ move z (1 ∷ []) $ unhide z $ fsplit z $ fpick z (λ inb. drop z $ fpick z (λ t. fsplit z $ fsplit z $ fpick z (λ named. drop z $
          move z (1 ∷ []) $ k inb t named)))

      module _ {Γ' : List (Item 𝓤)} {G' : Goal 𝓤 𝓛.H} where
        -- `reads` is the code that reads the address
        pub address : {q : Share} → K → Soaks G → InBlock h.at
            → ((e : Share) (X : Item 𝓤) → Rule K 𝓛 (‵ (Address e b o) ∷ X ∷ Γ') G' (‵ (Address e b o) ∷ X ∷ Γ) G) → Soaks G'
            → Rule K 𝓛 (‵ (flft κ q) ∷ ‵ (hidden_shr D κ (h.at, (tt, tt)) b o) ∷ Γ') G' (‵ (hidden_shr D κ (h.at, (tt, tt)) b o) ∷ ‵ (flft κ q) ∷ Γ) G
        address z soaks inb reads soaks' = step (λ k. looks z soaks D (opened B g 𝓛) (h.at, (tt, tt)) b o (λ e vs. move z (1 ∷ []) $
            peeks z D (Is D) (shows 𝓛 D) (h.at, (tt, tt)) vs (λ so. let ev : vs ≡ pointer_val (block_ptr pb (count_of h.at)) ∷ [] =
            told B g h.at vs so ∙ ap (λ (r : Ptr). pointer_val r ∷ []) (at_block h.at inb) in
            rewrite z 1 (λ (ws : List Val). ‵ (cell_at e D.mir ws b o)) ev refl $
            -- [what the fields own; their cell; its way back; the fields]
            move z (0 ∷ 2 ∷ 3 ∷ []) $ group z 3 $ move z (1 ∷ []) $ reads e _ $
            rewrite z 0 (λ (ws : List Val). ‵ (cell_at e D.mir ws b o)) (sym ev) refl $ move z (1 ∷ []) $ split3 z $
            move z (3 ∷ 0 ∷ 1 ∷ []) $ shuts z soaks' D e (h.at, (tt, tt)) vs b o $ k)))

  module _ (κ : Lft) (q : Share) (b o : ℕ) (κ' : Lft) (w : Seen.the_row.Denot) (b' o' : ℕ) where
    module _ {M : Type 1} {𝓤 : Ura M} {𝓛 : Logic 𝓤} {K : Type 0} {Γ Γ' : List (Item 𝓤)} {G G' : Goal 𝓤 𝓛.H} where
      -- `reads` is the code that reads the address. What follows has the token of the block and the seat, for the two open borrows, and the histories
      pub borrowed : K → Soaks G → IsFree h.right → w.block ≡ h.block
          → ((e : Share) (X : Item 𝓤) → Rule K 𝓛 (‵ (Address e b o) ∷ X ∷ Γ') G' (‵ (Address e b o) ∷ X ∷ Γ) G) → Soaks G'
          → ((inb : InBlock h.at × IsText h.text) (t : Id) → t.name ≡ h.block → (out : Share × Share)
          → Seq K 𝓛 (‵ (finv (at_word t)) ∷ ‵ (flft (t.sharing ∷ []) out.0) ∷
          ‵ (fsep (seat_share t.name.seats h.seat out.1 Free) (reached t.name.history w.history)) ∷ ‵ (knows t h.right) ∷ ‵ (finv (at_word t)) ∷
          ‵ (Lent t κ q out) ∷ ‵ (s (t.sharing ∷ [])) ∷ ‵ (reached t.name.history h.history) ∷ Γ') G')
          → Seq K 𝓛 (‵ (hidden_shr (C.the_row B g) κ h b o) ∷ ‵ (flft κ q) ∷ ‵ (hidden_shr Seen.the_row κ' w b' o') ∷ Γ) G
      borrowed z soaks may same reads soaks' k = move z (2 ∷ []) $
          use1 𝓛 (‵ (hidden_shr (Token unit) κ' (record {}, tt) b' o') ⊛ ‵ (fhide (reached w.block.history w.history)))
          (lent_out 𝓛 Seen.struct (Seen.the_codes (Marker.the_row unit).coded) Seen.the_heap Seen.the_lent κ' w b' o') $ split z $ drop z $ unhide z $
          rewrite z 0 (λ (y : BlockName). ‵ (reached y.history w.history)) same refl $ move z (1 ∷ []) $
          of_shown κ b o z (λ inb t named. let a : Lft = t.sharing ∷ [] in
          -- [what is shown; the prefix; the fields; the history before; κ]
          rewrite z 3 (λ (y : BlockName). ‵ (reached y.history w.history)) (sym named) refl $
          move z (0 ∷ 1 ∷ 3 ∷ []) $ group z 3 $ move z (1 ∷ 2 ∷ []) $
          address κ b o z soaks inb.0 (λ e X. step (λ r. move z (1 ∷ 2 ∷ []) $ join z $ move z (1 ∷ []) $ reads e _ $ move z (1 ∷ []) $ split z $
          move z (2 ∷ 0 ∷ 1 ∷ []) $ r)) soaks' $ move z (1 ∷ []) $ drop z $ move z (1 ∷ []) $ split3 z $
          -- [what is shown; the prefix; the history before; κ]
          use1 𝓛 (‵ (fshr_bor κ (λ r. flft a r)) ⊛ ‵ (fshr_bor κ (λ r. seat_share t.name.seats h.seat r Free)) ⊛ ‵ (knows t h.right) ⊛
          ‵ (finv (at_word t)) ⊛ ‵ (s a)) (rights.may_step 𝓛 P h.limit pb po t s (shares_laws h.at h.text) h.seat h.right may κ) $
          split3 z $ move z (2 ∷ []) $ split3 z $
          -- [what is known; the invariant; what is shared; the share; the seat; the prefix; the history before; κ]
          move z (3 ∷ 4 ∷ 7 ∷ []) $ use3 𝓛 (later (‵ (fex (Share × Share) (framed.lent_for 𝓛 t.sharing t.name.seats h.seat κ q))))
          (framed.borrows 𝓛 t.sharing t.name.seats h.seat κ q) $ await z soaks' $ fpick z (λ out. fsplit z $ move z (1 ∷ []) $ fsplit z $
          -- [the token; the seat; the open borrows; what is known; the invariant; what is shared; the prefix; the history before]
          move z (1 ∷ 7 ∷ []) $ fjoin z $ move z (4 ∷ []) $
          use1 𝓛 (‵ (finv (at_word t)) ⊛ ‵ (finv (at_word t))) (𝓛.invs.inv_dup (at_word t)) $ split z $
          -- [the invariant, twice; the seat and the history before; the token; the open borrows; what is known; what is shared; the prefix]
          move z (0 ∷ 3 ∷ 2 ∷ 5 ∷ 1 ∷ 4 ∷ []) $ k inb t named out))

  module _ {M : Type 1} {𝓤 : Ura M} (𝓛 : Logic 𝓤) (t : Id) where
    open operators 𝓛 use {both as ◌∗◌, meaning as ⟦◌⟧}

    infixr 35 ◌∗◌
    abbrev a : Lft
    a = t.sharing ∷ []

    abbrev Gained : Gain → Fml
    Gained = gained 𝓛 P h.limit pb po t

    abbrev Born : (ℕ × List Step → Type 0) → Right → ℕ × List Step → Fml
    Born φ k = rights.right_after 𝓛 P h.limit pb po t s (shares_laws h.at h.text) φ k

    module _ (inb : InBlock h.at × IsText h.text) (named : t.name ≡ h.block) (κ : Lft) (q : Share) (out : Share × Share) {K : Type 0} {Γ : List (Item 𝓤)}
        {G : Goal 𝓤 𝓛.H} where
      -- after a step of `borrowed`, whose gain becomes a right
      pub returned : K → {X : Fml} {ok : Gain → Type 0} {says : Right → Type 0} {φ : ℕ × List Step → Type 0} {others : Item 𝓤} → Soaks G
          → ((w : Gain) → ok w → rights.Becomes 𝓛 P h.limit pb po t says (⟦ Gained w ⟧ ∗ ⟦ s a ⟧ ∗ ⟦ X ⟧ ∗ ⟦ reached t.name.history h.history ⟧)
          (λ k. ⟦ fex (ℕ × List Step) (Born φ k) ⟧))
          → ((w : Gain) → ok w → (k : Right) → says k → (j : ℕ) (r : List Step) → φ (j, r)
          → Seq K 𝓛 (‵ ((C.the_row B g).own_val (record h { right = k; seat = j; history = r }) (pointer_val h.at ∷ [])) ∷ (‵ (flft κ q) ⊛ others) ∷ Γ) G)
          → Seq K 𝓛 (‵ (fsep (fsep (seat_share t.name.seats h.seat out.1 Free) X) (fsep (flft a out.0) (fex Gain (λ w. fsep (fact (ok w)) (Gained w))))) ∷
          ‵ (finv (at_word t)) ∷ ‵ (Lent t κ q out) ∷ ‵ (s a) ∷ ‵ (reached t.name.history h.history) ∷ others ∷ Γ) G
      returned z {φ = φ} soaks becomes k = fsplit z $ fsplit z $ move z (2 ∷ []) $ fsplit z $
          -- [the token; the gain; the seat; what is said; the invariant; the open borrows; what is shared; the prefix; the others]
          move z (0 ∷ 2 ∷ []) $ fjoin z $ move z (4 ∷ 0 ∷ []) $ fjoin z $
          use1 𝓛 (later (‵ (flft κ q))) (framed.restores 𝓛 t.sharing t.name.seats h.seat κ q out) $ await z soaks $
          -- [κ; the gain; what is said; the invariant; what is shared; the prefix; the others]
          move z (0 ∷ 6 ∷ []) $ join z $ move z (1 ∷ []) $ fpick z (λ w. fsplit z $ fpick z (λ ok. drop z $ let got = becomes w ok in
          -- [the gain; the tokens; what is said; the invariant; what is shared; the prefix]
          move z (0 ∷ 4 ∷ 2 ∷ 5 ∷ []) $ group z 4 $ use1 𝓛 (later (‵ (fex (ℕ × List Step) (Born φ got.right)))) got.turns $ await z soaks $
          fpick z (λ x. fsplit z $ fpick z (λ ends. drop z $ fsplit z $
          -- [the prefix; the right; the tokens; the invariant]
          let h' = record h { right = got.right; seat = x.0; history = x.1 } in
          move z (1 ∷ 3 ∷ 0 ∷ []) $ use3 𝓛 (‵ ((C.the_row B g).own_val h' (pointer_val h.at ∷ []))) (framed.pointer_in 𝓛 B g h' t named inb) $
          k w ok got.right got.said x.0 x.1 ends))))
