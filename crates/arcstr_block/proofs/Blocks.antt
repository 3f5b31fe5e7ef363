-- The beginning of a block; that its book has one owner; and what follows for two pointers: two seats of one block have two owners, and a block that
-- is owed has no other pointer that has a seat or may read. Assumes `Logic`.
use Rattle.arcstr_block.proofs.Names.{◌≡◌, ℕ, ◌-◌, ◌^◌, Bool, true, [], ◌∷◌, refl, arith, lit<, false, List, sym, subst, inl, inr, ◌≢◌, ap, length, ℕ_discrete}
use Rattle.arcstr_block.proofs.Names.{Ura, Val, Lft, Share, Incl, Incl-trans, Fml, fsep, fex, flft, finv, GName, fdead, fshr_bor, full_share, Counts-all}
use Rattle.arcstr_block.proofs.Names.{not-OpDef-full_share, growing, latest, emp, via, all_i, upd, never, never_e, guard, guard_i, meet_⊑_left, meet_⊑_right}
use Rattle.arcstr_block.proofs.Names.{RattleType, block_of, ShrLaws, nothing, Lends, ‵, ◌⊛◌, some, later, ◌$◌, ◌∵◌, !, qed, move, group, pick, use0, use1, use2}
use Rattle.arcstr_block.proofs.Names.{split, split3, join, fsplit, fjoin, fjoin3, fpick, fpack, await, updating, now, done, raw, by, keep, fsplit3, assume}
use Rattle.arcstr_block.proofs.Names.{given, drop, learn, check, rewrite, suffices, frame, use3, Logic, basic, own_sum, lft_new, bor_new, shr_bor-open, tokens_halve, word, Ghosts}
use Rattle.arcstr_block.proofs.Names.{Free, Step, Make, BlockName, Book, reached, seat, steps, Id, parts, unmarked, Ledger, counting, if_alive, Inv, knows}
use Rattle.arcstr_block.proofs.Names.{free, held_with, block_owns, block_shares, word_at, uncounted, counted, HasSeat, Right, dropping, owed, IsLimit}
use Rattle.arcstr_block.proofs.Names.{operators}
use Rattle.arcstr_block.specs.Ledger.{fact}
use Rattle.arcstr_block.proofs.Book.{book_lives, book_new, one_owner}
use Rattle.arcstr_block.proofs.Living.{Lives}
use Rattle.arcstr_block.proofs.Names.{seat_share, upd_i}
use Rattle.arcstr_block.proofs.Sharing.{free_in}
use Rattle.arcstr_block.proofs.Ledger.{parts_in, parts_cut, phase_in}
use Rattle.arcstr_block.proofs.Rights.{by_free, has_seat, seat_state}
use Rattle.arcstr_block.proofs.Words.{is_right}
use Rattle.arcstr_block.proofs.Memory.{shares_laws}
use mathlib.Core.Option.{some as present}
use Rattle.arcstr_block.specs.contracts.pointer.Pointer as C

same_or_not : (m n : BlockName) → Dec (m ≡ n)
same_or_not m n = by_parts (ℕ_discrete m.history n.history) (ℕ_discrete m.seats n.seats)
  where
    by_parts : Dec (m.history ≡ n.history) → Dec (m.seats ≡ n.seats) → Dec (m ≡ n)
    by_parts (no other) d = no (λ e. other (ap (λ (z : BlockName). z.history) e))
    by_parts (yes e) (no other) = no (λ e. other (ap (λ (z : BlockName). z.seats) e))
    by_parts (yes e) (yes f) = yes (λ i. record { history = e i; seats = f i })

module _ {M : Type 1} {𝓤 : Ura M} (𝓛 : Logic 𝓤) where
  open 𝓛 use {H, A}
  open operators 𝓛 use {Pr, entails as ◌⊢◌, both as ◌∗◌, gives as ◌-∗◌, meaning as ⟦◌⟧}

  infix 26 ◌⊢◌
  infixr 35 ◌∗◌
  infixr 30 ◌-∗◌
  -- ---- the beginning of a block: its word is 2, its content is lent, and its first handle has one part
  module _ (P : Fml) (L b o : ℕ) where
    module _ (s : Lft → Fml) (laws : ShrLaws s) (small : IsLimit L) where
      abbrev Owner : Fml
      Owner = fex Id (λ t. fsep (reached t.name.history (Make ∷ [])) (held_with P L b o t s 0 counted))

      pub begins : (l : Lft) → Lends 𝓛 P s l → (μ : Lft) (q : Share) → Incl μ l → ⟦ fsep (word b o 2) P ⟧ ∗ A.lft μ q ⊢ H.⇛ (⟦ Owner ⟧ ∗ A.lft μ q)
      begins l lends μ q inc = qed 𝓛 (‵ (fsep (word b o 2) P) ∷ ‵ (flft μ q) ∷ []) ∵ updating ! $ fsplit ! $
          use0 𝓛 (later (some (λ (z : BlockName). ‵ (Book L z.history z.seats 2) ⊛ ‵ (seat z.seats 0 Free) ⊛ ‵ (reached z.history (Make ∷
          []))))) (via 𝓤 _ (book_new 𝓛 L)
          (basic 𝓛 _)) $ await ! tt $ pick ! (λ z. split3 ! $
          -- [the book; the seat; the first step; the word; P; μ]
          move ! (3 ∷ 0 ∷ []) $ fjoin ! $ move ! (0 ∷ 3 ∷ 1 ∷ 2 ∷ 4 ∷ []) $
          -- [the word and the book; P; the seat; the first step; μ]
          lft_new ! tt (λ a. lft_new ! tt (λ c. let t : Id = record { sharing = a; counting = c; name = z } in let I : Fml = Inv P L b o t in
          -- [the token of c; that of a; the word and the book; P; the seat; the first step; μ]
          move ! (1 ∷ []) $ use1 𝓛 (‵ (parts a (2 ^ 63))) (parts_in 𝓛 a (2 ^ 63) full_share (Counts-all 63)) $
          use1 𝓛 (‵ (parts a (2 ^ 63 - 1)) ⊛ ‵ (parts a 1)) (parts_cut 𝓛 a (2 ^ 63) (2 ^ 63 - 1) 1 (lit< tt) (lit< tt) refl (omega arith)) $ split ! $
          move ! (4 ∷ []) $ bor_new ! tt (a ∷ []) $
          -- [the borrow; the lender's right; the rest of a; the part; c; the word and the book; the seat; the first step; μ]
          move ! (2 ∷ 4 ∷ 1 ∷ []) $ fjoin3 ! $ use1 𝓛 (‵ (Ledger P L b o t 2)) (phase_in 𝓛 P L b o t 2 (unmarked 1) (refl, lit< tt, omega arith, small)) $
          move ! (3 ∷ 0 ∷ []) $ fjoin ! $
          fpack ! ℕ (counting P L b o t) 2 $ fpack ! Bool (if_alive P L b o t) true $ use1 𝓛 (later (‵ (finv I))) (𝓛.invs.inv_new I) $ await ! tt $
          -- [the invariant; the borrow; the part; the seat; the first step; μ]
          move ! (2 ∷ []) $ fpick ! (λ e. fpick ! (λ one. move ! (0 ∷ 5 ∷ []) $ join ! $ move ! (2 ∷ 0 ∷ []) $
          use2 𝓛 (later (‵ (s (a ∷ [])) ⊛ ‵ (flft (a ∷ []) e) ⊛ ‵ (flft μ q)))
          (lends (a ∷ []) ((a ∷ [], e) ∷ (μ, q) ∷ []) (Incl-trans (meet_⊑_right (a ∷ []) μ) inc) (meet_⊑_left (a ∷ []) μ)) $ await ! tt $ split3 ! $
          -- [what is shared; the part; μ; the invariant; the seat; the first step]
          nothing ! $ use1 𝓛 (‵ (knows t counted)) (all_i 𝓤 {P = emp 𝓤} (λ (_ : counted ≡ uncounted). A.dead (c ∷ [])) (λ w. absurd cc)) $
          move ! (2 ∷ 0 ∷ 1 ∷ 5 ∷ []) $ group ! 4 $
          use1 𝓛 (‵ (free P L b o t s 0 counted)) (free_in P L b o s laws 0 𝓛 t counted e (λ _. one)) $ move ! (2 ∷ 0 ∷ []) $ fjoin ! $ move ! (2 ∷ 0 ∷ []) $
          fjoin ! $
          fpack ! Id (λ y. fsep (reached y.name.history (Make ∷ [])) (held_with P L b o y s 0 counted)) t $ now ! $ done !)))))

  -- ---- whoever has the word at 0 with its book has the block alone: the book of a block that is still shared lies in its invariant
  -- a block has one history
  one_history : (γ : GName) (r r' : List Step) (Z : Pr) → ⟦ latest steps full_share γ r ⟧ ∗ ⟦ latest steps full_share γ r' ⟧ ⊢ Z
  unfolding latest
  one_history γ r r' Z =
      own_sum 𝓛 (growing steps) γ (present full_share, r) (present full_share, r') Z (λ c m. absurd (not-OpDef-full_share full_share m.0.1.0.0))

  -- so a block has one book
  one_book : (L L' : ℕ) (γ δ δ' : GName) (n n' : ℕ) (Z : Pr) → ⟦ Book L γ δ n ⟧ ∗ ⟦ Book L' γ δ' n' ⟧ ⊢ Z
  one_book L L' γ δ δ' n n' Z = qed 𝓛 (‵ (Book L γ δ n) ∷ ‵ (Book L' γ δ' n') ∷ []) ∵ fpick ! (λ x. fsplit3 ! $ move ! (3 ∷ []) $ fpick ! (λ y. fsplit3 ! $
      keep ! (1 ∷ 4 ∷ []) $ by ! (one_history γ y.0 x.0 Z)))

  module _ (P : Fml) (L b o : ℕ) (t : Id) where
    abbrev I : Fml
    I = Inv P L b o t

    abbrev a : Lft
    a = t.sharing ∷ []

    -- the invariant of a block, a share of its token that is lent for κ, and κ
    abbrev pub Lent : Lft → Share → Fml
    Lent κ q = fsep (finv I) (fsep (fshr_bor κ (λ u. flft a u)) (flft κ q))

    module _ (L₀ : ℕ) (Z : Pr) where
      abbrev Book₀ : Fml
      Book₀ = Book L₀ t.name.history t.name.seats 0

      -- a block whose content is still shared has its book in its invariant
      inside : (alive : Bool) (u : Share) (Y : Pr) → ⟦ if_alive P L b o t alive ⟧ ∗ A.lft a u ∗ ⟦ Book₀ ⟧ ⊢ Y
      inside false u Y = qed 𝓛 (‵ (fdead a) ∷ ‵ (flft a u) ∷ ‵ Book₀ ∷ []) ∵ keep ! (1 ∷ 0 ∷ []) $ by ! (via 𝓤 (never 𝓤) (𝓛.lfts.lft-dead a u) (never_e 𝓤 Y))
      inside true u Y = qed 𝓛 (‵ (if_alive P L b o t true) ∷ ‵ (flft a u) ∷ ‵ Book₀ ∷ []) ∵ fpick ! (λ n. fsplit ! $ fsplit ! $ keep ! (1 ∷ 4 ∷ []) $
          by ! (one_book L L₀ t.name.history t.name.seats t.name.seats n 0 Y))

      opened : (u : Share) → A.lft a u ∗ ⟦ Book₀ ⟧ ⊢ ⟦ I ⟧ -∗ upd 𝓤 (⟦ I ⟧ ∗ Z)
      opened u = qed 𝓛 (‵ (flft a u) ∷ ‵ Book₀ ∷ []) ∵ assume ! (‵ I) $ fpick ! (λ alive. by ! (inside alive u (upd 𝓤 (⟦ I ⟧ ∗ Z))))

      -- so no share of its token lies beside another book of it
      not_shared : (u : Share) → ⟦ Book₀ ⟧ ∗ ⟦ finv I ⟧ ∗ A.lft a u ⊢ H.⇛ Z
      not_shared u = qed 𝓛 (‵ Book₀ ∷ ‵ (finv I) ∷ ‵ (flft a u) ∷ []) ∵ updating ! $ keep ! (2 ∷ 0 ∷ 1 ∷ []) $
          use2 𝓛 (raw (⟦ I ⟧ -∗ upd 𝓤 (⟦ I ⟧ ∗ Z))) (opened u) $ move ! (1 ∷ 0 ∷ []) $
          use2 𝓛 (later (raw Z)) (𝓛.invs.inv_acc I Z) $ await ! tt $ now ! $ done !

      pub not_lent : (κ : Lft) (q : Share) → ⟦ Book₀ ⟧ ∗ ⟦ Lent κ q ⟧ ⊢ H.⇛ Z
      not_lent κ q = qed 𝓛 (‵ Book₀ ∷ ‵ (Lent κ q) ∷ []) ∵ updating ! $ move ! (1 ∷ []) $ fsplit3 ! $ move ! (1 ∷ 2 ∷ []) $
          shr_bor-open ! tt (tokens_halve 𝓛 a) (λ u.
          -- [the open borrow; a share of the token; the invariant; the book]
          keep ! (3 ∷ 2 ∷ 1 ∷ []) $ types.Kit.group ! 3 $ use1 𝓛 (later (raw Z)) (not_shared u) $ await ! tt $ now ! $ done !)

      module _ (s : Lft → Fml) (h : ℕ) where
        not_free : (right : Right) → ⟦ Book₀ ⟧ ∗ ⟦ finv I ⟧ ∗ ⟦ free P L b o t s h right ⟧ ⊢ H.⇛ Z
        not_free right = qed 𝓛 (‵ Book₀ ∷ ‵ (finv I) ∷ ‵ (free P L b o t s h right) ∷ []) ∵ move ! (2 ∷ []) $ fpick ! (λ e. fsplit3 ! $
            keep ! (3 ∷ 4 ∷ 1 ∷ []) $ by ! (not_shared e))

        not_dropping : ⟦ Book₀ ⟧ ∗ ⟦ held_with P L b o t s h dropping ⟧ ⊢ H.⇛ Z
        not_dropping = qed 𝓛 (‵ Book₀ ∷ ‵ (held_with P L b o t s h dropping) ∷ []) ∵ move ! (1 ∷ []) $ fsplit ! $ move ! (1 ∷ []) $ fsplit3 ! $
            fpick ! (λ e. fpick ! (λ _. keep ! (4 ∷ 3 ∷ 0 ∷ []) $ by ! (not_shared e)))

        not_owed : ⟦ Book₀ ⟧ ∗ ⟦ held_with P L b o t s h owed ⟧ ⊢ H.⇛ Z
        not_owed = qed 𝓛 (‵ Book₀ ∷ ‵ (held_with P L b o t s h owed) ∷ []) ∵ move ! (1 ∷ []) $ fsplit ! $ move ! (1 ∷ []) $ fsplit ! $ fsplit ! $
            keep ! (4 ∷ 1 ∷ []) $ by ! (one_book L₀ L t.name.history t.name.seats t.name.seats 0 0 (H.⇛ Z))

        -- and no handle has a seat
        pub no_other : (right : Right) → HasSeat right → ⟦ Book₀ ⟧ ∗ ⟦ held_with P L b o t s h right ⟧ ⊢ H.⇛ Z
        no_other right may = let X : Right → Type 1 = λ k. ⟦ Book₀ ⟧ ∗ ⟦ held_with P L b o t s h k ⟧ ⊢ H.⇛ Z in elim may [
          | inl free ↦ by_free X (not_free counted) (not_free uncounted) right free
          | inr other ↦ elim other [ inl e ↦ subst X (sym e) not_dropping | inr e ↦ subst X (sym e) not_owed ]
        ]

    -- ---- the book of a block that is shared says that a free handle lives, in each history that was reached
    module _ (h : ℕ) (before : List Step) (u v : Share) where
      abbrev Mine : Fml
      Mine = seat_share t.name.seats h v Free

      abbrev Before : Fml
      Before = reached t.name.history before

      abbrev Told : Pr
      Told = guard 𝓤 (Lives L before h) (A.lft a u ∗ ⟦ Mine ⟧)

      read : (alive : Bool) → ⟦ if_alive P L b o t alive ⟧ ∗ A.lft a u ∗ ⟦ Mine ⟧ ∗ ⟦ Before ⟧ ⊢ upd 𝓤 (⟦ I ⟧ ∗ Told)
      read false = qed 𝓛 (‵ (fdead a) ∷ ‵ (flft a u) ∷ ‵ Mine ∷ ‵ Before ∷ []) ∵ keep ! (1 ∷ 0 ∷ []) $
          by ! (via 𝓤 (never 𝓤) (𝓛.lfts.lft-dead a u) (never_e 𝓤 (upd 𝓤 (⟦ I ⟧ ∗ Told))))
      read true = qed 𝓛 (‵ (if_alive P L b o t true) ∷ ‵ (flft a u) ∷ ‵ Mine ∷ ‵ Before ∷ []) ∵ fpick ! (λ n. fsplit ! $ fsplit ! $
          -- [the word; the book; the ledger; the token; the seat; the history]
          move ! (1 ∷ 4 ∷ 5 ∷ []) $
          use3 𝓛 (given (Lives L before h) (‵ (Book L t.name.history t.name.seats n) ⊛ ‵ Mine)) (book_lives 𝓛 L t.name.history t.name.seats n h v before) $
          learn ! (λ lives. split ! $
          -- [the book; the seat; the word; the ledger; the token]
          move ! (2 ∷ 0 ∷ []) $ fjoin ! $ move ! (0 ∷ 2 ∷ []) $ fjoin ! $ fpack ! ℕ (counting P L b o t) n $ fpack ! Bool (if_alive P L b o t) true $
          suffices ! _ (upd_i 𝓤 (⟦ I ⟧ ∗ Told)) $ frame ! $ check ! lives $ move ! (1 ∷ 0 ∷ []) $ done !))

      opens_to : A.lft a u ∗ ⟦ Mine ⟧ ∗ ⟦ Before ⟧ ⊢ ⟦ I ⟧ -∗ upd 𝓤 (⟦ I ⟧ ∗ Told)
      opens_to = qed 𝓛 (‵ (flft a u) ∷ ‵ Mine ∷ ‵ Before ∷ []) ∵ assume ! (‵ I) $ fpick ! (λ alive. by ! (read alive))

      pub tells_life : ⟦ finv I ⟧ ∗ A.lft a u ∗ ⟦ Mine ⟧ ∗ ⟦ Before ⟧ ⊢ H.⇛ Told
      tells_life = qed 𝓛 (‵ (finv I) ∷ ‵ (flft a u) ∷ ‵ Mine ∷ ‵ Before ∷ []) ∵ updating ! $ move ! (1 ∷ 2 ∷ 3 ∷ []) $
          use3 𝓛 (raw (⟦ I ⟧ -∗ upd 𝓤 (⟦ I ⟧ ∗ Told))) opens_to $ move ! (1 ∷ 0 ∷ []) $
          use2 𝓛 (later (raw Told)) (𝓛.invs.inv_acc I Told) $ await ! tt $ now ! $ done !

  -- ---- two pointers
  module _ (B : RattleType) (g : Ghosts B.Denot) where
    abbrev Row : RattleType
    Row = C.the_row B g

    -- what a pointer's right is, under the names of its block
    module _ (h : Row.Denot) where
      abbrev P : Fml
      P = block_owns (g.dealloc_token h.home) h.at h.text

      abbrev s : Lft → Fml
      s = block_shares h.at h.text

      abbrev HeldWith : Id → Right → Fml
      HeldWith t right = held_with P h.limit (block_of h.at) (word_at h.at (length h.text)) t s h.seat right

      abbrev named_right : Id → Fml
      named_right t = fsep (fact (t.name ≡ h.block)) (HeldWith t h.right)

      sl : denote.Sharing.ShrLaws s
      sl = shares_laws h.at h.text

    right_of : (h : Row.Denot) (vs : List Val) → ⟦ Row.own_val h vs ⟧ ⊢ ⟦ fex Id (named_right h) ⟧
    right_of h vs = qed 𝓛 (‵ (Row.own_val h vs) ∷ []) ∵ fsplit ! $ drop ! $ fsplit ! $ drop ! $ fpick ! (λ t. fsplit ! $ fsplit ! $ move ! (1 ∷ []) $ drop ! $
        fjoin ! $ fpack ! Id (named_right h) t $ done !)

    seat_of : (h : Row.Denot) (vs : List Val) → HasSeat h.right → ⟦ Row.own_val h vs ⟧ ⊢ ⟦ seat h.block.seats h.seat (seat_state h.right) ⟧
    seat_of h vs may = qed 𝓛 (‵ (Row.own_val h vs) ∷ []) ∵ use1 𝓛 (‵ (fex Id (named_right h))) (right_of h vs) $ fpick ! (λ t. fsplit ! $ fpick ! (λ named.
        drop ! $ fsplit ! $ drop ! $
        use1 𝓛 (‵ (seat t.name.seats h.seat (seat_state h.right)))
        (has_seat 𝓛 (P h) h.limit (block_of h.at) (word_at h.at (length h.text)) t (s h) (sl h) h.seat h.right may) $
        rewrite ! 0 (λ (z : BlockName). ‵ (seat z.seats h.seat (seat_state h.right))) named refl $ done !))

    -- a right to what is owed has the book of the word 0
    book_of : (h : Row.Denot) (vs : List Val) → h.right ≡ owed → ⟦ Row.own_val h vs ⟧ ⊢ ⟦ Book h.limit h.block.history h.block.seats 0 ⟧
    book_of h vs mine = qed 𝓛 (‵ (Row.own_val h vs) ∷ []) ∵ use1 𝓛 (‵ (fex Id (named_right h))) (right_of h vs) $ fpick ! (λ t. fsplit ! $ fpick ! (λ named.
        drop ! $
        rewrite ! 0 (λ (k : Right). ‵ (HeldWith h t k)) mine refl $ fsplit ! $ drop ! $ fsplit ! $ fsplit ! $ keep ! (1 ∷ []) $
        rewrite ! 0 (λ (z : BlockName). ‵ (Book h.limit z.history z.seats 0)) named refl $ done !))

    -- what is owed is a different block from one beside which its book cannot lie
    module _ (h : Row.Denot) (vs : List Val) (X : Fml) (block : BlockName) where
      abbrev Away : Pr
      Away = guard 𝓤 (h.block ≢ block) (⟦ Row.own_val h vs ⟧ ∗ ⟦ X ⟧)

      away_by : h.right ≡ owed → Dec (h.block ≡ block) → ⟦ Book h.limit block.history block.seats 0 ⟧ ∗ ⟦ X ⟧ ⊢ H.⇛ Away
          → ⟦ Row.own_val h vs ⟧ ∗ ⟦ X ⟧ ⊢ H.⇛ Away
      away_by mine (no other) clash = qed 𝓛 (‵ (Row.own_val h vs) ∷ ‵ X ∷ []) ∵ updating ! $ now ! $ check ! other $ done !
      away_by mine (yes same) clash = qed 𝓛 (‵ (Row.own_val h vs) ∷ ‵ X ∷ []) ∵ use1 𝓛 (‵ (Book h.limit h.block.history h.block.seats 0)) (book_of h vs mine) $
          rewrite ! 0 (λ (z : BlockName). ‵ (Book h.limit z.history z.seats 0)) same refl $ by ! clash

      pub away : h.right ≡ owed → ⟦ Book h.limit block.history block.seats 0 ⟧ ∗ ⟦ X ⟧ ⊢ H.⇛ Away → ⟦ Row.own_val h vs ⟧ ∗ ⟦ X ⟧ ⊢ H.⇛ Away
      away mine clash = away_by mine (same_or_not h.block block) clash

    module _ (h j : Row.Denot) (vs ws : List Val) where
      abbrev pub Apart : Type 0
      Apart = h.block ≡ j.block → h.seat ≢ j.seat

      abbrev pub OwesAnother : Type 0
      OwesAnother = h.right ≡ owed → h.block ≢ j.block

      abbrev Two : Pr
      Two = ⟦ Row.own_val h vs ⟧ ∗ ⟦ Row.own_val j ws ⟧

      one_seat : HasSeat h.right → HasSeat j.right → Dec (h.block ≡ j.block) → Dec (h.seat ≡ j.seat) → Two ⊢ guard 𝓤 Apart Two
      one_seat may may' (no other) d = guard_i 𝓤 Apart Two (λ e. absurd (other e))
      one_seat may may' (yes e) (no other) = guard_i 𝓤 Apart Two (λ _. other)
      one_seat may may' (yes e) (yes f) = let v = seat_state h.right in let w = seat_state j.right in
          qed 𝓛 (‵ (Row.own_val h vs) ∷ ‵ (Row.own_val j ws) ∷ []) ∵ use1 𝓛 (‵ (seat h.block.seats h.seat v)) (seat_of h vs may) $ move ! (1 ∷ []) $
          use1 𝓛 (‵ (seat j.block.seats j.seat w)) (seat_of j ws may') $
          rewrite ! 0 (λ (z : BlockName). ‵ (seat z.seats j.seat w)) (sym e) refl $ rewrite ! 0 (λ (k : ℕ). ‵ (seat h.block.seats k w)) (sym f) refl $
          by ! (one_owner 𝓛 h.block.seats h.seat w v (guard 𝓤 Apart Two))

      -- the book of what is owed does not lie beside a pointer that has a seat
      beside_seat : (L : ℕ) (Z : Pr) → HasSeat j.right → ⟦ Book L j.block.history j.block.seats 0 ⟧ ∗ ⟦ Row.own_val j ws ⟧ ⊢ H.⇛ Z
      beside_seat L Z may = qed 𝓛 (‵ (Book L j.block.history j.block.seats 0) ∷ ‵ (Row.own_val j ws) ∷ []) ∵ move ! (1 ∷ []) $
          use1 𝓛 (‵ (fex Id (named_right j))) (right_of j ws) $ fpick ! (λ t. fsplit ! $ fpick ! (λ named. drop ! $ move ! (1 ∷ []) $
          rewrite ! 0 (λ (z : BlockName). ‵ (Book L z.history z.seats 0)) (sym named) refl $
          by ! (no_other (P j) j.limit (block_of j.at) (word_at j.at (length j.text)) t L Z (s j) j.seat j.right may)))

      are_alone : HasSeat j.right → Dec (h.right ≡ owed) → Two ⊢ H.⇛ (guard 𝓤 OwesAnother Two)
      are_alone may (no other) = qed 𝓛 (‵ (Row.own_val h vs) ∷ ‵ (Row.own_val j ws) ∷ []) ∵ updating ! $ now ! $ check ! (λ mine. absurd (other mine)) $ done !
      are_alone may (yes mine) = qed 𝓛 (‵ (Row.own_val h vs) ∷ ‵ (Row.own_val j ws) ∷ []) ∵ updating ! $
          use2 𝓛 (later (given (h.block ≢ j.block) (‵ (Row.own_val h vs) ⊛ ‵ (Row.own_val j ws))))
          (away h vs (Row.own_val j ws) j.block mine (beside_seat h.limit _ may)) $ await ! tt $ learn ! (λ other. now ! $ check ! (λ _. other) $ done !)

      abbrev pub Distinct : Type 0
      Distinct = Apart × OwesAnother

      pub are_apart : HasSeat h.right → HasSeat j.right → Two ⊢ H.⇛ (guard 𝓤 Distinct Two)
      are_apart may may' = qed 𝓛 (‵ (Row.own_val h vs) ∷ ‵ (Row.own_val j ws) ∷ []) ∵ updating ! $
          use2 𝓛 (given Apart (‵ (Row.own_val h vs) ⊛ ‵ (Row.own_val j ws)))
          (one_seat may may' (same_or_not h.block j.block) (ℕ_discrete h.seat j.seat)) $ learn ! (λ two. split ! $
          use2 𝓛 (later (given OwesAnother (‵ (Row.own_val h vs) ⊛ ‵ (Row.own_val j ws))))
          (are_alone may' (is_right h.right owed)) $ await ! tt $ learn ! (λ alone. now ! $ check ! (two, alone) $ done !))
