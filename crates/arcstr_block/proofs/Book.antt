-- The book of a block: the seats of its handles, and the history, which each step extends by exactly that step. Assumes `Logic`.
use Rattle.arcstr_block.proofs.Names.{◌≡◌, ℕ, ◌^◌, [], ◌∷◌, refl, arith, List, sym, subst, inl, inr, ◌≢◌, ap, length, zero, suc, ◌+◌, ◌<◌, ◌++◌, set, Some}
use Rattle.arcstr_block.proofs.Names.{if◌then◌else◌, eqb, eq-eqb, ne_eqb, slice_get, bit_or, dite, ℕ_discrete, Ura, either, Share, Fml, fsep, fex, GName, ftrue}
use Rattle.arcstr_block.proofs.Names.{fall}
use Rattle.arcstr_block.proofs.Names.{full_share, not-OpDef-full_share, latest, emp, via, all_i, upd, guard, guard_i, ex, guard_e, upd_i, upd_mono, ex_e, id⊢}
use Rattle.arcstr_block.proofs.Names.{quarter, three_quarters, three_quarters_once, nothing, latest_new, latest_grows, latest_shows, at_least_dup, entry}
use Rattle.arcstr_block.proofs.Names.{entries_take, entries_beside, entry_cut, entry_glue, entry_set, entries_new, ‵, ◌⊛◌, some, ◌$◌, ◌∵◌, !, qed, move, pick}
use Rattle.arcstr_block.proofs.Names.{use0, use1, use2, use3, split, split3, join, fjoin, fjoin3, fpick, fpack, done, raw, by, keep, fsplit3, given, drop}
use Rattle.arcstr_block.proofs.Names.{learn}
use Rattle.arcstr_block.proofs.Names.{check, rewrite, suffices, settle, show, Logic, itself, halved, unused, roster, Keeps, EndsIn, look_reply, FlagAndCount}
use Rattle.arcstr_block.proofs.Names.{looked_of, cloned_of, is_last, HandleState, Free, Dropping, Owing, Gone, Ended, Looked, Owes, Left, Handle, Marked, Given}
use Rattle.arcstr_block.proofs.Names.{Step, Make, Look, Clone, Begin, Sub, Back, Leak, BlockName, Book, reached, seat, steps, state_code, seat_share, book}
use Rattle.arcstr_block.proofs.Names.{Ends, reached_ending, word_of, IsMarked, IsClone, operators}
use Rattle.arcstr_block.proofs.Names.{IsPrefix, IsLater, latest_bounds, length-append}
use mathlib.Core.Path.{Path}
use mathlib.Mathlib.Data.Part.{◌∈◌}
use seplogic.Ra.Pcs.{OpDef, OpDef-comm}
use base.Stored.{Gv}
use base.SetCodes.{coded, SetCoded-set}
use base.Algebras.{pcs, shares}
use ghost.Rules.{Halves}
use Rattle.arcstr_count.specs.contracts.steps.HandleState.{the_row as state_row}
use Rattle.arcstr_count.specs.declared.steps.Reply.{Reply}
use Rattle.arcstr_count.proofs.OneBlock.{Prolongs, keeps-make, keeps-look, keeps-begin, keeps-clone, keeps-leak, keeps-sub, keeps-back}
use Rattle.arcstr_block.proofs.Living.{Lives, free_lives}
use Rattle.arcstr_block.proofs.Words.{one_less, word_marked, word_dropped, IsMarkedOr, odd_or_even, word_kept, word_cloned}
use seplogic.Ra.Constructions.Prod
use seplogic.Ra.Instances.Ag
use base.Share

module _ {M : Type 1} {𝓤 : Ura M} (𝓛 : Logic 𝓤) where
  open 𝓛 use {H, A}
  open operators 𝓛 use {Pr, entails as ◌⊢◌, both as ◌∗◌, meaning as ⟦◌⟧}

  infix 26 ◌⊢◌
  infixr 35 ◌∗◌
  -- ---- the seats: any share reads a seat, what a handle has changes it, and a new seat comes at the end
  module _ (δ : ℕ) where
    abbrev V : Type 0
    V = HandleState

    abbrev c : V → Gv
    c = state_code

    abbrev Quarter : ℕ → V → Fml
    Quarter h v = seat_share δ h quarter v

    abbrev Roster : ℕ → List V → Fml
    Roster k vs = roster c δ k vs

    together : (q r s : Share) (v : Gv) → s ∈ Share.op q r → ◌∈◌ {α = Share × Gv} (s, v) (halved.op (q, v) (r, v))
    together q r s v m =
        Prod.mk-mem-op Share.op (Ag.op (SetCoded-set (coded itself))) {a = q} {a' = r} {x = s} {b = v} {b' = v} {y = v} m (Ag.idem (SetCoded-set
        (coded itself)) v)

    -- a share of a seat can be cut and joined
    pub seat_halves : (h : ℕ) (v : V) → Halves 𝓤 H A (λ q. seat_share δ h q v)
    seat_halves h v = record {
      cut = λ q. entry_cut halved 𝓛 δ h (Share.left q, c v) (Share.right q, c v) (q, c v) (together (Share.left q) (Share.right q) q (c v) (Share.halves q));
      join = λ q. let a : Share × Gv = (Share.left q, c v) in let b : Share × Gv = (Share.right q, c v) in
          let F : Share × Gv → Pr = λ x. guard 𝓤 (x ∈ halved.op a b) ⟦ entry halved δ h x ⟧ in
          via 𝓤 (ex 𝓤 F) (entry_glue halved 𝓛 δ h a b) (ex_e 𝓤 F (λ x. guard_e 𝓤 (x ∈ halved.op a b) ⟦ entry halved δ h x ⟧ (λ m.
          subst (λ (y : Share × Gv). ⟦ entry halved δ h y ⟧ ⊢ ⟦ seat_share δ h q v ⟧) (mathlib.Mathlib.Data.Part.mem_unique (halved.op a b) (together
          (Share.left q) (Share.right q) q (c v) (Share.halves q)) m) (base.Logic.id⊢ 𝓤 _))));
    }

    -- two shares of a seat have the same state
    both_say : (h : ℕ) (q r : Share) (w v : V)
        → ⟦ seat_share δ h q w ⟧ ∗ ⟦ seat_share δ h r v ⟧ ⊢ guard 𝓤 (w ≡ v) (⟦ seat_share δ h q w ⟧ ∗ ⟦ seat_share δ h r v ⟧)
    both_say h q r w v = let a : Share × Gv = (q, c w) in let b : Share × Gv = (r, c v) in
        let F : Share × Gv → Pr = λ x. guard 𝓤 (x ∈ halved.op a b) ⟦ entry halved δ h x ⟧ in let Z : Pr = ⟦ seat_share δ h q w ⟧ ∗ ⟦ seat_share δ h r v ⟧ in
        via 𝓤 (ex 𝓤 F) (entry_glue halved 𝓛 δ h a b) (ex_e 𝓤 F (λ x. guard_e 𝓤 (x ∈ halved.op a b) ⟦ entry halved δ h x ⟧ (λ m.
        via 𝓤 Z (entry_cut halved 𝓛 δ h a b x m) (guard_i 𝓤 (w ≡ v) Z (state_row.coded.inj w v m.0.1)))))

    -- a seat has one owner
    pub one_owner : (h : ℕ) (v w : V) (Z : Pr) → ⟦ seat δ h v ⟧ ∗ ⟦ seat δ h w ⟧ ⊢ Z
    one_owner h v w Z = let a : Share × Gv = (three_quarters, c v) in let b : Share × Gv = (three_quarters, c w) in
        let F : Share × Gv → Pr = λ x. guard 𝓤 (x ∈ halved.op a b) ⟦ entry halved δ h x ⟧ in
        via 𝓤 (ex 𝓤 F) (entry_glue halved 𝓛 δ h a b) (ex_e 𝓤 F (λ x. guard_e 𝓤 (x ∈ halved.op a b) ⟦ entry halved δ h x ⟧ (λ m.
        absurd (three_quarters_once m.0.0))))

    -- there is no seat beyond the last one
    no_seat : (h k : ℕ) (q : Share) (v d : V) (Z : Pr) → ◌<◌ h (suc k) → ⟦ seat_share δ k q v ⟧ ∗ ⟦ unused c δ h d ⟧ ⊢ Z
    no_seat h k q v d Z low = qed 𝓛 (‵ (seat_share δ k q v) ∷ ‵ (unused c δ h d) ∷ []) ∵
        use2 𝓛 (given (OpDef halved.op (q, c v) (full_share, c d)) (‵ (seat_share δ k q v) ⊛ ‵ (unused c δ h d))) (entries_beside halved 𝓛 δ h k (λ _.
        (full_share, c d)) (q, c v) (omega arith)) $
        learn ! (λ x. absurd (not-OpDef-full_share q ((OpDef-comm (pcs shares) {a = q} {b = full_share}).0 x.0)))

    -- any share of a seat agrees with the roster
    pub agrees : (vs : List V) (k i j : ℕ) (q : Share) (v : V) → j ≡ k + i
        → ⟦ Roster k vs ⟧ ∗ ⟦ seat_share δ j q v ⟧ ⊢ guard 𝓤 (slice_get vs i ≡ Some v) (⟦ Roster k vs ⟧ ∗ ⟦ seat_share δ j q v ⟧)
    agrees [] k i j q v e =
        qed 𝓛 (‵ (Roster k []) ∷ ‵ (seat_share δ j q v) ∷ []) ∵ fpick ! (λ d. move ! (1 ∷ 0 ∷ []) $ by ! (no_seat k j q v d _ (omega arith)))
    agrees (w ∷ ws) k zero j q v e = let is : k ≡ j = omega arith in let Z : Pr = ⟦ Roster k (w ∷ ws) ⟧ ∗ ⟦ seat_share δ j q v ⟧ in
        qed 𝓛 ((‵ (Quarter k w) ⊛ ‵ (Roster (suc k) ws)) ∷ ‵ (seat_share δ j q v) ∷ []) ∵ split ! $
        rewrite ! 2 (λ (m : ℕ). ‵ (seat_share δ m q v)) (sym is) refl $ move ! (0 ∷ 2 ∷ []) $
        use2 𝓛 (given (w ≡ v) (‵ (Quarter k w) ⊛ ‵ (seat_share δ k q v))) (both_say k quarter q w v) $ learn ! (λ same. check ! (ap Some same) $ split ! $
        rewrite ! 1 (λ (m : ℕ). ‵ (seat_share δ m q v)) is refl $ move ! (0 ∷ 2 ∷ []) $ join ! $ done !)
    agrees (w ∷ ws) k (suc i) j q v e = qed 𝓛 ((‵ (Quarter k w) ⊛ ‵ (Roster (suc k) ws)) ∷ ‵ (seat_share δ j q v) ∷ []) ∵ split ! $ move ! (1 ∷ 2 ∷ []) $
        use2 𝓛 (given (slice_get ws i ≡ Some v) (‵ (Roster (suc k) ws) ⊛ ‵ (seat_share δ j q v))) (agrees ws (suc k) i j q v (omega arith)) $ learn ! (λ at.
        check ! at $ split ! $ move ! (2 ∷ 0 ∷ []) $ join ! $ done !)

    -- whoever has the whole of a seat sets it, and then has its two parts
    resets : (k : ℕ) (v u : V) → ⟦ seat_share δ k full_share v ⟧ ⊢ upd 𝓤 (⟦ Quarter k u ⟧ ∗ ⟦ seat δ k u ⟧)
    resets k v u = let B : Share × Gv → Type 0 = λ x. Path (Share × Gv) x (full_share, c u) in
        let F : Share × Gv → Pr = λ x. guard 𝓤 (B x) ⟦ entry halved δ k x ⟧ in let Z : Pr = ⟦ Quarter k u ⟧ ∗ ⟦ seat δ k u ⟧ in
        via 𝓤 (upd 𝓤 (ex 𝓤 F)) (entry_set halved 𝓛 δ k (full_share, c v) B ∣ ((full_share, c u), refl) ∣₁ (λ f d. absurd (not-OpDef-full_share f.0 d.0)))
        (upd_mono 𝓤 {P = ex 𝓤 F} {Q = Z} (ex_e 𝓤 F (λ x. guard_e 𝓤 (B x) ⟦ entry halved δ k x ⟧ (λ e.
        subst (λ (y : Share × Gv). ⟦ entry halved δ k y ⟧ ⊢ Z) (sym e)
        (entry_cut halved 𝓛 δ k (quarter, c u) (three_quarters, c u) (full_share, c u) (together quarter three_quarters full_share (c u) Share.quarters))))))

    joined : (k : ℕ) (w v : V) → ⟦ Quarter k w ⟧ ∗ ⟦ seat δ k v ⟧ ⊢ ⟦ seat_share δ k full_share w ⟧
    joined k w v = let F : Share × Gv → Pr = λ x. guard 𝓤 (x ∈ halved.op (quarter, c w) (three_quarters, c v)) ⟦ entry halved δ k x ⟧ in
        via 𝓤 (ex 𝓤 F) (entry_glue halved 𝓛 δ k (quarter, c w) (three_quarters, c v)) (ex_e 𝓤 F (λ x.
        guard_e 𝓤 (x ∈ halved.op (quarter, c w) (three_quarters, c v)) ⟦ entry halved δ k x ⟧ (λ m.
        subst (λ (y : Share × Gv). ⟦ entry halved δ k y ⟧ ⊢ ⟦ seat_share δ k full_share w ⟧) m.1 (base.Logic.id⊢ 𝓤 _))))

    abbrev Moved : ℕ → List V → ℕ → ℕ → V → Pr
    Moved k vs i j u = ⟦ Roster k (set vs i u) ⟧ ∗ ⟦ seat δ j u ⟧

    -- a seat and the roster change together
    pub moves : (vs : List V) (k i j : ℕ) (v u : V) → j ≡ k + i → ⟦ Roster k vs ⟧ ∗ ⟦ seat δ j v ⟧ ⊢ upd 𝓤 (Moved k vs i j u)
    moves [] k i j v u e = qed 𝓛 (‵ (Roster k []) ∷ ‵ (seat δ j v) ∷ []) ∵ fpick ! (λ d. move ! (1 ∷ 0 ∷ []) $
        by ! (no_seat k j three_quarters v d _ (omega arith)))
    moves (w ∷ ws) k zero j v u e = let is : k ≡ j = omega arith in qed 𝓛 ((‵ (Quarter k w) ⊛ ‵ (Roster (suc k) ws)) ∷ ‵ (seat δ j v) ∷ []) ∵ split ! $
        rewrite ! 2 (λ (m : ℕ). ‵ (seat δ m v)) (sym is) refl $ move ! (0 ∷ 2 ∷ []) $
        use2 𝓛 (‵ (seat_share δ k full_share w)) (joined k w v) $ use1 𝓛 (raw (upd 𝓤 (⟦ Quarter k u ⟧ ∗ ⟦ seat δ k u ⟧))) (resets k w u) $
        settle 𝓛 (Moved k (w ∷ ws) zero j u) (‵ (Quarter k u) ⊛ ‵ (seat δ k u)) $ split ! $
        suffices ! _ (upd_i 𝓤 (Moved k (w ∷ ws) zero j u)) $ rewrite ! 1 (λ (m : ℕ). ‵ (seat δ m u)) is refl $ move ! (0 ∷ 2 ∷ []) $ join ! $ done !
    moves (w ∷ ws) k (suc i) j v u e = let Z : Pr = Moved k (w ∷ ws) (suc i) j u in
        qed 𝓛 ((‵ (Quarter k w) ⊛ ‵ (Roster (suc k) ws)) ∷ ‵ (seat δ j v) ∷ []) ∵ split ! $ move ! (1 ∷ 2 ∷ []) $
        use2 𝓛 (raw (upd 𝓤 (Moved (suc k) ws i j u))) (moves ws (suc k) i j v u (omega arith)) $ settle 𝓛 Z (‵ (Roster (suc k) (set ws i u)) ⊛ ‵ (seat δ j u)) $
        split ! $ suffices ! _ (upd_i 𝓤 Z) $ move ! (2 ∷ 0 ∷ []) $ join ! $ done !

    abbrev Added : ℕ → List V → V → Pr
    Added k vs u = ⟦ Roster k (vs ++ u ∷ []) ⟧ ∗ ⟦ seat δ (k + length vs) u ⟧

    -- a new seat at the end
    pub adds : (vs : List V) (k : ℕ) (u : V) → ⟦ Roster k vs ⟧ ⊢ upd 𝓤 (Added k vs u)
    adds [] k u = let Z : Pr = Added k [] u in let is : k ≡ k + 0 = omega arith in qed 𝓛 (‵ (Roster k []) ∷ []) ∵ fpick ! (λ d.
        use1 𝓛 (‵ (seat_share δ k full_share d) ⊛ ‵ (unused c δ (suc k) d)) (entries_take halved 𝓛 δ k (λ _. (full_share, c d))) $ split ! $
        use1 𝓛 (raw (upd 𝓤 (⟦ Quarter k u ⟧ ∗ ⟦ seat δ k u ⟧))) (resets k d u) $ settle 𝓛 Z (‵ (Quarter k u) ⊛ ‵ (seat δ k u)) $ split ! $
        suffices ! _ (upd_i 𝓤 Z) $ rewrite ! 1 (λ (m : ℕ). ‵ (seat δ m u)) is refl $
        move ! (2 ∷ []) $ fpack ! V (unused c δ (suc k)) d $ move ! (1 ∷ 0 ∷ []) $ join ! $ done !)
    adds (w ∷ ws) k u = let Z : Pr = Added k (w ∷ ws) u in let is : suc k + length ws ≡ k + length (w ∷ ws) = omega arith in
        qed 𝓛 (‵ (Quarter k w) ∷ ‵ (Roster (suc k) ws) ∷ []) ∵ move ! (1 ∷ []) $
        use1 𝓛 (raw (upd 𝓤 (Added (suc k) ws u))) (adds ws (suc k) u) $ settle 𝓛 Z (‵ (Roster (suc k) (ws ++ u ∷ [])) ⊛ ‵ (seat δ (suc k + length ws) u)) $
        split ! $ suffices ! _ (upd_i 𝓤 Z) $
        rewrite ! 1 (λ (m : ℕ). ‵ (seat δ m u)) is refl $ move ! (2 ∷ 0 ∷ []) $ join ! $ done !

  -- ---- the history
  module _ (L : ℕ) (γ δ : GName) where
    abbrev Bk : ℕ → Fml
    Bk = Book L γ δ

    abbrev Now : List Step → Fml
    Now r = latest steps full_share γ r

    abbrev Seats : List HandleState → Fml
    Seats vs = roster state_code δ 0 vs

    abbrev Said : List Step → Step → Reply → Fml
    Said = Ends L γ δ

    -- what was reached is a prefix of the history now
    bounds : (r before : List Step) → ⟦ Now r ⟧ ∗ ⟦ reached γ before ⟧ ⊢ guard 𝓤 (IsPrefix before r) (⟦ Now r ⟧ ∗ ⟦ reached γ before ⟧)
    bounds r before = latest_bounds steps 𝓛 full_share γ r before

    pub reached_twice : (r : List Step) → ⟦ reached γ r ⟧ ⊢ ⟦ reached γ r ⟧ ∗ ⟦ reached γ r ⟧
    reached_twice r = at_least_dup steps 𝓛 γ r

    book_in : (n : ℕ) (r : List Step) (vs : List HandleState) → Keeps L r (word_of n) vs → ⟦ Now r ⟧ ∗ ⟦ Seats vs ⟧ ⊢ ⟦ Bk n ⟧
    book_in n r vs keeps = qed 𝓛 (‵ (Now r) ∷ ‵ (Seats vs) ∷ []) ∵ nothing ! $ fpack ! (Keeps L r (word_of n) vs) (λ _. ftrue) keeps $ fjoin3 ! $
        fpack ! (List Step × List HandleState) (book L γ δ n) (r, vs) $ done !

    -- with one more step, the history is later than each of its prefixes
    one_later : (before r : List Step) (s : Step) → IsPrefix before r → IsLater before (r ++ s ∷ [])
    one_later before r s starts = (
      steps.trans before r (r ++ s ∷ []) starts (s ∷ [], refl),
      omega (arith, length-append before starts.0, ap length starts.1, length-append r (s ∷ [])),
    )

    -- the history with one more step, and what the core answered
    turns : (n : ℕ) (r before : List Step) (s : Step) (reply : Reply) (vs : List HandleState) → IsPrefix before r → Prolongs L r s reply (word_of n) vs
        → ⟦ Now r ⟧ ∗ ⟦ Seats vs ⟧ ⊢ upd 𝓤 (⟦ Bk n ⟧ ∗ ⟦ Said before s reply ⟧)
    turns n r before s reply vs starts on = let r' : List Step = r ++ s ∷ [] in let Z : Pr = ⟦ Bk n ⟧ ∗ ⟦ Said before s reply ⟧ in
        qed 𝓛 (‵ (Now r) ∷ ‵ (Seats vs) ∷ []) ∵ use1 𝓛 (raw (upd 𝓤 ⟦ Now r' ⟧)) (latest_grows steps 𝓛 γ r r' (s ∷ [], refl)) $ settle 𝓛 Z (‵ (Now r')) $
        suffices ! _ (upd_i 𝓤 Z) $
        use1 𝓛 (‵ (Now r') ⊛ ‵ (reached γ r')) (latest_shows steps 𝓛 full_share γ r' r' (steps.same r')) $ split ! $ move ! (1 ∷ []) $
        nothing ! $ fpack ! (EndsIn L r' s reply × IsLater before r') (λ _. ftrue) (on.ends, one_later before r s starts) $ fjoin ! $
        fpack ! (List Step) (reached_ending L γ δ before s reply) r' $
        move ! (1 ∷ 2 ∷ []) $ use2 𝓛 (‵ (Bk n)) (book_in n r' vs on.keeps) $ done !

    -- a step of a free handle, by a share of its seat
    by_share : (n n' h : ℕ) (q : Share) (before : List Step) (s : Step) (reply : Reply)
        → ((r : List Step) (vs : List HandleState) → Keeps L r (word_of n) vs → slice_get vs h ≡ Some Free → Prolongs L r s reply (word_of n') vs)
        → ⟦ Bk n ⟧ ∗ ⟦ seat_share δ h q Free ⟧ ∗ ⟦ reached γ before ⟧ ⊢ upd 𝓤 (⟦ Bk n' ⟧ ∗ ⟦ seat_share δ h q Free ⟧ ∗ ⟦ Said before s reply ⟧)
    by_share n n' h q before s reply law = let Z : Pr = ⟦ Bk n' ⟧ ∗ ⟦ seat_share δ h q Free ⟧ ∗ ⟦ Said before s reply ⟧ in
        qed 𝓛 (‵ (Bk n) ∷ ‵ (seat_share δ h q Free) ∷ ‵ (reached γ before) ∷ []) ∵ fpick ! (λ x. fsplit3 ! $ fpick ! (λ keeps. drop ! $ move ! (1 ∷ 2 ∷ []) $
        use2 𝓛 (given (slice_get x.1 h ≡ Some Free) (‵ (Seats x.1) ⊛ ‵ (seat_share δ h q Free))) (agrees δ x.1 0 h h q Free (sym
        (Rattle.std.proofs.Common.zero-add h))) $ learn ! (λ at. split ! $ move ! (2 ∷ 3 ∷ []) $
        use2 𝓛 (given (IsPrefix before x.0) (‵ (Now x.0) ⊛ ‵ (reached γ before))) (bounds x.0 before) $ learn ! (λ starts. split ! $ move ! (0 ∷ 2 ∷ []) $
        use2 𝓛 (raw (upd 𝓤 (⟦ Bk n' ⟧ ∗ ⟦ Said before s reply ⟧))) (turns n' x.0 before s reply x.1 starts (law x.0 x.1 keeps at)) $
        settle 𝓛 Z (‵ (Bk n') ⊛ ‵ (Said before s reply)) $ split ! $ suffices ! _ (upd_i 𝓤 Z) $ keep ! (0 ∷ 3 ∷ 1 ∷ []) $ done !))))

    pub book_look : (n h : ℕ) (q : Share) (before : List Step) → ⟦ Bk n ⟧ ∗ ⟦ seat_share δ h q Free ⟧ ∗ ⟦ reached γ before ⟧
        ⊢ upd 𝓤 (⟦ Bk n ⟧ ∗ ⟦ seat_share δ h q Free ⟧ ∗ ⟦ Said before (Look h) (look_reply (looked_of (word_of n))) ⟧)
    book_look n h q before = by_share n n h q before (Look h) (look_reply (looked_of (word_of n))) (λ r vs keeps at. keeps-look L r (word_of n) vs h keeps at)

    pub book_mark : (n h : ℕ) (q : Share) (before : List Step) → ⟦ Bk n ⟧ ∗ ⟦ seat_share δ h q Free ⟧ ∗ ⟦ reached γ before ⟧
        ⊢ upd 𝓤 (⟦ Bk (bit_or n 1) ⟧ ∗ ⟦ seat_share δ h q Free ⟧ ∗ ⟦ Said before (Leak h) Marked ⟧)
    book_mark n h q before = by_share n (bit_or n 1) h q before (Leak h) Marked (λ r vs keeps at.
        subst (λ (w : FlagAndCount). Prolongs L r (Leak h) Marked w vs) (sym (word_marked n)) (keeps-leak L r (word_of n) vs h keeps at))

    -- a free handle lives in each history that was reached, with no step
    pub book_lives : (n h : ℕ) (q : Share) (before : List Step)
        → ⟦ Bk n ⟧ ∗ ⟦ seat_share δ h q Free ⟧ ∗ ⟦ reached γ before ⟧ ⊢ guard 𝓤 (Lives L before h) (⟦ Bk n ⟧ ∗ ⟦ seat_share δ h q Free ⟧)
    book_lives n h q before =
        qed 𝓛 (‵ (Bk n) ∷ ‵ (seat_share δ h q Free) ∷ ‵ (reached γ before) ∷ []) ∵ fpick ! (λ x. fsplit3 ! $ fpick ! (λ keeps. drop ! $ move ! (1 ∷ 2 ∷ []) $
        use2 𝓛 (given (slice_get x.1 h ≡ Some Free) (‵ (Seats x.1) ⊛ ‵ (seat_share δ h q Free))) (agrees δ x.1 0 h h q Free (sym
        (Rattle.std.proofs.Common.zero-add h))) $ learn ! (λ at. split ! $ move ! (2 ∷ 3 ∷ []) $
        use2 𝓛 (given (IsPrefix before x.0) (‵ (Now x.0) ⊛ ‵ (reached γ before))) (bounds x.0 before) $ learn ! (λ starts. split ! $ move ! (0 ∷ 2 ∷ []) $
        use2 𝓛 (‵ (Bk n)) (book_in n x.0 x.1 keeps) $ check ! (free_lives L x.0 (word_of n) x.1 h keeps at before starts) $ keep ! (0 ∷ 2 ∷ []) $ done !))))

    -- a clone by the handle h is born with a seat of its own, after the history `before`
    abbrev pub born : ℕ → List Step → ℕ → Fml
    born h before j = fsep (seat δ j Free) (Said before (Clone h) (Handle j))

    abbrev pub NewSeat : ℕ → List Step → Fml
    NewSeat h before = fex ℕ (born h before)

    pub book_clone : (n n' h : ℕ) (q : Share) (before : List Step) → word_of n' ≡ cloned_of L (word_of n) → ⟦ Bk n ⟧ ∗ ⟦ seat_share δ h q Free ⟧
        ∗ ⟦ reached γ before ⟧ ⊢ upd 𝓤 (⟦ Bk n' ⟧ ∗ ⟦ seat_share δ h q Free ⟧ ∗ ⟦ NewSeat h before ⟧)
    book_clone n n' h q before is = let Z : Pr = ⟦ Bk n' ⟧ ∗ ⟦ seat_share δ h q Free ⟧ ∗ ⟦ NewSeat h before ⟧ in
        qed 𝓛 (‵ (Bk n) ∷ ‵ (seat_share δ h q Free) ∷ ‵ (reached γ before) ∷ []) ∵ fpick ! (λ x. fsplit3 ! $ fpick ! (λ keeps. drop ! $ move ! (1 ∷ 2 ∷ []) $
        let vs : List HandleState = x.1 ++ Free ∷ [] in let j : ℕ = length x.1 in
        use2 𝓛 (given (slice_get x.1 h ≡ Some Free) (‵ (Seats x.1) ⊛ ‵ (seat_share δ h q Free))) (agrees δ x.1 0 h h q Free (sym
        (Rattle.std.proofs.Common.zero-add h))) $ learn ! (λ at. split ! $ move ! (2 ∷ 3 ∷ []) $
        use2 𝓛 (given (IsPrefix before x.0) (‵ (Now x.0) ⊛ ‵ (reached γ before))) (bounds x.0 before) $ learn ! (λ starts. split ! $ move ! (2 ∷ []) $
        use1 𝓛 (raw (upd 𝓤 (⟦ Seats vs ⟧ ∗ ⟦ seat δ (0 + j) Free ⟧))) (adds δ x.1 0 Free) $
        settle 𝓛 Z (‵ (Seats vs) ⊛ ‵ (seat δ (0 + j) Free)) $ split ! $
        -- [the seats; the new seat; the history; the history before; the handle's seat]
        rewrite ! 1 (λ (m : ℕ). ‵ (seat δ m Free)) (Rattle.std.proofs.Common.zero-add j) refl $ move ! (2 ∷ 0 ∷ []) $
        let on : Prolongs L x.0 (Clone h) (Handle j) (word_of n') vs =
        subst (λ (w : FlagAndCount). Prolongs L x.0 (Clone h) (Handle j) w vs) (sym is) (keeps-clone L x.0 (word_of n) x.1 h keeps at) in
        use2 𝓛 (raw (upd 𝓤 (⟦ Bk n' ⟧ ∗ ⟦ Said before (Clone h) (Handle j) ⟧))) (turns n' x.0 before (Clone h) (Handle j) vs starts on) $
        settle 𝓛 Z (‵ (Bk n') ⊛ ‵ (Said before (Clone h) (Handle j))) $ split ! $ suffices ! _ (upd_i 𝓤 Z) $ move ! (2 ∷ 1 ∷ []) $ fjoin ! $
        fpack ! ℕ (born h before) j $ keep ! (1 ∷ 3 ∷ 0 ∷ []) $ done !))))

    -- a step of a handle that has its seat
    by_seat : (n n' h : ℕ) (v u : HandleState) (before : List Step) (s : Step) (reply : Reply)
        → ((r : List Step) (vs : List HandleState) → Keeps L r (word_of n) vs → slice_get vs h ≡ Some v → Prolongs L r s reply (word_of n') (set vs h u))
        → ⟦ Bk n ⟧ ∗ ⟦ seat δ h v ⟧ ∗ ⟦ reached γ before ⟧ ⊢ upd 𝓤 (⟦ Bk n' ⟧ ∗ ⟦ seat δ h u ⟧ ∗ ⟦ Said before s reply ⟧)
    by_seat n n' h v u before s reply law = let Z : Pr = ⟦ Bk n' ⟧ ∗ ⟦ seat δ h u ⟧ ∗ ⟦ Said before s reply ⟧ in
        let zero_h : h ≡ 0 + h = sym (Rattle.std.proofs.Common.zero-add h) in
        qed 𝓛 (‵ (Bk n) ∷ ‵ (seat δ h v) ∷ ‵ (reached γ before) ∷ []) ∵ fpick ! (λ x. fsplit3 ! $ fpick ! (λ keeps. drop ! $ move ! (1 ∷ 2 ∷ []) $
        let vs : List HandleState = set x.1 h u in
        use2 𝓛 (given (slice_get x.1 h ≡ Some v) (‵ (Seats x.1) ⊛ ‵ (seat δ h v))) (agrees δ x.1 0 h h three_quarters v zero_h) $ learn ! (λ at. split ! $
        use2 𝓛 (raw (upd 𝓤 (⟦ Seats vs ⟧ ∗ ⟦ seat δ h u ⟧))) (moves δ x.1 0 h h v u zero_h) $ settle 𝓛 Z (‵ (Seats vs) ⊛ ‵ (seat δ h u)) $ split ! $
        move ! (2 ∷ 3 ∷ []) $
        use2 𝓛 (given (IsPrefix before x.0) (‵ (Now x.0) ⊛ ‵ (reached γ before))) (bounds x.0 before) $ learn ! (λ starts. split ! $ move ! (0 ∷ 2 ∷ []) $
        use2 𝓛 (raw (upd 𝓤 (⟦ Bk n' ⟧ ∗ ⟦ Said before s reply ⟧))) (turns n' x.0 before s reply vs starts (law x.0 x.1 keeps at)) $
        settle 𝓛 Z (‵ (Bk n') ⊛ ‵ (Said before s reply)) $ split ! $ suffices ! _ (upd_i 𝓤 Z) $ keep ! (0 ∷ 3 ∷ 1 ∷ []) $ done !))))

    abbrev pub begun : ℕ → HandleState
    begun n = if (word_of n).flag then Gone else Dropping

    abbrev pub begin_reply : ℕ → Reply
    begin_reply n = if (word_of n).flag then Ended else Looked

    pub book_begin : (n h : ℕ) (before : List Step)
        → ⟦ Bk n ⟧ ∗ ⟦ seat δ h Free ⟧ ∗ ⟦ reached γ before ⟧ ⊢ upd 𝓤 (⟦ Bk n ⟧ ∗ ⟦ seat δ h (begun n) ⟧ ∗ ⟦ Said before (Begin h) (begin_reply n) ⟧)
    book_begin n h before = by_seat n n h Free (begun n) before (Begin h) (begin_reply n) (λ r vs keeps at. keeps-begin L r (word_of n) vs h keeps at)

    abbrev pub left_in : ℕ → HandleState
    left_in n = if is_last (word_of n) then Owing else Gone

    abbrev pub sub_reply : ℕ → Reply
    sub_reply n = if is_last (word_of n) then Owes else Left

    pub book_sub : (n h : ℕ) (before : List Step) → n < 2 ^ 64 → ⟦ Bk n ⟧ ∗ ⟦ seat δ h Dropping ⟧ ∗ ⟦ reached γ before ⟧
        ⊢ upd 𝓤 (⟦ Bk (one_less n) ⟧ ∗ ⟦ seat δ h (left_in n) ⟧ ∗ ⟦ Said before (Sub h) (sub_reply n) ⟧)
    book_sub n h before fits =
        by_seat n (one_less n) h Dropping (left_in n) before (Sub h) (sub_reply n) (λ r vs keeps at. let on = keeps-sub L r (word_of n) vs h keeps at in
        subst (λ (w : FlagAndCount). Prolongs L r (Sub h) (sub_reply n) w (set vs h (left_in n))) (sym (word_dropped n fits on.0)) on.1)

    pub book_back : (n h : ℕ) (before : List Step)
        → ⟦ Bk n ⟧ ∗ ⟦ seat δ h Owing ⟧ ∗ ⟦ reached γ before ⟧ ⊢ upd 𝓤 (⟦ Bk n ⟧ ∗ ⟦ seat δ h Gone ⟧ ∗ ⟦ Said before (Back h) Given ⟧)
    book_back n h before = by_seat n n h Owing Gone before (Back h) Given (λ r vs keeps at. keeps-back L r (word_of n) vs h keeps at)

    -- ---- the steps of a clone by the handle h, after the history `before`, depending on the word that they find
    module _ (h : ℕ) (q : Share) (before : List Step) where
      abbrev Mine : Fml
      Mine = seat_share δ h q Free

      abbrev New : Fml
      New = NewSeat h before

      abbrev NewIf : Type 0 → Fml
      NewIf event = fall event (λ _. New)

      clone : (n n' : ℕ) (event : Type 0)
          → Rattle.arcstr_block.specs.Word.word_of n' ≡ Rattle.arcstr_count.specs.Word.cloned_of L (Rattle.arcstr_block.specs.Word.word_of n)
          → ⟦ Bk n ⟧ ∗ ⟦ Mine ⟧ ∗ ⟦ reached γ before ⟧ ⊢ upd 𝓤 (⟦ Bk n' ⟧ ∗ ⟦ Mine ⟧ ∗ ⟦ NewIf event ⟧)
      clone n n' event is = let Z : Pr = ⟦ Bk n' ⟧ ∗ ⟦ Mine ⟧ ∗ ⟦ NewIf event ⟧ in qed 𝓛 (‵ (Bk n) ∷ ‵ Mine ∷ ‵ (reached γ before) ∷ []) ∵
          use3 𝓛 (raw (upd 𝓤 (⟦ Bk n' ⟧ ∗ ⟦ Mine ⟧ ∗ ⟦ New ⟧))) (book_clone n n' h q before is) $ settle 𝓛 Z (‵ (Bk n') ⊛ ‵ Mine ⊛ ‵ New) $
          suffices ! _ (upd_i 𝓤 Z) $ split3 ! $ move ! (2 ∷ []) $
          use1 𝓛 (‵ (NewIf event)) (all_i 𝓤 {P = ⟦ New ⟧} (λ (_ : event). ⟦ New ⟧) (λ _. id⊢ 𝓤 ⟦ New ⟧)) $ move ! (1 ∷ 2 ∷ 0 ∷ []) $ done !

      no_clone : (n : ℕ) (event : Type 0) → (event → ⊥)
          → ⟦ Bk n ⟧ ∗ ⟦ Mine ⟧ ∗ ⟦ reached γ before ⟧ ⊢ upd 𝓤 (⟦ Bk n ⟧ ∗ ⟦ Mine ⟧ ∗ ⟦ NewIf event ⟧)
      no_clone n event none = let Z : Pr = ⟦ Bk n ⟧ ∗ ⟦ Mine ⟧ ∗ ⟦ NewIf event ⟧ in qed 𝓛 (‵ (Bk n) ∷ ‵ Mine ∷ ‵ (reached γ before) ∷ []) ∵
          suffices ! _ (upd_i 𝓤 Z) $ nothing ! $
          use1 𝓛 (‵ (NewIf event)) (all_i 𝓤 {P = emp 𝓤} (λ (_ : event). ⟦ New ⟧) (λ y. absurd (none y))) $ keep ! (1 ∷ 2 ∷ 0 ∷ []) $ done !

      -- a load: if it finds the word marked, the clone is born
      pub finds : (n : ℕ) → ⟦ Bk n ⟧ ∗ ⟦ Mine ⟧ ∗ ⟦ reached γ before ⟧ ⊢ upd 𝓤 (⟦ Bk n ⟧ ∗ ⟦ Mine ⟧ ∗ ⟦ NewIf (IsMarked n) ⟧)
      finds n = elim (odd_or_even n) [
        | inl odd ↦ clone n n (IsMarked n) (word_kept L n odd)
        | inr even ↦ no_clone n (IsMarked n) (λ odd. absurd (omega (arith, odd, even)))
      ]

      -- a compare-exchange of old to its clone new
      module _ (old new : ℕ) (asked : IsClone L old new) where
        abbrev to : ℕ → ℕ
        to n = either (eqb n old) new n

        abbrev Turn : ℕ → ℕ → Type 1
        Turn n n' = ⟦ Bk n ⟧ ∗ ⟦ Mine ⟧ ∗ ⟦ reached γ before ⟧ ⊢ upd 𝓤 (⟦ Bk n' ⟧ ∗ ⟦ Mine ⟧ ∗ ⟦ NewIf (IsMarkedOr old n) ⟧)

        hit : Turn old (to old)
        hit = subst (Turn old) (sym (ap (λ y. either y new old) (eq-eqb old old refl))) (clone old new (IsMarkedOr old old) (word_cloned L old new asked))

        missed : (n : ℕ) → n ≢ old → Turn n n
        missed n ne = elim (odd_or_even n) [
          | inl odd ↦ clone n n (IsMarkedOr old n) (word_kept L n odd)
          | inr even ↦ no_clone n (IsMarkedOr old n) (λ y. elim y [ inl odd ↦ absurd (omega (arith, odd, even)) | inr e ↦ absurd (ne e) ])
        ]

        pub raises : (n : ℕ) → Turn n (to n)
        raises n = dite (ℕ_discrete n old)
            (λ e. subst (λ (m : ℕ). Turn m (to m)) (sym e) hit)
            (λ ne. subst (Turn n) (sym (ap (λ y. either y new n) (ne_eqb n old ne))) (missed n ne))

  -- the book of a new block
  module _ (L : ℕ) where
    abbrev Fresh : BlockName → Pr
    Fresh z = ⟦ Book L z.history z.seats 2 ⟧ ∗ ⟦ seat z.seats 0 Free ⟧ ∗ ⟦ reached z.history (Make ∷ []) ⟧

    pub book_new : emp 𝓤 ⊢ upd 𝓤 (ex 𝓤 Fresh)
    book_new = let Z : Pr = ex 𝓤 Fresh in let r : List Step = Make ∷ [] in
        qed 𝓛 [] ∵ use0 𝓛 (raw (upd 𝓤 (ex 𝓤 (λ (γ : GName). ⟦ latest steps full_share γ r ⟧)))) (latest_new steps 𝓛 r) $
        settle 𝓛 Z (some (λ (γ : GName). ‵ (latest steps full_share γ r))) $ pick ! (λ γ.
        use0 𝓛 (raw (upd 𝓤 (ex 𝓤 (λ (δ : GName). ⟦ unused state_code δ 0 Gone ⟧)))) (entries_new halved 𝓛 0 (λ _. (full_share, state_code Gone))) $
        settle 𝓛 Z (some (λ (δ : GName). ‵ (unused state_code δ 0 Gone))) $ pick ! (λ δ.
        fpack ! HandleState (unused state_code δ 0) Gone $
        use1 𝓛 (raw (upd 𝓤 (⟦ roster state_code δ 0 (Free ∷ []) ⟧ ∗ ⟦ seat δ (0 + 0) Free ⟧))) (adds δ [] 0 Free) $
        settle 𝓛 Z (‵ (roster state_code δ 0 (Free ∷ [])) ⊛ ‵ (seat δ (0 + 0) Free)) $ split ! $ suffices ! _ (upd_i 𝓤 Z) $
        show ! Fresh (record { history = γ; seats = δ }) $
        move ! (2 ∷ []) $
        use1 𝓛 (‵ (latest steps full_share γ r) ⊛ ‵ (reached γ r)) (latest_shows steps 𝓛 full_share γ r r (steps.same r)) $ split ! $ move ! (0 ∷ 2 ∷ []) $
        use2 𝓛 (‵ (Book L γ δ 2)) (book_in L γ δ 2 r (Free ∷ []) (keeps-make L)) $ move ! (0 ∷ 2 ∷ 1 ∷ []) $ done !))
