-- What a `&` to a pointer holds: a share of its token, the invariant and what is shared. A pointer can cross threads if its content and its
-- allocator can. Assumes `Logic`.
use Rattle.arcstr_block.proofs.Names.{◌≡◌, ℕ, Bool, true, [], ◌∷◌, false, List, length, suc, dite, Ura, bare, before, Lft, Share, Fml, fsep, flft, finv, GName}
use Rattle.arcstr_block.proofs.Names.{fdead, fshr_bor, ftrue, fwand, fseps, fupd, fbor, full_share, Counts, latest, at_least, emp, all_i, upd_i, id⊢, ent, sep}
use Rattle.arcstr_block.proofs.Names.{all_e, snd∗, three_quarters, Array, u8, usize, IsSend, IsSync, Common, AllSend, Frees, owning_send, struct_send}
use Rattle.arcstr_block.proofs.Names.{struct_sync, sendable, RattleType, block_of, Ptr, ShrLaws, said, beside, always, held, beside_shr_laws, one_shr_laws}
use Rattle.arcstr_block.proofs.Names.{always_shr_laws, held_shr_laws, nothing_shr_laws, contraction, no_item, Lends, Lends-nothing, shape, fields, to, exits_of}
use Rattle.arcstr_block.proofs.Names.{entry_keyless, entries_keyless, ‵, ◌⊛◌, ◌$◌, ◌∵◌, !, qed, move, use1, split, split3, fsplit, fjoin, fpick, fpack}
use Rattle.arcstr_block.proofs.Names.{updating, now, done, keep, fsplit3, assume, drop, suffices, use3, Logic, sem, obor_close, bor_fracture, bor_open}
use Rattle.arcstr_block.proofs.Names.{obor_alter, Ghosts, halved, HandleState, Free, Dropping, Owing, Step, BlockName, Book, reached, seat, steps, state_code}
use Rattle.arcstr_block.proofs.Names.{seat_share, Id, unmarked, if_alive, Inv, knows, free, held_with, Phase, marked, rest, right_to, shown, free_shown, known}
use Rattle.arcstr_block.proofs.Names.{permanent, with_share, seen, stated, block_owns, block_shares, word_at, block_type, length_at, uncounted, counted, Right}
use Rattle.arcstr_block.proofs.Names.{dropping, owed, fixed, operators, rim, block_ptr, null_ptr}
use denote.RawPtr.{◌+ₚ◌}
use denote.Sharing.{one}
use Rattle.core.proofs.cell.Borrows.{by_one}
use Rattle.arcstr_block.proofs.Words.{is_right}
use Rattle.arcstr_block.specs.Rights.{nothing}
use Rattle.arcstr_block.proofs.Book.{reached_twice}
use base.Shift.{Keyless}
use denote.Builtin.{RawPtr}
use Rattle.std_alloc.proofs.SendSync.{quiet, lies, seen as lent}
use Rattle.core.specs.contracts.marker.PhantomData as Marker
use Rattle.core.specs.Mem.Slots.Ownership.{slot, slots, owned}
use Rattle.arcstr_block.specs.contracts.block.Row as Row
use Rattle.arcstr_block.specs.contracts.block.Blank as S
use Rattle.arcstr_block.specs.contracts.pointer.Pointer as C

permanent_twice : {M : Type 1} {𝓤 : Ura M} (𝓛 : Logic 𝓤) (P : Fml) (L b o : ℕ) (t : Id)
    → ent 𝓤 (sem 𝓛 (permanent P L b o t)) (sep 𝓤 (sem 𝓛 (permanent P L b o t)) (sem 𝓛 (permanent P L b o t)))
permanent_twice 𝓛 P L b o t = let a : Lft = t.sharing ∷ [] in qed 𝓛 (‵ (permanent P L b o t) ∷ []) ∵ fsplit ! $
    use1 𝓛 (‵ (fshr_bor [] (λ q. flft a q)) ⊛ ‵ (fshr_bor [] (λ q. flft a q))) (𝓛.shr_bors.shr_bor_dup [] (λ q. flft a q)) $ split ! $ move ! (2 ∷ []) $
    use1 𝓛 (‵ (fdead (t.counting ∷ [])) ⊛ ‵ (fdead (t.counting ∷ []))) (𝓛.lfts.dead_dup (t.counting ∷ [])) $ split ! $ move ! (2 ∷ 0 ∷ []) $ fjoin ! $
    move ! (2 ∷ 1 ∷ []) $
    fjoin ! $ done !

permanent_laws : (P : Fml) (L b o : ℕ) (t : Id) → ShrLaws (said (permanent P L b o t))
permanent_laws P L b o t =
    record { contraction = λ M 𝓤 𝓛 κ. permanent_twice 𝓛 P L b o t; mono = λ M 𝓤 𝓛 κ' κ. snd∗ 𝓤 (sem 𝓛 (before κ' κ)) (sem 𝓛 (permanent P L b o t)) }

pub knows_twice : {M : Type 1} {𝓤 : Ura M} (𝓛 : Logic 𝓤) (t : Id) (right : Right)
    → ent 𝓤 (sem 𝓛 (knows t right)) (sep 𝓤 (sem 𝓛 (knows t right)) (sem 𝓛 (knows t right)))
knows_twice {𝓤 = 𝓤} 𝓛 t right = let D = 𝓛.A.dead (t.counting ∷ []) in let K = λ (_ : right ≡ uncounted). D in dite (is_right right uncounted)
    (λ e. qed 𝓛 (‵ (knows t right) ∷ []) ∵ use1 𝓛 (‵ (fdead (t.counting ∷ []))) (all_e 𝓤 K e) $
    use1 𝓛 (‵ (fdead (t.counting ∷ [])) ⊛ ‵ (fdead (t.counting ∷ []))) (𝓛.lfts.dead_dup (t.counting ∷ [])) $ split ! $
    use1 𝓛 (‵ (knows t right)) (all_i 𝓤 {P = D} K (λ _. id⊢ 𝓤 D)) $ move ! (1 ∷ []) $ use1 𝓛 (‵ (knows t right)) (all_i 𝓤 {P = D} K (λ _. id⊢ 𝓤 D)) $ done !)
    (λ ne. qed 𝓛 (‵ (knows t right) ∷ []) ∵ no_item ! $ use1 𝓛 (‵ (knows t right)) (all_i 𝓤 {P = emp 𝓤} K (λ e. absurd (ne e))) $ done !)

knows_laws : (t : Id) (right : Right) → ShrLaws (said (knows t right))
knows_laws t right = record { contraction = λ M 𝓤 𝓛 κ. knows_twice 𝓛 t right; mono = λ M 𝓤 𝓛 κ' κ. snd∗ 𝓤 (sem 𝓛 (before κ' κ)) (sem 𝓛 (knows t right)) }

pub known_twice : {M : Type 1} {𝓤 : Ura M} (𝓛 : Logic 𝓤) (t : Id) (block : BlockName) (r : List Step)
    → ent 𝓤 (sem 𝓛 (known t block r)) (sep 𝓤 (sem 𝓛 (known t block r)) (sem 𝓛 (known t block r)))
known_twice 𝓛 t block r = qed 𝓛 (‵ (known t block r) ∷ []) ∵ fsplit ! $ fpick ! (λ e. drop ! $
    use1 𝓛 (‵ (reached t.name.history r) ⊛ ‵ (reached t.name.history r)) (reached_twice 𝓛 0 t.name.history t.name.seats r) $ split ! $
    no_item ! $ fpack ! (t.name ≡ block) (λ _. ftrue) e $ fjoin ! $ move ! (1 ∷ []) $ no_item ! $ fpack ! (t.name ≡ block) (λ _. ftrue) e $ fjoin ! $ done !)

pub known_laws : (t : Id) (block : BlockName) (r : List Step) → ShrLaws (said (known t block r))
known_laws t block r = record { contraction = λ M 𝓤 𝓛 κ. known_twice 𝓛 t block r; mono = λ M 𝓤 𝓛 κ' κ. snd∗ 𝓤 (sem 𝓛 (before κ' κ)) (sem 𝓛 (known t block r)) }

module _ (P : Fml) (L b o : ℕ) (s : Lft → Fml) (laws : ShrLaws s) (h : ℕ) where
  seen_laws : (t : Id) → ShrLaws (seen P L b o t s h)
  seen_laws t = beside_shr_laws (always (Inv P L b o t)) (held (t.sharing ∷ []) s) (always_shr_laws (Inv P L b o t)) (held_shr_laws (t.sharing ∷ []) s laws)

  free_laws : (t : Id) (right : Right) → ShrLaws (free_shown P L b o t s h right)
  free_laws t right = beside_shr_laws (one (λ q. flft (t.sharing ∷ []) q)) (beside (one (λ q.
      seat_share t.name.seats h q Free)) (beside (said (knows t right)) (seen P L b o t s h))) (one_shr_laws (λ q. flft (t.sharing ∷ []) q))
      (beside_shr_laws (one (λ q. seat_share t.name.seats h q Free)) (beside (said (knows t right)) (seen P L b o t s h)) (one_shr_laws
      (λ q. seat_share t.name.seats h q Free))
      (beside_shr_laws (said (knows t right)) (seen P L b o t s h) (knows_laws t right) (seen_laws t)))

  pub shown_laws : (t : Id) (right : Right) → ShrLaws (shown P L b o t s h right)
  shown_laws t nothing = nothing_shr_laws
  shown_laws t counted = free_laws t counted
  shown_laws t uncounted = free_laws t uncounted
  shown_laws t fixed = beside_shr_laws (said (permanent P L b o t)) (seen P L b o t s h) (permanent_laws P L b o t) (seen_laws t)
  shown_laws t dropping = nothing_shr_laws
  shown_laws t owed = nothing_shr_laws

  module _ {M : Type 1} {𝓤 : Ura M} (𝓛 : Logic 𝓤) (t : Id) where
    open 𝓛 use {H, A}
    open operators 𝓛 use {entails as ◌⊢◌, both as ◌∗◌, meaning as ⟦◌⟧}

    infix 26 ◌⊢◌
    infixr 35 ◌∗◌
    abbrev I : Fml
    I = Inv P L b o t

    abbrev a : Lft
    a = t.sharing ∷ []

    abbrev Mine : Fml
    Mine = seat t.name.seats h Free

    abbrev Holds : Right → Fml
    Holds = held_with P L b o t s h

    abbrev FreeHolds : Right → Fml
    FreeHolds right = fsep (finv I) (free P L b o t s h right)

    abbrev Shown : Right → Lft → Fml
    Shown = shown P L b o t s h

    abbrev FreeShown : Right → Lft → Fml
    FreeShown = free_shown P L b o t s h

    pub free_in : (right : Right) (e : Share) → (right ≡ counted → Counts 63 e 1)
        → A.lft a e ∗ ⟦ knows t right ⟧ ∗ ⟦ s a ⟧ ∗ ⟦ Mine ⟧ ⊢ ⟦ free P L b o t s h right ⟧
    free_in right e c = qed 𝓛 (‵ (flft a e) ∷ ‵ (knows t right) ∷ ‵ (s a) ∷ ‵ Mine ∷ []) ∵ move ! (2 ∷ 3 ∷ []) $ fjoin ! $ move ! (2 ∷ 0 ∷ []) $ fjoin ! $
        move ! (1 ∷ 0 ∷ []) $ fjoin ! $
        no_item ! $ fpack ! (right ≡ counted → Counts 63 e 1) (λ _. ftrue) c $ fjoin ! $ fpack ! Share (with_share P L b o t s h right) e $ done !

    -- the share and the seat return when the borrow ends
    again : (κ : Lft) (right : Right) (e : Share) → (right ≡ counted → Counts 63 e 1)
        → ⟦ finv I ⟧ ∗ ⟦ knows t right ⟧ ∗ ⟦ s a ⟧ ⊢ ⟦ fwand (fsep (fdead κ) (fseps (flft a e ∷ Mine ∷ []))) (fupd (FreeHolds right)) ⟧
    unfolding fseps
    again κ right e c = qed 𝓛 (‵ (finv I) ∷ ‵ (knows t right) ∷ ‵ (s a) ∷ []) ∵ assume ! (‵ (fsep (fdead κ) (fsep (flft a e) (fsep Mine ftrue)))) $
        suffices ! ⟦ FreeHolds right ⟧ (upd_i 𝓤 ⟦ FreeHolds right ⟧) $
        fsplit3 ! $ move ! (2 ∷ []) $ fsplit ! $ keep ! (3 ∷ 5 ∷ 6 ∷ 0 ∷ 4 ∷ []) $ types.Kit.group ! 4 $
        use1 𝓛 (‵ (free P L b o t s h right)) (free_in right e c) $ move ! (1 ∷ 0 ∷ []) $ fjoin ! $ done !

    lends_free : (right : Right) (κ : Lft) (q : Share) → A.bor κ (FreeHolds right) ∗ A.lft κ q ⊢ H.⇛ (⟦ FreeShown right κ ⟧ ∗ A.lft κ q)
    unfolding fseps
    lends_free right κ q = qed 𝓛 (‵ (fbor κ (FreeHolds right)) ∷ ‵ (flft κ q) ∷ []) ∵ updating ! $ bor_open ! tt $ move ! (1 ∷ []) $ fsplit ! $
        use1 𝓛 (‵ (finv I) ⊛ ‵ (finv I)) (𝓛.invs.inv_dup I) $ split ! $ move ! (2 ∷ []) $ fpick ! (λ e. fsplit ! $ fpick ! (λ c. drop ! $ fsplit3 ! $
        move ! (2 ∷ []) $ fsplit ! $
        -- [what is shared; the seat; the share; what is known; the invariant, twice; the open borrow]
        use1 𝓛 (‵ (s a) ⊛ ‵ (s a)) (contraction 𝓛 s laws a) $ split ! $ move ! (4 ∷ []) $
        use1 𝓛 (‵ (knows t right) ⊛ ‵ (knows t right)) (knows_twice 𝓛 t right) $ split ! $
        move ! (6 ∷ 0 ∷ 2 ∷ []) $ use3 𝓛 (‵ (fwand (fsep (fdead κ) (fseps (flft a e ∷ Mine ∷ []))) (fupd (FreeHolds right)))) (again κ right e c) $
        -- [the way back; what is known; what is shared; the seat; the share; the invariant; the open borrow]
        no_item ! $ move ! (4 ∷ 0 ∷ []) $ fjoin ! $ move ! (4 ∷ 0 ∷ []) $ fjoin ! $ move ! (5 ∷ 0 ∷ 1 ∷ []) $ obor_alter ! tt (flft a e ∷ Mine ∷ []) $
        use1 𝓛 (‵ (fbor κ (flft a e)) ⊛ ‵ (fbor κ Mine) ⊛ ‵ ftrue) (id⊢ 𝓤 _) $ split3 ! $ bor_fracture ! tt (λ r. flft a r) e $ move ! (1 ∷ []) $
        bor_fracture ! tt (λ r. seat_share t.name.seats h r Free) three_quarters $
        -- [the seat; the share; nothing; κ; what is known; what is shared; the invariant]
        move ! (6 ∷ 5 ∷ []) $ fjoin ! $ move ! (5 ∷ 0 ∷ []) $ fjoin ! $ move ! (1 ∷ 0 ∷ []) $ fjoin ! $ move ! (1 ∷ 0 ∷ []) $ fjoin ! $ now ! $
        keep ! (0 ∷ 2 ∷ []) $ done !))

    abbrev Permanent : Fml
    Permanent = permanent P L b o t

    lends_fixed : (κ : Lft) (q : Share) → A.bor κ (Holds fixed) ∗ A.lft κ q ⊢ H.⇛ (⟦ Shown fixed κ ⟧ ∗ A.lft κ q)
    lends_fixed κ q = qed 𝓛 (‵ (fbor κ (Holds fixed)) ∷ ‵ (flft κ q) ∷ []) ∵ updating ! $ bor_open ! tt $ move ! (1 ∷ []) $ fsplit ! $
        use1 𝓛 (‵ (finv I) ⊛ ‵ (finv I)) (𝓛.invs.inv_dup I) $ split ! $ move ! (2 ∷ []) $ fsplit ! $ move ! (1 ∷ []) $
        use1 𝓛 (‵ (s a) ⊛ ‵ (s a)) (contraction 𝓛 s laws a) $ split ! $
        move ! (2 ∷ []) $ use1 𝓛 (‵ Permanent ⊛ ‵ Permanent) (permanent_twice 𝓛 P L b o t) $ split ! $
        -- [that it is marked, twice; what is shared, twice; the invariant, twice; the open borrow]
        move ! (0 ∷ 2 ∷ []) $ fjoin ! $ move ! (3 ∷ 0 ∷ []) $ fjoin ! $ move ! (4 ∷ 0 ∷ []) $ obor_close ! tt $ move ! (4 ∷ 3 ∷ []) $ fjoin ! $
        move ! (3 ∷ 0 ∷ []) $ fjoin ! $
        now ! $ keep ! (0 ∷ 2 ∷ []) $ done !

    pub Lends-held : (right : Right) (l : Lft) → Lends 𝓛 (Holds right) (Shown right) l
    Lends-held nothing l = Lends-nothing 𝓛 (Holds nothing) l
    Lends-held counted l = λ κ ts inc sp. by_one 𝓛 κ ts sp (A.bor κ (FreeHolds counted)) ⟦ FreeShown counted κ ⟧ (lends_free counted κ)
    Lends-held uncounted l = λ κ ts inc sp. by_one 𝓛 κ ts sp (A.bor κ (FreeHolds uncounted)) ⟦ FreeShown uncounted κ ⟧ (lends_free uncounted κ)
    Lends-held fixed l = λ κ ts inc sp. by_one 𝓛 κ ts sp (A.bor κ (Holds fixed)) ⟦ Shown fixed κ ⟧ (lends_fixed κ)
    Lends-held dropping l = Lends-nothing 𝓛 (Holds dropping) l
    Lends-held owed l = Lends-nothing 𝓛 (Holds owed) l

-- ---- no part of what a pointer owns names a thread

pub reached_keyless : (γ : GName) (history : List Step) → Keyless (reached γ history)
unfolding at_least
reached_keyless γ history = tt

now_keyless : (γ : GName) (history : List Step) → Keyless (latest steps full_share γ history)
unfolding latest
now_keyless γ history = tt

seat_keyless : (δ h : ℕ) (q : Share) (state : HandleState) → Keyless (seat_share δ h q state)
seat_keyless δ h q state = entry_keyless halved δ h _

roster_keyless : (δ k : ℕ) (vs : List HandleState) → Keyless (Rattle.atomic_table.specs.Seated.roster state_code δ k vs)
roster_keyless δ k [] = λ v. entries_keyless halved δ k _
roster_keyless δ k (v ∷ vs) = (entry_keyless halved δ k _, roster_keyless δ (suc k) vs)

book_keyless : (L γ δ n : ℕ) → Keyless (Book L γ δ n)
book_keyless L γ δ n = λ x. ((λ _. tt), (now_keyless γ x.0, roster_keyless δ 0 x.1))

module _ (P : Fml) (L b o : ℕ) (t : Id) (k : Keyless P) where
  stated_keyless : (n : ℕ) → Keyless (stated P L b o t n)
  stated_keyless n = (tt, book_keyless L t.name.history t.name.seats n)

  rest_keyless : (s : Phase) → Keyless (rest P L b o t s)
  rest_keyless (unmarked m) = ((λ e c. tt), (tt, k))
  rest_keyless (marked m) = ((λ e c. tt), ((λ e. tt), tt))

  alive_keyless : (y : Bool) → Keyless (if_alive P L b o t y)
  alive_keyless true = λ n. (stated_keyless n, λ s. ((λ _. tt), rest_keyless s))
  alive_keyless false = tt

  module _ (s : Lft → Fml) (common : Common s) (h : ℕ) where
    right_keyless : (right : Right) → Keyless (right_to P L b o t s h right)
    right_keyless nothing = common _
    right_keyless counted = λ e. ((λ _. tt), (tt, ((λ _. tt), (common _, seat_keyless t.name.seats h three_quarters Free))))
    right_keyless uncounted = λ e. ((λ _. tt), (tt, ((λ _. tt), (common _, seat_keyless t.name.seats h three_quarters Free))))
    right_keyless fixed = (((λ q. tt), tt), common _)
    right_keyless dropping = ((λ e c. tt), (common _, seat_keyless t.name.seats h three_quarters Dropping))
    right_keyless owed = (stated_keyless 0, (k, seat_keyless t.name.seats h three_quarters Owing))

    shown_common : (right : Right) → Common (shown P L b o t s h right)
    shown_common nothing κ = tt
    shown_common counted κ = ((λ q. tt), ((λ q. seat_keyless t.name.seats h q Free), ((λ _. tt), (alive_keyless, common _))))
    shown_common uncounted κ = ((λ q. tt), ((λ q. seat_keyless t.name.seats h q Free), ((λ _. tt), (alive_keyless, common _))))
    shown_common fixed κ = (((λ q. tt), tt), (alive_keyless, common _))
    shown_common dropping κ = tt
    shown_common owed κ = tt

known_keyless : (t : Id) (block : BlockName) (history : List Step) → Keyless (known t block history)
known_keyless t block history = ((λ _. tt), reached_keyless t.name.history history)

byte_send : IsSend u8
byte_send = search sendable

bytes_send : (n : ℕ) → IsSend (Array u8 n)
bytes_send n = search sendable

number_send : IsSend usize
number_send = search sendable

number_sync : IsSync usize
number_sync = search sendable

bytes_sync : (n : ℕ) → IsSync (Array u8 n)
bytes_sync n = search sendable

abbrev common : (p : Ptr) (xs : List ℕ) → Common (block_shares p xs)
common p xs κ = (lent usize number_sync (length_at p (length xs)) (length xs) κ, lent (Array u8 (length xs)) (bytes_sync (length xs)) p xs κ)

ps : IsSend RawPtr
ps = search sendable

py : IsSync RawPtr
py = search sendable

slot_keyless : (filled : Bool) (p : Ptr) (x : ℕ) → Keyless (slot u8 filled p x)
slot_keyless true p x = lies u8 byte_send p x
slot_keyless false (block_ptr b o) x = tt
slot_keyless false null_ptr x = tt

slots_keyless : (p : Ptr) (xs : List ℕ) (fs : List Bool) → Keyless (slots u8 p xs fs)
slots_keyless p [] fs = tt
slots_keyless p (x ∷ xs) [] = tt
slots_keyless p (x ∷ xs) (f ∷ fs) = (slot_keyless f p x, slots_keyless (p +ₚ 1) xs fs)

owned_keyless : (p : Ptr) (n : ℕ) (xs : List ℕ) (fs : List Bool) → Keyless (owned u8 p n xs fs)
owned_keyless (block_ptr b o) n xs fs = (tt, slots_keyless (block_ptr b o) xs fs)
owned_keyless null_ptr n xs fs = (tt, tt)

pub row_send : IsSend Row.the_row
row_send = let O = Row.the_type in let all : AllSend (fields O) = (ps, tt) in owning_send O all
    (λ d. owned_keyless d.at (length d.items) d.items d.filled) (λ k. quiet (to O) (exits_of k (fields O)) ((struct_send (shape O) all).leaving k))

module _ (B : RattleType) (g : Ghosts B.Denot) (f : Frees g g.dealloc_token) where
  rim_keyless : (a : B.Denot) (n : ℕ) (p : Ptr) → Keyless (rim (g.dealloc_token a) n p)
  rim_keyless a n p = (((tt, (tt, (tt, tt))), tt), f.frees a (bare (block_type n)) p)

  owns_keyless : (a : B.Denot) (p : Ptr) (xs : List ℕ) → Keyless (block_owns (g.dealloc_token a) p xs)
  owns_keyless a p xs = let n : ℕ = length xs in (
    lies usize number_send (length_at p n) n,
    (
      lies (Array u8 n) (bytes_send n) p xs,
      rim_keyless a n p,
    ),
  )

  ms : IsSend B → IsSend (Marker.the_field B).row
  ms sb = search sendable

  pub blank_send : IsSend B → IsSend (S.the_row B g)
  blank_send sb = let O = S.the_type B g in let all : AllSend (fields O) = (ps, (ms sb, tt)) in owning_send O all
      (λ d. ((λ _. tt), (tt, (lies usize number_send (length_at d.at d.length) d.length, rim_keyless d.home d.length d.at))))
      (λ k. quiet (to O) (exits_of k (fields O)) ((struct_send (shape O) all).leaving k))

  module _ (sb : IsSend B) (yb : IsSync B) where
    my : IsSync (Marker.the_field B).row
    my = search sendable

    pub pointer_send : IsSend (C.the_row B g)
    pointer_send = let O = C.the_type B g in let all : AllSend (fields O) = (ps, (ms sb, tt)) in owning_send O all
        (λ d. (
          (λ _. tt),
          λ t. let P = block_owns (g.dealloc_token d.home) d.at d.text in (
            known_keyless t d.block d.history,
            (
              alive_keyless P d.limit (block_of d.at) (word_at d.at (length d.text)) t (owns_keyless d.home d.at d.text),
              right_keyless P d.limit (block_of d.at) (word_at d.at (length d.text)) t (owns_keyless d.home d.at d.text) (block_shares d.at d.text)
                  (common d.at d.text) d.seat d.right,
            ),
          ),
        ))
        (λ k. quiet (to O) (exits_of k (fields O)) ((struct_send (shape O) all).leaving k))

    pub pointer_sync : IsSync (C.the_row B g)
    pointer_sync = record {
      shared = λ d b o κ. let P = block_owns (g.dealloc_token d.home) d.at d.text in (
        (struct_sync (shape (C.the_type B g)) (py, (my, tt))).shared (to (C.the_type B g) d) b o κ,
        (
          (λ _. tt),
          λ t. (
            known_keyless t d.block d.history,
            shown_common P d.limit (block_of d.at) (word_at d.at (length d.text)) t (owns_keyless d.home d.at d.text)
                (block_shares d.at d.text) (common d.at d.text) d.seat d.right κ,
          ),
        ),
      );
    }
