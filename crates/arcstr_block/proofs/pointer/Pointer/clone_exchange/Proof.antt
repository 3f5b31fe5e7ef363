-- `clone_exchange` is one compare-exchange. If it finds the old word or a marked one, the clone succeeds.
-- `borrowed` opens the pointer, `Steps` takes the step inside the invariant, `turn_raises` writes it into the book, and `returned` makes the gain a right.
use Rattle.arcstr_block.proofs.Names.{◌≡◌, ℕ, [], ◌∷◌, refl, arith, List, sym, ap, length, ◌+◌, w64, inst_fn, dcons, dnil, a_type, named, Val, vint, vptr}
use Rattle.arcstr_block.proofs.Names.{Lft, Share, Fml, fsep, fex, flft, ftrue, via, SProp, fact, tables, u64, param, bounded, uint_vals, uint_Tells, RattleType}
use Rattle.arcstr_block.proofs.Names.{Valss, owns, block_of, Ptr, block_ptr, count_of, at_block, shr_vals, shr_Tells, types_at, heard, alloc_all, pass_all}
use Rattle.arcstr_block.proofs.Names.{free_all, look_at, get, sets, lands_last, env, through, is, ‵, ◌⊛◌, ◌$◌, ◌∵◌, !, qed, move, use1, split, fsplit, raw, by}
use Rattle.arcstr_block.proofs.Names.{keep, fsplit3, drop, use3, at_ret, mean, sub, whole, agg, look_in, stop, fld, of_opd, no_more, and_then, first, blocks}
use Rattle.arcstr_block.proofs.Names.{exec, returns, enter, load, addr, bin, Calls-last, tail, found, fm, finds, exchanges, proved, Free, Step, reached}
use Rattle.arcstr_block.proofs.Names.{seat_share, block_owns, block_shares, word_at, word_offset, IsFree, IsClone, ClonedAs, inl, inr}
use Rattle.arcstr_block.proofs.Memory.{shares_laws}
use Rattle.arcstr_block.proofs.Pointers.{pointer_val, typed, found_val, found_typed}
use Rattle.arcstr_block.proofs.Endings.{all_dropped, all_go, Walk, ends, also}
use Rattle.arcstr_block.proofs.Walks.{borrowed, returned}
use Rattle.arcstr_block.proofs.Book.{raises as turn_raises}
use Rattle.arcstr_block.proofs.Words.{IsMarkedOr}
use Rattle.arcstr_block.specs.Steps.{IsSameBlock}
use Rattle.arcstr_block.specs.contracts.pointer.Pointer.clone_exchange.{ended, clauses}
use Rattle.arcstr_block.specs.contracts.pointer.Pointer.clone_exchange.Key.{name as #self}
use Rattle.arcstr_block.proofs.pointer.Pointer.clone_exchange.Statement.{statement}
use Rattle.arcstr_block.specs.contracts.pointer.Pointer as C
use Rattle.arcstr_block.specs.contracts.seen.Seen as Seen
use Rattle.arcstr_block.proofs.Pointers as framed
use Rattle.arcstr_block.proofs.Rights as rights
use Rattle.arcstr_block.proofs.Steps as steps
use Rattle.arcstr_block.proofs.pointer.Pointer.clone_exchange.Code as code

pub clone_exchange_spec : {M : Type 1} → statement M
clone_exchange_spec 𝓤 𝓛 𝓜 𝓡 wired Y K g d dd met md =
    let H = 𝓛.H in let 𝓣 = tables 𝓤 H 𝓜 𝓡 𝓡.env in let B : RattleType = param 0 Y in let En = ended Y g d dd in let c = clauses Y g d dd 𝓛 𝓜.mem 𝓡.returns in
    let inst = bounded (a_type ∷ []) (Y, tt) (dcons d (dcons dd dnil)) in let fn = inst_fn inst code.function in
    let Row : RattleType = C.the_row B g in let S : RattleType = Seen.the_row in
    proved 𝓛 En (all_dropped En) c 𝓜 𝓡 (all_go 𝓛 En (λ κs x f. refl, (λ κs x f. refl, (λ κs x f. refl, (λ κs x f. refl, (λ κs x f. refl, tt))))))
    (#self inst) fn (code.unfolded 𝓤 H 𝓜 𝓡 wired (Y, tt) d dd)
    (λ κs. (shr_vals, (uint_vals w64, (uint_vals w64, (uint_vals w64, (shr_vals, tt)))))) (λ κs.
    (shr_Tells (named 0) κs.0 Row, (uint_Tells w64, (uint_Tells w64, (uint_Tells w64, (shr_Tells (named 1) κs.1.0 S, tt))))))
    (λ κs qs bounds a gh are.
    let b : ℕ = a.0.ref_ptr.0 in let o : ℕ = a.0.ref_ptr.1 in let κ : Lft = κs.0 in let q : Share = qs.0 in let seen = a.1.1.1.1.0 in
    let b' : ℕ = seen.ref_ptr.0 in let o' : ℕ = seen.ref_ptr.1 in let w : S.Denot = seen.now in let before : List Step = w.history in
    let h : Row.Denot = a.0.now in let p : Ptr = h.at in let lim : ℕ = h.limit in
    let P : Fml = block_owns (g.dealloc_token h.home) p h.text in let s : Lft → Fml = block_shares p h.text in
    let sl = shares_laws p h.text in let pb : ℕ = block_of p in let po : ℕ = word_at p (length h.text) in let offset : ℕ = a.1.0 in
    let old : ℕ = a.1.1.0 in let new : ℕ = a.1.1.1.0 in let vss : Valss (types_at En.signature.params κs) =
    (vptr b o ∷ [], (vint w64 offset ∷ [], (vint w64 old ∷ [], (vint w64 new ∷ [], (vptr b' o' ∷ [], tt))))) in
    let y : (Walk 𝓛 En c).Ghost = ((κs, qs, bounds, a, vss), gh) in let Post : Val → SProp 𝓤 = (Walk 𝓛 En c).post y in
    qed 𝓛 (((‵ (flft κ q) ⊛ ‵ (fsep (flft κs.1.0 qs.1.0) (fsep (flft κs.1.1.0 qs.1.1.0) ftrue))) ⊛ ‵ (owns (types_at En.signature.params κs) a vss)) ∷
    raw (fact 𝓤 _) ∷ raw (fact 𝓤 (IsFree h.right)) ∷ raw (fact 𝓤 (offset ≡ word_offset (length h.text))) ∷
    raw (fact 𝓤 (IsClone lim old new)) ∷ raw (fact 𝓤 (w.block ≡ h.block)) ∷ []) ∵
    keep ! (2 ∷ 3 ∷ 4 ∷ 5 ∷ 0 ∷ []) $ heard ! (IsFree h.right) (λ may. heard ! (offset ≡ word_offset (length h.text)) (λ placed.
    heard ! (IsClone lim old new) (λ asked. heard ! (w.block ≡ h.block) (λ same.
    let there : offset + count_of p ≡ count_of p + word_offset (length h.text) = omega (arith, placed) in
    split ! $ split ! $ move ! (2 ∷ []) $ fsplit3 ! $ move ! (2 ∷ []) $ fsplit3 ! $ move ! (2 ∷ []) $ fsplit ! $ fsplit ! $
    move ! (5 ∷ []) $ fsplit ! $ keep ! (1 ∷ 8 ∷ 3 ∷ 9 ∷ []) $
    -- [what the pointer shows; κ; what was seen; the other tokens]
    enter ! 𝓣.C 𝓣.Λ fn (vptr b o ∷ vint w64 offset ∷ vint w64 old ∷ vint w64 new ∷ vptr b' o' ∷ []) Post $
    alloc_all ! (λ l. pass_all ! refl
    ((tt, tt), ((tt, record { fits = are.1.0.1 }), ((tt, record { fits = are.1.1.0.1 }), ((tt, record { fits = are.1.1.1.0.1 }), ((tt, tt), tt))))) $
    let Ev = env fn.locals l in
    borrowed B g h κ q b o κs.1.0 w b' o' ! tt may same (λ e X.
    sets ! (of_opd ! (load ! (through ! refl (fld ! refl (stop !))) (look_in ! 0 (sub ! 0 refl (whole !))))) refl (tt, tt)) tt (λ inb t named out.
    -- [the invariant; the token; the seat and the history before; what is known; the invariant; the open borrows; what is shared; the prefix; the others]
    let af : Lft = t.sharing ∷ [] in let at : p ≡ block_ptr pb (count_of p) = at_block p inb.0 in
    let u : Share = out.0 in let v : Share = out.1 in let Mine : Fml = seat_share t.name.seats h.seat v Free in
    let said : ℕ → Fml = λ n. fsep Mine (rights.newborn 𝓛 P lim pb po t s sl h.seat before (IsMarkedOr old n)) in
    move ! (3 ∷ []) $ drop ! $ let after : ℕ → Fml = steps.all_after 𝓛 P lim pb po t (steps.exchanged 𝓛 P lim pb po t u old new asked)
    (steps.Raised 𝓛 P lim pb po t u old new asked) (steps.Tok 𝓛 P lim pb po t u) (flft af u) said in
    use3 𝓛 (raw (𝓣.C _ (vptr pb po ∷ vint w64 old ∷ vint w64 new ∷ []) (λ r. mean 𝓛 (found after r))))
    (via 𝓤 _ (steps.raises 𝓛 P lim pb po t u old new asked (fsep Mine (reached t.name.history before)) said (λ n _.
    turn_raises 𝓛 lim t.name.history t.name.seats h.seat v before old new asked n)) (exchanges 𝓛 𝓜 𝓡 (code.calls-atomic_table::exchange 𝓡.env wired)
    (block_ptr pb po) old new are.1.1.0.1 are.1.1.1.0.1 after)) $
    first ! $ blocks ! $ sets ! (is ! (bin ! (get ! refl) (get ! refl) tt) (ap (vptr pb) there)) refl (tt, tt) $
    sets ! (of_opd ! (get ! refl)) refl (tt, tt) $ sets ! (addr ! (through ! refl (fld ! refl (stop !)))) refl (tt, tt) $
    Calls-last ! (fm 𝓛 𝓜 𝓡) (found after) (and_then ! (get ! refl) (and_then ! (get ! refl) (and_then ! (get ! refl) (no_more !)))) (λ r.
    finds ! after (λ n fits.
    lands_last ! refl (tt, record { fits = fits }) $ exec ! 𝓣.C 𝓣.Λ Ev (tail (tail fn.body)) (at_ret Ev Post) $
    sets ! (of_opd ! (get ! refl)) refl (tt, record { fits = fits }) $
    sets ! (agg ! (no_more !)) refl (tt, tt) $
    sets ! (is ! (agg ! (and_then ! (get ! refl) (and_then ! (get ! refl) (no_more !)))) (ap pointer_val (sym at))) refl (typed p) $
    sets ! (agg ! (and_then ! (get ! refl) (and_then ! (get ! refl) (no_more !)))) refl (found_typed n fits p) $
    returned B g h 𝓛 t inb named κ q out ! tt (λ g ok. rights.raised 𝓛 P lim pb po t s sl h.seat before old new n h.history g (ok.1, ok.2, ok.3, ok.4))
    (λ _ ok k says j r saw.
    let h' : Row.Denot = record h { right = k; seat = j; history = r } in let together : IsSameBlock h' h = (refl, refl, refl, refl) in
    let born : ClonedAs h before old n h' = ((λ odd. saw (inl odd)), (λ e. saw (inr e))) in
    use1 𝓛 (‵ (fex (Valss (u64 ∷ Row ∷ [])) (framed.found_as 𝓛 B g h' n))) (framed.found_in 𝓛 B g h' n fits) $
    returns ! (look_at ! 0 refl) $ free_all ! refl $
    by ! (ends 𝓛 En c y (found_val n p) (n, h') (tt, (tt, (tt, (tt, (tt, tt))))) (also 𝓛 ok.0 (framed.three 𝓛 says born together)))))))))))))
