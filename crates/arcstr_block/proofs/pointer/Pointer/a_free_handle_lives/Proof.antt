-- `a_free_handle_lives` does nothing: the book of the block, which lies in the invariant, says that the handle lives.
-- The share of the token and the seat are borrowed, the invariant is opened once, and both borrows are closed.
use Rattle.arcstr_block.proofs.Names.{◌≡◌, ℕ, [], ◌∷◌, refl, List, sym, length, inst_fn, dcons, dnil, a_type, named, Val, vptr, vunit, Lft, Share, Fml, fsep}
use Rattle.arcstr_block.proofs.Names.{fex, flft, finv, fshr_bor, fhide, ftrue, emp, SProp, fact, fact_i, tables, unit, hidden_shr, unhide, param, bounded}
use Rattle.arcstr_block.proofs.Names.{RattleType, owns, block_of, Ptr, shr_vals, shr_Tells, types_at, heard, lent_out, alloc_all, pass_all, free_all, look_at}
use Rattle.arcstr_block.proofs.Names.{sets, ‵, ◌⊛◌, later, ◌$◌, ◌∵◌, !, qed, move, group, use1, use3, split, split3, join, fsplit, fjoin, fpick, await, raw, by}
use Rattle.arcstr_block.proofs.Names.{keep, fsplit3, given, drop, learn, rewrite, feq_i, unit_lit, of_opd, returns, enter, proved, Token, Free, Step, BlockName}
use Rattle.arcstr_block.proofs.Names.{reached, seat_share, Inv, knows, block_owns, block_shares, word_at, IsFree}
use Rattle.arcstr_block.proofs.Memory.{shares_laws}
use Rattle.arcstr_block.proofs.Endings.{all_dropped, all_go, Walk, ends, also}
use Rattle.arcstr_block.proofs.Blocks.{tells_life}
use Rattle.arcstr_block.proofs.Living.{Lives}
use Rattle.arcstr_block.proofs.Walks.{of_shown}
use Rattle.arcstr_block.specs.contracts.pointer.Pointer.a_free_handle_lives.{ended, clauses}
use Rattle.arcstr_block.specs.contracts.pointer.Pointer.a_free_handle_lives.Key.{name as #self}
use Rattle.arcstr_block.proofs.pointer.Pointer.a_free_handle_lives.Statement.{statement}
use Rattle.core.specs.contracts.marker.PhantomData as Marker
use Rattle.arcstr_block.specs.contracts.pointer.Pointer as C
use Rattle.arcstr_block.specs.contracts.seen.Seen as Seen
use Rattle.arcstr_block.proofs.Pointers as framed
use Rattle.arcstr_block.proofs.Rights as rights
use Rattle.arcstr_block.proofs.pointer.Pointer.a_free_handle_lives.Code as code

pub a_free_handle_lives_spec : {M : Type 1} → statement M
a_free_handle_lives_spec 𝓤 𝓛 𝓜 𝓡 wired Y K g d dd met md =
    let H = 𝓛.H in let 𝓣 = tables 𝓤 H 𝓜 𝓡 𝓡.env in let B : RattleType = param 0 Y in let En = ended Y g d dd in let c = clauses Y g d dd 𝓛 𝓜.mem 𝓡.returns in
    let inst = bounded (a_type ∷ []) (Y, tt) (dcons d (dcons dd dnil)) in let fn = inst_fn inst code.function in
    let Row : RattleType = C.the_row B g in let S : RattleType = Seen.the_row in
    proved 𝓛 En (all_dropped En) c 𝓜 𝓡 (all_go 𝓛 En (λ κs x f. refl, (λ κs x f. refl, tt)))
    (#self inst) fn (code.unfolded 𝓤 H 𝓜 𝓡 wired (Y, tt) d dd)
    (λ κs. (shr_vals, (shr_vals, tt))) (λ κs. (shr_Tells (named 0) κs.0 Row, (shr_Tells (named 1) κs.1.0 S, tt)))
    (λ κs qs bounds a gh are.
    let b : ℕ = a.0.ref_ptr.0 in let o : ℕ = a.0.ref_ptr.1 in let κ : Lft = κs.0 in let q : Share = qs.0 in let seen = a.1.0 in
    let b' : ℕ = seen.ref_ptr.0 in let o' : ℕ = seen.ref_ptr.1 in let w : S.Denot = seen.now in let before : List Step = w.history in
    let h : Row.Denot = a.0.now in let p : Ptr = h.at in let lim : ℕ = h.limit in
    let P : Fml = block_owns (g.dealloc_token h.home) p h.text in let s : Lft → Fml = block_shares p h.text in
    let pb : ℕ = block_of p in let po : ℕ = word_at p (length h.text) in
    let y : (Walk 𝓛 En c).Ghost = ((κs, qs, bounds, a, (vptr b o ∷ [], (vptr b' o' ∷ [], tt))), gh) in let Post : Val → SProp 𝓤 = (Walk 𝓛 En c).post y in
    qed 𝓛 (((‵ (flft κ q) ⊛ ‵ (fsep (flft κs.1.0 qs.1.0) (fsep (flft κs.1.1.0 qs.1.1.0) ftrue))) ⊛ ‵ (owns (types_at En.signature.params κs) a y.0.4)) ∷
    raw (fact 𝓤 _) ∷ raw (fact 𝓤 (IsFree h.right)) ∷ raw (fact 𝓤 (w.block ≡ h.block)) ∷ []) ∵
    keep ! (2 ∷ 3 ∷ 0 ∷ []) $ heard ! (IsFree h.right) (λ may. heard ! (w.block ≡ h.block) (λ same.
    split ! $ split ! $ move ! (2 ∷ []) $ fsplit3 ! $ fsplit ! $ move ! (2 ∷ []) $ fsplit ! $ keep ! (1 ∷ 3 ∷ 5 ∷ 6 ∷ []) $
    -- [what was seen; what the pointer shows; κ; the other tokens]
    enter ! 𝓣.C 𝓣.Λ fn (vptr b o ∷ vptr b' o' ∷ []) Post $ alloc_all ! (λ l. pass_all ! refl ((tt, tt), ((tt, tt), tt)) $
    use1 𝓛 (‵ (hidden_shr (Token unit) κs.1.0 (record {}, tt) b' o') ⊛ ‵ (fhide (reached w.block.history before)))
    (lent_out 𝓛 Seen.struct (Seen.the_codes (Marker.the_row unit).coded) Seen.the_heap Seen.the_lent κs.1.0 w b' o') $ split ! $ drop ! $ unhide ! $
    rewrite ! 0 (λ (z : BlockName). ‵ (reached z.history before)) same refl $ move ! (1 ∷ []) $
    of_shown B g h κ b o ! (λ inb t named. let I : Fml = Inv P lim pb po t in let af : Lft = t.sharing ∷ [] in
    -- [what is shown; the prefix; the fields; what was seen; κ; the others]
    rewrite ! 3 (λ (z : BlockName). ‵ (reached z.history before)) (sym named) refl $ move ! (0 ∷ 3 ∷ 4 ∷ 5 ∷ []) $
    use1 𝓛 (‵ (fshr_bor κ (λ r. flft af r)) ⊛ ‵ (fshr_bor κ (λ r. seat_share t.name.seats h.seat r Free)) ⊛ ‵ (knows t h.right) ⊛
    ‵ (finv I) ⊛ ‵ (s af)) (rights.may_step 𝓛 P lim pb po t s (shares_laws p h.text) h.seat h.right may κ) $
    split3 ! $ move ! (2 ∷ []) $ split3 ! $
    -- [what is known; the invariant; what is shared; the share; the seat; what was seen; κ; the others]
    move ! (3 ∷ 4 ∷ 6 ∷ []) $ use3 𝓛 (later (‵ (fex (Share × Share) (framed.lent_for 𝓛 t.sharing t.name.seats h.seat κ q))))
    (framed.borrows 𝓛 t.sharing t.name.seats h.seat κ q) $ await ! tt $ fpick ! (λ out. fsplit ! $ move ! (1 ∷ []) $ fsplit ! $
    -- [the token; the seat; the open borrows; what is known; the invariant; what is shared; what was seen; the others]
    let u : Share = out.0 in let v : Share = out.1 in
    move ! (4 ∷ 0 ∷ 1 ∷ 6 ∷ []) $ group ! 4 $
    use1 𝓛 (later (given (Lives lim before h.seat) (‵ (flft af u) ⊛ ‵ (seat_share t.name.seats h.seat v Free))))
    (tells_life 𝓛 P lim pb po t h.seat before u v) $ await ! tt $ learn ! (λ lives. split ! $ fjoin ! $ move ! (1 ∷ []) $ fjoin ! $
    use1 𝓛 (later (‵ (flft κ q))) (framed.restores 𝓛 t.sharing t.name.seats h.seat κ q out) $ await ! tt $
    -- [κ; what is known; what is shared; the others]
    move ! (0 ∷ 3 ∷ []) $ join ! $
    sets ! (of_opd ! (unit_lit !)) refl (tt, tt) $ feq_i ! (List Val) (vunit ∷ []) (vunit ∷ []) refl $ returns ! (look_at ! 0 refl) $ free_all ! refl $ keep ! (0 ∷ 1 ∷ []) $
    by ! (ends 𝓛 En c y vunit tt (tt, (tt, tt)) (also 𝓛 lives.0 (fact_i 𝓤 _ (emp 𝓤) lives.1))))))))))
