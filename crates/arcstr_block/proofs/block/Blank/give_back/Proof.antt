-- `give_back` takes the bytes from their row, makes the block room again, and returns it to the allocator.
use Rattle.arcstr_block.proofs.Names.{◌≡◌, ℕ, ◌^◌, Bool, [], ◌∷◌, refl, lit<, List, sym, subst, ap, length, ◌<◌, ◌∙◌, w64, T, inst_fn, bare, Ty, w8, ty_int}
use Rattle.arcstr_block.proofs.Names.{ty_array, dcons, dnil, a_type}
use Rattle.arcstr_block.proofs.Names.{named, ty_unit, Val, vint, vptr, has_ty, WT, vunit, Lft, Share, Incl-trans, Fml, fsep}
use Rattle.arcstr_block.proofs.Names.{flft, ftrue, froom, emp, id⊢}
use Rattle.arcstr_block.proofs.Names.{SProp, ◌⊑◌, fact, tables, param, bounded, uint_vals, uint_Tells, RattleType, owns, block_of, Ptr, block_ptr, ptr_val}
use Rattle.arcstr_block.proofs.Names.{count_of, at_block, in_block, shr_vals, shr_Tells, types_at, heard, calls_at_last, alloc_all, pass_all, free_all}
use Rattle.arcstr_block.proofs.Names.{look_at, get}
use Rattle.arcstr_block.proofs.Names.{get_in, sets, lands_last, env, is, ‵, ◌⊛◌, later, ◌$◌, ◌∵◌, !, qed, move, use1, split, join, fsplit, fpick, await, raw}
use Rattle.arcstr_block.proofs.Names.{by, keep, fsplit3, given, drop, learn, rewrite, feq_i, use3, at_ret, sub, whole, stop, fld, lit, unit_lit, group}
use Rattle.arcstr_block.proofs.Names.{of_opd, no_more, and_then, first, blocks, exec, returns, enter, Al, Gives, at_gives, Gives-goes, Gives-Gives, tail, fm}
use Rattle.arcstr_block.proofs.Names.{proved, slots, block_size, block_type, word_lies, length_lies, rim}
use Rattle.arcstr_block.specs.Memory.{blank_owns}
use Rattle.core.proofs.slots.Places.{to_room}
use Rattle.arcstr_block.proofs.Pointers.{pointer_val, typed, told}
use Rattle.arcstr_block.proofs.Memory.{byte, R, row_val, row_typed, row_told}
use Rattle.arcstr_block.proofs.Memory.{block_bytes, block_align, gathers_room}
use Rattle.arcstr_block.specs.contracts.block.Blank.give_back.{ended, clauses}
use Rattle.arcstr_block.specs.contracts.block.Blank.give_back.Key.{name as #self}
use Rattle.arcstr_block.proofs.block.Blank.give_back.Statement.{statement}
use Rattle.arcstr_block.specs.contracts.block.Row as RW
use Rattle.arcstr_block.specs.contracts.block.Blank as N
use Rattle.arcstr_block.proofs.block.Blank.give_back.Code as code
use Rattle.arcstr_block.proofs.Endings.{all_dropped, all_go, Walk, ends}

pub give_back_spec : {M : Type 1} → statement M
give_back_spec 𝓤 𝓛 𝓜 𝓡 wired Y K g d dd met md =
    let H = 𝓛.H in let 𝓣 = tables 𝓤 H 𝓜 𝓡 𝓡.env in let B : RattleType = param 0 Y in let En = ended Y g d dd in let c = clauses Y g d dd 𝓛 𝓜.mem 𝓡.returns in
    let inst = bounded (a_type ∷ []) (Y, tt) (dcons d (dcons dd dnil)) in let fn = inst_fn inst code.function in
    let Open : RattleType = N.the_row B g in let Z : Al = record { row = Y; laws = K; g = g; d = d; drops = dd } in
    proved 𝓛 En (all_dropped En) c 𝓜 𝓡 (all_go 𝓛 En (λ κs x f. refl, (λ κs x f. refl, (λ κs x f. refl, (λ κs x f. refl, tt)))))
    (#self inst) fn (code.unfolded 𝓤 H 𝓜 𝓡 wired (Y, tt) d dd)
    (λ κs. ((λ x. pointer_val x.at ∷ []), ((λ x. row_val x.at ∷ []), (shr_vals, (uint_vals w64, tt)))))
    (λ κs. ((λ x vs so. told B g x.at vs so.0), ((λ x vs so. row_told x.at vs so.0), (shr_Tells (named 0) κs.0 B, (uint_Tells w64, tt)))))
    (λ κs qs bounds a gh are.
    let h : Open.Denot = a.0 in let p : Ptr = h.at in let n : ℕ = h.length in let row : RW.the_row.Denot = a.1.0 in let xs : List ℕ = row.items in
    let fs : List Bool = row.filled in let hp : ℕ × ℕ = a.1.1.0.ref_ptr in let heap : Y.Denot = a.1.1.0.now in let size : ℕ = a.1.1.1.0 in
    let b : ℕ = block_of p in let o : ℕ = count_of p in let p' : Ptr = block_ptr b o in let u : Val = row_val row.at in
    let κ : Lft = κs.0 in let q : Share = qs.0 in let token : Ty → Ptr → Fml = g.dealloc_token heap in let τ : Ty = bare (block_type n) in
    let small : size < 2 ^ 64 = are.1.1.1.0.1 in
    let y : (Walk 𝓛 En c).Ghost = ((κs, qs, bounds, a, (pointer_val p ∷ [], (u ∷ [], (vptr hp.0 hp.1 ∷ [], (vint w64 size ∷ [], tt))))), gh) in
    let Post : Val → SProp 𝓤 = (Walk 𝓛 En c).post y in let others : Fml = fsep (flft κs.1.0 qs.1.0) ftrue in
    qed 𝓛 (((‵ (flft κ q) ⊛ ‵ others) ⊛ ‵ (owns (types_at En.signature.params κs) a y.0.4)) ∷ raw (fact 𝓤 (κs.1.0 ⊑ Y.lives)) ∷ raw (fact 𝓤
    (row.at ≡ p)) ∷ raw (fact 𝓤 (length xs ≡ n)) ∷ raw (fact 𝓤 (h.home ≡ heap)) ∷ raw (fact 𝓤 (size ≡ block_size n)) ∷ []) ∵
    keep ! (1 ∷ 2 ∷ 3 ∷ 4 ∷ 5 ∷ 0 ∷ []) $ heard ! (κs.1.0 ⊑ Y.lives) (λ inside. heard ! (row.at ≡ p) (λ here. heard ! (length xs ≡ n) (λ long.
    heard ! (h.home ≡ heap) (λ home. heard ! (size ≡ block_size n) (λ sized. split ! $ split ! $
    move ! (2 ∷ []) $ fsplit3 ! $ move ! (2 ∷ []) $ fsplit ! $ fsplit ! $ move ! (3 ∷ []) $ fsplit ! $ keep ! (1 ∷ 5 ∷ 3 ∷ 6 ∷ 7 ∷ []) $
    -- [the block; the slots; the `&`; κ; the others]
    rewrite ! 0 (λ (v : Y.Denot). ‵ (blank_owns (g.dealloc_token v) p h.word n)) home refl $ fsplit3 ! $ fpick ! (λ inb. drop ! $
    let at : p ≡ p' = at_block p inb.0 in
    enter ! 𝓣.C 𝓣.Λ fn (pointer_val p ∷ u ∷ vptr hp.0 hp.1 ∷ vint w64 size ∷ []) Post $
    alloc_all ! (λ l. pass_all ! refl (typed p, (row_typed row.at, ((tt, tt), ((tt, record { fits = small }), tt)))) $
    let Ev = env fn.locals l in
    sets ! (is ! (of_opd ! (get_in ! (fld ! refl (stop !)) (sub ! 0 refl (whole !)))) (ap ptr_val at)) refl (tt, tt) $ move ! (2 ∷ []) $
    -- [the bytes; the word; the length and the rim; the `&`; κ; the others]
    fsplit ! $ drop ! $ fsplit ! $ drop ! $ rewrite ! 0 (λ (r : Ptr). ‵ (in_block r (slots R r xs fs))) (here ∙ at) refl $
    use1 𝓛 (‵ (froom (ty_array (ty_int w8) (length xs)) b o)) (to_room byte 𝓛 b xs fs o (sym row.counts)) $
    rewrite ! 0 (λ (k : ℕ). ‵ (froom (ty_array (ty_int w8) k) b o)) long refl $
    rewrite ! 1 (λ (r : Ptr). ‵ (word_lies r n h.word)) at refl $
    rewrite ! 2 (λ (r : Ptr). ‵ (fsep (length_lies r n) (rim token n r))) at refl $ move ! (2 ∷ []) $ fsplit ! $ move ! (3 ∷ 0 ∷ 1 ∷ 2 ∷ []) $ group ! 4 $
    use1 𝓛 (‵ (froom τ b o) ⊛ ‵ (token τ p')) (gathers_room 𝓛 token b o h.word n) $ split ! $
    -- [the room; the right to free it; the `&`; κ; the others]
    first ! $ blocks ! $ move ! (2 ∷ 3 ∷ []) $ join ! $ move ! (1 ∷ 2 ∷ 0 ∷ []) $ let Asks = Gives Z 𝓛 𝓜.mem 𝓡.returns in
    let z : Asks.Ghost = at_gives Z 𝓛 𝓜.mem 𝓡.returns κ q hp heap b o size 8 τ in
    use3 𝓛 (raw (Asks.pre z)) (Gives-goes Z 𝓛 𝓜.mem 𝓡.returns κ q hp heap (Incl-trans bounds.0 inside) b o size 8 τ (block_bytes n inb.1 ∙ sym sized)
    (block_align n) small (lit< tt)) $
    calls_at_last ! (fm 𝓛 𝓜 𝓡) Asks (met.deallocate dd) z (and_then ! (get ! refl) (and_then ! (get ! refl) (and_then ! (get ! refl) (and_then ! (lit ! tt)
    (no_more !))))) (λ r.
    use1 𝓛 (later (given (r ≡ vunit) (‵ (flft κ q)))) (Gives-Gives Z 𝓛 𝓜.mem 𝓡.returns κ q hp heap b o size 8 τ r) $ await ! tt $ learn ! (λ e.
    lands_last ! refl (subst (λ (t : Val). T (has_ty ty_unit t) × WT t) (sym e) (tt, tt)) $
    exec ! 𝓣.C 𝓣.Λ Ev (tail (tail fn.body)) (at_ret Ev Post) $ sets ! (of_opd ! (unit_lit !)) refl (tt, tt) $ join ! $
    feq_i ! (List Val) (vunit ∷ []) (vunit ∷ []) refl $
    returns ! (look_at ! 0 refl) $ free_all ! refl $ keep ! (0 ∷ 1 ∷ []) $ by ! (ends 𝓛 En c y vunit tt (tt, (tt, (tt, (tt, tt)))) (id⊢ 𝓤 (emp 𝓤)))))))))))))
