-- `written` shows the first bytes, for as long as the block and the slots are borrowed.
use Rattle.arcstr_block.proofs.Names.{◌≡◌, ℕ, ◌^◌, Bool, [], ◌∷◌, refl, arith, List, sym, ap, length, take, ◌<◌, ◌≤◌, ◌∙◌, ◌*◌, w64, inst_fn, dcons, dnil}
use Rattle.arcstr_block.proofs.Names.{a_type, named, Val}
use Rattle.arcstr_block.proofs.Names.{vint, vptr, WT, Lft, Share, Fml, fsep, flft, ftrue, fhide, emp, SProp, fact, fact_i, tables, u8, Is, shows}
use Rattle.arcstr_block.proofs.Names.{cell_at, hidden_shr, unhide, hide, param, bounded, uint_vals, uint_Tells, RattleType, owns, block_of, Ptr, block_ptr}
use Rattle.arcstr_block.proofs.Names.{count_of, at_block, shr_vals, shr_Tells, types_at, slice_val, heard, peeks, looks, shuts, lent_out, alloc_all}
use Rattle.arcstr_block.proofs.Names.{pass_all, free_all, look_at, get, sets, env, through, sets_last, ‵, ◌⊛◌, ◌$◌, ◌∵◌, !, qed, move, use1, split, join}
use Rattle.arcstr_block.proofs.Names.{fsplit, fjoin, fpick, raw, by, keep, drop, rewrite, feq_i, flt_i, flt_l, at_ret, sub, whole, agg, look_in, stop, fld}
use Rattle.arcstr_block.proofs.Names.{of_opd, no_more, and_then, first, blocks, exec, returns, enter, load, tail, proved, Fits, in_memory, length-take-le}
use Rattle.arcstr_block.proofs.Names.{Filled}
use denote.Memory.{each_shared, shared_of}
use Rattle.core.specs.Mem.Slots.Ownership.{slots_lent, lent}
use Rattle.arcstr_block.proofs.Pointers.{pointer_val, Words, told, opened}
use Rattle.arcstr_block.proofs.Memory.{RowFields, shown_bytes}
use Rattle.arcstr_block.specs.contracts.block.Blank.written.{ended, clauses}
use Rattle.arcstr_block.specs.contracts.block.Blank.written.Key.{name as #self}
use Rattle.arcstr_block.proofs.block.Blank.written.Statement.{statement}
use Rattle.core.specs.contracts.marker.PhantomData as Marker
use Rattle.arcstr_block.specs.contracts.block.Row as RW
use Rattle.arcstr_block.specs.contracts.block.Blank as C
use Rattle.arcstr_block.proofs.block.Blank.written.Code as code
use Rattle.arcstr_block.proofs.Endings.{all_dropped, all_go, Walk, ends}

pub written_spec : {M : Type 1} → statement M
written_spec 𝓤 𝓛 𝓜 𝓡 wired Y K g d dd met md =
    let H = 𝓛.H in let 𝓣 = tables 𝓤 H 𝓜 𝓡 𝓡.env in let B : RattleType = param 0 Y in let En = ended Y g d dd in let c = clauses Y g d dd 𝓛 𝓜.mem 𝓡.returns in
    let inst = bounded (a_type ∷ []) (Y, tt) (dcons d (dcons dd dnil)) in let fn = inst_fn inst code.function in
    let Row : RattleType = C.the_row B g in let D : RattleType = Words B g in
    proved 𝓛 En (all_dropped En) c 𝓜 𝓡 (all_go 𝓛 En (λ κs x f. refl, (λ κs x f. refl, (λ κs x f. refl, tt)))) (#self inst) fn
    (code.unfolded 𝓤 H 𝓜 𝓡 wired (Y, tt) d dd)
    (λ κs. (shr_vals, (shr_vals, (uint_vals w64, tt)))) (λ κs. (shr_Tells (named 0) κs.0 Row, (shr_Tells (named 0) κs.0 RW.the_row, (uint_Tells w64, tt))))
    (λ κs qs bounds a gh are.
    let b : ℕ = a.0.ref_ptr.0 in let o : ℕ = a.0.ref_ptr.1 in let κ : Lft = κs.0 in let q : Share = qs.0 in
    let others : Fml = fsep (flft κs.1.0 qs.1.0) ftrue in
    let h : Row.Denot = a.0.now in let p : Ptr = h.at in let row : RW.the_row.Denot = a.1.0.now in let sb : ℕ = a.1.0.ref_ptr.0 in
    let so : ℕ = a.1.0.ref_ptr.1 in
    let len : ℕ = a.1.1.0 in let all : List ℕ = row.items in let fs : List Bool = row.filled in let xs : List ℕ = take len all in let n : ℕ = length xs in
    let fits : len < 2 ^ 64 = are.1.1.0.1 in let pb : ℕ = block_of p in let there : ℕ = count_of p in
    let y : (Walk 𝓛 En c).Ghost = ((κs, qs, bounds, a, (vptr b o ∷ [], (vptr sb so ∷ [], (vint w64 len ∷ [], tt)))), gh) in
    let Post : Val → SProp 𝓤 = (Walk 𝓛 En c).post y in let Written : Type 0 = Filled fs 0 len in
    qed 𝓛 (((‵ (flft κ q) ⊛ ‵ others) ⊛ ‵ (owns (types_at En.signature.params κs) a y.0.4)) ∷ raw (fact 𝓤 _) ∷ raw (fact 𝓤 (row.at ≡ p)) ∷ raw (fact 𝓤
    (len ≤ length all)) ∷ raw (fact 𝓤 Written) ∷ []) ∵
    keep ! (2 ∷ 3 ∷ 4 ∷ 0 ∷ []) $ heard ! (row.at ≡ p) (λ here. heard ! (len ≤ length all) (λ inside. heard ! Written (λ full. split ! $ split ! $
    move ! (2 ∷ []) $ fsplit ! $ fsplit ! $ move ! (2 ∷ []) $ fsplit ! $ fsplit ! $ keep ! (4 ∷ 1 ∷ 5 ∷ 6 ∷ []) $
    -- [the `&` to the block; the `&` to the slots; κ; the others]
    enter ! 𝓣.C 𝓣.Λ fn (vptr b o ∷ vptr sb so ∷ vint w64 len ∷ []) Post $
    alloc_all ! (λ l. pass_all ! refl ((tt, tt), ((tt, tt), ((tt, record { fits = fits }), tt))) $
    let Ev = env fn.locals l in
    use1 𝓛 (‵ (hidden_shr D κ (p, (tt, tt)) b o) ⊛ ‵ (fhide (in_memory p (Fits h.length))))
    (lent_out 𝓛 (C.struct B g) (C.the_codes Y.Denot B.coded (Marker.the_row B).coded) (C.the_heap B g) (C.the_lent B g) κ h b o) $
    split ! $ move ! (1 ∷ []) $ unhide ! $ fpick ! (λ inb. drop ! $ let at : p ≡ block_ptr pb there = at_block p inb.0 in
    -- [the fields; the `&` to the slots; κ; the others]
    move ! (1 ∷ []) $
    use1 𝓛 (‵ (hidden_shr RowFields κ (row.at, tt) sb so) ⊛ ‵ (fhide (lent u8 row.at (length all) all fs κ)))
    (lent_out 𝓛 RW.struct RW.the_codes RW.the_heap RW.the_lent κ row sb so) $
    split ! $ drop ! $ unhide ! $ fsplit ! $ flt_l ! (λ small.
    rewrite ! 0 (λ (r : Ptr). ‵ (slots_lent u8 r all fs κ)) (here ∙ at) refl $
    let long : n ≡ len = length-take-le len all inside in
    use1 𝓛 (‵ (each_shared xs (shared_of u8) 1 pb there κ)) (shown_bytes 𝓛 pb κ all fs len there inside
    (sym row.counts) (λ k lt. full k (omega arith) lt)) $
    hide ! $
    -- [what is shown; the fields; κ; the others]
    move ! (1 ∷ 2 ∷ []) $ looks ! tt D (opened B g 𝓛) (p, (tt, tt)) b o (λ e vs. move ! (1 ∷ []) $ peeks ! D (Is D) (shows 𝓛 D) (p, (tt, tt)) vs (λ so'.
    let ev : vs ≡ pointer_val (block_ptr pb there) ∷ [] = told B g p vs so' ∙ ap (λ (r : Ptr). pointer_val r ∷ []) at in
    let whole_len : WT (vint w64 len) = record { fits = fits } in
    rewrite ! 1 (λ (ws : List Val). ‵ (cell_at e D.mir ws b o)) ev refl $ first ! $ blocks ! $
    sets ! (of_opd ! (load ! (through ! refl (fld ! refl (stop !))) (look_in ! 1 (sub ! 0 refl (whole !))))) refl (tt, tt) $
    sets_last ! (agg ! (and_then ! (get ! refl) (and_then ! (get ! refl) (no_more !)))) refl (tt, (tt, (whole_len, tt))) $
    exec ! 𝓣.C 𝓣.Λ Ev (tail fn.body) (at_ret Ev Post) $
    sets ! (of_opd ! (get ! refl)) refl (tt, (tt, (whole_len, tt))) $ rewrite ! 1 (λ (ws : List Val). ‵ (cell_at e D.mir ws b o)) (sym ev) refl $
    move ! (1 ∷ 0 ∷ 2 ∷ []) $ shuts ! tt D e (p, (tt, tt)) vs b o $
    -- [κ; the fields; what is shown; the others]
    move ! (0 ∷ 3 ∷ []) $ join ! $ move ! (2 ∷ []) $ flt_i ! (n * 1) (2 ^ 63) (omega (arith, small, long, inside)) $
    flt_i ! n (2 ^ 64) (omega (arith, long, fits)) $ fjoin ! $
    feq_i ! (List Val) (slice_val (pb, there) len ∷ []) (slice_val (pb, there) n ∷ []) (ap (λ k. slice_val (pb, there) k ∷ []) (sym long)) $ fjoin ! $ fjoin ! $
    returns ! (look_at ! 0 refl) $ free_all ! refl $ keep ! (0 ∷ 1 ∷ []) $
    by ! (ends 𝓛 En c y (slice_val (pb, there) len) (record { ref_ptr = (pb, there); now = xs }) (tt, (tt, (tt, tt)))
    (fact_i 𝓤 (xs ≡ xs) (emp 𝓤) refl)))))))))))
