-- `make` allocates a block's room, cuts it in three, writes the word and the length, and makes a row of the bytes.
use Rattle.arcstr_block.proofs.Names.{◌≡◌, ℕ, ◌^◌, Bool, true, [], ◌∷◌, refl, arith, lit<, false, List, sym, ap, length, ◌+◌, ◌<◌, ◌∙◌, w64, replicate}
use Rattle.arcstr_block.proofs.Names.{inst_fn, bare, Ty, w8, ty_int, ty_array, dcons, dnil, a_type, named, Body, Val, vint, vptr, vstruct, WT, vcons, vnil, Wp}
use Rattle.arcstr_block.proofs.Names.{after_seq, at_return, Lft, Share, Incl-trans, Fml, fsep, flft, ftrue, fwand, froom, full_share, SProp, ◌⊑◌, fact, tables}
use Rattle.arcstr_block.proofs.Names.{usize, part_at, param, bounded, uint_vals, uint_Tells, RattleType, Valss, owns, Ptr, block_ptr, InBlock, shr_vals}
use Rattle.arcstr_block.proofs.Names.{shr_Tells, makes_shadow, types_at, nothing, heard, within, Tuple, tuple_type, calls_at, alloc_all, pass_all, free_all}
use Rattle.arcstr_block.proofs.Names.{look_at, get, get_in, sets, env, through, sets_last, is, get_tag, lands_as, ‵, ◌⊛◌, later, ◌$◌, ◌∵◌, !, qed, move}
use Rattle.arcstr_block.proofs.Names.{use0, use1, use2, split, join, fsplit, fjoin, fjoin3, fpack, await, raw, by, keep, fsplit3, rewrite}
use Rattle.arcstr_block.proofs.Names.{feq_i, at_ret, any_q, agg, stop, fld, lit, of_opd, no_more, and_then, first, exec, returns, enter, addr, bin, switches_on}
use Rattle.arcstr_block.proofs.Names.{◌*◌, flt_i, init, assigns, Al, Answer-typed, Takes, at_takes, Answered, Takes-goes, Takes-gives, answers, word_in, slots}
use Rattle.arcstr_block.proofs.Names.{fm, proved, Fits, word_offset, block_size, block_type, rooms}
use types.Part.{whole as all_of_it}
use lib.ListN.{length-replicate}
use types.Match.{live, vrt, in_variant}
use Rattle.core.specs.declared.result.Result.TheVariants.{Ok, Err}
use Rattle.core.proofs.once.Made.{ok_of, err_of}
use Rattle.core.proofs.slots.Bodies.{after, head, arm_body}
use Rattle.core.proofs.slots.Places.{of_room}
use Rattle.arcstr_block.proofs.Pointers.{pointer_val, typed, Words, made}
use Rattle.arcstr_block.proofs.Memory.{block_bytes, block_align, spreads, byte, R, RowFields, row_val, row_typed, row_made}
use Rattle.arcstr_block.specs.contracts.block.Blank.make.{ended, clauses}
use Rattle.arcstr_block.specs.contracts.block.Blank.make.Key.{name as #self}
use Rattle.arcstr_block.proofs.block.Blank.make.Statement.{statement}
use denote.Struct.Declared as declared
use Rattle.core.specs.contracts.alloc.AllocError as refusal
use Rattle.core.specs.contracts.result.Result as Res
use Rattle.arcstr_block.specs.contracts.block.Row as RW
use Rattle.arcstr_block.specs.contracts.block.Blank as N
use Rattle.arcstr_block.proofs.block.Blank.make.Code as code
use Rattle.arcstr_block.proofs.Endings.{all_dropped, all_go, Walk, ends, also}
use Rattle.arcstr_block.proofs.Pointers as framed

pub make_spec : {M : Type 1} → statement M
make_spec 𝓤 𝓛 𝓜 𝓡 wired Y K g d dd met md =
    let H = 𝓛.H in let 𝓣 = tables 𝓤 H 𝓜 𝓡 𝓡.env in let B : RattleType = param 0 Y in let En = ended Y g d dd in let c = clauses Y g d dd 𝓛 𝓜.mem 𝓡.returns in
    let inst = bounded (a_type ∷ []) (Y, tt) (dcons d (dcons dd dnil)) in let fn = inst_fn inst code.function in
    let Open : RattleType = N.the_row B g in
    let Z : Al = record { row = Y; laws = K; g = g; d = d; drops = dd } in let Two : RattleType = Tuple (Open ∷ RW.the_row ∷ []) in
    let Out : RattleType = Res.the_row Two refusal.the_row in
    proved 𝓛 En (all_dropped En) c 𝓜 𝓡 (all_go 𝓛 En (λ κs x f. refl, (λ κs x f. refl, (λ κs x f. refl, (λ κs x f. refl, (λ κs x f. refl, tt))))))
    (#self inst) fn (code.unfolded 𝓤 H 𝓜 𝓡 wired (Y, tt) d dd)
    (λ κs. (shr_vals, (uint_vals w64, (uint_vals w64, (uint_vals w64, (uint_vals w64, tt)))))) (λ κs.
    (shr_Tells (named 0) κs.0 B, (uint_Tells w64, (uint_Tells w64, (uint_Tells w64, (uint_Tells w64, tt)))))) (λ κs qs bounds a gh are.
    let hp : ℕ × ℕ = a.0.ref_ptr in let heap : Y.Denot = a.0.now in let w : ℕ = a.1.0 in let n : ℕ = a.1.1.0 in let offset : ℕ = a.1.1.1.0 in
    let size : ℕ = a.1.1.1.1.0 in
    let κ : Lft = κs.0 in let q : Share = qs.0 in
    let token : Ty → Ptr → Fml = g.dealloc_token heap in let τ : Ty = bare (block_type n) in let fit_w : WT (vint w64 w) = record { fits = are.1.0.1 } in
    let fit_n : WT (vint w64 n) = record { fits = are.1.1.0.1 } in let fit_offset : WT (vint w64 offset) = record { fits = are.1.1.1.0.1 } in
    let small : size < 2 ^ 64 = are.1.1.1.1.0.1 in
    let us : List Val = vptr hp.0 hp.1 ∷ vint w64 w ∷ vint w64 n ∷ vint w64 offset ∷ vint w64 size ∷ [] in
    let vs : Valss (types_at En.signature.params κs) =
    (vptr hp.0 hp.1 ∷ [], (vint w64 w ∷ [], (vint w64 n ∷ [], (vint w64 offset ∷ [], (vint w64 size ∷ [], tt))))) in
    let y : (Walk 𝓛 En c).Ghost = ((κs, qs, bounds, a, vs), gh) in
    let Post : Val → SProp 𝓤 = (Walk 𝓛 En c).post y in
    let others : Fml = fsep (flft κs.1.0 qs.1.0) ftrue in
    qed 𝓛 (((‵ (flft κ q) ⊛ ‵ others) ⊛ ‵ (owns (types_at En.signature.params κs) a y.0.4)) ∷ raw (fact 𝓤 (κs.1.0 ⊑ Y.lives)) ∷ raw (fact 𝓤
    (offset ≡ word_offset n)) ∷ raw (fact 𝓤 (size ≡ block_size n)) ∷ raw (fact 𝓤 (Fits n)) ∷ []) ∵
    keep ! (1 ∷ 2 ∷ 3 ∷ 4 ∷ 0 ∷ []) $
    heard ! (κs.1.0 ⊑ Y.lives) (λ inside. heard ! (offset ≡ word_offset n) (λ placed. heard ! (size ≡ block_size n) (λ sized.
    heard ! (Fits n) (λ fits. split ! $ split ! $
    move ! (2 ∷ []) $ fsplit ! $ fsplit ! $ keep ! (1 ∷ 3 ∷ 4 ∷ []) $
    enter ! 𝓣.C 𝓣.Λ fn us Post $
    alloc_all ! (λ l. pass_all ! refl ((tt, tt), ((tt, fit_w), ((tt, fit_n), ((tt, fit_offset), ((tt, record { fits = small }), tt))))) $
    let Ev = env fn.locals l in let both : Body = head (after 1 fn.body) in
    let Then = any_q (after_seq 𝓤 H (Wp 𝓤 H 𝓣.C 𝓣.Λ Ev (after 2 fn.body) (at_return 𝓤 H Ev Post)) (at_return 𝓤 H Ev Post)) in
    let Asked = Takes Z 𝓛 𝓜.mem 𝓡.returns in let z : Asked.Ghost = at_takes Z 𝓛 𝓜.mem 𝓡.returns κ q hp heap size 8 τ in
    use2 𝓛 (raw (Asked.pre z)) (Takes-goes Z 𝓛 𝓜.mem 𝓡.returns κ q hp heap (Incl-trans bounds.0 inside) size 8 τ (block_bytes n fits ∙ sym sized)
    (block_align n) small (lit< tt)) $
    calls_at ! (fm 𝓛 𝓜 𝓡) Asked (met.allocate dd) z (and_then ! (get ! refl) (and_then ! (get ! refl) (and_then ! (lit ! tt) (no_more !)))) (λ u.
    use1 𝓛 (later (raw (Answered Z 𝓛 𝓜.mem 𝓡.returns heap τ u) ⊛ ‵ (flft κ q))) (Takes-gives Z 𝓛 𝓜.mem 𝓡.returns κ q hp heap size 8 τ u) $ await ! tt $
    split ! $ move ! (1 ∷ 2 ∷ []) $ join ! $ move ! (1 ∷ []) $
    answers Z ! 𝓜.mem 𝓡.returns heap τ u
    (λ b o e. let p : Ptr = block_ptr b o in let t : ℕ = o + word_offset n in let zs : List ℕ = replicate n 0 in
    let fs : List Bool = replicate (length zs) false in
    let long : n ≡ length zs = sym (length-replicate n 0) in
    use1 𝓛 (‵ (rooms n b o) ⊛ ‵ (fwand (rooms n b o) (froom τ b o))) (spreads 𝓛 n b o) $ split ! $ move ! (1 ∷ 2 ∷ []) $ fjoin ! $ move ! (1 ∷ []) $ fsplit3 ! $
    move ! (2 ∷ []) $ fsplit ! $
    -- [room for the length; nothing; room for the bytes, and for the word; the rim; the tokens]
    lands_as ! e refl (Answer-typed true b o) $ first ! $ switches_on ! (get_tag ! (vrt ! refl (fld ! refl (stop !))) (all_of_it !)) $
    exec ! 𝓣.C 𝓣.Λ Ev (arm_body 0 both) Then $
    sets ! (of_opd ! (get_in ! (vrt ! refl (fld ! refl (stop !))) (in_variant ! 0 0 refl refl (all_of_it !)))) refl (tt, tt) $
    sets ! (is ! (bin ! (get ! refl) (get ! refl) tt) (ap (vptr b) (let x : offset + o ≡ t = omega (arith, placed) in x))) refl (tt, tt) $
    sets ! (of_opd ! (get ! refl)) refl (tt, tt) $
    sets ! (addr ! (through ! refl (fld ! refl (stop !)))) refl (tt, tt) $
    assigns ! (of_opd ! (get ! refl)) (through ! refl (stop !)) (init ! 3 refl (tt, fit_w)) $
    sets ! (addr ! (through ! refl (fld ! refl (stop !)))) refl (tt, tt) $
    assigns ! (of_opd ! (get ! refl)) (through ! refl (stop !)) (init ! 0 refl (tt, fit_n)) $ move ! (2 ∷ []) $
    rewrite ! 0 (λ (m : ℕ). ‵ (froom (ty_array (ty_int w8) m) b o)) long refl $
    use1 𝓛 (‵ (slots R (block_ptr b o) zs fs)) (of_room byte 𝓛 b zs o) $
    flt_i ! (length zs * 1) (2 ^ 63) (omega arith) $ fjoin ! $
    use0 𝓛 (‵ (RowFields.own_val (p, tt) (row_val p ∷ []))) (row_made 𝓛 p) $ fjoin ! $
    let r : RW.the_row.Denot = record { at = p; items = zs; filled = fs; counts = sym (length-replicate (length zs) false) } in
    let wv : Val = row_val p in let wt = row_typed p in
    let pair : Val = vstruct (vcons (pointer_val p) (vcons wv vnil)) in let val : Val = live 0 (vcons pair vnil) in
    let good : WT val = (record { fits = lit< tt }, (((tt, (tt, tt)), (wt.1, tt)), tt)) in
    sets ! (agg ! (and_then ! (get ! refl) (no_more !))) refl wt $
    sets ! (agg ! (no_more !)) refl (tt, tt) $ sets ! (agg ! (and_then ! (get ! refl) (and_then ! (get ! refl) (no_more !)))) refl (typed p) $
    sets ! (of_opd ! (get ! refl)) refl (typed p) $ sets ! (of_opd ! (get ! refl)) refl wt $
    sets ! (agg ! (and_then ! (get ! refl) (and_then ! (get ! refl) (no_more !)))) refl (tt, ((tt, (tt, tt)), (wt.1, tt))) $
    sets_last ! (agg ! (and_then ! (lit ! tt) (and_then ! (get ! refl) (no_more !)))) refl (tt, good) $
    exec ! 𝓣.C 𝓣.Λ Ev (after 2 fn.body) (at_ret Ev Post) $ sets ! (of_opd ! (get ! refl)) refl (tt, good) $
    -- [the row; the length; nothing; the word; the rim; the tokens]
    move ! (1 ∷ []) $ use1 𝓛 (‵ (part_at usize full_share n b (t + 8))) (word_in 𝓛 b (t + 8) n) $ move ! (3 ∷ 0 ∷ 4 ∷ []) $ fjoin3 ! $ nothing ! $
    fpack ! (InBlock p × Fits n) (λ _. ftrue) (tt, fits) $ fjoin ! $
    use0 𝓛 (‵ ((Words B g).own_val (p, (tt, tt)) (pointer_val p ∷ []))) (made B g 𝓛 p) $ fjoin ! $ move ! (0 ∷ 1 ∷ 2 ∷ []) $ fjoin3 ! $
    feq_i ! (List Val) (pair ∷ []) (pair ∷ []) refl $ fjoin ! $
    let h : Open.Denot = record { at = p; marker = record {}; home = heap; word = w; length = n } in
    let words : Valss (Open ∷ RW.the_row ∷ []) = (pointer_val p ∷ [], (wv ∷ [], tt)) in
    fpack ! (Valss (Open ∷ RW.the_row ∷ [])) (within (declared.shape (tuple_type (Open ∷ RW.the_row ∷ []))) (h, (r, tt)) (pair ∷ [])) words $
    use1 𝓛 (‵ (Out.own_val (Ok (h, r)) (val ∷ []))) (ok_of 𝓛 Two refusal.the_row (h, r) pair) $
    returns ! (look_at ! 0 refl) $ free_all ! refl $ keep ! (0 ∷ 1 ∷ []) $ by ! (ends 𝓛 En c y val (Ok (h, r)) (tt, (tt, (tt, (tt, (tt, tt)))))
    (also 𝓛 {X = heap ≡ heap} refl (also 𝓛 {X = w ≡ w} refl (framed.three 𝓛 {X = (n ≡ n) × (length zs ≡ n)} (refl, sym long) refl refl)))))
    (λ e. let val : Val = live 1 (vcons (vstruct vnil) vnil) in let good : WT val = (record { fits = lit< tt }, (tt, tt)) in
    let F : Fml = refusal.the_row.own_val (record {}) (vstruct vnil ∷ []) in let so : Unit {0} = tt in
    lands_as ! e refl (Answer-typed false 0 0) $ first ! $ switches_on ! (get_tag ! (vrt ! refl (fld ! refl (stop !))) (all_of_it !)) $
    exec ! 𝓣.C 𝓣.Λ Ev (arm_body 1 both) Then $
    sets ! (of_opd ! (get_in ! (vrt ! refl (fld ! refl (stop !))) (in_variant ! 1 0 refl refl (all_of_it !)))) refl (tt, tt) $
    sets_last ! (agg ! (and_then ! (lit ! tt) (and_then ! (get ! refl) (no_more !)))) refl (tt, good) $ exec ! 𝓣.C 𝓣.Λ Ev (after 2 fn.body) (at_ret Ev Post) $
    sets ! (of_opd ! (get ! refl)) refl (tt, good) $
    use0 𝓛 (‵ F) (makes_shadow 𝓛 F (λ uss. (tt, tt)) (tt, (refl, tt))) $
    use1 𝓛 (‵ (Out.own_val (Err (record {})) (val ∷ []))) (err_of 𝓛 Two refusal.the_row (record {}) (vstruct vnil)) $
    returns ! (look_at ! 0 refl) $ free_all ! refl $ keep ! (0 ∷ 1 ∷ []) $ by ! (ends 𝓛 En c y val (Err (record {})) (tt, (tt, (tt, (tt, (tt, tt)))))
    (also 𝓛 so (also 𝓛 so (framed.three 𝓛 so so so))))))))))))
