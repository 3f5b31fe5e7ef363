-- `bytes` shows the bytes of the text, for as long as the pointer is borrowed.
use Rattle.arcstr_block.proofs.Names.{◌≡◌, ℕ, ◌^◌, [], ◌∷◌, refl, arith, List, sym, ap, length, ◌<◌, ◌∙◌, ◌*◌, w64, IsUtf8, inst_fn, dcons, dnil, a_type, named}
use Rattle.arcstr_block.proofs.Names.{Val, vint, vptr, WT, Lft, Share, Fml, fsep, flft, finv, fshr_bor, ftrue, emp, SProp, meet_⊑_left, fact, fact_i}
use Rattle.arcstr_block.proofs.Names.{tables, Array, u8, Is, shows, cell_at, hide, param, bounded, uint_vals, uint_Tells, RattleType, owns, block_of, Ptr}
use Rattle.arcstr_block.proofs.Names.{block_ptr, count_of, at_block, shr_vals, shr_Tells, types_at, slice_val, heard, peeks, looks, shuts, lent_at, alloc_all}
use Rattle.arcstr_block.proofs.Names.{pass_all, free_all, look_at, get, sets, env, through, sets_last, ‵, ◌⊛◌, ◌$◌, ◌∵◌, !, qed, move, use1, use2, split}
use Rattle.arcstr_block.proofs.Names.{split3, join, fsplit, fjoin, raw, by, keep, drop, rewrite, feq_i, flt_i, at_ret, sub, whole, agg, look_in, stop, fld}
use Rattle.arcstr_block.proofs.Names.{of_opd, no_more, and_then, first, blocks, exec, returns, enter, load, tail, proved, Inv, block_owns, block_shares}
use Rattle.arcstr_block.proofs.Names.{word_at, Right, MaySee}
use denote.Moves.{moves_from}
use Rattle.arcstr_block.proofs.Memory.{shares_laws}
use Rattle.arcstr_block.proofs.Pointers.{pointer_val, Words, told, opened}
use Rattle.arcstr_block.specs.contracts.pointer.Pointer.bytes.{ended, clauses}
use Rattle.arcstr_block.specs.contracts.pointer.Pointer.bytes.Key.{name as #self}
use Rattle.arcstr_block.proofs.pointer.Pointer.bytes.Statement.{statement}
use Rattle.arcstr_block.proofs.Rights as rights
use Rattle.arcstr_block.specs.contracts.pointer.Pointer as C
use Rattle.arcstr_block.proofs.pointer.Pointer.bytes.Code as code
use Rattle.arcstr_block.proofs.Endings.{all_dropped, all_go, Walk, ends, also}
use Rattle.arcstr_block.proofs.Walks.{of_shown}

pub bytes_spec : {M : Type 1} → statement M
bytes_spec 𝓤 𝓛 𝓜 𝓡 wired Y K g d dd met md =
    let H = 𝓛.H in let 𝓣 = tables 𝓤 H 𝓜 𝓡 𝓡.env in let B : RattleType = param 0 Y in let En = ended Y g d dd in let c = clauses Y g d dd 𝓛 𝓜.mem 𝓡.returns in
    let inst = bounded (a_type ∷ []) (Y, tt) (dcons d (dcons dd dnil)) in let fn = inst_fn inst code.function in
    let Row : RattleType = C.the_row B g in let D : RattleType = Words B g in
    proved 𝓛 En (all_dropped En) c 𝓜 𝓡 (all_go 𝓛 En (λ κs x f. refl, (λ κs x f. refl, tt))) (#self inst) fn (code.unfolded 𝓤 H 𝓜 𝓡 wired (Y, tt) d dd)
    (λ κs. (shr_vals, (uint_vals w64, tt))) (λ κs. (shr_Tells (named 0) κs.0 Row, (uint_Tells w64, tt))) (λ κs qs bounds a gh are.
    let b : ℕ = a.0.ref_ptr.0 in let o : ℕ = a.0.ref_ptr.1 in let κ : Lft = κs.0 in let q : Share = qs.0 in
    let others : Fml = fsep (flft κs.1.0 qs.1.0) ftrue in
    let h : Row.Denot = a.0.now in let p : Ptr = h.at in let right : Right = h.right in let lim : ℕ = h.limit in let holds = g.dealloc_token h.home in
    let P : Fml = block_owns holds p h.text in let s : Lft → Fml = block_shares p h.text in
    let sl = shares_laws p h.text in
    let len : ℕ = a.1.0 in let xs : List ℕ = h.text in let n : ℕ = length xs in let fits : len < 2 ^ 64 = are.1.0.1 in let pb : ℕ = block_of p in
    let po : ℕ = word_at p (length h.text) in
    let y : (Walk 𝓛 En c).Ghost = ((κs, qs, bounds, a, (vptr b o ∷ [], (vint w64 len ∷ [], tt))), gh) in
    let Post : Val → SProp 𝓤 = (Walk 𝓛 En c).post y in
    qed 𝓛 (((‵ (flft κ q) ⊛ ‵ others) ⊛ ‵ (owns (types_at En.signature.params κs) a y.0.4)) ∷ raw (fact 𝓤 _) ∷ raw (fact 𝓤 (MaySee right)) ∷ raw (fact 𝓤
    (len ≡ n)) ∷ []) ∵
    keep ! (2 ∷ 3 ∷ 0 ∷ []) $ heard ! (MaySee right) (λ may. heard ! (len ≡ n) (λ long. split ! $ split ! $ move ! (2 ∷ []) $ fsplit ! $ fsplit ! $
    keep ! (1 ∷ 3 ∷ 4 ∷ []) $
    enter ! 𝓣.C 𝓣.Λ fn (vptr b o ∷ vint w64 len ∷ []) Post $ alloc_all ! (λ l. pass_all ! refl ((tt, tt), ((tt, record { fits = fits }), tt)) $
    let Ev = env fn.locals l in
    of_shown B g h κ b o ! (λ inb t named. let at : p ≡ block_ptr pb (count_of p) = at_block p inb.0 in
    let I : Fml = Inv P lim pb po t in let af : Lft = t.sharing ∷ [] in
    move ! (1 ∷ []) $ drop ! $ use1 𝓛 (‵ (fshr_bor κ (λ r. flft af r)) ⊛ ‵ (finv I) ⊛ ‵ (s af)) (rights.may_see 𝓛 P lim pb po t s sl h.seat right may κ) $
    split3 ! $
    -- [the share; the invariant; what is shared; the fields; κ; the others]
    move ! (0 ∷ 2 ∷ []) $ use2 𝓛 (‵ (s κ)) (moves_from 𝓛 s sl κ af af (meet_⊑_left af κ)) $ fsplit ! $ drop ! $
    rewrite ! 0 (λ (r : Ptr). ‵ (lent_at (Array u8 n) r xs κ)) at refl $ fsplit ! $ drop ! $ fsplit ! $ drop ! $ hide ! $
    -- [what is shown; the invariant; the fields; κ; the others]
    move ! (2 ∷ 3 ∷ []) $ looks ! tt D (opened B g 𝓛) (p, (tt, tt)) b o (λ e vs. move ! (1 ∷ []) $ peeks ! D (Is D) (shows 𝓛 D) (p, (tt, tt)) vs (λ so.
    let ev : vs ≡ pointer_val (block_ptr pb (count_of p)) ∷ [] = told B g p vs so ∙ ap (λ (r : Ptr). pointer_val r ∷ []) at in
    let there : ℕ = count_of p in let whole_len : WT (vint w64 len) = record { fits = fits } in
    rewrite ! 1 (λ (ws : List Val). ‵ (cell_at e D.mir ws b o)) ev refl $ first ! $ blocks ! $
    sets ! (of_opd ! (load ! (through ! refl (fld ! refl (stop !))) (look_in ! 1 (sub ! 0 refl (whole !))))) refl (tt, tt) $
    sets_last ! (agg ! (and_then ! (get ! refl) (and_then ! (get ! refl) (no_more !)))) refl (tt, (tt, (whole_len, tt))) $
    exec ! 𝓣.C 𝓣.Λ Ev (tail fn.body) (at_ret Ev Post) $
    sets ! (of_opd ! (get ! refl)) refl (tt, (tt, (whole_len, tt))) $ rewrite ! 1 (λ (ws : List Val). ‵ (cell_at e D.mir ws b o)) (sym ev) refl $
    move ! (1 ∷ 0 ∷ 2 ∷ []) $ shuts ! tt D e (p, (tt, tt)) vs b o $
    -- [κ; the fields; what is shown; the invariant; the others]
    move ! (0 ∷ 4 ∷ []) $ join ! $ move ! (2 ∷ []) $ flt_i ! (n * 1) (2 ^ 63) (let x = inb.1.0 in omega arith) $
    flt_i ! n (2 ^ 64) (let x = inb.1.0 in omega arith) $ fjoin ! $
    feq_i ! (List Val) (slice_val (pb, there) len ∷ []) (slice_val (pb, there) n ∷ []) (ap (λ k. slice_val (pb, there) k ∷ []) long) $ fjoin ! $ fjoin ! $
    returns ! (look_at ! 0 refl) $ free_all ! refl $ keep ! (0 ∷ 1 ∷ []) $
    by ! (ends 𝓛 En c y (slice_val (pb, there) len) (record { ref_ptr = (pb, there); now = xs }) (tt, (tt, tt))
    (also 𝓛 {X = xs ≡ xs} refl (fact_i 𝓤 (IsUtf8 xs) (emp 𝓤) inb.1.1))))))))))
