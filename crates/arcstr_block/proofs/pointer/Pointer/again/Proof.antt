-- `again` takes no step: a permanent share can be duplicated.
use Rattle.arcstr_block.proofs.Names.{◌≡◌, ℕ, [], ◌∷◌, refl, sym, ap, length, inst_fn, dcons, dnil, a_type, named, Val, vptr, Lft, Share, Fml, fsep, flft}
use Rattle.arcstr_block.proofs.Names.{ftrue, SProp, fact, tables, param, bounded, RattleType, owns, block_of, Ptr, block_ptr, count_of, at_block, shr_vals}
use Rattle.arcstr_block.proofs.Names.{shr_Tells, types_at, heard, alloc_all, pass_all, free_all, look_at, get, sets, env, through, is, ‵, ◌⊛◌, ◌$◌, ◌∵◌, !, qed}
use Rattle.arcstr_block.proofs.Names.{move, split, join, fsplit, fjoin, raw, by, keep, fsplit3, rewrite, use3, sub, whole, agg, look_in, stop, fld, of_opd}
use Rattle.arcstr_block.proofs.Names.{no_more, and_then, returns, enter, load, proved, shown, block_owns, block_shares, word_at, Right, fixed}
use Rattle.arcstr_block.proofs.Memory.{shares_laws}
use Rattle.arcstr_block.proofs.Pointers.{pointer_val, typed, Words}
use Rattle.arcstr_block.specs.contracts.pointer.Pointer.again.{ended, clauses}
use Rattle.arcstr_block.specs.contracts.pointer.Pointer.again.Key.{name as #self}
use Rattle.arcstr_block.proofs.pointer.Pointer.again.Statement.{statement}
use Rattle.arcstr_block.specs.contracts.pointer.Pointer as C
use Rattle.arcstr_block.proofs.Pointers as framed
use Rattle.arcstr_block.proofs.pointer.Pointer.again.Code as code
use Rattle.arcstr_block.proofs.Endings.{all_dropped, all_go, Walk, ends}
use Rattle.arcstr_block.specs.Steps.{IsSameBlock}
use Rattle.arcstr_block.proofs.Walks.{of_shown, address}

pub again_spec : {M : Type 1} → statement M
again_spec 𝓤 𝓛 𝓜 𝓡 wired Y K g d dd met md =
    let H = 𝓛.H in let 𝓣 = tables 𝓤 H 𝓜 𝓡 𝓡.env in let B : RattleType = param 0 Y in let En = ended Y g d dd in let c = clauses Y g d dd 𝓛 𝓜.mem 𝓡.returns in
    let inst = bounded (a_type ∷ []) (Y, tt) (dcons d (dcons dd dnil)) in let fn = inst_fn inst code.function in
    let Row : RattleType = C.the_row B g in let D : RattleType = Words B g in
    proved 𝓛 En (all_dropped En) c 𝓜 𝓡 (all_go 𝓛 En (λ κs x f. refl, tt)) (#self inst) fn (code.unfolded 𝓤 H 𝓜 𝓡 wired (Y, tt) d dd)
    (λ κs. (shr_vals, tt)) (λ κs. (shr_Tells (named 0) κs.0 Row, tt)) (λ κs qs bounds a gh are.
    let b : ℕ = a.0.ref_ptr.0 in let o : ℕ = a.0.ref_ptr.1 in let κ : Lft = κs.0 in let q : Share = qs.0 in
    let others : Fml = fsep (flft κs.1.0 qs.1.0) ftrue in
    let h : Row.Denot = a.0.now in let p : Ptr = h.at in let right : Right = h.right in let lim : ℕ = h.limit in let holds = g.dealloc_token h.home in
    let P : Fml = block_owns holds p h.text in let s : Lft → Fml = block_shares p h.text in
    let sl = shares_laws p h.text in
    let pb : ℕ = block_of p in let po : ℕ = word_at p (length h.text) in
    let y : (Walk 𝓛 En c).Ghost = ((κs, qs, bounds, a, (vptr b o ∷ [], tt)), gh) in let Post : Val → SProp 𝓤 = (Walk 𝓛 En c).post y in
    qed 𝓛 (((‵ (flft κ q) ⊛ ‵ others) ⊛ ‵ (owns (types_at En.signature.params κs) a y.0.4)) ∷ raw (fact 𝓤 _) ∷ raw (fact 𝓤 (right ≡ fixed)) ∷ []) ∵
    keep ! (2 ∷ 0 ∷ []) $ heard ! (right ≡ fixed) (λ same_right. split ! $ split ! $ move ! (2 ∷ []) $ fsplit ! $ fsplit ! $ keep ! (1 ∷ 3 ∷ 4 ∷ []) $
    enter ! 𝓣.C 𝓣.Λ fn (vptr b o ∷ []) Post $ alloc_all ! (λ l. pass_all ! refl ((tt, tt), tt) $ let Ev = env fn.locals l in
    of_shown B g h κ b o ! (λ inb t named. let at : p ≡ block_ptr pb (count_of p) = at_block p inb.0 in
    rewrite ! 0 (λ (k : Right). ‵ (shown P lim pb po t s h.seat k κ)) same_right refl $ fsplit3 ! $
    -- [the permanent share; the invariant; what is shared; the prefix; the fields; κ; the others]
    move ! (4 ∷ 5 ∷ []) $ address B g h κ b o ! tt inb.0 (λ e X.
    sets ! (of_opd ! (load ! (through ! refl (fld ! refl (stop !))) (look_in ! 0 (sub ! 0 refl (whole !))))) refl (tt, tt)) tt $
    -- [κ; the fields; the permanent share; the invariant; what is shared; the prefix; the others]
    move ! (0 ∷ 6 ∷ []) $ join ! $ move ! (2 ∷ 4 ∷ []) $ fjoin ! $ move ! (4 ∷ []) $
    -- [the prefix; the right; the tokens; the fields; the invariant]
    let h' : Row.Denot = record h { right = fixed } in let r : Val = pointer_val p in
    move ! (1 ∷ 4 ∷ 0 ∷ []) $ use3 𝓛 (‵ (Row.own_val h' (pointer_val p ∷ []))) (framed.pointer_in 𝓛 B g h' t named inb) $
    sets ! (agg ! (no_more !)) refl (tt, tt) $ sets ! (is ! (agg ! (and_then ! (get ! refl) (and_then ! (get ! refl) (no_more !)))) (ap pointer_val
    (sym at))) refl (typed p) $
    let together : IsSameBlock h' h = (refl, refl, refl, refl) in returns ! (look_at ! 0 refl) $ free_all ! refl $ keep ! (0 ∷ 1 ∷ []) $
    by ! (ends 𝓛 En c y r h' (tt, tt) (framed.three 𝓛 {X = fixed ≡ fixed} {Y = h.history ≡ h.history} refl refl together))))))
