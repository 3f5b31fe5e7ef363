-- `into_slots` makes the bytes `Slots` again.
use Rattle.arcstr_block.proofs.Names.{◌≡◌, ℕ, ◌^◌, Bool, [], ◌∷◌, refl, arith, List, sym, subst, ap, length, ◌<◌, ◌∙◌, w64, T, has_ty, ty_int, tcons, tnil}
use Rattle.arcstr_block.proofs.Names.{ty_ptr, ty_struct, Val, vint, WT, emp, SProp, fact, fact_i, tables, id⊢}
use Rattle.arcstr_block.proofs.Names.{u8, owns, Ptr, block_ptr, ptr_val, in_block, types_at, calls_at_last, alive, alloc_all, pass_all, free_all, look_at}
use Rattle.arcstr_block.proofs.Names.{heard}
use Rattle.arcstr_block.proofs.Names.{get, get_in, sets, lands_last, env, is, ‵, ◌⊛◌, some, later, ◌$◌, ◌∵◌, !, qed, move, pick, use1, split, fsplit, flt_l}
use Rattle.arcstr_block.proofs.Names.{await}
use Rattle.arcstr_block.proofs.Names.{raw, by, keep, drop, given, learn, rewrite, at_ret, sub, whole, stop, fld, of_opd, no_more, and_then, first, blocks, exec}
use Rattle.arcstr_block.proofs.Names.{returns, enter, tail, words_val, slots, Slots, fm, proved, uint_vals, uint_Tells}
use base.Logic.{never}
use denote.RawPtr.{in_a_block}
use Rattle.arcstr_block.proofs.Memory.{byte_laws, Bytes, MakeContract, at_makes, IsSlotsMade, makes_goes, makes_gives, words_typed, row_val, row_typed}
use Rattle.arcstr_block.proofs.Memory.{row_told}
use Rattle.arcstr_block.specs.contracts.block.Row.into_slots.{ended, clauses}
use Rattle.arcstr_block.specs.contracts.block.Row.into_slots.Key.{name as #self}
use Rattle.arcstr_block.proofs.block.Row.into_slots.Statement.{statement}
use Rattle.core.proofs.slots.Slots.from_raw_parts.Met as callee
use Rattle.arcstr_block.specs.contracts.block.Row as C
use Rattle.arcstr_block.proofs.block.Row.into_slots.Code as code
use Rattle.arcstr_block.proofs.Endings.{all_dropped, all_go, Walk, ends, also}

pub into_slots_spec : {M : Type 1} → statement M
into_slots_spec 𝓤 𝓛 𝓜 𝓡 wired =
    let H = 𝓛.H in let 𝓣 = tables 𝓤 H 𝓜 𝓡 𝓡.env in let En = ended in let c = clauses 𝓛 𝓜.mem 𝓡.returns in let fn = code.function in
    proved 𝓛 En (all_dropped En) c 𝓜 𝓡 (all_go 𝓛 En (λ κs x f. refl, (λ κs x f. refl, tt))) #self fn (code.unfolded 𝓤 H 𝓜 𝓡 wired)
    (λ κs. ((λ x. row_val x.at ∷ []), (uint_vals w64, tt))) (λ κs. ((λ x vs so. row_told x.at vs so.0), (uint_Tells w64, tt))) (λ κs qs bounds a gh are.
    let h : C.the_row.Denot = a.0 in let p : Ptr = h.at in let xs : List ℕ = h.items in let fs : List Bool = h.filled in let n : ℕ = a.1.0 in
    let fits : n < 2 ^ 64 = are.1.0.1 in
    let y : (Walk 𝓛 En c).Ghost = ((κs, qs, bounds, a, (row_val p ∷ [], (vint w64 n ∷ [], tt))), gh) in let Post : Val → SProp 𝓤 = (Walk 𝓛 En c).post y in
    qed 𝓛 ((raw (alive 𝓛 En.signature κs qs) ⊛ ‵ (owns (types_at En.signature.params κs) a y.0.4)) ∷ raw (fact 𝓤 (n ≡ length xs)) ∷ []) ∵
    move ! (1 ∷ []) $ heard ! (n ≡ length xs) (λ long. split ! $ move ! (1 ∷ []) $ fsplit ! $ fsplit ! $ drop ! $ fsplit ! $ flt_l ! (λ small.
    in_a_block ! p (λ r. in_block r (slots u8 r xs fs)) (id⊢ 𝓤 (never 𝓤)) (λ b o e. keep ! (0 ∷ 2 ∷ []) $
    -- [the slots; the tokens]
    enter ! 𝓣.C 𝓣.Λ fn (row_val p ∷ vint w64 n ∷ []) Post $ alloc_all ! (λ l. pass_all ! refl (row_typed p, ((tt, record { fits = fits }), tt)) $
    let Ev = env fn.locals l in let wv : Val = words_val (block_ptr b o) n in
    sets ! (is ! (of_opd ! (get_in ! (fld ! refl (stop !)) (sub ! 0 refl (whole !)))) (ap ptr_val e)) refl (tt, tt) $ first ! $ blocks ! $
    let Asked = MakeContract 𝓛 𝓜.mem 𝓡.returns in let x : Asked.Ghost = at_makes 𝓛 𝓜.mem 𝓡.returns b o n xs fs in
    use1 𝓛 (raw (Asked.pre x)) (makes_goes 𝓛 𝓜.mem 𝓡.returns b o n xs fs long (long ∙ h.counts) (omega (arith, small, long))) $
    calls_at_last ! (fm 𝓛 𝓜 𝓡) Asked (callee.met 𝓤 𝓛 𝓜 𝓡 (code.calls-core::slots::Slots::from_raw_parts 𝓡.env wired) u8 byte_laws) x (and_then ! (get ! refl)
    (and_then ! (get ! refl) (no_more !))) (λ v.
    use1 𝓛 (later (some (λ (r : Slots ℕ). given (IsSlotsMade 𝓛 𝓜.mem 𝓡.returns b o n xs fs r × (v ≡ wv)) (‵ (Bytes.own_val r (v ∷ []))))))
    (makes_gives 𝓛 𝓜.mem 𝓡.returns b o n xs fs v) $ await ! tt $ pick ! (λ r. learn ! (λ made.
    let good = words_typed (block_ptr b o) n fits in
    rewrite ! 0 (λ (t : Val). ‵ (Bytes.own_val r (t ∷ []))) made.1 refl $
    lands_last ! refl (subst (λ (z : Val). T (has_ty (ty_struct [] (tcons ty_ptr (tcons (ty_int w64) tnil))) z) × WT z)
    (sym made.1) good) $ exec ! 𝓣.C 𝓣.Λ Ev (tail (tail fn.body)) (at_ret Ev Post) $ sets ! (is ! (of_opd ! (get ! refl)) made.1) refl good $
    returns ! (look_at ! 0 refl) $ free_all ! refl $ by ! (ends 𝓛 En c y wv r (tt, (tt, tt))
    (also 𝓛 {X = r.ptr ≡ p} (made.0.0 ∙ sym e) (also 𝓛 {X = r.len ≡ n} made.0.1 (also 𝓛 {X = r.items ≡ xs} made.0.2
    (fact_i 𝓤 (r.filled ≡ fs) (emp 𝓤) made.0.3)))))))))))))
