-- `of` takes the bytes from their `Slots`.
use Rattle.arcstr_block.proofs.Names.{◌≡◌, ℕ, ◌^◌, Bool, [], ◌∷◌, refl, List, sym, subst, ◌<◌, ◌∙◌, w64, T, ty_int, tcons, tnil, ty_ptr, ty_struct, Val}
use Rattle.arcstr_block.proofs.Names.{has_ty, WT}
use Rattle.arcstr_block.proofs.Names.{emp, SProp, fact_i, tables, u8, owns, Ptr, types_at, calls_at_last, alive, alloc_all, pass_all, free_all, look_at}
use Rattle.arcstr_block.proofs.Names.{get, get_in, sets, lands_last, env, is, ‵, ◌⊛◌, later, ◌$◌, ◌∵◌, !, qed, move, use0, use1, split, fsplit, fjoin, await}
use Rattle.arcstr_block.proofs.Names.{raw, by, keep, given, learn, rewrite, at_ret, sub, whole, agg, stop, fld, of_opd, no_more, and_then, first, blocks, exec}
use Rattle.arcstr_block.proofs.Names.{returns, enter, tail, words_val, owned, fm, proved}
use Rattle.arcstr_block.proofs.Memory.{byte_laws, Bytes, R, EndContract, at_ends, ends_goes, ends_gives, words_typed, words_told, row_val, row_typed}
use Rattle.arcstr_block.proofs.Memory.{RowFields, row_made}
use Rattle.arcstr_block.specs.contracts.block.Row.of.{ended, clauses}
use Rattle.arcstr_block.specs.contracts.block.Row.of.Key.{name as #self}
use Rattle.arcstr_block.proofs.block.Row.of.Statement.{statement}
use Rattle.core.proofs.slots.Slots.into_raw_parts.Met as callee
use Rattle.arcstr_block.specs.contracts.block.Row as C
use Rattle.arcstr_block.proofs.block.Row.of.Code as code
use Rattle.arcstr_block.proofs.Endings.{all_dropped, all_go, Walk, ends, also}

pub of_spec : {M : Type 1} → statement M
of_spec 𝓤 𝓛 𝓜 𝓡 wired =
    let H = 𝓛.H in let 𝓣 = tables 𝓤 H 𝓜 𝓡 𝓡.env in let En = ended in let c = clauses 𝓛 𝓜.mem 𝓡.returns in let fn = code.function in
    proved 𝓛 En (all_dropped En) c 𝓜 𝓡 (all_go 𝓛 En (λ κs x f. refl, tt)) #self fn (code.unfolded 𝓤 H 𝓜 𝓡 wired)
    (λ κs. ((λ x. words_val x.ptr x.len ∷ []), tt)) (λ κs. ((λ x vs so. (words_told x.ptr x.len vs so.0).0), tt)) (λ κs qs bounds a gh are.
    let row : Bytes.Denot = a.0 in let p : Ptr = row.ptr in let n : ℕ = row.len in let xs : List ℕ = row.items in let fs : List Bool = row.filled in
    let u : Val = words_val p n in let few : n < 2 ^ 64 = row.small in
    let y : (Walk 𝓛 En c).Ghost = ((κs, qs, bounds, a, (u ∷ [], tt)), gh) in let Post : Val → SProp 𝓤 = (Walk 𝓛 En c).post y in
    qed 𝓛 ((raw (alive 𝓛 En.signature κs qs) ⊛ ‵ (owns (types_at En.signature.params κs) a y.0.4)) ∷ raw ((c κs a).requires gh) ∷ []) ∵
    keep ! (0 ∷ []) $ split ! $ move ! (1 ∷ []) $ fsplit ! $ keep ! (0 ∷ 2 ∷ []) $
    -- [the slots; the tokens]
    enter ! 𝓣.C 𝓣.Λ fn (u ∷ []) Post $ alloc_all ! (λ l. pass_all ! refl (words_typed p n few, tt) $
    let Ev = env fn.locals l in first ! $ blocks ! $ sets ! (of_opd ! (get ! refl)) refl (words_typed p n few) $
    let Asked = EndContract 𝓛 𝓜.mem 𝓡.returns in let w : Asked.Ghost = at_ends 𝓛 𝓜.mem 𝓡.returns row u in
    use1 𝓛 (raw (Asked.pre w)) (ends_goes 𝓛 𝓜.mem 𝓡.returns row u) $
    calls_at_last ! (fm 𝓛 𝓜 𝓡) Asked (callee.met 𝓤 𝓛 𝓜 𝓡 (code.calls-core::slots::Slots::into_raw_parts 𝓡.env wired) u8 byte_laws) w (and_then ! (get ! refl)
    (no_more !)) (λ v.
    use1 𝓛 (later (given ((v ≡ u) × (n < 2 ^ 64)) (‵ (owned R p n xs fs)))) (ends_gives 𝓛 𝓜.mem 𝓡.returns row u v) $ await ! tt $ learn ! (λ got.
    lands_last ! refl (subst (λ (z : Val). T (has_ty (ty_struct [] (tcons ty_ptr (tcons (ty_int w64) tnil))) z) × WT z) (sym got.0) (words_typed p n few)) $
    exec ! 𝓣.C 𝓣.Λ Ev (tail fn.body) (at_ret Ev Post) $ sets ! (is ! (of_opd ! (get ! refl)) got.0) refl (words_typed p n few) $
    sets ! (agg ! (and_then ! (get_in ! (fld ! refl (stop !)) (sub ! 0 refl (whole !))) (no_more !))) refl (row_typed p) $
    rewrite ! 0 (λ (k : ℕ). ‵ (owned R p k xs fs)) row.ok.0 refl $
    use0 𝓛 (‵ (RowFields.own_val (p, tt) (row_val p ∷ []))) (row_made 𝓛 p) $ fjoin ! $
    let r : C.the_row.Denot = record { at = p; items = xs; filled = fs; counts = sym row.ok.0 ∙ row.ok.1 } in
    returns ! (look_at ! 0 refl) $ free_all ! refl $ by ! (ends 𝓛 En c y (row_val p) r (tt, tt)
    (also 𝓛 {X = p ≡ p} refl (also 𝓛 {X = xs ≡ xs} refl (fact_i 𝓤 (fs ≡ fs) (emp 𝓤) refl))))))))
