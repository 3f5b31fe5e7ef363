-- `a_block_has_one_history` does nothing: what two `&` to a `Seen` hold proves its law.
use Rattle.arcstr_block.proofs.Names.{◌≡◌, ℕ, [], ◌∷◌, refl, List, ap, length, ◌≤◌, IsPrefix, named, Val, vptr, vunit, GName, fhide, emp, SProp, fact, fact_i}
use Rattle.arcstr_block.proofs.Names.{tables, unit, hidden_shr, unhide, RattleType, owns, shr_vals, shr_Tells, types_at, heard, lent_out, alive, alloc_all}
use Rattle.arcstr_block.proofs.Names.{pass_all, free_all, look_at, sets, ‵, ◌⊛◌, ◌$◌, ◌∵◌, !, qed, move, use1, use2, split, fsplit, raw, by, keep, fsplit3}
use Rattle.arcstr_block.proofs.Names.{drop, feq_i, unit_lit, of_opd, returns, enter, proved, Token, BlockName, reached}
use Rattle.arcstr_block.proofs.Histories.{Agrees, agree}
use Rattle.arcstr_block.specs.contracts.seen.Seen.a_block_has_one_history.{ended, clauses}
use Rattle.arcstr_block.specs.contracts.seen.Seen.a_block_has_one_history.Key.{name as #self}
use Rattle.arcstr_block.proofs.seen.Seen.a_block_has_one_history.Statement.{statement}
use Rattle.core.specs.contracts.marker.PhantomData as Marker
use Rattle.arcstr_block.specs.contracts.seen.Seen as C
use Rattle.arcstr_block.proofs.seen.Seen.a_block_has_one_history.Code as code
use Rattle.arcstr_block.proofs.Endings.{all_dropped, all_go, Walk, ends, also}

pub a_block_has_one_history_spec : {M : Type 1} → statement M
a_block_has_one_history_spec 𝓤 𝓛 𝓜 𝓡 wired =
    let H = 𝓛.H in let 𝓣 = tables 𝓤 H 𝓜 𝓡 𝓡.env in let En = ended in let c = clauses 𝓛 𝓜.mem 𝓡.returns in let fn = code.function in
    let S : RattleType = C.the_row in
    proved 𝓛 En (all_dropped En) c 𝓜 𝓡 (all_go 𝓛 En (λ κs x f. refl, (λ κs x f. refl, tt)))
    #self fn (code.unfolded 𝓤 H 𝓜 𝓡 wired)
    (λ κs. (shr_vals, (shr_vals, tt))) (λ κs. (shr_Tells (named 0) κs.0 S, (shr_Tells (named 1) κs.1.0 S, tt))) (λ κs qs bounds a gh are.
    let b : ℕ = a.0.ref_ptr.0 in let o : ℕ = a.0.ref_ptr.1 in let b' : ℕ = a.1.0.ref_ptr.0 in let o' : ℕ = a.1.0.ref_ptr.1 in let h : S.Denot = a.0.now in
    let j : S.Denot = a.1.0.now in
    let y : (Walk 𝓛 En c).Ghost = ((κs, qs, bounds, a, (vptr b o ∷ [], (vptr b' o' ∷ [], tt))), gh) in
    let Post : Val → SProp 𝓤 = (Walk 𝓛 En c).post y in
    let γ : GName = h.block.history in let δ : GName = j.block.history in let codes = C.the_codes (Marker.the_row unit).coded in
    qed 𝓛 ((raw (alive 𝓛 En.signature κs qs) ⊛ ‵ (owns (types_at En.signature.params κs) a y.0.4)) ∷ raw ((c κs a).requires gh) ∷ []) ∵ keep ! (0 ∷ []) $
    split ! $ move ! (1 ∷ []) $ fsplit3 ! $ fsplit ! $ move ! (2 ∷ []) $ fsplit ! $ keep ! (3 ∷ 1 ∷ 5 ∷ []) $
    use1 𝓛 (‵ (hidden_shr (Token unit) κs.0 (record {}, tt) b o) ⊛ ‵ (fhide (reached γ h.history)))
    (lent_out 𝓛 C.struct codes C.the_heap C.the_lent κs.0 h b o) $ split ! $ drop ! $ unhide ! $ move ! (1 ∷ []) $
    use1 𝓛 (‵ (hidden_shr (Token unit) κs.1.0 (record {}, tt) b' o') ⊛ ‵ (fhide (reached δ j.history)))
    (lent_out 𝓛 C.struct codes C.the_heap C.the_lent κs.1.0 j b' o') $ split ! $ drop ! $ unhide ! $ move ! (1 ∷ 0 ∷ []) $
    use2 𝓛 (raw (fact 𝓤 (Agrees 𝓛 γ δ h.history j.history))) (agree 𝓛 γ δ h.history j.history) $ heard ! (Agrees 𝓛 γ δ h.history j.history) (λ told.
    -- [the tokens]
    enter ! 𝓣.C 𝓣.Λ fn (vptr b o ∷ vptr b' o' ∷ []) Post $ alloc_all ! (λ l. pass_all ! refl ((tt, tt), ((tt, tt), tt)) $
    sets ! (of_opd ! (unit_lit !)) refl (tt, tt) $
    let Prefix : Type 0 = h.block ≡ j.block → length h.history ≤ length j.history → IsPrefix h.history j.history in
    let Longer : Type 0 = h.block ≡ j.block → length j.history ≤ length h.history → IsPrefix j.history h.history in
    feq_i ! (List Val) (vunit ∷ []) (vunit ∷ []) refl $ returns ! (look_at ! 0 refl) $ free_all ! refl $ by ! (ends 𝓛 En c y vunit tt (tt, (tt, tt))
    (also 𝓛 {X = Prefix} (λ same. (told (ap (λ (z : BlockName). z.history) same)).0)
    (fact_i 𝓤 Longer (emp 𝓤) (λ same. (told (ap (λ (z : BlockName). z.history) same)).1)))))))
