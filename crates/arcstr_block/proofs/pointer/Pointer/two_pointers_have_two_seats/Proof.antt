-- `two_pointers_have_two_seats` returns both pointers: it does nothing.
use Rattle.arcstr_block.proofs.Names.{◌≡◌, [], ◌∷◌, refl, List, ◌++◌, inst_fn, dcons, dnil, a_type, Val, vstruct, of_list, fsep, feq, SProp, fact, tables}
use Rattle.arcstr_block.proofs.Names.{param, bounded, RattleType, Valss, owns, Ptr, types_at, nothing, heard, alive, alloc_all, pass_all, free_all, look_at}
use Rattle.arcstr_block.proofs.Names.{get, sets, ‵, ◌⊛◌, later, ◌$◌, ◌∵◌, !, qed, move, use2, split, fjoin, fjoin3, fpack, await, raw, by, keep, fsplit3, given}
use Rattle.arcstr_block.proofs.Names.{learn, feq_i, agg, of_opd, no_more, and_then, returns, enter, proved, HasSeat}
use Rattle.arcstr_block.proofs.Pointers.{pointer_val, typed, two_val, two_typed, told}
use Rattle.arcstr_block.proofs.Blocks.{Apart, OwesAnother, Distinct, are_apart}
use Rattle.arcstr_block.specs.contracts.pointer.Pointer.two_pointers_have_two_seats.{ended, clauses}
use Rattle.arcstr_block.specs.contracts.pointer.Pointer.two_pointers_have_two_seats.Key.{name as #self}
use Rattle.arcstr_block.proofs.pointer.Pointer.two_pointers_have_two_seats.Statement.{statement}
use Rattle.arcstr_block.specs.contracts.pointer.Pointer as C
use Rattle.arcstr_block.proofs.pointer.Pointer.two_pointers_have_two_seats.Code as code
use Rattle.arcstr_block.proofs.Endings.{all_dropped, all_go, Walk, ends, also}
use Rattle.arcstr_block.proofs.Pointers as framed

pub two_pointers_have_two_seats_spec : {M : Type 1} → statement M
two_pointers_have_two_seats_spec 𝓤 𝓛 𝓜 𝓡 wired Y K g d dd met md =
    let H = 𝓛.H in let 𝓣 = tables 𝓤 H 𝓜 𝓡 𝓡.env in let B : RattleType = param 0 Y in let En = ended Y g d dd in let c = clauses Y g d dd 𝓛 𝓜.mem 𝓡.returns in
    let inst = bounded (a_type ∷ []) (Y, tt) (dcons d (dcons dd dnil)) in let fn = inst_fn inst code.function in
    let Row : RattleType = C.the_row B g in
    proved 𝓛 En (all_dropped En) c 𝓜 𝓡 (all_go 𝓛 En (λ κs x f. refl, (λ κs x f. refl, tt))) (#self inst) fn (code.unfolded 𝓤 H 𝓜 𝓡 wired (Y, tt) d dd)
    (λ κs. ((λ x. pointer_val x.at ∷ []), ((λ x. pointer_val x.at ∷ []), tt))) (λ κs. (
      (λ x vs so. told B g x.at vs so.0),
      (
        (λ x vs so.
            told B g x.at vs so.0),
        tt,
      ),
    )) (λ κs qs bounds a gh are.
    let h : Row.Denot = a.0 in let j : Row.Denot = a.1.0 in let p : Ptr = h.at in let q : Ptr = j.at in let vs : List Val = pointer_val p ∷ [] in
    let ws : List Val = pointer_val q ∷ [] in let r : Val = two_val p q in
    let y : (Walk 𝓛 En c).Ghost = ((κs, qs, bounds, a, (vs, (ws, tt))), gh) in let Post : Val → SProp 𝓤 = (Walk 𝓛 En c).post y in
    qed 𝓛 ((raw (alive 𝓛 En.signature κs qs) ⊛ ‵ (owns (types_at En.signature.params κs) a y.0.4)) ∷ raw (fact 𝓤 _) ∷ raw (fact 𝓤 (HasSeat h.right)) ∷ raw
    (fact 𝓤 (HasSeat j.right)) ∷ []) ∵
    keep ! (2 ∷ 3 ∷ 0 ∷ []) $ heard ! (HasSeat h.right) (λ may. heard ! (HasSeat j.right) (λ may'. split ! $ move ! (1 ∷ []) $ fsplit3 ! $
    keep ! (0 ∷ 1 ∷ 3 ∷ []) $
    enter ! 𝓣.C 𝓣.Λ fn (pointer_val p ∷ pointer_val q ∷ []) Post $ alloc_all ! (λ l. pass_all ! refl (typed p, (typed q, tt)) $
    use2 𝓛 (later (given (Distinct 𝓛 B g h j vs ws) (‵ (Row.own_val h vs) ⊛ ‵ (Row.own_val j ws)))) (are_apart 𝓛 B g h j vs ws may may') $ await ! tt $
    learn ! (λ laws. split ! $
    -- [the first; the second; the tokens]
    sets ! (of_opd ! (get ! refl)) refl (typed p) $ sets ! (of_opd ! (get ! refl)) refl (typed q) $
    sets ! (agg ! (and_then ! (get ! refl) (and_then ! (get ! refl) (no_more !)))) refl (two_typed p q) $
    nothing ! $ move ! (1 ∷ 2 ∷ 0 ∷ []) $ fjoin3 ! $ feq_i ! (List Val) (r ∷ []) (r ∷ []) refl $ fjoin ! $
    fpack ! (Valss (Row ∷ Row ∷ [])) (λ uss. fsep (feq (List Val) (r ∷ []) (vstruct (of_list (uss.0 ++ (uss.1.0 ++ []))) ∷ [])) (owns (Row ∷ Row ∷ []) (
      h,
      (j, tt),
    ) uss)) (vs, (ws, tt)) $
    let Differ : Type 0 = Apart 𝓛 B g h j vs ws in let Away : Type 0 = OwesAnother 𝓛 B g h j vs ws in
    returns ! (look_at ! 0 refl) $ free_all ! refl $ by ! (ends 𝓛 En c y r (h, j) (tt, (tt, tt))
    (also 𝓛 {X = h ≡ h} refl (framed.three 𝓛 {X = j ≡ j} {Y = Differ} {Z = Away} refl laws.0 laws.1))))))))
