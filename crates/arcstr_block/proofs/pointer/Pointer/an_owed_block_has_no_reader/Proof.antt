-- `an_owed_block_has_no_reader` returns the owed pointer: the book of its block does not lie beside the share of a token that the other shows.
use Rattle.arcstr_block.proofs.Names.{◌≡◌, ℕ, [], ◌∷◌, refl, List, sym, ◌≢◌, length, ◌∙◌, inst_fn, dcons, dnil, a_type, named, Val, vptr, Lft, Share, Fml, fsep}
use Rattle.arcstr_block.proofs.Names.{flft, finv, fshr_bor, ftrue, emp, SProp, fact, fact_i, tables, param, bounded, RattleType, owns, block_of, Ptr, shr_vals}
use Rattle.arcstr_block.proofs.Names.{shr_Tells, types_at, heard, alloc_all, pass_all, free_all, look_at, get, sets, ‵, ◌⊛◌, later, ◌$◌, ◌∵◌, !, qed, move}
use Rattle.arcstr_block.proofs.Names.{use1, use2, split, split3, join, fsplit, fjoin, await, raw, by, keep, fsplit3, given, drop, learn, of_opd, returns, enter}
use Rattle.arcstr_block.proofs.Names.{proved, Inv, block_owns, block_shares, word_at, Right, owed, MaySee}
use Rattle.arcstr_block.proofs.Blocks.{Lent, not_lent, away}
use Rattle.arcstr_block.proofs.Pointers.{pointer_val, typed, Words, told}
use Rattle.arcstr_block.proofs.Memory.{shares_laws}
use Rattle.arcstr_block.specs.contracts.pointer.Pointer.an_owed_block_has_no_reader.{ended, clauses}
use Rattle.arcstr_block.specs.contracts.pointer.Pointer.an_owed_block_has_no_reader.Key.{name as #self}
use Rattle.arcstr_block.proofs.pointer.Pointer.an_owed_block_has_no_reader.Statement.{statement}
use Rattle.arcstr_block.specs.contracts.pointer.Pointer as C
use Rattle.arcstr_block.proofs.Rights as rights
use Rattle.arcstr_block.proofs.pointer.Pointer.an_owed_block_has_no_reader.Code as code
use Rattle.arcstr_block.proofs.Endings.{all_dropped, all_go, Walk, ends, also}
use Rattle.arcstr_block.proofs.Walks.{of_shown}

pub an_owed_block_has_no_reader_spec : {M : Type 1} → statement M
an_owed_block_has_no_reader_spec 𝓤 𝓛 𝓜 𝓡 wired Y K g d dd met md =
    let H = 𝓛.H in let 𝓣 = tables 𝓤 H 𝓜 𝓡 𝓡.env in let B : RattleType = param 0 Y in let En = ended Y g d dd in let c = clauses Y g d dd 𝓛 𝓜.mem 𝓡.returns in
    let inst = bounded (a_type ∷ []) (Y, tt) (dcons d (dcons dd dnil)) in let fn = inst_fn inst code.function in
    let Row : RattleType = C.the_row B g in let D : RattleType = Words B g in
    proved 𝓛 En (all_dropped En) c 𝓜 𝓡 (all_go 𝓛 En (λ κs x f. refl, (λ κs x f. refl, tt))) (#self inst) fn (code.unfolded 𝓤 H 𝓜 𝓡 wired (Y, tt) d dd)
    (λ κs. ((λ x. pointer_val x.at ∷ []), (shr_vals, tt))) (λ κs.
    ((λ x vs so. told B g x.at vs so.0), (shr_Tells (named 0) κs.0 Row, tt))) (λ κs qs bounds a gh are.
    let h : Row.Denot = a.0 in let p : Ptr = h.at in let vs : List Val = pointer_val p ∷ [] in let κ : Lft = κs.0 in let q : Share = qs.0 in
    let others : Fml = fsep (flft κs.1.0 qs.1.0) ftrue in
    let b : ℕ = a.1.0.ref_ptr.0 in let o : ℕ = a.1.0.ref_ptr.1 in let j : Row.Denot = a.1.0.now in let r : Ptr = j.at in let lim : ℕ = j.limit in
    let right : Right = j.right in
    let holds = g.dealloc_token j.home in let P : Fml = block_owns holds r j.text in let s : Lft → Fml = block_shares r j.text in
    let rb : ℕ = block_of r in let ro : ℕ = word_at r (length j.text) in
    let y : (Walk 𝓛 En c).Ghost = ((κs, qs, bounds, a, (vs, (vptr b o ∷ [], tt))), gh) in let Post : Val → SProp 𝓤 = (Walk 𝓛 En c).post y in
    qed 𝓛 (((‵ (flft κ q) ⊛ ‵ others) ⊛ ‵ (owns (types_at En.signature.params κs) a y.0.4)) ∷ raw (fact 𝓤 _) ∷
    raw (fact 𝓤 (h.right ≡ owed)) ∷ raw (fact 𝓤 (MaySee right)) ∷ []) ∵
    keep ! (2 ∷ 3 ∷ 0 ∷ []) $ heard ! (h.right ≡ owed) (λ mine. heard ! (MaySee right) (λ may. split ! $ split ! $ move ! (2 ∷ []) $ fsplit3 ! $
    move ! (1 ∷ []) $ fsplit ! $ keep ! (1 ∷ 2 ∷ 4 ∷ 5 ∷ []) $
    -- [what the `&` shows; the owed pointer; κ; the others]
    enter ! 𝓣.C 𝓣.Λ fn (pointer_val p ∷ vptr b o ∷ []) Post $ alloc_all ! (λ l. pass_all ! refl (typed p, ((tt, tt), tt)) $
    of_shown B g j κ b o ! (λ inb t is. let I : Fml = Inv P lim rb ro t in let af : Lft = t.sharing ∷ [] in move ! (1 ∷ 2 ∷ []) $ drop ! $ drop ! $
    use1 𝓛 (‵ (fshr_bor κ (λ u. flft af u)) ⊛ ‵ (finv I) ⊛ ‵ (s af)) (rights.may_see 𝓛 P lim rb ro t s (shares_laws r j.text) j.seat right may κ) $
    split3 ! $ move ! (2 ∷ []) $ drop ! $ move ! (0 ∷ 3 ∷ []) $ fjoin ! $ move ! (1 ∷ 0 ∷ []) $ fjoin ! $
    -- [the invariant with the share and κ; the owed pointer; the others]
    let X : Fml = Lent 𝓛 P lim rb ro t κ q in
    move ! (1 ∷ 0 ∷ []) $ use2 𝓛 (later (given (h.block ≢ t.name) (‵ (Row.own_val h vs) ⊛ ‵ X)))
    (away 𝓛 B g h vs X t.name mine (not_lent 𝓛 P lim rb ro t h.limit _ κ q)) $ await ! tt $ learn ! (λ differ. split ! $
    move ! (1 ∷ []) $ fsplit3 ! $ drop ! $ drop ! $ move ! (0 ∷ 2 ∷ []) $ join ! $ move ! (1 ∷ 0 ∷ []) $
    sets ! (of_opd ! (get ! refl)) refl (typed p) $
    let Differ : Type 0 = h.block ≢ j.block in returns ! (look_at ! 0 refl) $ free_all ! refl $ keep ! (0 ∷ 1 ∷ []) $
    by ! (ends 𝓛 En c y (pointer_val p) h (tt, (tt, tt)) (also 𝓛 {X = h ≡ h} refl (fact_i 𝓤 Differ (emp 𝓤) (λ e. differ (e ∙ sym is)))))))))))
