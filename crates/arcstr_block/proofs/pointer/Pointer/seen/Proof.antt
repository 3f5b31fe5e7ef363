-- `seen` returns what the pointer knows of the history, which is permanent.
use Rattle.arcstr_block.proofs.Names.{◌≡◌, ℕ, [], ◌∷◌, refl, length, inst_fn, dcons, dnil, a_type, named, Val, vptr, Lft, Share, Fml, fsep, flft, ftrue, emp}
use Rattle.arcstr_block.proofs.Names.{SProp, fact_i, tables, unit, param, bounded, RattleType, owns, block_of, Ptr, shr_vals, shr_Tells, types_at, alloc_all}
use Rattle.arcstr_block.proofs.Names.{pass_all, free_all, look_at, get, sets, ‵, ◌⊛◌, ◌$◌, ◌∵◌, !, qed, move, use0, split, join, fsplit, fjoin, raw, by, keep}
use Rattle.arcstr_block.proofs.Names.{drop, rewrite, agg, no_more, and_then, returns, enter, proved, Token, token, token_made, BlockName, reached, block_owns}
use Rattle.arcstr_block.proofs.Names.{block_shares, word_at, Right}
use Rattle.arcstr_block.proofs.Memory.{shares_laws}
use Rattle.arcstr_block.proofs.Pointers.{Words}
use Rattle.arcstr_block.specs.contracts.pointer.Pointer.seen.{ended, clauses}
use Rattle.arcstr_block.specs.contracts.pointer.Pointer.seen.Key.{name as #self}
use Rattle.arcstr_block.proofs.pointer.Pointer.seen.Statement.{statement}
use Rattle.arcstr_block.specs.contracts.pointer.Pointer as C
use Rattle.arcstr_block.specs.contracts.seen.Seen as Seen
use Rattle.arcstr_block.proofs.pointer.Pointer.seen.Code as code
use Rattle.arcstr_block.proofs.Endings.{all_dropped, all_go, Walk, ends, also}
use Rattle.arcstr_block.proofs.Walks.{of_shown}

pub seen_spec : {M : Type 1} → statement M
seen_spec 𝓤 𝓛 𝓜 𝓡 wired Y K g d dd met md =
    let H = 𝓛.H in let 𝓣 = tables 𝓤 H 𝓜 𝓡 𝓡.env in let B : RattleType = param 0 Y in let En = ended Y g d dd in let c = clauses Y g d dd 𝓛 𝓜.mem 𝓡.returns in
    let inst = bounded (a_type ∷ []) (Y, tt) (dcons d (dcons dd dnil)) in let fn = inst_fn inst code.function in
    let Row : RattleType = C.the_row B g in let D : RattleType = Words B g in
    proved 𝓛 En (all_dropped En) c 𝓜 𝓡 (all_go 𝓛 En (λ κs x f. refl, tt)) (#self inst) fn (code.unfolded 𝓤 H 𝓜 𝓡 wired (Y, tt) d dd)
    (λ κs. (shr_vals, tt)) (λ κs. (shr_Tells (named 0) κs.0 Row, tt)) (λ κs qs bounds a gh are.
    let b : ℕ = a.0.ref_ptr.0 in let o : ℕ = a.0.ref_ptr.1 in let κ : Lft = κs.0 in let q : Share = qs.0 in
    let others : Fml = fsep (flft κs.1.0 qs.1.0) ftrue in
    let h : Row.Denot = a.0.now in let p : Ptr = h.at in let right : Right = h.right in let lim : ℕ = h.limit in let holds = g.dealloc_token h.home in
    let P : Fml = block_owns holds p h.text in let s : Lft → Fml = block_shares p h.text in
    let sl = shares_laws p h.text in
    let pb : ℕ = block_of p in let po : ℕ = word_at p (length h.text) in
    let y : (Walk 𝓛 En c).Ghost = ((κs, qs, bounds, a, (vptr b o ∷ [], tt)), gh) in let Post : Val → SProp 𝓤 = (Walk 𝓛 En c).post y in
    let D' : RattleType = Token unit in let S : RattleType = Seen.the_row in
    qed 𝓛 (((‵ (flft κ q) ⊛ ‵ others) ⊛ ‵ (owns (types_at En.signature.params κs) a y.0.4)) ∷ raw ((c κs a).requires gh) ∷ []) ∵
    keep ! (0 ∷ []) $ split ! $ split ! $ move ! (2 ∷ []) $ fsplit ! $ fsplit ! $ keep ! (1 ∷ 3 ∷ 4 ∷ []) $
    enter ! 𝓣.C 𝓣.Λ fn (vptr b o ∷ []) Post $ alloc_all ! (λ l. pass_all ! refl ((tt, tt), tt) $
    of_shown B g h κ b o ! (λ inb t named. drop ! $ move ! (1 ∷ []) $ drop ! $
    rewrite ! 0 (λ (block : BlockName). ‵ (reached block.history h.history)) named refl $
    -- [the prefix of the history; κ; the others]
    use0 𝓛 (‵ (D'.own_val (record {}, tt) (token ∷ []))) (token_made unit 𝓛) $ fjoin ! $ sets ! (agg ! (no_more !)) refl (tt, tt) $
    sets ! (agg ! (and_then ! (get ! refl) (no_more !))) refl (tt, (tt, tt)) $
    move ! (1 ∷ 2 ∷ []) $ join ! $ move ! (1 ∷ []) $ let s' : S.Denot = record { marker = record {}; block = h.block; history = h.history } in
    returns ! (look_at ! 0 refl) $ free_all ! refl $
    by ! (ends 𝓛 En c y token s' (tt, tt) (also 𝓛 {X = h.history ≡ h.history} refl (fact_i 𝓤 (h.block ≡ h.block) (emp 𝓤) refl))))))
