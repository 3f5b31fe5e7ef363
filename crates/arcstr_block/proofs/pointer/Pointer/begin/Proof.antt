-- `begin` is one load. A drop goes on if it finds the word unmarked.
-- We take apart what the pointer holds, take the step inside the invariant (`Steps`) and write it into the book (`Book`), and make the gain a right (`Rights`).
use Rattle.arcstr_block.proofs.Names.{◌≡◌, ℕ, ◌^◌, [], ◌∷◌, refl, arith, lit<, List, sym, subst, ap, length, ◌+◌, ◌<◌, if◌then◌else◌, w64, inst_fn, dcons}
use Rattle.arcstr_block.proofs.Names.{dnil, a_type, named, Val, vint, vptr, Lft, Fml, fsep, fex, flft, finv, fhide, via, SProp, fact, tables, u64, unit}
use Rattle.arcstr_block.proofs.Names.{hidden_shr, unhide, param, bounded, uint_vals, uint_Tells, RattleType, Valss, owns, block_of, Ptr, block_ptr, ptr_val}
use Rattle.arcstr_block.proofs.Names.{count_of, at_block, shr_vals, shr_Tells, types_at, heard, lent_out, alive, alloc_all, pass_all, free_all, look_at, get}
use Rattle.arcstr_block.proofs.Names.{get_in, sets, lands_last, env, through, is, ‵, ◌⊛◌, later, ◌$◌, ◌∵◌, !, qed, move, use1, split, fsplit, fjoin, fpick}
use Rattle.arcstr_block.proofs.Names.{await, raw, by, keep, fsplit3, drop, rewrite, use3, at_ret, mean, sub, whole, agg, stop, fld, lit, of_opd, no_more}
use Rattle.arcstr_block.proofs.Names.{and_then, first, blocks, exec, returns, enter, addr, bin, Calls-last, tail, found, fm, seq_cst, finds, loads}
use Rattle.arcstr_block.proofs.Names.{proved, Token, EndsIn, FlagAndCount, Free, Ended, Looked, Step, Begin, BlockName, reached, seat, Ends, Inv, free}
use Rattle.arcstr_block.proofs.Names.{right_to, block_owns, block_shares, word_at, word_offset, Right, IsFree}
use Rattle.arcstr_block.proofs.Memory.{shares_laws}
use Rattle.arcstr_block.proofs.Pointers.{pointer_val, typed, found_val, found_typed, told}
use Rattle.arcstr_block.proofs.Book.{book_begin, begun, begin_reply}
use Rattle.arcstr_block.proofs.Words.{marked_word, unmarked_word}
use Rattle.arcstr_block.specs.contracts.pointer.Pointer.begin.{ended, clauses}
use Rattle.arcstr_block.specs.contracts.pointer.Pointer.begin.Key.{name as #self}
use Rattle.arcstr_block.proofs.pointer.Pointer.begin.Statement.{statement}
use Rattle.core.specs.contracts.marker.PhantomData as Marker
use Rattle.arcstr_block.specs.contracts.pointer.Pointer as C
use Rattle.arcstr_block.specs.contracts.seen.Seen as Seen
use Rattle.arcstr_block.proofs.Pointers as framed
use Rattle.arcstr_block.proofs.Rights as rights
use Rattle.arcstr_block.proofs.Steps as steps
use Rattle.arcstr_block.proofs.pointer.Pointer.begin.Code as code
use Rattle.arcstr_block.proofs.Endings.{all_dropped, all_go, Walk, ends}
use Rattle.arcstr_block.specs.Steps.{IsSameBlock, BegunAs}

pub begin_spec : {M : Type 1} → statement M
begin_spec 𝓤 𝓛 𝓜 𝓡 wired Y K g d dd met md =
    let H = 𝓛.H in let 𝓣 = tables 𝓤 H 𝓜 𝓡 𝓡.env in let B : RattleType = param 0 Y in let En = ended Y g d dd in let c = clauses Y g d dd 𝓛 𝓜.mem 𝓡.returns in
    let inst = bounded (a_type ∷ []) (Y, tt) (dcons d (dcons dd dnil)) in let fn = inst_fn inst code.function in
    let Row : RattleType = C.the_row B g in let S : RattleType = Seen.the_row in
    proved 𝓛 En (all_dropped En) c 𝓜 𝓡 (all_go 𝓛 En (λ κs x f. refl, (λ κs x f. refl, (λ κs x f. refl, tt))))
    (#self inst) fn (code.unfolded 𝓤 H 𝓜 𝓡 wired (Y, tt) d dd)
    (λ κs. ((λ x. pointer_val x.at ∷ []), (uint_vals w64, (shr_vals, tt)))) (λ κs. (
      (λ x vs so. told B g x.at vs so.0),
      (
        uint_Tells w64,
        (shr_Tells (named 0) κs.0 S, tt),
      ),
    )) (λ κs qs bounds a gh are.
    let h : Row.Denot = a.0 in let p : Ptr = h.at in let lim : ℕ = h.limit in let holds = g.dealloc_token h.home in
    let P : Fml = block_owns holds p h.text in let s : Lft → Fml = block_shares p h.text in
    let right : Right = h.right in let sl = shares_laws p h.text in
    let pb : ℕ = block_of p in let po : ℕ = word_at p (length h.text) in
    let offset : ℕ = a.1.0 in let fits_offset : offset < 2 ^ 64 = are.1.0.1 in
    let b' : ℕ = a.1.1.0.ref_ptr.0 in let o' : ℕ = a.1.1.0.ref_ptr.1 in let j : S.Denot = a.1.1.0.now in let before : List Step = j.history in
    let codes = Seen.the_codes (Marker.the_row unit).coded in
    let y : (Walk 𝓛 En c).Ghost = ((κs, qs, bounds, a, (pointer_val p ∷ [], (vint w64 offset ∷ [], (vptr b' o' ∷ [], tt)))), gh) in
    let Post : Val → SProp 𝓤 = (Walk 𝓛 En c).post y in
    qed 𝓛 ((raw (alive 𝓛 En.signature κs qs) ⊛ ‵ (owns (types_at En.signature.params κs) a y.0.4)) ∷ raw (fact 𝓤 _) ∷ raw (fact 𝓤 (IsFree h.right)) ∷
    raw (fact 𝓤 (offset ≡ word_offset (length h.text))) ∷ raw (fact 𝓤 (j.block ≡ h.block)) ∷ []) ∵
    keep ! (2 ∷ 3 ∷ 4 ∷ 0 ∷ []) $ heard ! (IsFree h.right) (λ may. heard ! (offset ≡ word_offset (length h.text)) (λ placed.
    heard ! (j.block ≡ h.block) (λ same.
    let there : offset + count_of p ≡ count_of p + word_offset (length h.text) = omega (arith, placed) in
    split ! $ move ! (1 ∷ []) $ fsplit3 ! $ move ! (2 ∷ []) $ fsplit ! $ fsplit ! $ move ! (3 ∷ []) $ fsplit ! $ keep ! (3 ∷ 1 ∷ 6 ∷ []) $
    use1 𝓛 (‵ (hidden_shr (Token unit) κs.0 (record {}, tt) b' o') ⊛ ‵ (fhide (reached j.block.history before)))
    (lent_out 𝓛 Seen.struct codes Seen.the_heap Seen.the_lent κs.0 j b' o') $ split ! $ drop ! $ unhide ! $
    rewrite ! 0 (λ (z : BlockName). ‵ (reached z.history before)) same refl $ move ! (1 ∷ 0 ∷ []) $ fsplit ! $ fpick ! (λ inb.
    drop ! $ let at : p ≡ block_ptr pb (count_of p) = at_block p inb.0 in
    fpick ! (λ t. let I : Fml = Inv P lim pb po t in let af : Lft = t.sharing ∷ [] in fsplit ! $ fsplit ! $ fpick ! (λ named. drop ! $ drop ! $
    -- [what is held; the history before; the tokens]
    rewrite ! 1 (λ (z : BlockName). ‵ (reached z.history before)) (sym named) refl $
    fsplit ! $ use1 𝓛 (‵ (finv I) ⊛ ‵ (finv I)) (𝓛.invs.inv_dup I) $ split ! $ move ! (2 ∷ []) $
    use1 𝓛 (‵ (free P lim pb po t s h.seat right)) (rights.is_free 𝓛 P lim pb po t s sl h.seat right may) $ fpick ! (λ e. fsplit ! $ fpick ! (λ one. drop ! $
    fsplit3 ! $ move ! (2 ∷ []) $ fsplit ! $
    -- [what is shared; the seat; the share; what it knows; the invariant, twice; the history before; the tokens]
    move ! (2 ∷ 3 ∷ []) $ fjoin ! $ move ! (2 ∷ 5 ∷ []) $ fjoin ! $ move ! (3 ∷ 1 ∷ 0 ∷ []) $
    enter ! 𝓣.C 𝓣.Λ fn (pointer_val p ∷ vint w64 offset ∷ vptr b' o' ∷ []) Post $
    alloc_all ! (λ l. pass_all ! refl (typed p, ((tt, record { fits = fits_offset }), ((tt, tt), tt))) $ let Ev = env fn.locals l in
    sets ! (is ! (of_opd ! (get_in ! (fld ! refl (stop !)) (sub ! 0 refl (whole !)))) (ap ptr_val at)) refl (tt, tt) $
    sets ! (of_opd ! (get_in ! (fld ! refl (stop !)) (sub ! 1 refl (whole !)))) refl (tt, tt) $
    let said : ℕ → Fml = λ n. fsep (seat t.name.seats h.seat (begun 𝓛 lim t.name.history t.name.seats n)) (Ends lim t.name.history t.name.seats before
    (Begin h.seat) (begin_reply 𝓛 lim t.name.history t.name.seats n)) in
    let after : ℕ → Fml = steps.all_after 𝓛 P lim pb po t (λ n. n) (steps.Told 𝓛 P lim pb po t e right) (steps.With 𝓛 P lim pb po t e right) (flft af e) said in
    use3 𝓛 (raw (𝓣.C _ (vptr pb po ∷ seq_cst ∷ []) (λ r. mean 𝓛 (found after r))))
    (via 𝓤 _ (steps.loads 𝓛 P lim pb po t e right (fsep (seat t.name.seats h.seat Free) (reached t.name.history before)) said (λ n _.
    book_begin 𝓛 lim t.name.history t.name.seats n h.seat before)) (loads 𝓛 𝓜 𝓡 (code.calls-core::raw_atomic::load 𝓡.env wired) (block_ptr pb po) after)) $
    first ! $ blocks ! $ sets ! (is ! (bin ! (get ! refl) (get ! refl) tt) (ap (vptr pb) there)) refl (tt, tt) $
    sets ! (of_opd ! (get ! refl)) refl (tt, tt) $ sets ! (addr ! (through ! refl (fld ! refl (stop !)))) refl (tt, tt) $
    sets ! (agg ! (and_then ! (lit ! tt) (no_more !))) refl (tt, (record { fits = lit< tt }, tt)) $
    Calls-last ! (fm 𝓛 𝓜 𝓡) (found after) (and_then ! (get ! refl) (and_then ! (get ! refl) (no_more !))) (λ r. finds ! after (λ n fits.
    lands_last ! refl (tt, record { fits = fits }) $ exec ! 𝓣.C 𝓣.Λ Ev (tail (tail (tail fn.body))) (at_ret Ev Post) $
    sets ! (of_opd ! (get ! refl)) refl (tt, record { fits = fits }) $
    sets ! (is ! (agg ! (and_then ! (get ! refl) (and_then ! (get ! refl) (no_more !)))) (ap pointer_val (sym at))) refl (typed p) $
    sets ! (agg ! (and_then ! (get ! refl) (and_then ! (get ! refl) (no_more !)))) refl (found_typed n fits p) $
    -- [what is said; the share; the gain; what is shared; the invariant; what is known; the tokens]
    fsplit3 ! $ move ! (2 ∷ []) $ fpick ! (λ w. fsplit ! $ fpick ! (λ ok. drop ! $ drop ! $
    let got = rights.begins 𝓛 P lim pb po t s sl n h.seat right e may one ok.1 in let k : Right = got.right in
    fsplit ! $ move ! (2 ∷ 3 ∷ 0 ∷ []) $ use3 𝓛 (later (‵ (right_to P lim pb po t s h.seat k))) got.turns $ await ! tt $
    -- [the right; the history's end; the invariant; what was known; the tokens]
    move ! (1 ∷ []) $ fpick ! (λ r'. fsplit ! $ fpick ! (λ saw. drop ! $
    -- [the prefix; the right; the invariant; the tokens]
    let h' : Row.Denot = record h { right = k; history = r' } in let r : Val = found_val n p in
    move ! (1 ∷ 2 ∷ 0 ∷ []) $ use3 𝓛 (‵ (Row.own_val h' (pointer_val p ∷ []))) (framed.pointer_in 𝓛 B g h' t named inb) $
    use1 𝓛 (‵ (fex (Valss (u64 ∷ Row ∷ [])) (framed.found_as 𝓛 B g h' n))) (framed.found_in 𝓛 B g h' n fits) $
    let together : IsSameBlock h' h = (refl, refl, refl, refl) in let named_so = λ (v : FlagAndCount). if v.flag then Ended else Looked in
    let told_so : BegunAs h before n h' = (
      refl,
      (λ odd. subst (EndsIn lim r' (Begin h.seat)) (ap named_so (marked_word n odd)) saw.0),
      (λ even. subst (EndsIn lim r' (Begin h.seat)) (ap named_so (unmarked_word n even)) saw.0),
      saw.1,
    ) in
    returns ! (look_at ! 0 refl) $ free_all ! refl $
    by ! (ends 𝓛 En c y r (n, h') (tt, (tt, (tt, tt))) (framed.three 𝓛 got.said told_so together))))))))))))))))))
