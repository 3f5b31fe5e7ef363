-- `sub` is one fetch-sub. The last one has the word and what the block owns.
-- We take apart what the pointer holds, take the step inside the invariant (`Steps`) and write it into the book (`Book`), and make the gain a right (`Rights`).
use Rattle.arcstr_block.proofs.Names.{◌≡◌, ℕ, ◌^◌, Bool, [], ◌∷◌, refl, arith, lit<, sym, subst, ap, length, ◌+◌, ◌<◌, if◌then◌else◌, w64, inst_fn, dcons}
use Rattle.arcstr_block.proofs.Names.{dnil, a_type, Val, vint, vptr, Lft, Fml, fsep, fex, finv, ftrue, via, SProp, fact, tables, u64, param, bounded}
use Rattle.arcstr_block.proofs.Names.{uint_vals, uint_Tells, RattleType, Valss, owns, block_of, Ptr, block_ptr, ptr_val, count_of, at_block, types_at, heard}
use Rattle.arcstr_block.proofs.Names.{alive, alloc_all, pass_all, free_all, look_at, get, get_in, sets, lands_last, env, through, is, ‵, ◌⊛◌, later, ◌$◌, ◌∵◌}
use Rattle.arcstr_block.proofs.Names.{ !, qed, move, use1, split, fsplit, fjoin, fpick, await, raw, by, keep, fsplit3, drop, rewrite, use3, at_ret, mean, sub}
use Rattle.arcstr_block.proofs.Names.{whole, agg, stop, fld, lit, of_opd, no_more, and_then, first, blocks, exec, returns, enter, addr, bin, Calls-last, tail}
use Rattle.arcstr_block.proofs.Names.{found, fm, seq_cst, finds, subs, proved, EndsIn, Dropping, Owes, Left, Sub, reached, seat, Ends, Inv, held_with, right_to}
use Rattle.arcstr_block.proofs.Names.{block_owns, block_shares, word_at, word_offset, Right, dropping}
use Rattle.arcstr_block.proofs.Memory.{shares_laws}
use Rattle.arcstr_block.proofs.Pointers.{pointer_val, typed, found_val, found_typed, told}
use Rattle.arcstr_block.proofs.Book.{book_sub, left_in, sub_reply}
use Rattle.arcstr_block.proofs.Words.{one_less, last_two, not_last}
use Rattle.arcstr_block.specs.contracts.pointer.Pointer.sub.{ended, clauses}
use Rattle.arcstr_block.specs.contracts.pointer.Pointer.sub.Key.{name as #self}
use Rattle.arcstr_block.proofs.pointer.Pointer.sub.Statement.{statement}
use Rattle.arcstr_block.specs.contracts.pointer.Pointer as C
use Rattle.arcstr_block.proofs.Pointers as framed
use Rattle.arcstr_block.proofs.Rights as rights
use Rattle.arcstr_block.proofs.Steps as steps
use Rattle.arcstr_block.proofs.pointer.Pointer.sub.Code as code
use Rattle.arcstr_block.proofs.Endings.{all_dropped, all_go, Walk, ends}
use Rattle.arcstr_block.specs.Steps.{IsSameBlock, SubtractedAs}

pub sub_spec : {M : Type 1} → statement M
sub_spec 𝓤 𝓛 𝓜 𝓡 wired Y K g d dd met md =
    let H = 𝓛.H in let 𝓣 = tables 𝓤 H 𝓜 𝓡 𝓡.env in let B : RattleType = param 0 Y in let En = ended Y g d dd in let c = clauses Y g d dd 𝓛 𝓜.mem 𝓡.returns in
    let inst = bounded (a_type ∷ []) (Y, tt) (dcons d (dcons dd dnil)) in let fn = inst_fn inst code.function in
    let Row : RattleType = C.the_row B g in
    proved 𝓛 En (all_dropped En) c 𝓜 𝓡 (all_go 𝓛 En (λ κs x f. refl, (λ κs x f. refl, tt))) (#self inst) fn (code.unfolded 𝓤 H 𝓜 𝓡 wired (Y, tt) d dd)
    (λ κs. ((λ x. pointer_val x.at ∷ []), (uint_vals w64, tt))) (λ κs. ((λ x vs so. told B g x.at vs so.0), (uint_Tells w64, tt))) (λ κs qs bounds a gh are.
    let h : Row.Denot = a.0 in let p : Ptr = h.at in let lim : ℕ = h.limit in let holds = g.dealloc_token h.home in
    let P : Fml = block_owns holds p h.text in let s : Lft → Fml = block_shares p h.text in
    let right : Right = h.right in let sl = shares_laws p h.text in
    let pb : ℕ = block_of p in let po : ℕ = word_at p (length h.text) in
    let offset : ℕ = a.1.0 in let fits_offset : offset < 2 ^ 64 = are.1.0.1 in
    let y : (Walk 𝓛 En c).Ghost = ((κs, qs, bounds, a, (pointer_val p ∷ [], (vint w64 offset ∷ [], tt))), gh) in
    let Post : Val → SProp 𝓤 = (Walk 𝓛 En c).post y in
    qed 𝓛 ((raw (alive 𝓛 En.signature κs qs) ⊛ ‵ (owns (types_at En.signature.params κs) a y.0.4)) ∷ raw (fact 𝓤 _) ∷
    raw (fact 𝓤 (h.right ≡ dropping)) ∷ raw (fact 𝓤 (offset ≡ word_offset (length h.text))) ∷ []) ∵
    keep ! (2 ∷ 3 ∷ 0 ∷ []) $ heard ! (h.right ≡ dropping) (λ mine. heard ! (offset ≡ word_offset (length h.text)) (λ placed.
    let there : offset + count_of p ≡ count_of p + word_offset (length h.text) = omega (arith, placed) in
    split ! $ move ! (1 ∷ []) $ fsplit ! $ fsplit ! $ keep ! (1 ∷ 3 ∷ []) $ fsplit ! $
    fpick ! (λ inb. drop ! $ let at : p ≡ block_ptr pb (count_of p) = at_block p inb.0 in
    fpick ! (λ t. let I : Fml = Inv P lim pb po t in let af : Lft = t.sharing ∷ [] in fsplit ! $ fsplit ! $ fpick ! (λ named. drop ! $ move ! (1 ∷ []) $
    rewrite ! 0 (λ (k : Right). ‵ (held_with P lim pb po t s h.seat k)) mine refl $ fsplit ! $ use1 𝓛 (‵ (finv I) ⊛ ‵ (finv I)) (𝓛.invs.inv_dup I) $ split ! $
    move ! (2 ∷ []) $ fsplit3 ! $
    -- [the part; what is shared; the seat; the invariant, twice; the history before; the tokens]
    move ! (2 ∷ 5 ∷ []) $ fjoin ! $ move ! (3 ∷ 1 ∷ 0 ∷ []) $
    enter ! 𝓣.C 𝓣.Λ fn (pointer_val p ∷ vint w64 offset ∷ []) Post $
    alloc_all ! (λ l. pass_all ! refl (typed p, ((tt, record { fits = fits_offset }), tt)) $ let Ev = env fn.locals l in
    sets ! (is ! (of_opd ! (get_in ! (fld ! refl (stop !)) (sub ! 0 refl (whole !)))) (ap ptr_val at)) refl (tt, tt) $
    sets ! (of_opd ! (get_in ! (fld ! refl (stop !)) (sub ! 1 refl (whole !)))) refl (tt, tt) $
    let said : ℕ → Fml = λ n. fsep (seat t.name.seats h.seat (left_in 𝓛 lim t.name.history t.name.seats n)) (Ends lim t.name.history t.name.seats h.history
    (Sub h.seat) (sub_reply 𝓛 lim t.name.history t.name.seats n)) in
    let after : ℕ → Fml = steps.all_after 𝓛 P lim pb po t one_less (steps.Left 𝓛 P lim pb po t)
    (steps.One 𝓛 P lim pb po t) ftrue said in
    use3 𝓛 (raw (𝓣.C _ (vptr pb po ∷ vint w64 2 ∷ seq_cst ∷ []) (λ r. mean 𝓛 (found after r))))
    (via 𝓤 _ (steps.leaves_it 𝓛 P lim pb po t (fsep (seat t.name.seats h.seat Dropping) (reached t.name.history h.history)) said (λ n fits.
    book_sub 𝓛 lim t.name.history t.name.seats n h.seat h.history fits)) (subs 𝓛 𝓜 𝓡 (code.calls-core::raw_atomic::fetch_sub 𝓡.env wired) (block_ptr pb po) 2
    (lit< tt) after)) $
    first ! $ blocks ! $ sets ! (is ! (bin ! (get ! refl) (get ! refl) tt) (ap (vptr pb) there)) refl (tt, tt) $
    sets ! (of_opd ! (get ! refl)) refl (tt, tt) $ sets ! (addr ! (through ! refl (fld ! refl (stop !)))) refl (tt, tt) $
    sets ! (agg ! (and_then ! (lit ! tt) (no_more !))) refl (tt, (record { fits = lit< tt }, tt)) $
    Calls-last ! (fm 𝓛 𝓜 𝓡) (found after) (and_then ! (get ! refl) (and_then ! (lit ! tt) (and_then ! (get ! refl) (no_more !)))) (λ r. finds ! after (λ n fits.
    lands_last ! refl (tt, record { fits = fits }) $ exec ! 𝓣.C 𝓣.Λ Ev (tail (tail (tail fn.body))) (at_ret Ev Post) $
    sets ! (of_opd ! (get ! refl)) refl (tt, record { fits = fits }) $
    sets ! (is ! (agg ! (and_then ! (get ! refl) (and_then ! (get ! refl) (no_more !)))) (ap pointer_val (sym at))) refl (typed p) $
    sets ! (agg ! (and_then ! (get ! refl) (and_then ! (get ! refl) (no_more !)))) refl (found_typed n fits p) $
    -- [what is said; nothing; the gain; what is shared; the invariant; what is known; the tokens]
    fsplit3 ! $ move ! (1 ∷ []) $ drop ! $ move ! (1 ∷ []) $ fpick ! (λ w. fsplit ! $ fpick ! (λ ok. drop ! $
    let got = rights.subtracted 𝓛 P lim pb po t s sl n h.seat w ok.0 ok.1 in let k : Right = got.right in
    -- [the gain; what is said; what is shared; the invariant; what is known; the tokens]
    move ! (1 ∷ []) $ fsplit ! $ move ! (2 ∷ 3 ∷ 0 ∷ []) $ use3 𝓛 (later (‵ (right_to P lim pb po t s h.seat k))) got.turns $ await ! tt $
    -- [the right; the history's end; the invariant; what was known; the tokens]
    move ! (1 ∷ []) $ fpick ! (λ r'. fsplit ! $ fpick ! (λ saw. drop ! $
    -- [the prefix; the right; the invariant; the tokens]
    let h' : Row.Denot = record h { right = k; history = r' } in let r : Val = found_val n p in
    move ! (1 ∷ 2 ∷ 0 ∷ []) $ use3 𝓛 (‵ (Row.own_val h' (pointer_val p ∷ []))) (framed.pointer_in 𝓛 B g h' t named inb) $
    use1 𝓛 (‵ (fex (Valss (u64 ∷ Row ∷ [])) (framed.found_as 𝓛 B g h' n))) (framed.found_in 𝓛 B g h' n fits) $
    let together : IsSameBlock h' h = (refl, refl, refl, refl) in let named_so = λ (last : Bool). if last then Owes else Left in
    let told_so : SubtractedAs h n h' = (
      refl,
      (λ two. subst (EndsIn lim r' (Sub h.seat)) (ap named_so (last_two n two)) saw.0),
      (λ ne. subst (EndsIn lim r' (Sub h.seat)) (ap named_so (not_last n ne)) saw.0),
      saw.1,
    ) in
    returns ! (look_at ! 0 refl) $ free_all ! refl $ by ! (ends 𝓛 En c y r (n, h') (tt, (tt, tt)) (framed.three 𝓛 got.said told_so together)))))))))))))))
