-- `back` takes the whole block with its length, and returns the history of the block, which it ends.
use Rattle.arcstr_block.proofs.Names.{◌≡◌, ℕ, ◌^◌, [], ◌∷◌, refl, arith, List, sym, ap, length, ◌+◌, ◌<◌, ◌++◌, w64, inst_fn, dcons, dnil, a_type, Val}
use Rattle.arcstr_block.proofs.Names.{vint, vptr, vstruct, of_list, Fml, fsep, ftrue, feq, full_share, via, SProp, fact, tables, usize, unit, part_at, param}
use Rattle.arcstr_block.proofs.Names.{bounded, uint_vals, uint_Tells, RattleType, Valss, owns, block_of, Ptr, block_ptr, ptr_val, InBlock, count_of, at_block}
use Rattle.arcstr_block.proofs.Names.{types_at, nothing, heard, alive, alloc_all, pass_all, free_all, look_at, get, get_in, sets, env, through, sets_last, is}
use Rattle.arcstr_block.proofs.Names.{‵, ◌⊛◌, later, ◌$◌, ◌∵◌, !, qed, move, use0, use1, split, split3, fsplit, fjoin, fpick, fpack, await, raw, by, keep}
use Rattle.arcstr_block.proofs.Names.{fsplit3, drop, rewrite, feq_i, flt_i, use3, at_ret, basic, sub, whole, agg, look_in, stop, fld, of_opd, no_more, and_then}
use Rattle.arcstr_block.proofs.Names.{first, blocks, exec, returns, enter, load, bin, tail, word_out, word_in, word, proved, Token, token_made, Gone, Given}
use Rattle.arcstr_block.proofs.Names.{Back, BlockName, Book, reached, seat, Ends, held_with, block_owns, block_shares, Fits, word_offset, length_lies, Right}
use Rattle.arcstr_block.proofs.Names.{owed}
use Rattle.arcstr_block.proofs.Book.{book_back}
use Rattle.arcstr_block.specs.Handle.{SawBack}
use Rattle.arcstr_block.proofs.Pointers.{pointer_val, typed, seen_val, measured_val, measured_typed, Words, told, made}
use Rattle.arcstr_block.specs.contracts.pointer.Pointer.back.{ended, clauses}
use Rattle.arcstr_block.specs.contracts.pointer.Pointer.back.Key.{name as #self}
use Rattle.arcstr_block.proofs.pointer.Pointer.back.Statement.{statement}
use Rattle.arcstr_block.specs.contracts.block.Sole as S
use Rattle.arcstr_block.specs.contracts.seen.Seen as Seen
use Rattle.arcstr_block.specs.contracts.pointer.Pointer as C
use Rattle.arcstr_block.proofs.pointer.Pointer.back.Code as code
use Rattle.arcstr_block.proofs.Endings.{all_dropped, all_go, Walk, ends, also}
use Rattle.arcstr_block.proofs.Pointers as framed

pub back_spec : {M : Type 1} → statement M
back_spec 𝓤 𝓛 𝓜 𝓡 wired Y K g d dd met md =
    let H = 𝓛.H in let 𝓣 = tables 𝓤 H 𝓜 𝓡 𝓡.env in let B : RattleType = param 0 Y in let En = ended Y g d dd in let c = clauses Y g d dd 𝓛 𝓜.mem 𝓡.returns in
    let inst = bounded (a_type ∷ []) (Y, tt) (dcons d (dcons dd dnil)) in let fn = inst_fn inst code.function in
    let Row : RattleType = C.the_row B g in let Alone : RattleType = S.the_row B g in
    let D' : RattleType = Token unit in let H' : RattleType = Seen.the_row in
    proved 𝓛 En (all_dropped En) c 𝓜 𝓡 (all_go 𝓛 En (λ κs x f. refl, (λ κs x f. refl, tt))) (#self inst) fn (code.unfolded 𝓤 H 𝓜 𝓡 wired (Y, tt) d dd)
    (λ κs. ((λ x. pointer_val x.at ∷ []), (uint_vals w64, tt))) (λ κs. ((λ x vs so. told B g x.at vs so.0), (uint_Tells w64, tt))) (λ κs qs bounds a gh are.
    let h : Row.Denot = a.0 in let p : Ptr = h.at in let xs : List ℕ = h.text in let n : ℕ = length xs in let lim : ℕ = h.limit in
    let holds = g.dealloc_token h.home in let P : Fml = block_owns holds p xs in let s = block_shares p xs in
    let b : ℕ = block_of p in let o : ℕ = count_of p in
    let offset : ℕ = a.1.0 in let fits_offset : offset < 2 ^ 64 = are.1.0.1 in let u : ℕ = o + word_offset n in
    let y : (Walk 𝓛 En c).Ghost = ((κs, qs, bounds, a, (pointer_val p ∷ [], (vint w64 offset ∷ [], tt))), gh) in
    let Post : Val → SProp 𝓤 = (Walk 𝓛 En c).post y in
    qed 𝓛 ((raw (alive 𝓛 En.signature κs qs) ⊛ ‵ (owns (types_at En.signature.params κs) a y.0.4)) ∷ raw (fact 𝓤 _) ∷ raw (fact 𝓤 (h.right ≡ owed)) ∷
    raw (fact 𝓤 (offset ≡ word_offset n)) ∷ []) ∵
    keep ! (2 ∷ 3 ∷ 0 ∷ []) $ heard ! (h.right ≡ owed) (λ mine. heard ! (offset ≡ word_offset n) (λ placed.
    let there : offset + o ≡ u = omega (arith, placed) in split ! $ move ! (1 ∷ []) $ fsplit ! $ fsplit ! $ keep ! (1 ∷ 3 ∷ []) $ fsplit ! $ fpick ! (λ inb.
    drop ! $ let at : p ≡ block_ptr b o = at_block p inb.0 in
    let small : n < 2 ^ 64 = (let x = inb.1.0 in omega arith) in fpick ! (λ t. fsplit ! $ fsplit ! $ fpick ! (λ named. drop ! $ move ! (1 ∷ []) $
    rewrite ! 0 (λ (k : Right). ‵ (held_with P lim b (u + 0) t s h.seat k)) mine refl $ fsplit ! $ drop ! $ fsplit3 ! $ fsplit ! $
    enter ! 𝓣.C 𝓣.Λ fn (pointer_val p ∷ vint w64 offset ∷ []) Post $
    alloc_all ! (λ l. pass_all ! refl (typed p, ((tt, record { fits = fits_offset }), tt)) $ let Ev = env fn.locals l in
    -- [the word; the book; what the block owns; the seat; the history before; the tokens]
    move ! (1 ∷ 3 ∷ 4 ∷ []) $ use3 𝓛 (later (‵ (Book lim t.name.history t.name.seats 0) ⊛ ‵ (seat t.name.seats h.seat Gone) ⊛
    ‵ (Ends lim t.name.history t.name.seats h.history (Back h.seat) Given))) (via 𝓤 _
    (book_back 𝓛 lim t.name.history t.name.seats 0 h.seat h.history) (basic 𝓛 _)) $ await ! tt $ split3 ! $ drop ! $ drop ! $
    fpick ! (λ r'. fsplit ! $ fpick ! (λ saw. drop ! $ rewrite ! 0 (λ (block : BlockName). ‵ (reached block.history r')) named refl $
    -- [the history; the word; what the block owns; the tokens]
    move ! (2 ∷ 1 ∷ []) $ fsplit ! $ rewrite ! 0 (λ (r : Ptr). ‵ (length_lies r n)) at refl $ use1 𝓛 (‵ (word b (u + 8) n)) (word_out 𝓛 b (u + 8) n) $
    -- [the length; the bytes and the rim; the word; the history; the tokens]
    sets ! (is ! (of_opd ! (get_in ! (fld ! refl (stop !)) (sub ! 0 refl (whole !)))) (ap ptr_val at)) refl (tt, tt) $
    sets ! (of_opd ! (get_in ! (fld ! refl (stop !)) (sub ! 1 refl (whole !)))) refl (tt, tt) $
    first ! $ blocks ! $ sets ! (is ! (bin ! (get ! refl) (get ! refl) tt) (ap (vptr b) there)) refl (tt, tt) $
    sets ! (of_opd ! (get ! refl)) refl (tt, tt) $
    sets_last ! (of_opd ! (load ! (through ! refl (fld ! refl (stop !))) (look_in ! 0 (whole !)))) refl (tt, record { fits = small }) $
    exec ! 𝓣.C 𝓣.Λ Ev (tail (tail (tail fn.body))) (at_ret Ev Post) $ sets ! (of_opd ! (get ! refl)) refl (tt, record { fits = small }) $
    sets ! (of_opd ! (get ! refl)) refl (tt, tt) $
    sets ! (agg ! (no_more !)) refl (tt, tt) $ sets ! (agg ! (and_then ! (get ! refl) (no_more !))) refl (tt, (tt, tt)) $
    sets ! (is ! (agg ! (and_then ! (get ! refl) (and_then ! (get ! refl) (no_more !)))) (ap pointer_val (sym at))) refl (typed p) $
    sets ! (agg ! (and_then ! (get ! refl) (and_then ! (get ! refl) (and_then ! (get ! refl) (no_more !))))) refl (measured_typed p n small) $
    use1 𝓛 (‵ (part_at usize full_share n b (u + 8))) (word_in 𝓛 b (u + 8) n) $ rewrite ! 0 (λ (r : Ptr). ‵ (length_lies r n)) (sym at) refl $ fjoin ! $
    move ! (1 ∷ 0 ∷ []) $ fjoin ! $
    nothing ! $ fpack ! (InBlock p × Fits n) (λ _. ftrue) (inb.0, inb.1.0) $ fjoin ! $
    use0 𝓛 (‵ ((Words B g).own_val (p, (tt, tt)) (pointer_val p ∷ []))) (made B g 𝓛 p) $ fjoin ! $
    -- [the block; the history; the tokens]
    move ! (1 ∷ []) $ use0 𝓛 (‵ (D'.own_val (record {}, tt) (seen_val ∷ []))) (token_made unit 𝓛) $ fjoin ! $
    nothing ! $ move ! (1 ∷ 0 ∷ []) $ fjoin ! $
    flt_i ! n (2 ^ 64) small $ feq_i ! (List Val) (vint w64 n ∷ []) (vint w64 n ∷ []) refl $ fjoin ! $ fjoin ! $ move ! (1 ∷ 0 ∷ []) $ fjoin ! $
    let v : Alone.Denot = record { at = p; marker = record {}; home = h.home; word = 0; text = xs } in
    let s' : H'.Denot = record { marker = record {}; block = h.block; history = r' } in
    let r : Val = measured_val p n in feq_i ! (List Val) (r ∷ []) (r ∷ []) refl $ fjoin ! $
    fpack ! (Valss (Alone ∷ usize ∷ H' ∷ [])) (λ uss. fsep (feq (List Val) (r ∷ []) (vstruct (of_list (uss.0 ++ (uss.1.0 ++ (uss.1.1.0 ++ [])))) ∷ []))
    (owns (Alone ∷ usize ∷ H' ∷ []) (v, (n, (s', tt))) uss)) (pointer_val p ∷ [], (vint w64 n ∷ [], (seen_val ∷ [], tt))) $
    returns ! (look_at ! 0 refl) $ free_all ! refl $ by ! (ends 𝓛 En c y r (v, n, s') (tt, (tt, tt))
    (also 𝓛 {X = h.home ≡ h.home} refl (also 𝓛 {X = xs ≡ xs} refl (also 𝓛 {X = n ≡ n} refl (also 𝓛 inb.1.0
    (framed.three 𝓛 {X = SawBack lim r' h.seat} {Z = h.block ≡ h.block} saw.0 saw.1 refl)))))))))))))))
