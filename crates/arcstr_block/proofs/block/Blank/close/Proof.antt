-- `close` takes the bytes from their row once each is written.
use Rattle.arcstr_block.proofs.Names.{◌≡◌, ℕ, Bool, [], ◌∷◌, refl, arith, List, sym, subst, ap, length, ◌∙◌, inst_fn}
use Rattle.arcstr_block.proofs.Names.{dcons, dnil, a_type, Val, fsep, full_share, emp, SProp, fact, fact_i, tables, Array}
use Rattle.arcstr_block.proofs.Names.{u8, part_at, param, bounded, RattleType, owns, block_of, Ptr, block_ptr, ptr_val, InBlock, count_of, at_block, in_block}
use Rattle.arcstr_block.proofs.Names.{bytes, bytes_whole, types_at, nothing, heard, alive, alloc_all, pass_all, free_all, look_at, get, get_in}
use Rattle.arcstr_block.proofs.Names.{sets, env, is, ‵, ◌⊛◌, ◌$◌, ◌∵◌, !, qed, move, use0, use1, split, fsplit, fjoin, fjoin3, fpick, fpack}
use Rattle.arcstr_block.proofs.Names.{raw, by, keep, fsplit3, drop, rewrite, feq_i, sub, whole, agg, stop, fld, of_opd, no_more}
use Rattle.arcstr_block.proofs.Names.{and_then, returns, enter, slots, Filled, proved, Fits}
use Rattle.arcstr_block.proofs.Names.{word_lies, length_lies, text_lies, rim}
use Rattle.arcstr_block.proofs.Pointers.{pointer_val, typed, Words, told, made}
use Rattle.arcstr_block.proofs.Memory.{R, to_bytes, row_val, row_typed, row_told}
use Rattle.arcstr_block.specs.contracts.block.Blank.close.{ended, clauses}
use Rattle.arcstr_block.specs.contracts.block.Blank.close.Key.{name as #self}
use Rattle.arcstr_block.proofs.block.Blank.close.Statement.{statement}
use Rattle.arcstr_block.specs.contracts.block.Row as RW
use Rattle.arcstr_block.specs.contracts.block.Blank as N
use Rattle.arcstr_block.specs.contracts.block.Sole as S
use Rattle.arcstr_block.proofs.block.Blank.close.Code as code
use Rattle.arcstr_block.proofs.Endings.{all_dropped, all_go, Walk, ends, also}

pub close_spec : {M : Type 1} → statement M
close_spec 𝓤 𝓛 𝓜 𝓡 wired Y K g d dd met md =
    let H = 𝓛.H in let 𝓣 = tables 𝓤 H 𝓜 𝓡 𝓡.env in let B : RattleType = param 0 Y in let En = ended Y g d dd in let c = clauses Y g d dd 𝓛 𝓜.mem 𝓡.returns in
    let inst = bounded (a_type ∷ []) (Y, tt) (dcons d (dcons dd dnil)) in let fn = inst_fn inst code.function in
    let Open : RattleType = N.the_row B g in let Alone : RattleType = S.the_row B g in
    proved 𝓛 En (all_dropped En) c 𝓜 𝓡 (all_go 𝓛 En (λ κs x f. refl, (λ κs x f. refl, tt))) (#self inst) fn (code.unfolded 𝓤 H 𝓜 𝓡 wired (Y, tt) d dd)
    (λ κs. ((λ x. pointer_val x.at ∷ []), ((λ x. row_val x.at ∷ []), tt)))
    (λ κs. ((λ x vs so. told B g x.at vs so.0), ((λ x vs so. row_told x.at vs so.0), tt))) (λ κs qs bounds a gh are.
    let h : Open.Denot = a.0 in let p : Ptr = h.at in let row : RW.the_row.Denot = a.1.0 in let xs : List ℕ = row.items in let fs : List Bool = row.filled in
    let n : ℕ = length xs in let b : ℕ = block_of p in let o : ℕ = count_of p in let holds = g.dealloc_token h.home in let u : Val = row_val row.at in
    let y : (Walk 𝓛 En c).Ghost = ((κs, qs, bounds, a, (pointer_val p ∷ [], (u ∷ [], tt))), gh) in
    let Post : Val → SProp 𝓤 = (Walk 𝓛 En c).post y in
    let Written : Type 0 = Filled fs 0 h.length in
    qed 𝓛 ((raw (alive 𝓛 En.signature κs qs) ⊛ ‵ (owns (types_at En.signature.params κs) a y.0.4)) ∷ raw (fact 𝓤 _) ∷ raw (fact 𝓤 (row.at ≡ p)) ∷ raw
    (fact 𝓤 (n ≡ h.length)) ∷ raw (fact 𝓤 Written) ∷ []) ∵
    keep ! (2 ∷ 3 ∷ 4 ∷ 0 ∷ []) $ heard ! (row.at ≡ p) (λ here. heard ! (n ≡ h.length) (λ long. heard ! Written (λ full. split ! $
    move ! (1 ∷ []) $ fsplit3 ! $ keep ! (0 ∷ 1 ∷ 3 ∷ []) $ fsplit ! $ drop ! $
    fsplit3 ! $ fpick ! (λ inb. drop ! $ let at : p ≡ block_ptr b o = at_block p inb.0 in let counts : h.length ≡ n = sym long in
    -- [the word; the length and the rim; the bytes; the tokens]
    enter ! 𝓣.C 𝓣.Λ fn (pointer_val p ∷ u ∷ []) Post $ alloc_all ! (λ l. pass_all ! refl (typed p, (row_typed row.at, tt)) $
    let Ev = env fn.locals l in
    sets ! (is ! (of_opd ! (get_in ! (fld ! refl (stop !)) (sub ! 0 refl (whole !)))) (ap ptr_val at)) refl (tt, tt) $
    sets ! (of_opd ! (get_in ! (fld ! refl (stop !)) (sub ! 1 refl (whole !)))) refl (tt, tt) $
    sets ! (is ! (agg ! (and_then ! (get ! refl) (and_then ! (get ! refl) (no_more !)))) (ap pointer_val (sym at))) refl (typed p) $ move ! (2 ∷ []) $
    fsplit ! $ drop ! $ fsplit ! $ drop ! $ rewrite ! 0 (λ (r : Ptr). ‵ (in_block r (slots R r xs fs))) (here ∙ at) refl $
    use1 𝓛 (‵ (bytes full_share xs b o)) (to_bytes 𝓛 b xs fs o (sym row.counts) (λ k lt. full k (omega arith) (omega (arith, lt, row.counts, long)))) $
    feq_i ! ℕ n n refl $ fjoin ! $ use1 𝓛 (‵ (part_at (Array u8 n) full_share xs b o)) (bytes_whole 𝓛 full_share n xs b o) $
    rewrite ! 0 (λ (r : Ptr). ‵ (text_lies r xs)) (sym at) refl $
    -- [the bytes; the word; the length and the rim; the tokens]
    rewrite ! 1 (λ (m : ℕ). ‵ (word_lies p m h.word)) counts refl $ move ! (2 ∷ []) $
    rewrite ! 0 (λ (m : ℕ). ‵ (fsep (length_lies p m) (rim holds m p))) counts refl $ fsplit ! $ move ! (0 ∷ 2 ∷ 1 ∷ []) $ fjoin3 ! $
    move ! (1 ∷ 0 ∷ []) $ fjoin ! $
    nothing ! $ fpack ! (InBlock p × Fits n) (λ _. base.Fml.ftrue) (inb.0, subst Fits counts inb.1) $ fjoin ! $
    use0 𝓛 (‵ ((Words B g).own_val (p, (tt, tt)) (pointer_val p ∷ []))) (made B g 𝓛 p) $ fjoin ! $
    let r : Alone.Denot = record { at = p; marker = record {}; home = h.home; word = h.word; text = xs } in
    returns ! (look_at ! 0 refl) $ free_all ! refl $ by ! (ends 𝓛 En c y (pointer_val p) r (tt, (tt, tt))
    (also 𝓛 {X = h.home ≡ h.home} refl (also 𝓛 {X = h.word ≡ h.word} refl (fact_i 𝓤 (xs ≡ xs) (emp 𝓤) refl))))))))))
