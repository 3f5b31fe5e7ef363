-- `make` puts the word under the ledger's invariant, and lends what the block owns.
use Rattle.arcstr_block.proofs.Names.{◌≡◌, ℕ, [], ◌∷◌, refl, List, sym, ap, length, ◌+◌, IsUtf8, inst_fn, dcons, dnil, a_type, Val, Fml, fsep, fex, flft}
use Rattle.arcstr_block.proofs.Names.{ftrue, Incl-refl, SProp, fact, tables, param, bounded, RattleType, owns, block_of, Ptr, block_ptr, ptr_val, count_of}
use Rattle.arcstr_block.proofs.Names.{at_block, types_at, heard, alloc_all, pass_all, free_all, look_at, get, get_in, sets, is, ‵, ◌⊛◌, later, ◌$◌, ◌∵◌, !, qed}
use Rattle.arcstr_block.proofs.Names.{move, use2, split, join, fsplit, fjoin, fpick, await, raw, by, keep, fsplit3, drop, rewrite, use3, Item, sub, whole, agg}
use Rattle.arcstr_block.proofs.Names.{stop, fld, of_opd, no_more, and_then, returns, enter, word, proved, bits_of, fresh_word, Make, reached, Id}
use Rattle.arcstr_block.proofs.Names.{held_with, block_owns, block_shares, word_offset, counted, IsLimit, arith}
use Rattle.arcstr_block.specs.Handle.{IsBornIn}
use Rattle.arcstr_block.proofs.Blocks.{begins}
use Rattle.arcstr_block.proofs.Pointers.{pointer_val, typed, told}
use Rattle.arcstr_block.proofs.Memory.{shares_laws, lends_block}
use Rattle.arcstr_block.specs.contracts.pointer.Pointer.make.{ended, clauses}
use Rattle.arcstr_block.specs.contracts.pointer.Pointer.make.Key.{name as #self}
use Rattle.arcstr_block.proofs.pointer.Pointer.make.Statement.{statement}
use Rattle.arcstr_block.specs.contracts.block.Sole as S
use Rattle.arcstr_block.specs.contracts.pointer.Pointer as C
use Rattle.arcstr_block.proofs.Pointers as framed
use Rattle.arcstr_block.proofs.pointer.Pointer.make.Code as code
use Rattle.arcstr_block.proofs.Endings.{all_dropped, all_go, Walk, ends, also}

pub make_spec : {M : Type 1} → statement M
make_spec 𝓤 𝓛 𝓜 𝓡 wired Y K g d dd met md =
    let H = 𝓛.H in let 𝓣 = tables 𝓤 H 𝓜 𝓡 𝓡.env in let B : RattleType = param 0 Y in let En = ended Y g d dd in let c = clauses Y g d dd 𝓛 𝓜.mem 𝓡.returns in
    let inst = bounded (a_type ∷ []) (Y, tt) (dcons d (dcons dd dnil)) in let fn = inst_fn inst code.function in
    let Row : RattleType = C.the_row B g in let Alone : RattleType = S.the_row B g in
    proved 𝓛 En (all_dropped En) c 𝓜 𝓡 (all_go 𝓛 En (λ κs x f. refl, tt)) (#self inst) fn (code.unfolded 𝓤 H 𝓜 𝓡 wired (Y, tt) d dd)
    (λ κs. ((λ x. pointer_val x.at ∷ []), tt)) (λ κs. ((λ x vs so. told B g x.at vs so.0), tt)) (λ κs qs bounds a gh are.
    let v : Alone.Denot = a.0 in let p : Ptr = v.at in let xs : List ℕ = v.text in let lim : ℕ = gh in let holds = g.dealloc_token v.home in
    let P : Fml = block_owns holds p xs in let s = block_shares p xs in
    let b : ℕ = block_of p in let o : ℕ = count_of p in let t₁ : Item 𝓤 = ‵ (flft κs.0 qs.0) in
    let y : (Walk 𝓛 En c).Ghost = ((κs, qs, bounds, a, (pointer_val p ∷ [], tt)), gh) in let Post : Val → SProp 𝓤 = (Walk 𝓛 En c).post y in
    qed 𝓛 (((t₁ ⊛ ‵ ftrue) ⊛ ‵ (owns (types_at En.signature.params κs) a y.0.4)) ∷ raw (fact 𝓤 _) ∷ raw (fact 𝓤 (v.word ≡ bits_of fresh_word)) ∷ raw (fact 𝓤
    (IsUtf8 xs)) ∷ raw (fact 𝓤 (IsLimit lim)) ∷ []) ∵
    keep ! (2 ∷ 3 ∷ 4 ∷ 0 ∷ []) $ heard ! (v.word ≡ bits_of fresh_word) (λ fresh. heard ! (IsUtf8 xs) (λ text. heard ! (IsLimit lim) (λ small. split ! $
    move ! (1 ∷ []) $ fsplit ! $ fsplit ! $ keep ! (1 ∷ 3 ∷ []) $
    fsplit3 ! $ fpick ! (λ inb. drop ! $ let at : p ≡ block_ptr b o = at_block p inb.0 in
    -- [the word; what the block owns; the tokens]
    enter ! 𝓣.C 𝓣.Λ fn (pointer_val p ∷ []) Post $ alloc_all ! (λ l. pass_all ! refl (typed p, tt) $
    rewrite ! 0 (λ (n : ℕ). ‵ (word b (o + word_offset (length xs) + 0) n)) fresh refl $ fjoin ! $ move ! (1 ∷ []) $ split ! $ move ! (2 ∷ 0 ∷ []) $
    use2 𝓛 (later (‵ (fex Id (λ t. fsep (reached t.name.history (Make ∷ [])) (held_with P lim b (o + word_offset (length xs) + 0) t s 0 counted))) ⊛ t₁))
    (begins 𝓛 P lim b (o + word_offset (length xs) + 0) s (shares_laws p xs) small κs.0 (lends_block 𝓛 holds p xs κs.0) κs.0 qs.0 (Incl-refl κs.0)) $
    await ! tt $ split ! $
    fpick ! (λ t. fsplit ! $ move ! (1 ∷ []) $ fsplit ! $
    -- [the invariant; the right; the prefix; the tokens]
    let h' : Row.Denot = record {
      at = p;
      marker = record {};
      home = v.home;
      text = xs;
      limit = lim;
      right = counted;
      seat = 0;
      block = t.name;
      history = Make ∷ [];
    } in
    move ! (1 ∷ 0 ∷ 2 ∷ []) $ use3 𝓛 (‵ (Row.own_val h' (pointer_val p ∷ []))) (framed.pointer_in 𝓛 B g h' t refl (inb.0, (inb.1, text))) $
    -- [the pointer; the tokens]
    move ! (1 ∷ 2 ∷ []) $ join ! $ move ! (1 ∷ 0 ∷ []) $
    sets ! (is ! (of_opd ! (get_in ! (fld ! refl (stop !)) (sub ! 0 refl (whole !)))) (ap ptr_val at)) refl (tt, tt) $
    sets ! (of_opd ! (get_in ! (fld ! refl (stop !)) (sub ! 1 refl (whole !)))) refl (tt, tt) $
    sets ! (is ! (agg ! (and_then ! (get ! refl) (and_then ! (get ! refl) (no_more !)))) (ap pointer_val (sym at))) refl (typed p) $
    returns ! (look_at ! 0 refl) $ free_all ! refl $ by ! (ends 𝓛 En c y (pointer_val p) h' (tt, tt)
    (also 𝓛 {X = v.home ≡ v.home} refl (also 𝓛 {X = xs ≡ xs} refl (also 𝓛 {X = IsBornIn lim (Make ∷ []) 0} (omega arith)
    (framed.three 𝓛 {X = lim ≡ lim} {Y = counted ≡ counted} {Z = 0 ≡ 0} refl refl refl))))))))))))
