-- `lend` lends the bytes of the text for writing, and the block has what is written. Assumes `Logic`.
use Rattle.arcstr_block.proofs.Names.{◌≡◌, ℕ, ◌^◌, [], ◌∷◌, refl, arith, List, sym, subst, ap, length, ◌+◌, ◌<◌, ◌++◌, ◌∙◌, ◌*◌, w64, Ura, inst_fn, Ty, dcons}
use Rattle.arcstr_block.proofs.Names.{dnil, a_type, named, Fn, Args, Dict, Val, vint, vptr, WpFn, Env, Calls, Loops, Tables, Lft, Share, Fml, fsep, flft, GName}
use Rattle.arcstr_block.proofs.Names.{ftrue, feq, fbor, fobs, full_share, id⊢, SProp, ent, sep, mono_r, fact, tables, tables_of, Array, u8, usize, RefMutOf}
use Rattle.arcstr_block.proofs.Names.{SliceRefMutOf, no, yes, Is, shows, cell_at, part_at, mem, part_of, param, bounded, RattleType, owns, block_of, Ptr}
use Rattle.arcstr_block.proofs.Names.{block_ptr, InBlock, count_of, at_block, bytes, bytes_apart, bytes_whole, MutBor, MutRef, plain, mut_ref_to, slice_val}
use Rattle.arcstr_block.proofs.Names.{MutSlice, nothing, peeks, opens, on_entry, triple_of, Meets, Stays, stay_dropped, walk_of, Goes-dropped, says, needs}
use Rattle.arcstr_block.proofs.Names.{ends_at, Goes-spent_ref, walk_Meets, alloc_all, pass_all, free_all, look_at, get, sets, env, through, sets_last, ‵, ◌⊛◌}
use Rattle.arcstr_block.proofs.Names.{some, later, ◌$◌, ◌∵◌, !, qed, move, group, pick, use1, split, join, fsplit, fjoin, fjoin3, fpick, fpack, await, done}
use Rattle.arcstr_block.proofs.Names.{raw, by, keep, fsplit3, drop, rewrite, suffices, feq_l, feq_i, flt_l, frame, at_ret, Item, ⋆, Logic, sem, sub, whole, agg}
use Rattle.arcstr_block.proofs.Names.{look_in, stop, fld, of_opd, no_more, and_then, first, blocks, exec, returns, enter, load, tail, word, Ghosts, Fits}
use Rattle.arcstr_block.proofs.Names.{word_offset, word_lies, length_lies, text_lies, rim}
use sound.WpLaws.{WpFn-mono}
use types.SemTy.{Body as Borrowed, cells}
use denote.Follow.{follows}
use denote.FollowSlice.{Elements, lends_Elements}
use denote.Triple.Carry.{spared}
use denote.Triple.Clauses.{Clauses, Ended, closing}
use denote.Triple.Table.{entered, run_framed}
use Rattle.arcstr_block.specs.Lends.{with_text}
use Rattle.arcstr_block.proofs.Pointers.{pointer_val, Words, told}
use Rattle.arcstr_block.specs.contracts.block.Sole.lend.Key.{name as #self}
use Rattle.arcstr_block.specs.contracts.block.Sole as S
use Rattle.arcstr_block.proofs.block.Sole.lend.Statement as stated
use Rattle.arcstr_block.proofs.block.Sole.lend.Code as code

module _ {M : Type 1} {𝓤 : Ura M} (𝓛 : Logic 𝓤) (b : ℕ) where
  to_cells : (xs : List ℕ) (o : ℕ) → ent 𝓤 (sem 𝓛 (bytes full_share xs b o)) (sem 𝓛 (cells (mem u8) xs b o))
  to_cells [] o = id⊢ 𝓤 _
  to_cells (x ∷ xs) o = mono_r 𝓤 (sem 𝓛 (part_at u8 full_share x b o)) (to_cells xs (o + 1))

  of_cells : (xs : List ℕ) (o : ℕ) → ent 𝓤 (sem 𝓛 (cells (mem u8) xs b o)) (sem 𝓛 (bytes full_share xs b o))
  of_cells [] o = id⊢ 𝓤 _
  of_cells (x ∷ xs) o = mono_r 𝓤 (sem 𝓛 (part_at u8 full_share x b o)) (of_cells xs (o + 1))

module _ (Y : RattleType) (g : Ghosts Y.Denot) (d dd : Dict) where
  abbrev args : Args
  args = bounded (a_type ∷ []) (Y, tt) (dcons d (dcons dd dnil))

  abbrev function : Fn
  function = inst_fn args code.function

  abbrev B : RattleType
  B = param 0 Y

  abbrev Alone : RattleType
  Alone = S.the_row B g

  abbrev ended : Ended
  ended = record {
    signature = record {
      lifetimes = 1;
      outlives = [];
      params = RefMutOf (0 ∷ []) tt (plain (λ _. Alone)) (λ _. tt) ∷ plain (λ _.
          usize) ∷ [];
      result = SliceRefMutOf (0 ∷ []) tt (plain (λ _. u8)) (λ _. tt);
    };
    kept = (no, (yes, tt));
  }

  abbrev stayed : Stays ended.signature.params ended.kept
  stayed = (stay_dropped (mut_ref_to (0 ∷ []) tt (plain (λ _. Alone))) no, (stay_dropped (plain (λ _. usize)) yes, tt))

  abbrev spec : {M : Type 1} {𝓤 : Ura M} (𝓛 : Logic 𝓤) → Clauses 𝓤 ended
  spec {𝓤 = 𝓤} 𝓛 κs a = record {
    ghost = Unit {0};
    requires = λ _. fact 𝓤 (a.1.0 ≡ length a.0.now.text);
    ensures = λ _ r w. sep 𝓤 (sem 𝓛 (follows Alone (Array u8 0) a.0.ghost_name r.ghost_name (with_text a.0.now))) (fact 𝓤 (r.now ≡ a.0.now.text));
  }

  module _ {M : Type 1} {𝓤 : Ura M} (𝓛 : Logic 𝓤) (C : Calls 𝓤 𝓛.H) (Λ : Loops 𝓤 𝓛.H) (κ : Lft) (q : Share) (rb ro : ℕ)
      (γ : GName) (s : Alone.Denot) (len : ℕ) (us0 us1 : List Val) where
    open 𝓛 use {H, A}

    abbrev self : MutBor Alone.Denot
    self = record { ref_ptr = (rb, ro); ghost_name = γ; now = s }

    abbrev bound : (walk_of 𝓛 ended stayed (spec 𝓛)).Ghost
    bound = (((κ, tt), (q, tt), tt, (self, (len, tt)), (us0, (us1, tt))), tt)

    abbrev Post : Val → SProp 𝓤
    Post = (walk_of 𝓛 ended stayed (spec 𝓛)).post bound

    abbrev p : Ptr
    p = s.at

    abbrev xs : List ℕ
    xs = s.text

    abbrev n : ℕ
    n = length xs

    abbrev holds : Ty → Ptr → Fml
    holds = g.dealloc_token s.home

    abbrev D : RattleType
    D = Words B g

    module _ (vs : List Val) (b o : ℕ) where
      -- all but the bytes
      abbrev Rest : Fml
      Rest = fsep (word b (o + word_offset n + 0) s.word) (fsep (fsep (length_lies p n) (rim holds n p)) (fsep (D.own_val (p, (tt, tt)) vs)
          (cell_at full_share Alone.mir vs rb ro)))

      back : p ≡ block_ptr b o → Fits n → (ws : List ℕ) → length ws ≡ n
          → ent 𝓤 (sep 𝓤 (sem 𝓛 (cells (mem u8) ws b o)) (sem 𝓛 Rest)) (sem 𝓛 ((mem Alone).own_at (with_text s ws) rb ro))
      unfolding part_of
      back at fits ws same = let m : ℕ = length ws in
          qed 𝓛 (‵ (cells (mem u8) ws b o) ∷ ‵ Rest ∷ []) ∵ use1 𝓛 (‵ (bytes full_share ws b o)) (of_cells 𝓛 b ws o) $ feq_i ! ℕ m m refl $
          fjoin ! $
          use1 𝓛 (‵ (part_at (Array u8 m) full_share ws b o)) (bytes_whole 𝓛 full_share m ws b o) $
          rewrite ! 0 (λ (r : Ptr). ‵ (text_lies r ws)) (sym at) refl $
          move ! (1 ∷ []) $ fsplit3 ! $ rewrite ! 0 (λ (r : Ptr). ‵ (word_lies r n s.word)) (sym at) refl $
          rewrite ! 0 (λ (k : ℕ). ‵ (word_lies p k s.word)) (sym same) refl $ move ! (1 ∷ []) $
          rewrite ! 0 (λ (k : ℕ). ‵ (fsep (length_lies p k) (rim holds k p))) (sym same) refl $ fsplit ! $
          -- [the length; the rim; the word; the fields; the bytes]
          move ! (0 ∷ 4 ∷ 1 ∷ []) $ fjoin3 ! $ move ! (1 ∷ 0 ∷ []) $ fjoin ! $ nothing ! $ fpack ! (InBlock p × Fits m) (λ _.
          ftrue) (subst InBlock (sym at) tt, subst Fits (sym same) fits) $ fjoin ! $
          move ! (1 ∷ []) $ fsplit ! $ move ! (0 ∷ 2 ∷ []) $ fjoin ! $ move ! (1 ∷ 0 ∷ []) $ fjoin ! $
          fpack ! (List Val) (λ us. fsep (cell_at full_share Alone.mir us rb ro) (Alone.own_val (with_text s ws) us)) vs $ done !

    exits : (v : Val) (r : MutBor (List ℕ)) → r.now ≡ xs
        → ent 𝓤 (sep 𝓤 (sem 𝓛 ((MutSlice (named 0) κ u8).own_val r (v ∷ []))) (sep 𝓤 (A.lft κ q) (sem 𝓛 (follows Alone (Array u8 0) γ r.ghost_name
        (with_text s))))) (Post v)
    exits v r e =
        qed 𝓛 (‵ ((MutSlice (named 0) κ u8).own_val r (v ∷ [])) ∷ ‵ (flft κ q) ∷ ‵ (follows Alone (Array u8 0) γ r.ghost_name (with_text s)) ∷ []) ∵
        suffices ! _ (ends_at 𝓛 ended stayed (spec 𝓛) bound v r (tt, (tt, tt)) (tt, (tt, tt))) $
        nothing ! $ nothing ! $ fjoin ! $ nothing ! $ fjoin ! $ join ! $ nothing ! $ move ! (2 ∷ 0 ∷ []) $ join ! $ join ! $ frame ! $ says ! e $ done !

    abbrev Had : List (Item 𝓤)
    Had = ‵ (fobs γ (Alone.coded.code s)) ∷ ‵ (fbor κ (Borrowed (mem Alone) rb ro γ)) ∷ ‵ (flft κ q) ∷ []

    walk : len ≡ n → len < 2 ^ 64 → ent 𝓤 (⋆ 𝓛 Had) (WpFn 𝓤 H C Λ function (vptr rb ro ∷ vint w64 len ∷ []) Post)
    walk long fits_len = let stored = Alone.coded.code s in let b : ℕ = block_of p in let o : ℕ = count_of p in let at : ℕ = o in
        qed 𝓛 Had ∵ enter ! C Λ function (vptr rb ro ∷ vint w64 len ∷ []) _ $ alloc_all ! (λ l.
        pass_all ! refl ((tt, tt), ((tt, record { fits = fits_len }), tt)) $
        let Ev : Env 𝓤 H = env function.locals l in
        opens ! tt Alone {h = s} rb ro (λ vs. move ! (1 ∷ []) $ fsplit ! $ peeks ! D (Is D) (shows 𝓛 D) (p, (tt, tt)) vs (λ so. move ! (1 ∷ []) $ fsplit3 ! $
        fpick ! (λ inb. drop ! $
        -- [the word; what the block owns; the fields; their cell; the open borrow; obs; auth]
        let is : p ≡ block_ptr b o = at_block p inb.0 in
        let ev : vs ≡ pointer_val (block_ptr b o) ∷ [] = told B g p vs so ∙ ap (λ (r : Ptr). pointer_val r ∷ []) is in
        move ! (1 ∷ []) $ fsplit3 ! $ move ! (5 ∷ []) $ rewrite ! 0 (λ (ws : List Val). ‵ (cell_at full_share Alone.mir ws rb ro)) ev refl $ first ! $
        blocks ! $
        sets ! (of_opd ! (load ! (through ! refl (fld ! refl (stop !))) (look_in ! 0 (sub ! 0 refl (whole !))))) refl (tt, tt) $
        sets_last ! (agg ! (and_then ! (get ! refl) (and_then ! (get ! refl) (no_more !)))) refl (tt, (tt, (record { fits = fits_len }, tt))) $
        exec ! C Λ Ev (tail function.body) (at_ret Ev Post) $ sets ! (of_opd ! (get ! refl)) refl (tt, (tt, (record { fits = fits_len }, tt))) $
        rewrite ! 0 (λ (ws : List Val). ‵ (cell_at full_share Alone.mir ws rb ro)) (sym ev) refl $
        -- [the fields' cell; the length; the bytes; the rim; the word; the fields; the open borrow; obs; auth]
        move ! (2 ∷ []) $ rewrite ! 0 (λ (r : Ptr). ‵ (text_lies r xs)) is refl $
        use1 𝓛 (‵ (fsep (feq ℕ n n) (bytes full_share xs b at))) (bytes_apart 𝓛 full_share n xs b at) $ fsplit ! $ drop ! $
        use1 𝓛 (‵ (cells (mem u8) xs b at)) (to_cells 𝓛 b xs at) $ move ! (2 ∷ 3 ∷ []) $ fjoin ! $ move ! (4 ∷ 2 ∷ []) $ fjoin ! $ move ! (1 ∷ 0 ∷ []) $
        fjoin ! $ move ! (2 ∷ 0 ∷ []) $ fjoin ! $
        -- [the rest; the bytes; the open borrow; obs; auth]
        move ! (2 ∷ 3 ∷ 4 ∷ 1 ∷ 0 ∷ []) $ group ! 5 $
        let way = back vs b o is inb.1 in let roomy : n < 2 ^ 64 = (let x = inb.1 in omega arith) in
        let fitting : n * 1 < 2 ^ 63 = (let x = inb.1 in omega arith) in
        use1 𝓛 (later (some (λ (δ : GName). raw (Elements 𝓛 Alone u8 (with_text s) (named 0) κ q rb ro b at γ xs (roomy, fitting) (sem 𝓛
        (Rest vs b o)) way δ))))
        (lends_Elements 𝓛 Alone u8 (with_text s) (named 0) κ q rb ro b at γ xs (roomy, fitting) (sem 𝓛 (Rest vs b o)) way stored stored) $ await ! tt $
        pick ! (λ δ.
        let r : MutBor (List ℕ) = record { ref_ptr = (b, at); ghost_name = δ; now = xs } in
        returns ! (look_at ! 0 refl) $ free_all ! refl $ keep ! (0 ∷ []) $
        by ! (subst (λ (k : ℕ). ent 𝓤 (Elements 𝓛 Alone u8 (with_text s) (named 0) κ q rb ro b at γ xs (roomy, fitting) (sem 𝓛 (Rest vs b o)) way δ) (Post
        (slice_val (b, at) k))) (sym long)
        (exits (slice_val (b, at) n) r refl)))))))

    entry : len ≡ n → ent 𝓤 (on_entry 𝓛 ended.signature (κ, tt) (q, tt) (self, (len, tt)) (us0, (us1, tt))) (WpFn 𝓤 H C Λ function (us0 ++ (us1 ++ [])) Post)
    entry long =
        qed 𝓛 ((‵ (flft κ q) ⊛ ‵ ftrue) ∷ ‵ (owns (MutRef (named 0) κ Alone ∷ usize ∷ []) (self, (len, tt)) (us0, (us1, tt))) ∷ []) ∵
        split ! $ move ! (2 ∷ []) $ fsplit ! $ fsplit3 ! $ feq_l ! (λ e0. move ! (2 ∷ []) $ fsplit ! $ fsplit ! $ feq_l ! (λ e1. flt_l ! (λ fits_len.
        keep ! (1 ∷ 2 ∷ 3 ∷ []) $
        by ! (subst (λ (ws : List Val × List Val). ent 𝓤 (⋆ 𝓛 Had) (WpFn 𝓤 H C Λ function (ws.0 ++ (ws.1 ++ [])) Post)) (λ j.
        (sym e0 j, sym e1 j)) (walk long fits_len)))))

  meets : {M : Type 1} {𝓤 : Ura M} (𝓛 : Logic 𝓤) (𝓣 : Tables 𝓤 𝓛.H) → Meets 𝓛 ended.signature (WpFn 𝓤 𝓛.H 𝓣.C 𝓣.Λ function) (closing 𝓛 ended (spec 𝓛))
  meets {𝓤 = 𝓤} 𝓛 𝓣 =
      walk_Meets 𝓛 ended stayed (
        Goes-spent_ref 𝓛 1 (0 ∷ []) tt (plain (λ _. Alone)),
        (
          Goes-dropped 𝓛 1 (plain (λ _. usize)) yes (λ κs x f.
              refl),
          tt,
        ),
      ) (spec 𝓛) (WpFn 𝓤 𝓛.H 𝓣.C 𝓣.Λ function) (WpFn-mono 𝓤 𝓛.H 𝓛.laws 𝓣 function)
      (λ z. needs 𝓤 (z.0.3.1.0 ≡ length z.0.3.0.now.text) _ (entry 𝓛 𝓣.C 𝓣.Λ z.0.0.0 z.0.1.0 z.0.3.0.ref_ptr.0 z.0.3.0.ref_ptr.1
      z.0.3.0.ghost_name z.0.3.0.now z.0.3.1.0 z.0.4.0 z.0.4.1.0))

pub lend_spec : {M : Type 1} → stated.statement M
unfolding tables_of
lend_spec 𝓤 𝓛 𝓜 𝓡 wired Y K g d dd met md y =
    let 𝓣 : Tables 𝓤 𝓛.H = tables_of 𝓤 𝓛.H 𝓜 (tables 𝓤 𝓛.H 𝓜 𝓡 𝓡.env) in let k = #self (args Y g d dd) in
    spared 𝓛 (ended Y g d dd).signature (𝓡.run (𝓡.env k)) (run_framed 𝓤 𝓛.H 𝓜 𝓡 (𝓡.env k)) 1 (Y.lives, tt) (closing 𝓛 (ended Y g d dd) (spec Y g d dd 𝓛))
    (entered 𝓤 𝓛.H (triple_of 𝓛 (ended Y g d dd).signature (closing 𝓛 (ended Y g d dd) (spec Y g d dd 𝓛))) 𝓣.C 𝓣.Λ k (function Y g d dd)
    (code.unfolded 𝓤 𝓛.H 𝓜 𝓡 wired (Y, tt) d dd) (meets Y g d dd 𝓛 𝓣))
    ((y.0.0, y.0.1, tt, y.0.3, y.0.4), y.1)
