-- The memory of a block: its size, its three rooms, what is lent of it, the way back to room, and the slots of its bytes. Assumes `Logic`.
use Rattle.arcstr_block.proofs.Names.{◌≡◌, ℕ, ◌^◌, Bool, true, [], ◌∷◌, refl, arith, lit<, false, List, subst, ap, length, suc, ◌+◌, ◌<◌, ◌++◌, ◌∙◌, ◌*◌, w64}
use Rattle.arcstr_block.proofs.Names.{T, Ura, bare, Ty, w8, ty_int, ty_array, tcons, tnil, ty_ptr, ty_struct, Val, vint, vptr, vstruct, of_list, has_ty, WT}
use Rattle.arcstr_block.proofs.Names.{Lft, Fml, fsep, flft, ftrue, feq, fwand, froom, full_share, emp, guard, ex, id⊢, SProp, ent, sep, apply∗, ⊑_static, ◌⊑◌}
use Rattle.arcstr_block.proofs.Names.{⊑_refl, fact, fact_i, Fun, Array, Array-row_laws, u8, usize, no, left, Is, shows, param, Laws, of_field, copy_shared}
use Rattle.arcstr_block.proofs.Names.{RattleType, Ptr, block_ptr, RawPtr, null_ptr, ptr_val, bytes, bytes_apart, bytes-room, ShrLaws, beside_shr_laws, nothing}
use Rattle.arcstr_block.proofs.Names.{heard, only, peeks, u8-field, u64-field, u8-laws, u8-copy, u64-laws, u64-copy, Lends, lent_at, lent_at_shr_laws}
use Rattle.arcstr_block.proofs.Names.{Lends-both, Lends-first, Lends-lies, shape, Struct, Tuple, triple_of, ‵, ◌⊛◌, some, later, ◌$◌, ◌∵◌, !, qed, move, pick}
use Rattle.arcstr_block.proofs.Names.{use0, use1, use2, split, split3, join, fsplit, fjoin, fpick, await, updating, now, done, raw, by, fsplit3, drop, check}
use Rattle.arcstr_block.proofs.Names.{rewrite, show, feq_l, feq_i, flt_l, flt_i, frame, Logic, sem, words_val, word_out, slot, slots, owned, word, Slots}
use Rattle.arcstr_block.proofs.Names.{block_owns, block_shares, Fits, word_offset, block_size, block_type, length_at, rooms, word_lies, length_lies, text_lies}
use Rattle.arcstr_block.proofs.Names.{rim, ◌≤◌, take, zero}
use denote.Memory.{each_shared, shared_of}
use Rattle.arcstr_block.proofs.Names.{makes_shadow, vcons, vnil}
use Rattle.arcstr_block.specs.contracts.block.Row as RW
use Rattle.core.specs.Mem.Slots.Ownership.{slot_lent, slots_lent}
use prog.Memory.{size, align, up, capped, Memory}
use prog.Capped.{capped_is}
use prog.RawLaws.{size-raw, align-raw}
use denote.Shares.{Shares-less, Shares-Array}
use prog.Routine.{Routine}
use denote.Triple.Statement.{Contract}
use Rattle.core.proofs.mem.Param.{El}
use Rattle.core.specs.contracts.slots.Slots as SL
use Rattle.core.specs.contracts.slots.Slots.from_raw_parts as FR
use Rattle.core.specs.contracts.slots.Slots.into_raw_parts as IR

pub block_bytes : (n : ℕ) → Fits n → capped (size (bare (block_type n))) ≡ block_size n
block_bytes n fits = ap capped (size-raw (block_type n)) ∙ capped_is (size (block_type n)) (omega arith) ∙ omega arith

pub block_align : (n : ℕ) → capped (align (bare (block_type n))) ≡ 8
block_align n = ap capped (align-raw (block_type n))

abbrev pub byte_laws : Laws u8
byte_laws = of_field u8-field u8-laws refl (copy_shared u8-field u8-copy)

abbrev pub number_laws : Laws usize
number_laws = of_field u64-field u64-laws refl (copy_shared u64-field u64-copy)

pub shares_laws : (p : Ptr) (xs : List ℕ) → ShrLaws (block_shares p xs)
shares_laws p xs = let n : ℕ = length xs in beside_shr_laws (lent_at usize (length_at p n) n) (lent_at (Array u8 n) p xs)
    (lent_at_shr_laws usize number_laws.shr_laws (length_at p n) n) (lent_at_shr_laws (Array u8 n) (Array-row_laws u8 byte_laws.shr_laws n) p xs)

module _ {M : Type 1} {𝓤 : Ura M} (𝓛 : Logic 𝓤) where
  open 𝓛 use {H, A}

  pub lends_block : (holds : Ty → Ptr → Fml) (p : Ptr) (xs : List ℕ) (l : Lft) → Lends 𝓛 (block_owns holds p xs) (block_shares p xs) l
  lends_block holds p xs l = let n : ℕ = length xs in let s : Lft → Fml = lent_at (Array u8 n) p xs in
      Lends-both 𝓛 (length_lies p n) (fsep (text_lies p xs) (rim holds n p)) (lent_at usize (length_at p n) n) s l
      (Lends-lies 𝓛 usize l (length_at p n) n (Shares-less 𝓛 usize [] l (⊑_static l) (number_laws.shares 𝓛) n))
      (Lends-first 𝓛 (text_lies p xs) (rim holds n p) s l (Lends-lies 𝓛 (Array u8 n) l p xs (Shares-Array 𝓛 u8 tt n l (Shares-less 𝓛 u8 [] l
      (⊑_static l) (byte_laws.shares 𝓛)) xs)))

  -- room for the bytes, the word and the length at these addresses, and the way back to the block's room
  abbrev Spreads : ℕ → ℕ → ℕ → ℕ → ℕ → ℕ → Type 1
  Spreads n b o x y z = let parts : Fml = fsep (froom (ty_array (ty_int w8) n) b x) (fsep (froom (ty_int w64) b y) (fsep (froom (ty_int w64) b z) ftrue)) in
      ent 𝓤 (H.room (bare (block_type n)) b o) (sep 𝓤 (sem 𝓛 parts) (sem 𝓛 (fwand parts (froom (bare (block_type n)) b o))))

  pub spreads : (n b o : ℕ)
      → ent 𝓤 (H.room (bare (block_type n)) b o) (sep 𝓤 (sem 𝓛 (rooms n b o)) (sem 𝓛 (fwand (rooms n b o) (froom (bare (block_type n)) b o))))
  spreads n b o = let x : ℕ = o + up 1 0 in let y : ℕ = o + up 8 (up 1 0 + n * 1) in let z : ℕ = o + up 8 (up 8 (up 1 0 + n * 1) + 8) in
      let u : ℕ = o + word_offset n in
      let ex : x ≡ o = omega arith in let ey : y ≡ u + 0 = omega arith in let ez : z ≡ u + 8 = omega arith in
      subst (λ (at : ℕ × ℕ × ℕ). Spreads n b o at.0 at.1 at.2) (λ i. (ex i, ey i, ez i))
      (𝓛.laws.room_fields [] (tcons (ty_array (ty_int w8) n) (tcons (ty_int w64) (tcons (ty_int w64) tnil))) b o)

  -- a block whose bytes are room is room again, with the right to free it
  pub gathers_room : (holds : Ty → Ptr → Fml) (b o w n : ℕ)
      → ent 𝓤 (sep 𝓤 (sem 𝓛 (word_lies (block_ptr b o) n w)) (sep 𝓤 (sem 𝓛 (length_lies (block_ptr b o) n)) (sep 𝓤 (sem 𝓛 (rim holds n (block_ptr b o)))
      (H.room (ty_array (ty_int w8) n) b o)))) (sep 𝓤 (H.room (bare (block_type n)) b o) (sem 𝓛 (holds (bare (block_type n)) (block_ptr b o))))
  gathers_room holds b o w n = let τ : Ty = bare (block_type n) in let u : ℕ = o + word_offset n in
      qed 𝓛 (‵ (word b (u + 0) w) ∷ ‵ (length_lies (block_ptr b o) n) ∷ ‵ (rim holds n (block_ptr b o)) ∷ ‵ (froom (ty_array (ty_int w8) n) b o) ∷ []) ∵
      use1 𝓛 (‵ (froom (ty_int w64) b (u + 0))) (𝓛.laws.at_room (ty_int w64) b (u + 0) (vint w64 w)) $ move ! (1 ∷ []) $
      use1 𝓛 (‵ (word b (u + 8) n)) (word_out 𝓛 b (u + 8) n) $ use1 𝓛 (‵ (froom (ty_int w64) b (u + 8))) (𝓛.laws.at_room (ty_int w64) b (u + 8) (vint w64 n)) $
      -- [room for the length; for the word; the rim; room for the bytes]
      nothing ! $ move ! (1 ∷ 0 ∷ []) $ fjoin ! $ move ! (1 ∷ 0 ∷ []) $ fjoin ! $ move ! (2 ∷ 0 ∷ []) $ fjoin ! $
      move ! (1 ∷ []) $ fsplit ! $ move ! (2 ∷ 0 ∷ []) $
      use2 𝓛 (‵ (froom τ b o)) (apply∗ 𝓤 (sem 𝓛 (rooms n b o)) (H.room τ b o)) $ done !

  -- so is one that has one owner
  pub gathers : (holds : Ty → Ptr → Fml) (b o w : ℕ) (xs : List ℕ)
      → ent 𝓤 (sep 𝓤 (sem 𝓛 (word_lies (block_ptr b o) (length xs) w)) (sem 𝓛 (block_owns holds (block_ptr b o) xs)))
      (sep 𝓤 (H.room (bare (block_type (length xs))) b o) (sem 𝓛 (holds (bare (block_type (length xs))) (block_ptr b o))))
  gathers holds b o w xs = let n : ℕ = length xs in
      qed 𝓛 (‵ (word_lies (block_ptr b o) n w) ∷ ‵ (block_owns holds (block_ptr b o) xs) ∷ []) ∵ move ! (1 ∷ []) $ fsplit3 ! $
      -- [the length; the bytes; the rim; the word]
      move ! (1 ∷ []) $ use1 𝓛 (‵ (fsep (feq ℕ n n) (bytes full_share xs b o))) (bytes_apart 𝓛 full_share n xs b o) $ fsplit ! $ drop ! $
      use1 𝓛 (‵ (froom (ty_array (ty_int w8) n) b o)) (bytes-room 𝓛 xs b o) $ move ! (3 ∷ 1 ∷ 2 ∷ 0 ∷ []) $ by ! (gathers_room holds b o w n)

-- ---- a `Row` as a value: its one data field

abbrev pub row_val : Ptr → Val
row_val p = vstruct (vcons (ptr_val p) vnil)

pub row_typed : (p : Ptr) → T (has_ty (ty_struct [] (tcons ty_ptr tnil)) (row_val p)) × WT (row_val p)
row_typed (block_ptr b o) = (tt, (tt, tt))
row_typed null_ptr = (tt, (record { fits = lit< tt }, tt))

abbrev pub RowFields : RattleType
RowFields = Struct (shape RW.the_type)

pub row_told : (p : Ptr) (vs : List Val) → Is RowFields (p, tt) vs → vs ≡ row_val p ∷ []
row_told p vs is = is.1.0 ∙ ap (λ (ws : List Val). vstruct (of_list (ws ++ [])) ∷ []) is.1.1.0

pub row_made : {M : Type 1} {𝓤 : Ura M} (𝓛 : Logic 𝓤) (p : Ptr) → ent 𝓤 (emp 𝓤) (sem 𝓛 (RowFields.own_val (p, tt) (row_val p ∷ [])))
row_made 𝓛 p = makes_shadow 𝓛 (RowFields.own_val (p, tt) (row_val p ∷ [])) (λ vss. (tt, (tt, tt))) ((ptr_val p ∷ [], tt), (refl, (refl, tt)))

-- ---- the slots of the bytes, as a `Slots` in a call: made of room, and taken apart once each byte is written

abbrev pub Bytes : RattleType
Bytes = SL.the_row u8

abbrev pub byte : El
byte = record { row = u8; laws = byte_laws }

abbrev pub R : RattleType
R = param 0 u8

pub words_typed : (p : Ptr) (n : ℕ) → n < 2 ^ 64 → T (has_ty (ty_struct [] (tcons ty_ptr (tcons (ty_int w64) tnil))) (words_val p n)) × WT (words_val p n)
words_typed (block_ptr b o) n fits = (tt, (tt, (record { fits = fits }, tt)))
words_typed null_ptr n fits = (tt, (record { fits = lit< tt }, (record { fits = fits }, tt)))

-- the two data fields
abbrev pub DataFields : RattleType
DataFields = Struct (shape (SL.the_type u8))

pub words_told : (p : Ptr) (n : ℕ) (vs : List Val) → Is DataFields (p, (n, tt)) vs → (vs ≡ words_val p n ∷ []) × (n < 2 ^ 64)
words_told p n vs is = (
  is.1.0 ∙ ap (λ (ws : List Val). vstruct (of_list (ws ++ (is.0.1.0 ++ []))) ∷ []) is.1.1.0 ∙ ap (λ (ws : List Val). vstruct (of_list
      (ptr_val p ∷ (ws ++ []))) ∷ []) is.1.1.1.0.0,
  is.1.1.1.0.1,
)

module _ {M : Type 1} {𝓤 : Ura M} (𝓛 : Logic 𝓤) (b : ℕ) where
  -- where each slot holds its byte, the slots are the bytes
  pub to_bytes : (xs : List ℕ) (fs : List Bool) (o : ℕ) → length fs ≡ length xs → ((k : ℕ) → k < length fs → lib.ListN.get_or fs k false ≡ true)
      → ent 𝓤 (sem 𝓛 (slots R (block_ptr b o) xs fs)) (sem 𝓛 (bytes full_share xs b o))
  to_bytes [] fs o e full = id⊢ 𝓤 (emp 𝓤)
  to_bytes (x ∷ xs) [] o e full = absurd (omega arith)
  to_bytes (x ∷ xs) (f ∷ fs) o e full =
      qed 𝓛 (‵ (slot R f (block_ptr b o) x) ∷ ‵ (slots R (block_ptr b (o + 1)) xs fs) ∷ []) ∵
      rewrite ! 0 (λ (g : Bool). ‵ (slot R g (block_ptr b o) x)) (full 0 (omega arith)) refl $ frame ! $
      by ! (to_bytes xs fs (o + 1) (omega arith) (λ k lt. full (suc k) (omega arith)))

  -- what a `&` to the slots shows of the first n bytes, where each slot holds its byte
  pub shown_bytes : (κ : Lft) (xs : List ℕ) (fs : List Bool) (n o : ℕ) → n ≤ length xs → length fs ≡ length xs
      → ((k : ℕ) → k < n → lib.ListN.get_or fs k false ≡ true)
      → ent 𝓤 (sem 𝓛 (slots_lent u8 (block_ptr b o) xs fs κ)) (sem 𝓛 (each_shared (take n xs) (shared_of u8) 1 b o κ))
  shown_bytes κ xs fs zero o within same full = qed 𝓛 (‵ (slots_lent u8 (block_ptr b o) xs fs κ) ∷ []) ∵ drop ! $ nothing ! $ done !
  shown_bytes κ [] fs (suc n) o within same full = absurd (omega arith)
  shown_bytes κ (x ∷ xs) [] (suc n) o within same full = absurd (omega arith)
  shown_bytes κ (x ∷ xs) (f ∷ fs) (suc n) o within same full =
      qed 𝓛 (‵ (slot_lent u8 f (block_ptr b o) x κ) ∷ ‵ (slots_lent u8 (block_ptr b (o + 1)) xs fs κ) ∷ []) ∵
      rewrite ! 0 (λ (g : Bool). ‵ (slot_lent u8 g (block_ptr b o) x κ)) (full 0 (omega arith)) refl $ fsplit ! $ drop ! $ frame ! $
      by ! (shown_bytes κ xs fs n (o + 1) (omega arith) (omega arith) (λ k lt. full (suc k) (omega arith)))

module _ {M : Type 1} {𝓤 : Ura M} (𝓛 : Logic 𝓤) (at_mem : Memory → SProp 𝓤) (run : Routine → Fun 𝓤) where
  open 𝓛 use {H}

  abbrev pub MakeContract : Contract 𝓤
  MakeContract = triple_of 𝓛 (FR.signature u8) (FR.spec u8 𝓛 at_mem run)

  abbrev pub EndContract : Contract 𝓤
  EndContract = triple_of 𝓛 (IR.signature u8) (IR.spec u8 𝓛 at_mem run)

  module _ (b o n : ℕ) (xs : List ℕ) (fs : List Bool) where
    abbrev pub at_makes : MakeContract.Ghost
    at_makes = ((([], tt), (full_share, tt), tt, (block_ptr b o, (n, tt)), (vptr b o ∷ [], (vint w64 n ∷ [], tt))), (xs, fs))

    abbrev pub IsSlotsMade : Slots ℕ → Type 0
    IsSlotsMade r = (r.ptr ≡ block_ptr b o) × (r.len ≡ n) × (r.items ≡ xs) × (r.filled ≡ fs)

    pub makes_goes : n ≡ length xs → n ≡ length fs → n < 2 ^ 63 → ent 𝓤 (sem 𝓛 (slots R (block_ptr b o) xs fs)) (MakeContract.pre at_makes)
    makes_goes e e' small = let Asked : Type 0 = (n ≡ length xs) × (n ≡ length fs) in
        qed 𝓛 (‵ (slots R (block_ptr b o) xs fs) ∷ []) ∵ flt_i ! (n * 1) (2 ^ 63) (omega arith) $ fjoin ! $
        use0 𝓛 (raw (fact 𝓤 Asked)) (fact_i 𝓤 Asked (emp 𝓤) (e, e')) $ join ! $
        use0 𝓛 (raw (fact 𝓤 ([] ⊑ []))) (fact_i 𝓤 ([] ⊑ []) (emp 𝓤) (⊑_refl [])) $ join ! $
        nothing ! $ flt_i ! n (2 ^ 64) (omega arith) $ feq_i ! (List Val) (vint w64 n ∷ []) (vint w64 n ∷ []) refl $ fjoin ! $ fjoin ! $
        feq_i ! (List Val) (vptr b o ∷ []) (vptr b o ∷ []) refl $ fjoin ! $ nothing ! $ use0 𝓛 (‵ (flft [] full_share)) (𝓛.lfts.lft-nil full_share) $ join ! $
        join ! $ done !

    pub makes_gives : (v : Val)
        → ent 𝓤 (MakeContract.post at_makes v) (H.⇛ (ex 𝓤 (λ (r : Slots ℕ).
        guard 𝓤 (IsSlotsMade r × (v ≡ words_val (block_ptr b o) n)) (sem 𝓛 (Bytes.own_val r (v ∷ []))))))
    makes_gives v =
        qed 𝓛 (raw (MakeContract.post at_makes v) ∷ []) ∵ updating ! $
        use1 𝓛 (later (some (λ (r : Slots ℕ). ((‵ (flft [] full_share) ⊛ ‵ ftrue) ⊛ ‵ (Bytes.own_val r (v ∷ [])))
        ⊛ some (λ (ws : Unit {0} × (Unit {0} × Unit {0})). ‵ (fsep ftrue (fsep ftrue ftrue)) ⊛ raw (fact 𝓤 (IsSlotsMade r)))))) (id⊢ 𝓤 _) $ await ! tt $ pick !
        (λ r.
        split ! $ move ! (1 ∷ []) $ pick ! (λ ws. split ! $ drop ! $ heard ! (IsSlotsMade r) (λ is. split ! $ drop ! $ fsplit ! $
        peeks ! DataFields (Is DataFields) (shows 𝓛 DataFields) (r.ptr, (r.len, tt)) (v ∷ []) (λ so. fjoin ! $ now ! $
        show ! (λ (z : Slots ℕ). guard 𝓤 (IsSlotsMade z × (v ≡ words_val (block_ptr b o) n)) (sem 𝓛 (Bytes.own_val z (v ∷ [])))) r $
        check ! (is, ap only (words_told r.ptr r.len (v ∷ []) so).0 ∙ (λ i. words_val (is.0 i) (is.1 i))) $ done !))))

  module _ (d : Slots ℕ) (u : Val) where
    abbrev pub at_ends : EndContract.Ghost
    at_ends = ((([], tt), (full_share, tt), tt, (d, tt), (u ∷ [], tt)), tt)

    pub ends_goes : ent 𝓤 (sem 𝓛 (Bytes.own_val d (u ∷ []))) (EndContract.pre at_ends)
    ends_goes =
        qed 𝓛 (‵ (Bytes.own_val d (u ∷ [])) ∷ []) ∵ nothing ! $ use0 𝓛 (raw (fact 𝓤 ([] ⊑ []))) (fact_i 𝓤 ([] ⊑ []) (emp 𝓤) (⊑_refl [])) $ join ! $
        nothing ! $ move ! (2 ∷ 0 ∷ []) $ fjoin ! $ nothing ! $ use0 𝓛 (‵ (flft [] full_share)) (𝓛.lfts.lft-nil full_share) $ join ! $ join ! $ done !

    pub ends_gives : (v : Val)
        → ent 𝓤 (EndContract.post at_ends v) (H.⇛ (guard 𝓤 ((v ≡ words_val d.ptr d.len) × (d.len < 2 ^ 64)) (sem 𝓛 (owned R d.ptr d.len d.items d.filled))))
    ends_gives v = let Pair : RattleType = Tuple (RawPtr ∷ usize ∷ []) in
        qed 𝓛 (raw (EndContract.post at_ends v) ∷ []) ∵ updating ! $
        use1 𝓛 (later (some (λ (r : Ptr × ℕ). ((‵ (flft [] full_share) ⊛ ‵ ftrue) ⊛ ‵ (Pair.own_val r (v ∷ [])))
        ⊛ some (λ (ws : Unit {0} × Unit {0}). ‵ (fsep (left ((SL.the_row R).exit no) d ws.0) ftrue) ⊛ raw (fact 𝓤 ((r.0 ≡ d.ptr) ×
        (r.1 ≡ d.len))) ⊛ ‵ (owned R d.ptr d.len d.items d.filled))))) (id⊢ 𝓤 _) $ await ! tt $ pick ! (λ r.
        split ! $ move ! (1 ∷ []) $ pick ! (λ ws. split3 ! $ drop ! $ heard ! ((r.0 ≡ d.ptr) × (r.1 ≡ d.len)) (λ is. move ! (1 ∷ []) $ split ! $ drop ! $
        fpick ! (λ vss. fsplit ! $ feq_l ! (λ all. fsplit ! $ feq_l ! (λ e₀. fsplit ! $ fsplit ! $ feq_l ! (λ e₁. flt_l ! (λ fn. drop ! $ now ! $
        check ! (ap only all ∙ (λ i. vstruct (of_list (e₀ i ++ (e₁ i ++ [])))) ∙ (λ i. words_val (is.0 i) (is.1 i)), omega (arith, is.1)) $ done !))))))))
