-- A `&` to a row holds the bytes that are written. Assumes `Logic`.
use Rattle.arcstr_block.proofs.Names.{ℕ, ◌^◌, ◌*◌, Bool, true, false, List, [], ◌∷◌, length, Ura, Lft, Logic, Ptr, block_ptr, null_ptr, in_block, u8, ftrue}
use Rattle.arcstr_block.proofs.Names.{said}
use Rattle.arcstr_block.proofs.Names.{ShrLaws, nothing_shr_laws, said_shr_laws, beside_shr_laws, lent_at_shr_laws, copy_shared, RawPtr-field, RawPtr-copy}
use Rattle.arcstr_block.proofs.Names.{Lends, Lends-lies, Lends-said, Lends-nothing, Lends-both, of_Lends, slot, slots, ⊑_static}
use base.Fml.{flt}
use denote.RawPtr.{◌+ₚ◌}
use denote.Shares.{Shares-less}
use denote.Struct.Lending.{Lends-false}
use Rattle.core.specs.Mem.Slots.Ownership.{slot_lent, slots_lent}
use Rattle.arcstr_block.proofs.Memory.{byte_laws}
use Rattle.arcstr_block.specs.contracts.block.Row as C
use Rattle.arcstr_block.proofs.block.Row.TheLaw.Statement.{statement}

slot_laws : (f : Bool) (p : Ptr) (x : ℕ) → ShrLaws (slot_lent u8 f p x)
slot_laws true p x = lent_at_shr_laws u8 byte_laws.shr_laws p x
slot_laws false p x = nothing_shr_laws

slots_laws : (p : Ptr) (xs : List ℕ) (fs : List Bool) → ShrLaws (slots_lent u8 p xs fs)
slots_laws p [] fs = nothing_shr_laws
slots_laws p (x ∷ xs) [] = nothing_shr_laws
slots_laws p (x ∷ xs) (f ∷ fs) = beside_shr_laws (slot_lent u8 f p x) (slots_lent u8 (p +ₚ 1) xs fs) (slot_laws f p x) (slots_laws (p +ₚ 1) xs fs)

module _ {M : Type 1} {𝓤 : Ura M} (𝓛 : Logic 𝓤) (l : Lft) where
  Lends-slot : (f : Bool) (p : Ptr) (x : ℕ) → Lends 𝓛 (slot u8 f p x) (slot_lent u8 f p x) l
  Lends-slot true p x = Lends-lies 𝓛 u8 l p x (Shares-less 𝓛 u8 [] l (⊑_static l) (byte_laws.shares 𝓛) x)
  Lends-slot false p x = Lends-nothing 𝓛 (slot u8 false p x) l

  Lends-slots : (p : Ptr) (xs : List ℕ) (fs : List Bool) → Lends 𝓛 (slots u8 p xs fs) (slots_lent u8 p xs fs) l
  Lends-slots p [] fs = Lends-nothing 𝓛 ftrue l
  Lends-slots p (x ∷ xs) [] = Lends-nothing 𝓛 ftrue l
  Lends-slots p (x ∷ xs) (f ∷ fs) =
      Lends-both 𝓛 (slot u8 f p x) (slots u8 (p +ₚ 1) xs fs) (slot_lent u8 f p x) (slots_lent u8 (p +ₚ 1) xs fs) l
      (Lends-slot f p x) (Lends-slots (p +ₚ 1) xs fs)

  Lends-row : (p : Ptr) (xs : List ℕ) (fs : List Bool) → Lends 𝓛 (in_block p (slots u8 p xs fs)) (slots_lent u8 p xs fs) l
  Lends-row (block_ptr b o) xs fs = Lends-slots (block_ptr b o) xs fs
  Lends-row null_ptr xs fs = Lends-false 𝓛 (slots_lent u8 null_ptr xs fs) l

pub shares : statement
shares = of_Lends C.struct C.the_codes C.the_heap C.the_lent
    (λ d p. let small = flt (length d.items * 1) (2 ^ 63) in
    beside_shr_laws (said small) (slots_lent u8 d.at d.items d.filled) (said_shr_laws small tt) (slots_laws d.at d.items d.filled))
    (copy_shared RawPtr-field RawPtr-copy, tt)
    (λ M 𝓤 𝓛 d p. let l = C.the_row.lives in let small = flt (length d.items * 1) (2 ^ 63) in
    Lends-both 𝓛 small (in_block d.at (slots u8 d.at d.items d.filled)) (said small) (slots_lent u8 d.at d.items d.filled) l (Lends-said 𝓛 small tt l)
    (Lends-row 𝓛 l d.at d.items d.filled))
