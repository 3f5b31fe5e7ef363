-- A `&` to a new block says that its address is in memory. Assumes `Logic`.
use Rattle.arcstr_block.proofs.Names.{Laws, copy_shared, RattleType, said, said_shr_laws, RawPtr-field, RawPtr-copy, field_copy, of_Lends, Lends-said}
use Rattle.arcstr_block.proofs.Names.{Lends-first, Ghosts, Fml, fsep, word_lies, length_lies, rim, in_memory, Fits}
use Rattle.arcstr_block.proofs.block.Blank.TheLaw.Statement.{statement}
use Rattle.core.specs.contracts.marker.PhantomData as Marker
use Rattle.arcstr_block.specs.contracts.block.Blank as C

pub shares : (B : RattleType) (g : Ghosts B.Denot) (K : Laws B) → statement B g K
shares B g K = of_Lends (C.struct B g) (C.the_codes B.Denot B.coded (Marker.the_row B).coded) (C.the_heap B g) (C.the_lent B g)
    (λ d p. said_shr_laws (in_memory d.at (Fits d.length)) (λ _. tt))
    (copy_shared RawPtr-field RawPtr-copy, (copy_shared (Marker.the_field B) (field_copy (Marker.the_type B) tt), tt))
    (λ M 𝓤 𝓛 d p. let inb : Fml = in_memory d.at (Fits d.length) in
    let rest : Fml = fsep (word_lies d.at d.length d.word) (fsep (length_lies d.at d.length) (rim (g.dealloc_token d.home) d.length d.at)) in
    let l = (C.the_row B g).lives in Lends-first 𝓛 inb rest (said inb) l (Lends-said 𝓛 inb (λ _. tt) l))
