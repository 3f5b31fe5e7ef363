-- A `&` to a pointer holds a share of its token. Assumes `Logic`.
use Rattle.arcstr_block.proofs.Names.{length, fex, Laws, copy_shared, RattleType, block_of, said, beside_shr_laws, said_shr_laws, some_shr_laws, RawPtr-field}
use Rattle.arcstr_block.proofs.Names.{RawPtr-copy, field_copy, Lends-both, of_Lends, Lends-said, Ghosts, lends_twice, Id, held_with, of_block, shown, known}
use Rattle.arcstr_block.proofs.Names.{of_block_shown, block_owns, block_shares, word_at, IsText, in_memory}
use denote.Sharing.{some}
use denote.Model.Laws.{Lends-some}
use Rattle.arcstr_block.proofs.Memory.{shares_laws}
use Rattle.arcstr_block.proofs.Sharing.{known_twice, known_laws, shown_laws, Lends-held}
use Rattle.arcstr_block.proofs.pointer.Pointer.TheLaw.Statement.{statement}
use Rattle.core.specs.contracts.marker.PhantomData as Marker
use Rattle.arcstr_block.specs.contracts.pointer.Pointer as C

pub shares : (B : RattleType) (g : Ghosts B.Denot) (K : Laws B) → statement B g K
shares B g K = of_Lends (C.struct B g) (C.the_codes B.Denot B.coded (Marker.the_row B).coded) (C.the_heap B g) (C.the_lent B g)
    (λ d p. let holds = g.dealloc_token d.home in let P = block_owns holds d.at d.text in let s = block_shares d.at d.text in let b = block_of d.at in
    let o = word_at d.at (length d.text) in
    let lent = of_block_shown holds d.limit d.at d.text d.right d.seat d.block d.history in
    beside_shr_laws (said (in_memory d.at (IsText d.text))) (some Id lent) (said_shr_laws (in_memory d.at (IsText d.text)) (λ _. tt))
    (some_shr_laws Id lent (λ t. beside_shr_laws (said (known t d.block d.history)) (shown P d.limit b o t s d.seat d.right) (known_laws t d.block d.history)
    (shown_laws P d.limit b o s (shares_laws d.at d.text) d.seat t d.right))))
    (copy_shared RawPtr-field RawPtr-copy, (copy_shared (Marker.the_field B) (field_copy (Marker.the_type B) tt), tt))
    (λ M 𝓤 𝓛 d p. let holds = g.dealloc_token d.home in let P = block_owns holds d.at d.text in let s = block_shares d.at d.text in
    let l = (C.the_row B g).lives in
    let b = block_of d.at in let o = word_at d.at (length d.text) in let owns = of_block holds d.limit d.at d.text d.right d.seat d.block d.history in
    let lent = of_block_shown holds d.limit d.at d.text d.right d.seat d.block d.history in
    Lends-both 𝓛 (in_memory d.at (IsText d.text)) (fex Id owns) (said (in_memory d.at (IsText d.text))) (some Id lent) l
    (Lends-said 𝓛 (in_memory d.at (IsText d.text))
    (λ _. tt) l)
    (Lends-some 𝓛 Id owns lent l (λ t. Lends-both 𝓛 (known t d.block d.history) (held_with P d.limit b o t s d.seat d.right) (said (known t d.block d.history))
    (shown P d.limit b o t s d.seat d.right) l
    (lends_twice 𝓛 (known t d.block d.history) (known_twice 𝓛 t d.block d.history) l)
    (Lends-held P d.limit b o s (shares_laws d.at d.text) d.seat 𝓛 t d.right l))))
