use Rattle.arcstr_block.proofs.Names.{IsSend, IsSync, Frees, RattleType, Ghosts}
use Rattle.arcstr_block.specs.contracts.pointer.Pointer.{the_row}
use Rattle.arcstr_block.proofs.Sharing.{pointer_sync}

pub sync : (A : RattleType) (g : Ghosts A.Denot) → IsSend A → IsSync A → Frees g g.dealloc_token → IsSync (the_row A g)
sync A g sa ya f = pointer_sync A g f sa ya
