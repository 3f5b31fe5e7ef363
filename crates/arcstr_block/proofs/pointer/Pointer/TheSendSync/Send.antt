use Rattle.arcstr_block.proofs.Names.{IsSend, IsSync, Frees, RattleType, Ghosts}
use Rattle.arcstr_block.specs.contracts.pointer.Pointer.{the_row}
use Rattle.arcstr_block.proofs.Sharing.{pointer_send}

pub send : (A : RattleType) (g : Ghosts A.Denot) → IsSend A → IsSync A → Frees g g.dealloc_token → IsSend (the_row A g)
send A g sa ya f = pointer_send A g f sa ya
