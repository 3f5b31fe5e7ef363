use Rattle.arcstr_block.proofs.Names.{IsSend, Frees, RattleType, Ghosts}
use Rattle.arcstr_block.specs.contracts.block.Blank.{the_row}
use Rattle.arcstr_block.proofs.Sharing.{blank_send}

pub send : (A : RattleType) (g : Ghosts A.Denot) → IsSend A → Frees g g.dealloc_token → IsSend (the_row A g)
send A g sa f = blank_send A g f sa
