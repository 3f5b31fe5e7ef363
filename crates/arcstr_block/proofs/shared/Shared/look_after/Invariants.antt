use Rattle.arcstr_block.proofs.Names.{false}
use Rattle.arcstr_block.proofs.shared.Shared.look_after.Given as goal

-- the load is a look
abbrev pub ghost-load : goal.ghost-load
ghost-load g a = false
