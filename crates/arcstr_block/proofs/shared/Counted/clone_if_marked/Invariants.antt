use Rattle.arcstr_block.proofs.Names.{true}
use Rattle.arcstr_block.proofs.shared.Counted.clone_if_marked.Given as goal

-- the load is a clone's
abbrev pub ghost-load : goal.ghost-load
ghost-load g a = true
