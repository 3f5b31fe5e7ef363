use Rattle.arcstr_block.proofs.shared.Shared.first_handle.Given as goal

-- the limit of the block is that of the handle
abbrev pub ghost-make : goal.ghost-make
ghost-make g a = g.row.LIMIT
