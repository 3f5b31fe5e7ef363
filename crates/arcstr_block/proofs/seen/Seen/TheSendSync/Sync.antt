use Rattle.arcstr_block.proofs.Names.{IsSync, sendable, shape, Struct}
use Rattle.arcstr_block.specs.contracts.seen.Seen.{the_row, the_type}
use Rattle.arcstr_block.proofs.Sharing.{reached_keyless}

pub sync : IsSync the_row
sync = let fields : IsSync (Struct (shape the_type)) = search sendable depth 20 in
    record { shared = λ d b o ν. (fields.shared (tt, tt) b o ν, reached_keyless d.block.history d.history) }
