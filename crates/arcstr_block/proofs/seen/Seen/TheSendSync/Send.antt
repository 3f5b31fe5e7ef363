use Rattle.arcstr_block.proofs.Names.{IsSend}
use Rattle.arcstr_block.specs.contracts.seen.Seen.{the_row}
use Rattle.arcstr_block.proofs.Sharing.{reached_keyless}

pub send : IsSend the_row
send = record { owned = λ d vs. ((λ vss. (tt, ((λ uss. (tt, tt)), tt))), reached_keyless d.block.history d.history); leaving = λ k f vs. tt }
