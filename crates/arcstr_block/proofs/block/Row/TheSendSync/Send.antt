use Rattle.arcstr_block.proofs.Names.{IsSend}
use Rattle.arcstr_block.specs.contracts.block.Row.{the_row}
use Rattle.arcstr_block.proofs.Sharing.{row_send}

pub send : IsSend the_row
send = row_send
