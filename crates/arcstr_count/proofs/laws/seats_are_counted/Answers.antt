use Rattle.arcstr_count.proofs.OneBlock.{seats-owed}
use Rattle.arcstr_count.proofs.laws.seats_are_counted.Goals as goal

pub returns-clause-owed : goal.returns-clause-owed
returns-clause-owed c = seats-owed c.args.limit c.args.history.now c.args.word c.args.seats.now
