-- Both handles live in what was seen, and have two seats.
use Rattle.arcstr_block.proofs.Names.{sym}
use Rattle.arcstr_block.proofs.Living.{counts_two}
use Rattle.arcstr_block.proofs.shared.Shared.two_handles_are_counted.Goals as goal

pub returns-clause-two : goal.returns-clause-two
returns-clause-two g c = λ before n born later counted. counts_two g.row.LIMIT before c.args.seen.now.history c.args.self.seat c.args.other.seat n
    c.lives.ensures.living c.lives-2.ensures.living (c.two_handles_have_two_seats.ensures.apart (sym c.requires.same)) born later counted
