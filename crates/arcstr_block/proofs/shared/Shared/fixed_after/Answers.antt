-- A block that was marked before stays marked.
use Rattle.arcstr_block.proofs.Names.{sym, subst, looked_of, word_of, EndsIn, look_reply, Look}
use Rattle.std.specs.Prelude.{IsNone}
use Rattle.arcstr_block.proofs.Histories.{stays_marked}
use Rattle.arcstr_block.proofs.shared.Shared.fixed_after.Goals as goal

pub returns-in-Some-clause-marked : goal.returns-in-Some-clause-marked
returns-in-Some-clause-marked g c marked =
    let seen = c.load-found.result.1.history in let count = looked_of (word_of c.load-found.result.0) in let seat = c.self.inside.handle.pointer.seat in
    let ends : EndsIn g.row.LIMIT seen (Look seat) (look_reply count) =
    subst (λ limit. EndsIn limit seen (Look seat) (look_reply count)) c.self.inside.handle.limit c.load-found.ensures.history.0 in
    sym (subst IsNone c.in-Some.is (subst IsNone (sym c.looked.ensures.value)
    (stays_marked g.row.LIMIT c.args.before.now.history seen seat count marked c.load-found.ensures.history.2.0 ends)))
