-- The drop of a handle on a block that was marked before does not pass its look.
use Rattle.arcstr_block.proofs.Names.{subst, sym}
use Rattle.arcstr_block.specs.Handle.{IsMarkedIn}
use Rattle.arcstr_block.proofs.Words.{unmarked_by}
use Rattle.arcstr_block.proofs.Histories.{marked_is_not_begun}
use Rattle.arcstr_block.proofs.shared.Shared.down_after.Goals as goal

pub returns-then-is_count_of_one-clause-marked : goal.returns-then-is_count_of_one-clause-marked
returns-then-is_count_of_one-clause-marked g c = let begun = c.begin-found.ensures.history in let before = c.args.before.now.history in
    λ marked. absurd (marked_is_not_begun _ before _ _ (subst (λ k. IsMarkedIn k before) (sym c.self.inside.handle.limit) marked) begun.3
    (begun.2 (unmarked_by c.begin-found.result.0 c.is_marked.result c.if-is_marked.false c.is_marked.ensures.1)))

pub returns-clause-marked : goal.returns-clause-marked
returns-clause-marked g c = let begun = c.begin-found.ensures.history in let before = c.args.before.now.history in
    λ marked. absurd (marked_is_not_begun _ before _ _ (subst (λ k. IsMarkedIn k before) (sym c.self.inside.handle.limit) marked) begun.3
    (begun.2 (unmarked_by c.begin-found.result.0 c.is_marked.result c.if-is_marked.false c.is_marked.ensures.1)))
