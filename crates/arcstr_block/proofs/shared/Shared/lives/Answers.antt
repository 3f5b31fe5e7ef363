-- The pointer's limit is that of the type.
use Rattle.std.proofs.Common.{sym, subst}
use Rattle.arcstr_block.specs.Handle.{SawBack}
use Rattle.arcstr_block.proofs.shared.Shared.lives.Goals as goal

pub returns-clause-unfreed : goal.returns-clause-unfreed
returns-clause-unfreed g c = λ h freed. c.a_free_handle_lives.ensures.unfreed h
    (subst (λ limit. SawBack limit c.args.seen.now.history h) (sym c.self.inside.handle.limit) freed)
