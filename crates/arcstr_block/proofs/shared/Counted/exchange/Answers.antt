-- An exchange that found the old count word or a marked one is a clone's.
use Rattle.arcstr_block.proofs.Names.{sym, subst, ◌∙◌}
use Rattle.arcstr_block.specs.Steps.{IsBornOf}
use Rattle.arcstr_block.proofs.shared.Counted.exchange.Goals as goal
use Rattle.arcstr_block.proofs.shared.Counted.exchange.Goals.{then-found-old, else-found-old}

pub returns-then-is_marked-clause-born : goal.returns-then-is_marked-clause-born
returns-then-is_marked-clause-born g c =
    let history = c.clone_exchange-found.ensures.history in
    let born : IsBornOf c.args.self.now.pointer c.args.before.now.history c.clone_exchange-found.result.1 = elim c.if-found-old.branch [
      | then-found-old w ↦ history.1 w.if-found-old.true
      | else-found-old w ↦ history.0 (w.is_marked.ensures.0 (sym w.value-is ∙ c.if-is_marked.true))
    ] in
    subst (IsBornOf c.args.self.now.pointer c.args.before.now.history) (sym c.with_pointer.ensures) born
