use Rattle.std.proofs.Common.{subst}
use Rattle.arcstr_range.specs.Ends.{IsLawful}
use Rattle.arctokens.specs.SliceLists.{SubstrsView}
use Rattle.arctokens.proofs.SliceLists.{IsLawful-far}
use Rattle.arctokens.proofs.substrs.Substrs.range.Goals as goal

pub returns-in_ok-start-in-None-clause-lawful : goal.returns-in_ok-start-in-None-clause-lawful
returns-in_ok-start-in-None-clause-lawful c =
    let fields = c.self.inside in
    let range = c.in_ok-start-in-None.field-0.now in
    let found = c.in_ok-start-in-None.ensures.lookup in
    let lawful =
    IsLawful-far fields.text fields.near.items fields.far.items _ _ range c.self.invariant c.deref-in-None.ensures.value found.3.0 found.1 in
    subst (λ (list : SubstrsView). IsLawful list.text.text range.0 range.1) c.self.view_is lawful
