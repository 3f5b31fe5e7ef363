use Rattle.std.proofs.Common.{subst, sym}
use Rattle.arcstr_range.specs.Ends.{IsLawful}
use Rattle.arctokens.specs.SliceLists.{SubstrsView}
use Rattle.arctokens.proofs.SliceLists.{IsSoundList-push_far}
use Rattle.arctokens.proofs.substrs.Substrs.push.Goals as goal

pub invariant_of-self-in-Continue-branch-2 : goal.invariant_of-self-in-Continue-branch-2
invariant_of-self-in-Continue-branch-2 c =
    let fields = c.self.inside in
    let start = c.args.range.start in
    let end = c.args.range.end in
    let lawful = subst (λ (list : SubstrsView). IsLawful list.text.text start end) (sym c.self.view_is) c.requires in
    IsSoundList-push_far fields.text fields.near.items fields.far.items c.push-else-is_empty.new.self.items start end c.self.invariant lawful
    c.in_ok-push-2.ensures.items
