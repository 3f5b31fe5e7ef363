-- The clone is on the block of the text, so what the first drop has seen is of the block of the second.
use Rattle.std.proofs.Common.{subst}
use Rattle.arcstr.specs.TextView.{TextView, IsStatic}
use Rattle.arcstr.specs.History.{SeesAfter}
use Rattle.arcstr_block.specs.declared.ending.End.TheVariants.{Ended}
use Rattle.std.proofs.Common.{◌≡◌}
use Rattle.lessons.proofs.Ends.{first_stays, second_frees}
use Rattle.lessons.proofs.history.end_both.Goals as goal

pub returns-clause-first : goal.returns-clause-first
returns-clause-first g c =
    let seen = c.end_after-first.result.1 in let last = c.end_after-second.result.1 in
    let after = subst (λ (v : TextView). SeesAfter v.kind seen last) c.clone_after-other.ensures.same c.end_after-second.ensures.seen in
    first_stays c.in_ok-text.text.kind c.end_after-first.result.0 c.end_after-second.result.0 c.clone_after-other.result.1 seen last
    c.end_after-first.ensures.seen c.end_after-first.ensures.ends c.end_after-first.ensures.never_freed after c.end_after-second.ensures.ends

pub returns-clause-second : goal.returns-clause-second
returns-clause-second g c =
    let seen = c.end_after-first.result.1 in let last = c.end_after-second.result.1 in let second = c.end_after-second.result.0 in
    let after = subst (λ (v : TextView). SeesAfter v.kind seen last) c.clone_after-other.ensures.same c.end_after-second.ensures.seen in
    let never = subst (λ (v : TextView). IsStatic v.kind → second ≡ Ended) c.clone_after-other.ensures.same c.end_after-second.ensures.never_freed in
    second_frees c.in_ok-text.text.kind c.end_after-first.result.0 second c.clone_after-other.result.1 seen last
    c.end_after-first.ensures.seen c.end_after-first.ensures.ends c.end_after-first.ensures.never_freed after c.end_after-second.ensures.ends never
