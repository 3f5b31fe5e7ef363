use Rattle.arcstr_range.proofs.Matches.{lawful_past, lawful_past_first, lawful_to, lawful_to_first}
use Rattle.arcstr_range.proofs.view.split_by.next_match.Goals as goal

pub returns-then-not-begun-clause-before : goal.returns-then-not-begun-clause-before
returns-then-not-begun-clause-before g c = lawful_to c.args.text.now c.in_ok-found.found c.utf8.text c.in_ok-found.ensures.cut

pub returns-then-not-begun-clause-behind : goal.returns-then-not-begun-clause-behind
returns-then-not-begun-clause-behind g c = lawful_past c.args.text.now c.in_ok-found.found c.in_ok-found.ensures.cut

-- an empty match behind the first character
pub returns-clause-before : goal.returns-clause-before
returns-clause-before g c =
    lawful_to_first c.args.text.now _ _ c.in_ok-next.field-0 c.len_utf8-width.result c.utf8.text c.chars.ensures.rest c.in_ok-next.ensures.steps.0
    c.len_utf8-width.ensures.value

pub returns-clause-behind : goal.returns-clause-behind
returns-clause-behind g c =
    lawful_past_first c.args.text.now _ _ c.in_ok-next.field-0 c.len_utf8-width.result c.utf8.text c.chars.ensures.rest c.in_ok-next.ensures.steps.0
    c.len_utf8-width.ensures.value
