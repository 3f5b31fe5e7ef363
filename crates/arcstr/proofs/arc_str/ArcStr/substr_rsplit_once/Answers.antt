use Rattle.arcstr.proofs.FirstMatches.{split_joins}
use Rattle.arcstr.proofs.arc_str.ArcStr.substr_rsplit_once.Goals as goal

-- the slices join around a text
pub returns-clause-joined : goal.returns-clause-joined
returns-clause-joined g c = λ wanted only.
    split_joins (g.P.Pattern.rfind_in_gives c.args.separator) c.args.self.now.text c.as_str.result.now c.in_ok-before.before.now c.in_ok-before.after.now
    c.substr_of_prefix.result c.substr_of_suffix.result wanted c.in_ok-before.ensures.cases c.as_str.ensures c.substr_of_prefix.ensures.text
    c.substr_of_suffix.ensures.text only
