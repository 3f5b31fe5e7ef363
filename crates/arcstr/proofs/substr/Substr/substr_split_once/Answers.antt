use Rattle.arcstr.proofs.FirstMatches.{split_around_single, split_joins}
use Rattle.arcstr.specs.Substr.{slice_within, text_of}
use Rattle.arcstr.proofs.substr.Substr.substr_split_once.Goals as goal

-- there is a match
pub returns-clause-at_a_character : goal.returns-clause-at_a_character
returns-clause-at_a_character g c =
    split_around_single (g.P.Pattern.find_in_gives c.args.separator)
    (text_of c.args.self.now) c.as_str.result.now c.in_ok-before.before.now c.in_ok-before.after.now
    (slice_within c.args.self.now) c.substr_of_prefix.result c.substr_of_suffix.result
    (g.P.Pattern.single_char c.args.separator) c.in_ok-before.ensures.cases c.as_str.ensures.text c.as_str.utf8 c.substr_of_prefix.ensures.boundary
    c.substr_of_suffix.ensures.boundary
    c.substr_of_prefix.ensures.text c.substr_of_suffix.ensures.text c.substr_of_prefix.ensures.slice c.substr_of_suffix.ensures.slice

-- the slices join around a text
pub returns-clause-joined : goal.returns-clause-joined
returns-clause-joined g c = λ wanted only.
    split_joins (g.P.Pattern.find_in_gives c.args.separator) (text_of c.args.self.now) c.as_str.result.now c.in_ok-before.before.now c.in_ok-before.after.now
    c.substr_of_prefix.result c.substr_of_suffix.result wanted c.in_ok-before.ensures.cases c.as_str.ensures.text c.substr_of_prefix.ensures.text
    c.substr_of_suffix.ensures.text only
