-- The slices are those of the parts that the iterator gives.
use Rattle.arcstr.specs.Slicing.{LiesBetween}
use Rattle.arcstr.specs.Substr.{slice_within, text_of}
use Rattle.arcstr.proofs.PartLists.{lists_all, lists_at_single, lists_join, lists_within, parts_stand, splits_all}
use Rattle.arcstr.proofs.substr.Substr.substr_split.Goals as goal

pub list_slices-requires-clause-stand : goal.list_slices-requires-clause-stand
list_slices-requires-clause-stand g c =
    parts_stand g.P.Pattern.find_in_gives c.args.separator (text_of c.args.self.now) c.split_by-parts.result
    (splits_all g.P.Pattern.find_in_gives c.args.separator (text_of c.args.self.now) c.split_by-parts.result c.as_str.result.now c.whole.result c.as_str.utf8
    c.as_str.ensures.text c.whole.ensures.value c.split_by-parts.ensures.rest c.split_by-parts.ensures.begun c.split_by-parts.ensures.pattern)

pub returns-clause-parts : goal.returns-clause-parts
returns-clause-parts g c =
    lists_all g.P.Pattern.find_in_gives c.args.separator (text_of c.args.self.now) c.split_by-parts.result
    (splits_all g.P.Pattern.find_in_gives c.args.separator (text_of c.args.self.now) c.split_by-parts.result c.as_str.result.now c.whole.result c.as_str.utf8
    c.as_str.ensures.text c.whole.ensures.value c.split_by-parts.ensures.rest c.split_by-parts.ensures.begun c.split_by-parts.ensures.pattern)
    (slice_within c.args.self.now) (LiesBetween c.args.self.now.start c.args.self.now.end) c.in_ok-slices.slices.items c.in_ok-slices.ensures.listed

pub returns-clause-within : goal.returns-clause-within
returns-clause-within g c =
    lists_within g.P.Pattern.find_in_gives c.args.separator (text_of c.args.self.now) c.split_by-parts.result
    (splits_all g.P.Pattern.find_in_gives c.args.separator (text_of c.args.self.now) c.split_by-parts.result c.as_str.result.now c.whole.result c.as_str.utf8
    c.as_str.ensures.text c.whole.ensures.value c.split_by-parts.ensures.rest c.split_by-parts.ensures.begun c.split_by-parts.ensures.pattern)
    (slice_within c.args.self.now) (LiesBetween c.args.self.now.start c.args.self.now.end) c.in_ok-slices.slices.items c.in_ok-slices.ensures.listed

pub returns-clause-joined : goal.returns-clause-joined
returns-clause-joined g c =
    lists_join g.P.Pattern.find_in_gives c.args.separator (text_of c.args.self.now) c.split_by-parts.result
    (splits_all g.P.Pattern.find_in_gives c.args.separator (text_of c.args.self.now) c.split_by-parts.result c.as_str.result.now c.whole.result c.as_str.utf8
    c.as_str.ensures.text c.whole.ensures.value c.split_by-parts.ensures.rest c.split_by-parts.ensures.begun c.split_by-parts.ensures.pattern)
    (slice_within c.args.self.now) (LiesBetween c.args.self.now.start c.args.self.now.end) c.in_ok-slices.slices.items c.in_ok-slices.ensures.listed

pub returns-clause-at_a_character : goal.returns-clause-at_a_character
returns-clause-at_a_character g c =
    lists_at_single g.P.Pattern.find_in_gives c.args.separator (text_of c.args.self.now) c.split_by-parts.result
    (splits_all g.P.Pattern.find_in_gives c.args.separator (text_of c.args.self.now) c.split_by-parts.result c.as_str.result.now c.whole.result c.as_str.utf8
    c.as_str.ensures.text c.whole.ensures.value c.split_by-parts.ensures.rest c.split_by-parts.ensures.begun c.split_by-parts.ensures.pattern)
    (slice_within c.args.self.now) (LiesBetween c.args.self.now.start c.args.self.now.end) c.in_ok-slices.slices.items c.in_ok-slices.ensures.listed
    (g.P.Pattern.single_char c.args.separator)
