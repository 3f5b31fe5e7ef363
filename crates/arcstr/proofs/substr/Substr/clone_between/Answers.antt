-- The slice of a slice is one slice of the parent, at the sums of the offsets.
use Rattle.std.proofs.Common.{ap, ◌∙◌, arith}
use Rattle.arcstr_range.proofs.Boundaries.{cut-cut}
use Rattle.arcstr_range.proofs.FoundParts.{length-cut}
use Rattle.arcstr.specs.Substr.{text_of}
use Rattle.arcstr.proofs.substr.Substr.clone_between.Goals as goal

pub returns-clause-slice : goal.returns-clause-slice
returns-clause-slice g c = c.from_parts_unchecked.ensures ∙ cc

pub returns-clause-text : goal.returns-clause-text
returns-clause-text g c =
    let self = c.args.self.now in let own = c.range-start.ensures.lawful in
    ap text_of (returns-clause-slice g c) ∙ cut-cut self.parent.text self.start self.end c.args.range.start c.args.range.end own.in_order c.requires.within

pub returns-clause-within : goal.returns-clause-within
returns-clause-within g c =
    let self = c.args.self.now in let own = c.range-start.ensures.lawful in
    let long = length-cut self.parent.text self.start self.end own.in_order own.within in
    rw (returns-clause-slice g c)
    (record { from = omega arith; ordered = omega (arith, c.requires.in_order); to = omega (arith, c.requires.within, long, own.in_order) })

pub returns-clause-own_length : goal.returns-clause-own_length
returns-clause-own_length g c =
    let self = c.args.self.now in let own = c.range-start.ensures.lawful in
    omega (arith, length-cut self.parent.text self.start self.end own.in_order own.within, own.in_order)
