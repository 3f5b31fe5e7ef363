use Rattle.std.proofs.Common.{rules, ◌+◌, ◌<◌, ap, arith, subst, sym}
use Rattle.std.specs.String.{string_bytes}
use Rattle.arcintern.specs.declared.slots.TheConstants.{NUMBERS}
use Rattle.arcintern.specs.Slots.{IsPlaced, slot_of}
use Rattle.arcintern.specs.Words.{WordTableView}
use Rattle.arcintern.proofs.Words.{sizes_of_texts, word_is_absent}
use Rattle.arcintern.proofs.word_list.table.WordTable.find.Goals as goal

pub returns-in-Err-clause-absent : goal.returns-in-Err-clause-absent
returns-in-Err-clause-absent c = λ half_of is_half all.
    let texts = ap (λ (table : WordTableView). table.texts) c.self.view_is in
    let sizes = sizes_of_texts (string_bytes c.self.inside.bytes) c.self.inside.ends.items c.args.self.now.texts c.self.invariant.0 texts in
    word_is_absent c.args.self.now.slots c.args.self.now.mask c.args.half half_of c.args.self.now.texts c.args.word.now is_half all
    (λ number less placed.
    let small : number + 1 < NUMBERS = omega (arith, less, sizes.0, c.self.invariant.1) in
    let here : IsPlaced c.self.inside.numbers.slots.items c.self.inside.numbers.mask (slot_of c.args.half number) =
    subst (λ (table : WordTableView). IsPlaced table.slots table.mask (slot_of c.args.half number)) (sym c.self.view_is) placed in
    search (rules, c.in-Err.ensures.absent number small here))
