use Rattle.std.proofs.Common.{ap, arith}
use Rattle.std.proofs.lemmas.Grind.{common_steps}
use Rattle.std.specs.String.{string_bytes}
use Rattle.arcintern.specs.Words.{WordTableView}
use Rattle.arcintern.proofs.Words.{sizes_of_texts}
use Rattle.arcintern.proofs.word_list.table.WordTable.is_full_for.Goals as goal

pub returns-then-len-ge-MOST_TEXTS : goal.returns-then-len-ge-MOST_TEXTS
returns-then-len-ge-MOST_TEXTS c =
    let texts = ap (λ (table : WordTableView). table.texts) c.self.view_is in
    let sizes = sizes_of_texts (string_bytes c.self.inside.bytes) c.self.inside.ends.items c.args.self.now.texts c.self.invariant.0 texts in
    grind (arith, common_steps, sizes.0)

pub returns-else-len-ge-MOST_TEXTS : goal.returns-else-len-ge-MOST_TEXTS
returns-else-len-ge-MOST_TEXTS c =
    let texts = ap (λ (table : WordTableView). table.texts) c.self.view_is in
    let sizes = sizes_of_texts (string_bytes c.self.inside.bytes) c.self.inside.ends.items c.args.self.now.texts c.self.invariant.0 texts in
    grind (arith, common_steps, sizes.0, sizes.1)
