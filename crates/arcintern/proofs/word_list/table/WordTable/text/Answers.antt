use Rattle.std.proofs.Common.{rules, ◌≡◌, ◌<◌, ◌≤◌, ◌∷◌, ap, arith, length, refl}
use Rattle.std.proofs.lemmas.List.{get_or_default}
use Rattle.std.specs.String.{string_bytes}
use Rattle.std.specs.Prelude.{slice_index}
use Rattle.arcintern.specs.Words.{WordTableView}
use Rattle.arcintern.proofs.Words.{ends_are_boundaries, pieces_lie_between_ends, sizes_of_texts, starts_are_boundaries}
use Rattle.arcintern.proofs.word_list.table.WordTable.text.Goals as goal

pub range-requires-clause-start_le_end : goal.range-requires-clause-start_le_end
range-requires-clause-start_le_end c =
    let bytes = string_bytes c.self.inside.bytes in
    let ends = c.self.inside.ends.items in
    let within : c.args.number < length ends = search rules in
    let start : c.start_of-start.result ≡ slice_index (0 ∷ ends) c.args.number = search rules in
    let default = get_or_default ends c.args.number 0 c.index.result.now within in
    let end : c.index.result.now ≡ slice_index ends c.args.number = cc (default, c.index.ensures) in
    rw (start, end) (ends_are_boundaries bytes 0 ends c.args.number c.self.invariant.0 within).0

pub range-requires-clause-start_boundary : goal.range-requires-clause-start_boundary
range-requires-clause-start_boundary c =
    let bytes = string_bytes c.self.inside.bytes in
    let ends = c.self.inside.ends.items in
    let within : c.args.number < length ends = search rules in
    let start : c.start_of-start.result ≡ slice_index (0 ∷ ends) c.args.number = search rules in
    let text : c.deref-then-number-len.result.now ≡ bytes = search rules in
    rw (start, text) (starts_are_boundaries bytes ends c.args.number c.self.invariant.0 within)

pub range-requires-clause-end_boundary : goal.range-requires-clause-end_boundary
range-requires-clause-end_boundary c =
    let bytes = string_bytes c.self.inside.bytes in
    let ends = c.self.inside.ends.items in
    let within : c.args.number < length ends = search rules in
    let default = get_or_default ends c.args.number 0 c.index.result.now within in
    let end : c.index.result.now ≡ slice_index ends c.args.number = cc (default, c.index.ensures) in
    let text : c.deref-then-number-len.result.now ≡ bytes = search rules in
    rw (end, text) (ends_are_boundaries bytes 0 ends c.args.number c.self.invariant.0 within).1

pub returns-then-number-len-clause-found : goal.returns-then-number-len-clause-found
returns-then-number-len-clause-found c =
    let texts = ap (λ (table : WordTableView). table.texts) c.self.view_is in
    let sizes = sizes_of_texts (string_bytes c.self.inside.bytes) c.self.inside.ends.items c.args.self.now.texts c.self.invariant.0 texts in
    let within : c.args.number < length c.self.inside.ends.items = search rules in
    (λ _. omega (arith, within, sizes.0), λ _. refl)

pub returns-then-number-len-clause-text : goal.returns-then-number-len-clause-text
returns-then-number-len-clause-text c =
    let bytes = string_bytes c.self.inside.bytes in
    let ends = c.self.inside.ends.items in
    let within : c.args.number < length ends = search rules in
    let start : c.start_of-start.result ≡ slice_index (0 ∷ ends) c.args.number = search rules in
    let default = get_or_default ends c.args.number 0 c.index.result.now within in
    let end : c.index.result.now ≡ slice_index ends c.args.number = cc (default, c.index.ensures) in
    let text : c.deref-then-number-len.result.now ≡ bytes = search rules in
    rw (← c.self.view_is, c.range.ensures.value, start, end, text) (pieces_lie_between_ends bytes 0 ends c.args.number within)

pub returns-else-number-len-clause-found : goal.returns-else-number-len-clause-found
returns-else-number-len-clause-found c =
    let texts = ap (λ (table : WordTableView). table.texts) c.self.view_is in
    let sizes = sizes_of_texts (string_bytes c.self.inside.bytes) c.self.inside.ends.items c.args.self.now.texts c.self.invariant.0 texts in
    let past : length c.self.inside.ends.items ≤ c.args.number = search rules in
    (λ some. cc, λ less. absurd (omega (arith, less, past, sizes.0)))
