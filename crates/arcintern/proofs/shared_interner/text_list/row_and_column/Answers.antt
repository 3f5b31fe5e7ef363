use Rattle.std.proofs.Common.{arith, rules, ℕ, ◌≡◌, ◌+◌, ◌-◌, ◌*◌, ◌/◌, ◌%◌, ◌^◌, ◌<◌, ◌≤◌, sym, subst}
use Rattle.arcintern.specs.TextList.{IsAt, column_of, row_of}
use Rattle.arcintern.proofs.TextPlaces.{eighth_above, eighth_below, found, lies, top_above, top_below}
use Rattle.arcintern.proofs.shared_interner.text_list.row_and_column.Goals as goal

pub overflow_sub-row : goal.overflow_sub-row
overflow_sub-row c = top_above c.args.number c.ilog2-top.result (c.ilog2-top.ensures.power_le, c.ilog2-top.ensures.next_power_gt)

pub overflow_sub-row-2 : goal.overflow_sub-row-2
overflow_sub-row-2 c = let n = c.args.number in let t = c.ilog2-top.result in
    subst (λ (span : ℕ). 8 ≤ (n + 32) * 8 / span) (sym c.power_of_two-span.ensures)
    (eighth_above n t (c.ilog2-top.ensures.power_le, c.ilog2-top.ensures.next_power_gt))

pub returns-clause-at : goal.returns-clause-at
returns-clause-at c = let n = c.args.number in let t = c.ilog2-top.result in
    subst (λ (span : ℕ). IsAt n ((t - 5) * 8 + ((n + 32) * 8 / span - 8)) ((n + 32) * 8 % span / 8)) (sym c.power_of_two-span.ensures)
    (lies n t (c.ilog2-top.ensures.power_le, c.ilog2-top.ensures.next_power_gt))

pub returns-clause-row : goal.returns-clause-row
unfolding row_of
returns-clause-row c = let n = c.args.number in let t = c.ilog2-top.result in
    let is = found n c.requires t (c.ilog2-top.ensures.power_le, c.ilog2-top.ensures.next_power_gt) in
    subst (λ (span : ℕ). (t - 5) * 8 + ((n + 32) * 8 / span - 8) ≡ row_of n) (sym c.power_of_two-span.ensures)
    (subst (λ (k : ℕ). (t - 5) * 8 + ((n + 32) * 8 / 2 ^ t - 8) ≡ (k - 5) * 8 + ((n + 32) * 8 / 2 ^ k - 8)) is (search rules))

pub returns-clause-column : goal.returns-clause-column
unfolding column_of
returns-clause-column c = let n = c.args.number in let t = c.ilog2-top.result in
    let is = found n c.requires t (c.ilog2-top.ensures.power_le, c.ilog2-top.ensures.next_power_gt) in
    subst (λ (span : ℕ). (n + 32) * 8 % span / 8 ≡ column_of n) (sym c.power_of_two-span.ensures)
    (subst (λ (k : ℕ). (n + 32) * 8 % 2 ^ t / 8 ≡ (n + 32) * 8 % 2 ^ k / 8) is (search rules))

pub returns-clause-small : goal.returns-clause-small
returns-clause-small c = let n = c.args.number in let t = c.ilog2-top.result in let low = c.ilog2-top.ensures.power_le in
    let high = c.ilog2-top.ensures.next_power_gt in let a = top_above n t (low, high) in let b = top_below n t (low, high) c.requires in
    subst (λ (span : ℕ). (t - 5) * 8 + ((n + 32) * 8 / span - 8) < 224) (sym c.power_of_two-span.ensures)
    (let d = eighth_above n t (low, high) in let e = eighth_below n t (low, high) in omega arith)
