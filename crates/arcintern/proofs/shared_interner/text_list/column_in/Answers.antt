use Rattle.std.proofs.Common.{arith, ℕ, ◌≡◌, ◌+◌, ◌*◌, ◌/◌, ◌%◌, ◌^◌, sym, ap, ◌∙◌, subst}
use Rattle.arcintern.specs.TextList.{column_of, top_of}
use Rattle.arcintern.proofs.TextPlaces.{below_rows, top_of_row}
use Rattle.arcintern.proofs.shared_interner.text_list.column_in.Goals as goal

pub power_of_two-requires : goal.power_of_two-requires
power_of_two-requires c = let a = below_rows c.args.number c.requires.number in let is = c.requires.row in omega arith

pub returns : goal.returns
unfolding column_of
returns c = let n = c.args.number in
    let is : c.args.row / 8 + 5 ≡ top_of 32 (n + 32) = ap (λ (row : ℕ). row / 8 + 5) c.requires.row ∙ top_of_row n c.requires.number in
    subst (λ (span : ℕ). (n + 32) * 8 % span / 8 ≡ (n + 32) * 8 % 2 ^ top_of 32 (n + 32) / 8) (sym c.power_of_two.ensures)
    (ap (λ (k : ℕ). (n + 32) * 8 % 2 ^ k / 8) is)
